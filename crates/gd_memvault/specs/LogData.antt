-- What a log in memory is seen as.
use Rattle.std.specs.Prelude.{ℕ, List}
use Rattle.gd_memvault.specs.declared.log.Entry.{Entry}

pub record LogData : Type 0 where
  pub entries : List Entry
  pub idle : ℕ
