-- What a disk in memory is seen as.
use Rattle.std.specs.Prelude.{List}
use Rattle.gd_vault.specs.Content.{File}
use Rattle.gd_memvault.specs.declared.disk.NameEntry.{NameEntry}

pub record DiskData : Type 0 where
  pub names : List NameEntry
  pub files : List File
