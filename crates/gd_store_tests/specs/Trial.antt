-- What a trial of an open database keeps, so that each call may follow each.
use Rattle.std.specs.Prelude.{}
use Rattle.gd_vault.specs.Views.{View, HasFile}
use Rattle.gd_store.specs.Opened.{Opened, Fits}

-- the database is open in the vault
pub record IsTried (v : View) (s : Opened) : Type 0 where
  pub file : HasFile v s.file
  pub fits : Fits v s
