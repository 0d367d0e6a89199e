-- What each call of a database wants, and leaves.
use Rattle.gd_vault.specs.Views.{View, HasFile}
use Rattle.gd_store.specs.Opened.{Opened, Fits}

-- the database is open in the vault: its file is there, and what the database keeps is that of the file
pub record IsOpen (v : View) (s : Opened) : Type 0 where
  pub file : HasFile v s.file
  pub fits : Fits v s
