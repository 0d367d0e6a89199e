-- What a vault holds.
use Rattle.std.specs.Prelude.{ℕ, List, Option}
use Rattle.std.specs.Option.{option_and_then}
use Rattle.gd_vault.specs.declared.vaults.Mode.{Mode}

pub record File : Type 0 where
  pub bytes : List ℕ
  pub mode : Mode
  pub stamp : ℕ

-- names stand for ids, ids for files
pub record Content : Type 0 where
  pub names : List ℕ → Option ℕ
  pub files : ℕ → Option File

-- the file for which a name stands
abbrev pub named_in : Content → List ℕ → Option File
named_in c name = option_and_then c.files (c.names name)
