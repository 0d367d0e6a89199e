-- A file of the vault, held in memory.
use Rattle.std.specs.Prelude.{◌≡◌, ℕ, ◌^◌, Bool, true, false, List, length, take, Some, Result, Ok, Err}
use Rattle.gd_base.specs.declared.errors.DbError.{DbError}
use Rattle.gd_base.specs.declared.errors.DbError.TheVariants.{VaultFault, OutOfMemory}
use Rattle.gd_base.specs.Causes.{Rose}
use Rattle.gd_vault.specs.Content.{File}
use Rattle.gd_vault.specs.Views.{View, IsAt}

-- where the content is told, P holds of the bytes of a file
abbrev pub AtFile : View → ℕ → (List ℕ → Type 0) → Type 0
AtFile v f P = IsAt v (λ c. (x : File) → c.files f ≡ Some x → P x.bytes)

-- what is read of a file at most
abbrev pub readable_front : List ℕ → List ℕ
readable_front file = take (2 ^ 32) file

-- a front of a file
abbrev pub IsFront : List ℕ → List ℕ → Type 0
IsFront bytes file = bytes ≡ take (length bytes) file

-- more of the file was put behind a front of it, or all that is read of it was there
abbrev pub ReadsOn : Result Bool DbError → (new file : List ℕ) → Type 0
ReadsOn (Ok true) new file = IsFront new file
ReadsOn (Ok false) new file = new ≡ readable_front file
ReadsOn (Err e) new file = Unit {0}

-- why a file was not read: a fault of the vault, or want of memory
abbrev pub NotRead : DbError → (before now : ℕ) → Type 0
NotRead VaultFault before now = Rose before now
NotRead OutOfMemory before now = now ≡ before
NotRead e before now = ⊥
