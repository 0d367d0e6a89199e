-- How far the loops over a directory have come.
use Rattle.std.specs.Prelude.{◌≡◌, ℕ, ◌*◌, ◌≤◌, List}
use Rattle.gd_space.specs.Effect.{WritesAtMost}
use Rattle.gd_open.specs.Files.{FileBecomes}
use Rattle.gd_vault.specs.Views.{View, HasFile}
use Rattle.gd_vault.specs.Streams.{OnlyWrites}

-- so many entries are done, with so many bytes each, and the file has turned so
pub record IsAlong (old now : View) (f count done size : ℕ) (R : List ℕ → List ℕ → Type 0) : Type 0 where
  pub low : done ≤ count
  pub turned : FileBecomes old now f R
  pub there : HasFile now f
  pub frame : OnlyWrites f old now
  pub amount : WritesAtMost (size * done) old now
  pub faults : now.faults ≡ old.faults
