-- What is told of a file over calls that ask.
use Rattle.std.proofs.Common.{◌≡◌, ℕ, Some, refl, sym, ap, ◌∙◌}
use Rattle.gd_base.specs.declared.errors.DbError.TheVariants.{BadHashEntry}
use Rattle.gd_vault.specs.Content.{Content}
use Rattle.gd_vault.specs.Views.{View, content_of, HasFile, OnlyAsks}
use Rattle.gd_open.specs.Files.{AtFile}
use Rattle.gd_open.specs.Reading.{RefusesRead}
use Rattle.gd_open.proofs.Opens.{untold}

-- what was told before is told, and the other way round
pub is_told : {u v : View} → OnlyAsks u v → (d : Content) → content_of u.told ≡ Some d → content_of v.told ≡ Some d
is_told a d told = ap content_of a.told ∙ told

pub was_told : {u v : View} → OnlyAsks u v → (d : Content) → content_of v.told ≡ Some d → content_of u.told ≡ Some d
was_told a d told = ap content_of (sym a.told) ∙ told

-- a refusal that no told file has
pub bad_slot : (at s : ℕ) (u v : View) (f : ℕ) → HasFile u f → AtFile u f (λ file. ⊥) → RefusesRead (BadHashEntry at s) u v
bad_slot at s u v f there h = record { kind = refl; cause = untold u f there h }
