-- What a read answers, by what a vault tells.
use Rattle.std.proofs.Common.{◌≡◌, ◌+◌, ◌-◌, ◌^◌, ◌≤◌, ℕ, List, min, Option, Some, None, refl, ap, ◌∙◌, sym, arith}
use Rattle.std.specs.Prelude.{Result, Ok, Err, IfErr, IsErrAnd}
use Rattle.gd_base.specs.Causes.{Rose}
use Rattle.gd_base.specs.declared.errors.DbError.{DbError}
use Rattle.gd_base.specs.declared.errors.DbError.TheVariants.{BadDirEntry, BadBucket, OutOfMemory, VaultFault}
use Rattle.gd_format.specs.declared.Header.{Header}
use Rattle.gd_vault.specs.Content.{File, Content}
use Rattle.gd_vault.specs.Views.{View, content_of, HasFile, OnlyAsks}
use Rattle.gd_readable.proofs.Refusals.{refuses_map}
use Rattle.gd_open.specs.Files.{AtFile, IsOpen, OfFile}
use Rattle.gd_open.specs.Reading.{RefusesRead}

untold_of : (o : Option Content) → ((c : Content) → o ≡ Some c → ⊥) → o ≡ None
untold_of None h = refl
untold_of (Some c) h = absurd (h c refl)

-- a vault that could tell no file with these bytes tells nothing
pub untold : (v : View) (f : ℕ) → HasFile v f → AtFile v f (λ file. ⊥) → content_of v.told ≡ None
untold v f there h = untold_of (content_of v.told) (λ c told. let x = there c told in h c x.0 told x.1)

-- refusals that no told file has
pub bad_entry : (i : ℕ) (u v : View) (f : ℕ) → HasFile u f → AtFile u f (λ file. ⊥) → RefusesRead (BadDirEntry i) u v
bad_entry i u v f there h = record { kind = refl; cause = untold u f there h }

pub bad_bucket : (at : ℕ) (u v : View) (f : ℕ) → HasFile u f → AtFile u f (λ file. ⊥) → RefusesRead (BadBucket at) u v
bad_bucket at u v f there h = record { kind = refl; cause = untold u f there h }

pub no_memory : (u v : View) → RefusesRead OutOfMemory u v
no_memory u v = record { kind = refl; cause = tt }

pub faulted : (u v : View) → Rose u.faults v.faults → RefusesRead VaultFault u v
faulted u v rose = record { kind = refl; cause = rose }

-- what holds of the error that a `?` hands on
pub err_is : {T E : Type 0} (r : Result T E) (P Q : E → Type 0) → IsErrAnd r P → ((e : E) → P e → Q e) → IfErr r Q
err_is (Ok t) P Q h m = tt
err_is (Err e) P Q h m = m e h

-- ---- over calls that ask, for callers

pub at_file_stays : (u v : View) (f : ℕ) (P : List ℕ → Type 0) → OnlyAsks u v → AtFile u f P → AtFile v f P
at_file_stays u v f P a h c x told is = h c x (ap content_of (sym a.told) ∙ told) is

pub at_file_was : (u v : View) (f : ℕ) (P : List ℕ → Type 0) → OnlyAsks u v → AtFile v f P → AtFile u f P
at_file_was u v f P a h c x told is = h c x (ap content_of a.told ∙ told) is

pub of_file_stays : (u v : View) (f : ℕ) (h : Header) → OnlyAsks u v → OfFile u f h → OfFile v f h
of_file_stays u v f h a o = record { is_open = at_file_stays u v f (λ file. IsOpen file h) a o.is_open }

pub has_file_stays : (u v : View) (f : ℕ) → OnlyAsks u v → HasFile u f → HasFile v f
has_file_stays u v f a h c told = h c (ap content_of (sym a.told) ∙ told)

pub refused_after : (e : DbError) (u v w : View) → OnlyAsks u v → RefusesRead e v w → RefusesRead e u w
refused_after e u v w a r =
    record {
      kind = r.kind;
      cause = refuses_map e _ _ _ _ (λ (h : min (v.faults + 1) (2 ^ 64 - 1) ≤ w.faults). let le = a.later in let goal : min (u.faults + 1) (2 ^ 64 - 1) ≤ w.faults = omega (arith, le, h) in goal) (λ h. ap content_of (sym a.told) ∙ h) r.cause;
    }
