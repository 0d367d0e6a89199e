-- What a choice reads, and which faults it counts.
use Rattle.std.specs.Prelude.{◌≡◌, ◌⊎◌, ℕ, ◌≤◌, List, ◌++◌, Some, Result, Err}
use Rattle.std.specs.List.{All}
use Rattle.gd_base.specs.Causes.{Rose}
use Rattle.gd_vault.specs.Content.{Content}
use Rattle.gd_vault.specs.Views.{View, Read, IsAt, content_of}
use Rattle.gd_snap.specs.declared.choices.Choice.{Choice}
use Rattle.gd_snap.specs.declared.choices.LatestError.{LatestError}
use Rattle.gd_snap.specs.declared.choices.LatestError.TheVariants.{VaultFault}

-- a fault is a call that failed; every other answer leaves the count
abbrev pub Counts : Result Choice LatestError → ℕ → ℕ → Type 0
Counts (Err VaultFault) before now = Rose before now
Counts result before now = now ≡ before

-- a read of the magic or of the numsync of one of these files
pub record IsOfNumber (mine : ℕ → Type 0) (r : Read) : Type 0 where
  pub file : mine r.f
  pub place : (r.at ≡ 0) ⊎ (r.at ≡ 44)
  pub size : r.size ≤ 4

-- reads were added, of magics and numsyncs alone
pub record AddsNumbers (mine : ℕ → Type 0) (old new : List Read) : Type 0 where
  pub more : List Read
  pub added : new ≡ old ++ more
  pub each : All (IsOfNumber mine) more

-- where the content is told, nothing was read but magics and numsyncs of these files
pub record ReadsNumbers (mine : ℕ → Type 0) (old new : View) : Type 0 where
  pub told : new.told ≡ old.told
  pub reads : (c : Content) → content_of old.told ≡ Some c → AddsNumbers mine old.reads new.reads

abbrev pub IsEither : ℕ → ℕ → ℕ → Type 0
IsEither a b f = (f ≡ a) ⊎ (f ≡ b)

-- one of two names stands for the file
abbrev pub StandsFor : Content → List ℕ → List ℕ → ℕ → Type 0
StandsFor c even odd f = (c.names even ≡ Some f) ⊎ (c.names odd ≡ Some f)

-- where the content is told, nothing was read but magics and numsyncs of the files of two names
abbrev pub ReadsOfNames : List ℕ → List ℕ → View → View → Type 0
ReadsOfNames even odd old new = IsAt old (λ c. ReadsNumbers (StandsFor c even odd) old new)
