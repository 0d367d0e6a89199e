-- What contracts see of a vault, and what its calls do to that.
use Rattle.std.specs.Prelude.{◌≡◌, ℕ, ◌-◌, ◌≤◌, List, [], ◌∷◌, ◌++◌, length, Option, Some, None, Result, Ok, Err, min, take, drop}
use Rattle.gd_base.specs.declared.errors.Failed.{Failed}
use Rattle.gd_base.specs.Causes.{HasCause}
use Rattle.gd_vault.specs.Content.{File, Content}
use Rattle.gd_vault.specs.Events.{Event, content_after, moment_after}

-- nothing, the content as it reads, or all that it has been
pub data Told : Type 0 where
  Nothing : Told
  Tells : (content : Content) → Told
  Records : (first : Content) (events : List Event) → Told

-- a read that was answered: of which file, from which place on, and how many bytes it gave
pub record Read : Type 0 where
  pub f : ℕ
  pub at : ℕ
  pub size : ℕ

pub record View : Type 0 where
  pub told : Told
  pub faults : ℕ
  pub bytes_written : ℕ
  pub clones : ℕ
  pub reads : List Read

-- the content, where it is told
abbrev pub content_of : Told → Option Content
content_of Nothing = None
content_of (Tells c) = Some c
content_of (Records first es) = Some (content_after first es)

-- where the content is told, it has P
abbrev pub IsAt : View → (Content → Type 0) → Type 0
IsAt v P = (c : Content) → content_of v.told ≡ Some c → P c

-- where the content is told, the id has a file
abbrev pub HasFile : View → ℕ → Type 0
HasFile v f = (c : Content) → content_of v.told ≡ Some c → (x : File) × (c.files f ≡ Some x)

-- where the history is told, the moment is that of its end
abbrev pub IsMoment : View → ℕ → Type 0
IsMoment v m = (first : Content) (es : List Event) → v.told ≡ Records first es → m ≡ moment_after es

-- a call that asks, and what it answered
pub record Asked {T E : Type 0} (result : Result T E) (old new : View) : Type 0 where
  pub told : new.told ≡ old.told
  pub cause : HasCause old.faults new.faults result
  pub bytes_written : new.bytes_written ≡ old.bytes_written
  pub clones : new.clones ≡ old.clones
  pub reads : new.reads ≡ old.reads

-- a read that was answered by n bytes
pub record Answered (f at : ℕ) (buf filled : List ℕ) (n : ℕ) (old new : View) : Type 0 where
  pub told : new.told ≡ old.told
  pub later : old.faults ≤ new.faults
  pub answered : new.faults ≡ old.faults
  pub bytes_written : new.bytes_written ≡ old.bytes_written
  pub clones : new.clones ≡ old.clones
  pub small : n ≤ length buf
  pub reads : (c : Content) → content_of old.told ≡ Some c → new.reads ≡ old.reads ++ (record { f = f; at = at; size = n }) ∷ []
  pub bytes : (c : Content) (x : File) → content_of old.told ≡ Some c → c.files f ≡ Some x → (n ≡ min (length buf) (length x.bytes - at)) × (take n filled ≡ take n (drop at x.bytes))

abbrev pub ReadAt : ℕ → ℕ → List ℕ → List ℕ → Result ℕ Failed → View → View → Type 0
ReadAt f at buf filled (Ok n) old new = Answered f at buf filled n old new
ReadAt f at buf filled (Err e) old new = Asked {T = ℕ} (Err e) old new

-- calls that ask, one after another: what is told stays, and nothing is written
pub record OnlyAsks (old new : View) : Type 0 where
  pub told : new.told ≡ old.told
  pub later : old.faults ≤ new.faults
  pub bytes_written : new.bytes_written ≡ old.bytes_written
  pub clones : new.clones ≡ old.clones
