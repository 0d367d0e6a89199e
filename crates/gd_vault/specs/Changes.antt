-- What a changing call does to what contracts see of a vault.
use Rattle.std.specs.Prelude.{◌≡◌, ◌≢◌, ◌⊎◌, ◌↔◌, ℕ, ◌+◌, ◌-◌, ◌^◌, ◌<◌, ◌≤◌, max, min, Bool, true, false, List, ◌∷◌, Some, None, Result, Ok, Err, is_ok, IsErr, IsErrOf}
use Rattle.gd_base.specs.Causes.{HasCause}
use Rattle.gd_vault.specs.declared.vaults.Mode.{Mode}
use Rattle.gd_vault.specs.declared.vaults.FileId.{FileId}
use Rattle.gd_vault.specs.declared.vaults.CreateError.{CreateError}
use Rattle.gd_vault.specs.declared.vaults.CreateError.TheVariants.{Exists, Failed}
use Rattle.gd_vault.specs.Content.{Content}
use Rattle.gd_vault.specs.Events.{Call, Event, content_after, moment_after}
use Rattle.gd_vault.specs.Events.Call.{Create, Idle}
use Rattle.gd_vault.specs.Effects.{Same, DoesOrMayDo}
use Rattle.gd_vault.specs.Views.{Told, View, content_of}
use Rattle.gd_vault.specs.Views.Told.{Nothing, Tells, Records}

abbrev pub event : Call → Bool → Content → Event
event call ok after = record { call = call; ok = ok; after = after }

-- the moment at which a call ends that starts now is a u64
abbrev pub HasRoom : List Event → Type 0
HasRoom es = moment_after es + 2 < 2 ^ 64

-- the call is the newest event
abbrev pub AddsCall : Call → Bool → Content → List Event → Told → Type 0
AddsCall call ok first es t = (after : Content) × (t ≡ Records first (event call ok after ∷ es)) × DoesOrMayDo ok call (content_after first es) after × HasRoom es

-- the newest event is a failure that did nothing
abbrev pub AddsIdle : Content → List Event → Told → Type 0
AddsIdle first es t = (t ≡ Records first (event Idle false (content_after first es) ∷ es)) × HasRoom es

-- without room for its moments a call fails, and is no event
abbrev pub AddsNone : Content → List Event → Told → Type 0
AddsNone first es t = (t ≡ Records first es) × (2 ^ 64 ≤ moment_after es + 2)

abbrev pub Adds : Call → Bool → Content → List Event → Told → Type 0
Adds call ok first es t = AddsCall call ok first es t ⊎ ((ok ≡ false) × (AddsIdle first es t ⊎ AddsNone first es t))

-- what is told after the call, by what was told before it
abbrev pub TellsAfter : Call → Bool → Told → Told → Type 0
TellsAfter call ok Nothing t = t ≡ Nothing
TellsAfter call ok (Tells c) t = (d : Content) × (t ≡ Tells d) × DoesOrMayDo ok call c d
TellsAfter call ok (Records first es) t = Adds call ok first es t

-- a changing call that writes no bytes and clones nothing
pub record Changed {T E : Type 0} (call : Call) (result : Result T E) (old new : View) : Type 0 where
  pub told : TellsAfter call (is_ok result) old.told new.told
  pub cause : HasCause old.faults new.faults result
  pub bytes_written : new.bytes_written ≡ old.bytes_written
  pub clones : new.clones ≡ old.clones
  pub reads : new.reads ≡ old.reads

-- a count that a success raises by n, and a failure by at most n; it stays at the last value of a u64
abbrev pub Raised : Bool → ℕ → ℕ → ℕ → Type 0
Raised true n old new = new ≡ min (old + n) (2 ^ 64 - 1)
Raised false n old new = (old ≤ new) × (new ≤ max old (min (old + n) (2 ^ 64 - 1)))

-- a write of so many bytes
pub record Wrote {T E : Type 0} (call : Call) (size : ℕ) (result : Result T E) (old new : View) : Type 0 where
  pub told : TellsAfter call (is_ok result) old.told new.told
  pub cause : HasCause old.faults new.faults result
  pub bytes_written : Raised (is_ok result) size old.bytes_written new.bytes_written
  pub clones : new.clones ≡ old.clones
  pub reads : new.reads ≡ old.reads

pub record Cloned {T E : Type 0} (call : Call) (result : Result T E) (old new : View) : Type 0 where
  pub told : TellsAfter call (is_ok result) old.told new.told
  pub cause : HasCause old.faults new.faults result
  pub bytes_written : new.bytes_written ≡ old.bytes_written
  pub clones : Raised (is_ok result) 1 old.clones new.clones
  pub reads : new.reads ≡ old.reads

-- where the content is told, the name stands for this id
abbrev pub StandsFor : List ℕ → ℕ → View → Type 0
StandsFor n f v = (c : Content) → content_of v.told ≡ Some c → c.names n ≡ Some f

-- how a create ended: where the name stands for a file nothing changes
abbrev pub Creates : List ℕ → Mode → Result FileId CreateError → View → View → Type 0
Creates name mode (Ok f) old new = Changed {T = FileId} {E = CreateError} (Create name mode) (Ok f) old new × StandsFor name f.0 new
Creates name mode (Err Exists) old new = new ≡ old
Creates name mode (Err Failed) old new = Changed {T = FileId} {E = CreateError} (Create name mode) (Err Failed) old new

-- where the content is told, the name stands for a file
abbrev pub HasName : View → List ℕ → Type 0
HasName v n = (c : Content) → content_of v.told ≡ Some c → c.names n ≢ None

-- Exists comes exactly where the name stands for a file
abbrev pub ExistsWhere : List ℕ → Result FileId CreateError → View → Type 0
ExistsWhere name result v = (c : Content) → content_of v.told ≡ Some c → IsErrOf result Exists ↔ (c.names name ≢ None)

-- the content reads as before
abbrev pub KeepsContent : View → View → Type 0
KeepsContent old new = (c : Content) → content_of old.told ≡ Some c → (d : Content) × (content_of new.told ≡ Some d) × Same c d

-- a write that would end past the longest length is refused, and changes nothing
pub record Refused {T E : Type 0} (result : Result T E) (old new : View) : Type 0 where
  pub failed : IsErr result
  pub content : KeepsContent old new
  pub bytes_written : new.bytes_written ≡ old.bytes_written
