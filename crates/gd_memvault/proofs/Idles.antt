-- What is recorded as a failure that touched nothing.
use Rattle.std.proofs.Common.{◌≡◌, ◌≢◌, ◌∙◌, ap, refl, ◌+◌, ◌^◌, ◌<◌, Bool, List, [], ◌∷◌, ◌++◌, length, arith}
use Rattle.gd_vault.specs.Content.{Content}
use Rattle.gd_vault.specs.Events.{Event, content_after}
use Rattle.gd_vault.specs.Events.Call.{Idle}
use Rattle.gd_vault.specs.Effects.{DoesOrMayDo}
use Rattle.gd_vault.specs.Views.{Told}
use Rattle.gd_vault.specs.Views.Told.{Records, Tells}
use Rattle.gd_vault.specs.Changes.{AddsCall, event}
use Rattle.gd_memvault.specs.declared.steps.Step.{Step}
use Rattle.gd_memvault.specs.declared.steps.Step.TheVariants.{Create as create, Write as write, Truncate as truncate, CloneInto as clone_into, SetMode as set_mode, Sync as sync, SyncNames as sync_names, Replace as replace, Remove as remove}
use Rattle.gd_memvault.specs.DiskData.{DiskData}
use Rattle.gd_memvault.specs.LogData.{LogData}
use Rattle.gd_memvault.specs.Disk.{call_of, disk_content}
use Rattle.gd_memvault.specs.Log.{events_of, moment_of}
use Rattle.gd_memvault.specs.Idle.{IdleOnlyWhere}
use Rattle.gd_memvault.proofs.Logs.{push_told}

-- a step is a call that may touch something
step_touches : (step : Step) → call_of step ≢ Idle
step_touches (create name mode) = λ e. cc
step_touches (write f at bytes) = λ e. cc
step_touches (truncate f) = λ e. cc
step_touches (clone_into dst src stamp) = λ e. cc
step_touches (set_mode f mode) = λ e. cc
step_touches (sync f) = λ e. cc
step_touches sync_names = λ e. cc
step_touches (replace from to) = λ e. cc
step_touches (remove name) = λ e. cc

newest : (a b : Content) (e f : Event) (es fs : List Event) (t : Told) → t ≡ Records a (e ∷ es) → t ≡ Records b (f ∷ fs) → e ≡ f
newest a b e f es fs t one two = cc

pub call_not_idle : {P : Type 0} (step : Step) (ok : Bool) (first : Content) (es : List Event) (new : Told) → AddsCall (call_of step) ok first es new → IdleOnlyWhere P (Records first es) new
call_not_idle step ok first es new a = record {
  cause = λ b fs e old now idle.
      let same : event (call_of step) ok a.0 ≡ e = newest first b (event (call_of step) ok a.0) e es fs new a.1 now in
      absurd (step_touches step (ap (λ (k : Event). k.call) same ∙ idle));
}

no_longer : (a b : Content) (e : Event) (es fs : List Event) (t : Told) → t ≡ Records a fs → t ≡ Records b (e ∷ es) → es ≡ fs → {P : Type 0} → P
no_longer a b e es fs t one two same =
    let whole : fs ≡ e ∷ es = cc in
    absurd (omega (arith, ap (λ (l : List Event). length l) whole, ap (λ (l : List Event). length l) same))

-- nothing was recorded
pub none_not_idle : {P : Type 0} (old new : Told) → new ≡ old → IdleOnlyWhere P old new
none_not_idle old new same = record { cause = λ first es e before now idle. no_longer first first e es es new (same ∙ before) now refl }

pub plain_not_idle : {P : Type 0} (c : Content) (new : Told) → IdleOnlyWhere P (Tells c) new
plain_not_idle c new = record { cause = λ first es e before now idle. absurd (let wrong : Tells c ≡ Records first es = before in cc) }

pub idle_because : {P : Type 0} (old new : Told) → P → IdleOnlyWhere P old new
idle_because old new p = record { cause = λ first es e before now idle. p }

-- one call more
pub push_not_idle : {P : Type 0} (first : Content) (l m : LogData) (step : Step) (ok : Bool) (after : DiskData) → moment_of l + 2 < 2 ^ 64 → m ≡ record { entries = l.entries ++ (record { step = step; ok = ok; after = after; idle_before = l.idle }) ∷ []; idle = 0 } → DoesOrMayDo ok (call_of step) (content_after first (events_of first l)) (disk_content after)
    → IdleOnlyWhere P (Records first (events_of first l)) (Records first (events_of first m))
push_not_idle first l m step ok after room is effect = call_not_idle step ok first (events_of first l) (Records first (events_of first m)) (push_told first l m (record { step = step; ok = ok; after = after; idle_before = l.idle }) room refl is effect)
