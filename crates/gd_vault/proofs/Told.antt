-- What is told after a call.
use Rattle.std.proofs.Common.{◌≡◌, ◌⊎◌, ⊎_elim, Bool, false, List, [], ◌∷◌, ◌++◌, subst}
use Rattle.gd_vault.specs.Content.{Content}
use Rattle.gd_vault.specs.Events.{Call, Event, content_after}
use Rattle.gd_vault.specs.Events.Call.{Idle}
use Rattle.gd_vault.specs.Views.{Told}
use Rattle.gd_vault.specs.Changes.{TellsAfter, Adds, AddsCall, AddsIdle, AddsNone, event}
use Rattle.gd_vault.specs.Views.Told.{Records}

pub adds : (call : Call) (ok : Bool) (first : Content) (es : List Event) (old new : Told) → old ≡ Records first es → TellsAfter call ok old new → Adds call ok first es new
adds call ok first es old new is t = subst (λ o. TellsAfter call ok o new) is t

-- a call only adds to the history
pub more_told : (call : Call) (ok : Bool) (first : Content) (es : List Event) (t : Told) → TellsAfter call ok (Records first es) t → (more : List Event) × (t ≡ Records first (more ++ es))
more_told call ok first es t h =
    ⊎_elim
    (λ (a : AddsCall call ok first es t). (event call ok a.0 ∷ [], a.1))
    (λ (a : (ok ≡ false) × (AddsIdle first es t ⊎ AddsNone first es t)). ⊎_elim
    (λ (idle : AddsIdle first es t). (event Idle false (content_after first es) ∷ [], idle.0))
    (λ (full : AddsNone first es t). ([], full.0))
    a.1)
    h
