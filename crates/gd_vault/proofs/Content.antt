-- What a call does to the content, whatever else is told.
use Rattle.std.proofs.Common.{◌≡◌, ◌⊎◌, inl, ⊎_elim, ℕ, Bool, false, Some, None, refl, sym, ap, subst, ◌∙◌, arith}
use Rattle.gd_vault.specs.Content.{File, Content}
use Rattle.gd_vault.specs.Events.{Call, content_after}
use Rattle.gd_vault.specs.Effects.{Changes, Same, MayDo, DoesOrMayDo}
use Rattle.gd_vault.specs.Views.{Told, content_of}
use Rattle.gd_vault.specs.Changes.{TellsAfter, AddsCall, AddsIdle, AddsNone}
use Rattle.gd_vault.specs.Events.Call.{Create, Write, Truncate, Clone_into, Set_mode, Sync, Sync_names, Replace, Remove, Idle}
use Rattle.gd_vault.specs.Views.Told.{Nothing, Tells, Records}

same : (c : Content) → Same c c
same c = record { names = λ n. refl; files = λ f. refl }

no_change : (f : ℕ) (R : File → File → Type 0) (c : Content) → ((x : File) → R x x) → Changes f R c c
no_change f R c h = record { file = λ x is. (x, is, h x); others = λ g ne. refl; names = λ n. refl }

-- a call that fails may do nothing
pub may_do_nothing : (call : Call) (c : Content) → MayDo call c c
may_do_nothing (Create name mode) c = inl (same c)
may_do_nothing (Write f at bytes) c = no_change f _ c (λ x. (record { same = λ k lt h. refl; no_shorter = omega arith; no_longer = omega arith }, refl, refl))
may_do_nothing (Truncate f) c = no_change f _ c (λ x. (refl, refl))
may_do_nothing (Clone_into f src stamp) c = no_change f _ c (λ x. refl)
may_do_nothing (Set_mode f mode) c = no_change f _ c (λ x. inl refl)
may_do_nothing (Sync f) c = same c
may_do_nothing Sync_names c = same c
may_do_nothing (Replace from to) c = inl (same c)
may_do_nothing (Remove name) c = inl (same c)
may_do_nothing Idle c = same c

failed : (ok : Bool) (call : Call) (c : Content) → ok ≡ false → DoesOrMayDo ok call c c
failed ok call c is = subst (λ b. DoesOrMayDo b call c c) (sym is) (may_do_nothing call c)

pub content_step : (call : Call) (ok : Bool) (old new : Told) → TellsAfter call ok old new → (c : Content) → content_of old ≡ Some c → (d : Content) × (content_of new ≡ Some d) × DoesOrMayDo ok call c d
content_step call ok Nothing new t c is = absurd (let wrong : None ≡ Some c = is in cc)
content_step call ok (Tells b) new t c is =
    let one : b ≡ c = cc in
    (t.0, ap content_of t.1, subst (λ k. DoesOrMayDo ok call k t.0) one t.2)
content_step call ok (Records first es) new t c is =
    let b = content_after first es in
    let one : b ≡ c = (let whole : Some b ≡ Some c = is in cc) in
    ⊎_elim
    (λ (a : AddsCall call ok first es new). (a.0, ap content_of a.1, subst (λ k. DoesOrMayDo ok call k a.0) one a.2))
    (λ (a : (ok ≡ false) × (AddsIdle first es new ⊎ AddsNone first es new)).
    (c, ⊎_elim (λ (i : AddsIdle first es new). ap content_of i.0 ∙ ap Some one) (λ (f : AddsNone first es new). ap content_of f.0 ∙ ap Some one) a.1, failed ok call c a.0))
    t
