-- No call takes a file away.
use Rattle.std.proofs.Common.{◌≡◌, ◌≢◌, ◌⊎◌, ⊎_elim, ℕ, Bool, true, false, ◌∷◌, Some, None, refl, sym, subst, ◌∙◌, eqb}
use Rattle.std.proofs.lemmas.Bool.Decides.{eqb_tells}
use Rattle.gd_vault.specs.Content.{File, Content}
use Rattle.gd_vault.specs.Events.{Call, content_after}
use Rattle.gd_vault.specs.Effects.{Changes, Makes, Same, empty_file, Does, MayDo, DoesOrMayDo}
use Rattle.gd_vault.specs.Views.{View, Told, HasFile, content_of}
use Rattle.gd_vault.specs.Changes.{TellsAfter, AddsCall, AddsIdle, AddsNone, event}
use Rattle.gd_vault.specs.Events.Call.{Create, Write, Truncate, Clone_into, Set_mode, Sync, Sync_names, Replace, Remove, Idle}
use Rattle.gd_vault.specs.Views.Told.{Nothing, Tells, Records}

abbrev pub Has : Content → ℕ → Type 0
Has c f = (x : File) × (c.files f ≡ Some x)

changed : (f : ℕ) (R : File → File → Type 0) (c d : Content) → Changes f R c d → (g : ℕ) → Has c g → Has d g
changed f R c d h g has =
    ⊎_elim
    (λ (e : (eqb g f ≡ true) × (g ≡ f)).
    let y = h.file has.0 (subst (λ k. c.files k ≡ Some has.0) e.1 has.1) in
    (y.0, subst (λ k. d.files k ≡ Some y.0) (sym e.1) y.1))
    (λ (e : (eqb g f ≡ false) × (g ≢ f)). (has.0, h.others g e.1 ∙ has.1))
    (eqb_tells g f)

made : (id : ℕ) (mode : _) (c d : Content) → Makes id mode c d → (g : ℕ) → Has c g → Has d g
made id mode c d h g has =
    ⊎_elim
    (λ (e : (eqb g id ≡ true) × (g ≡ id)). (empty_file mode, subst (λ k. d.files k ≡ Some (empty_file mode)) (sym e.1) h.empty))
    (λ (e : (eqb g id ≡ false) × (g ≢ id)). (has.0, h.others g e.1 ∙ has.1))
    (eqb_tells g id)

same : (c d : Content) → ((f : ℕ) → d.files f ≡ c.files f) → (g : ℕ) → Has c g → Has d g
same c d h g has = (has.0, h g ∙ has.1)

does : (call : Call) (c d : Content) → Does call c d → (g : ℕ) → Has c g → Has d g
does (Create name mode) c d h g has = made h.0 mode c d h.1 g has
does (Write f at bytes) c d h g has = changed f _ c d h g has
does (Truncate f) c d h g has = changed f _ c d h g has
does (Clone_into f src stamp) c d h g has = changed f _ c d h g has
does (Set_mode f mode) c d h g has = changed f _ c d h g has
does (Sync f) c d h g has = same c d h.files g has
does Sync_names c d h g has = same c d h.files g has
does (Replace from to) c d h g has = same c d h.0.files g has
does (Remove name) c d h g has = same c d h.0.files g has
does Idle c d h g has = same c d h.files g has

may_do : (call : Call) (c d : Content) → MayDo call c d → (g : ℕ) → Has c g → Has d g
may_do (Create name mode) c d h g has = ⊎_elim (λ (s : Same c d). same c d s.files g has) (λ (s : Does (Create name mode) c d). does (Create name mode) c d s g has) h
may_do (Write f at bytes) c d h g has = changed f _ c d h g has
may_do (Truncate f) c d h g has = changed f _ c d h g has
may_do (Clone_into f src stamp) c d h g has = changed f _ c d h g has
may_do (Set_mode f mode) c d h g has = changed f _ c d h g has
may_do (Sync f) c d h g has = same c d h.files g has
may_do Sync_names c d h g has = same c d h.files g has
may_do (Replace from to) c d h g has = ⊎_elim (λ (s : Same c d). same c d s.files g has) (λ (s : Does (Replace from to) c d). does (Replace from to) c d s g has) h
may_do Idle c d h g has = same c d h.files g has
may_do (Remove name) c d h g has = ⊎_elim (λ (s : Same c d). same c d s.files g has) (λ (s : Does (Remove name) c d). does (Remove name) c d s g has) h

pub has_after : (ok : Bool) (call : Call) (c d : Content) → DoesOrMayDo ok call c d → (g : ℕ) → Has c g → Has d g
has_after true call c d h g has = does call c d h g has
has_after false call c d h g has = may_do call c d h g has

abbrev HasTold : Told → ℕ → Type 0
HasTold t f = (c : Content) → content_of t ≡ Some c → (x : File) × (c.files f ≡ Some x)

at_told : (t : Told) (d : Content) (g : ℕ) → content_of t ≡ Some d → Has d g → HasTold t g
at_told t d g is has c e = let same : d ≡ c = cc in subst (λ k. Has k g) same has

has_told : (call : Call) (ok : Bool) (old new : Told) (g : ℕ) → TellsAfter call ok old new → HasTold old g → HasTold new g
has_told call ok Nothing new g t has = λ c e. absurd (let no : None ≡ Some c = subst (λ k. content_of k ≡ Some c) t e in cc)
has_told call ok (Tells c) new g t has =
    subst (λ k. HasTold k g) (sym t.1) (at_told (Tells t.0) t.0 g refl (has_after ok call c t.0 t.2 g (has c refl)))
has_told call ok (Records first es) new g t has =
    let here = has (content_after first es) refl in
    ⊎_elim
    (λ (a : AddsCall call ok first es new).
    subst (λ k. HasTold k g) (sym a.1) (at_told (Records first (event call ok a.0 ∷ es)) a.0 g refl (has_after ok call (content_after first es) a.0 a.2 g here)))
    (λ (a : (ok ≡ false) × (AddsIdle first es new ⊎ AddsNone first es new)). ⊎_elim
    (λ (idle : AddsIdle first es new). subst (λ k. HasTold k g) (sym idle.0) (at_told (Records first (event Idle false (content_after first es) ∷ es)) (content_after first es) g refl here))
    (λ (full : AddsNone first es new). subst (λ k. HasTold k g) (sym full.0) has)
    a.1)
    t

-- a file that is there stays there
pub has_file_stays : (call : Call) (ok : Bool) (old new : View) → TellsAfter call ok old.told new.told → (g : ℕ) → HasFile old g → HasFile new g
has_file_stays call ok old new t g has = has_told call ok old.told new.told g t has
