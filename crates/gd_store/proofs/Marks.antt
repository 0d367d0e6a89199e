-- The mode and the stamp of the file of a name.
use Rattle.std.proofs.Common.{◌≡◌, ⊎_elim, ℕ, Bool, true, false, List, Option, Some, None, Result, refl, sym, ap, subst, ◌∙◌}
use Rattle.std.specs.Prelude.{option_map, is_ok}
use Rattle.gd_vault.specs.declared.vaults.FileId.{FileId}
use Rattle.gd_vault.specs.Content.{File, Content}
use Rattle.gd_vault.specs.Events.Call.{Truncate}
use Rattle.gd_vault.specs.Effects.{DoesOrMayDo}
use Rattle.gd_vault.specs.Changes.{Changed}
use Rattle.gd_vault.specs.Streams.{OnlyWrites, SameMarks}
use Rattle.gd_vault.specs.Views.{View, Asked, content_of}
use Rattle.gd_vault.proofs.Content.{content_step}
use Rattle.gd_store.specs.Opened.{IsOwn, MarksStay}

pub marks_asked : {T E : Type 0} (asked : Result T E) (u v : View) (name : List ℕ) → Asked asked u v → MarksStay u v name
marks_asked asked u v name a f stands c x told is = (c, ap content_of a.told ∙ told, (x, is, refl, refl))

pub marks_nothing : (u v : View) (name : List ℕ) → v ≡ u → MarksStay u v name
marks_nothing u v name same f stands c x told is = (c, ap (λ (k : View). content_of k.told) same ∙ told, (x, is, refl, refl))

marks_trans : (f : ℕ) (u v w : View) → SameMarks f u v → SameMarks f v w → SameMarks f u w
marks_trans f u v w one two c x told is =
    let d = one c x told is in
    let e = two d.0 d.2.0 d.1 d.2.1 in
    (e.0, e.1, (e.2.0, e.2.1, e.2.2 ∙ d.2.2, e.2.3 ∙ d.2.3))

-- a file that is emptied keeps them, also where that fails
emptied : (ok : Bool) (f : ℕ) (c d : Content) (x : File) → DoesOrMayDo ok (Truncate f) c d → c.files f ≡ Some x → (y : File) × (d.files f ≡ Some y) × (y.mode ≡ x.mode) × (y.stamp ≡ x.stamp)
emptied true f c d x h is = let y = h.file x is in (y.0, y.1, ap (λ (z : File). z.mode) y.2, ap (λ (z : File). z.stamp) y.2)
emptied false f c d x h is =
    let y = h.file x is in
    let marks : (y.0.mode ≡ x.mode) × (y.0.stamp ≡ x.stamp) = y.2 in
    (y.0, y.1, marks.0, marks.1)

pub marks_truncated : {T E U F : Type 0} (asked : Result T E) (result : Result U F) (u v w : View) (name : List ℕ) (o : Option FileId) (f : FileId) → o ≡ Some f → ((c : Content) → content_of u.told ≡ Some c → c.names name ≡ option_map (λ (x : FileId). x.0) o)
    → Asked asked u v → Changed (Truncate f.0) result v w → MarksStay u w name
marks_truncated asked result u v w name o f is at a t g stands c x told there =
    let here : c.names name ≡ Some f.0 = at c told ∙ ap (option_map (λ (k : FileId). k.0)) is in
    let whole : Some g ≡ Some f.0 = sym (stands c told) ∙ here in
    let same : g ≡ f.0 = cc in
    let step = content_step (Truncate f.0) (is_ok result) v.told w.told t.told c (ap content_of a.told ∙ told) in
    let y = emptied (is_ok result) f.0 c step.0 x step.2 (ap c.files (sym same) ∙ there) in
    (step.0, step.1, (y.0, ap step.0.files same ∙ y.1, y.2, y.3))

-- a name that stands for no file has none
pub marks_none : (u w : View) (name : List ℕ) (o : Option FileId) → o ≡ None → ((c : Content) → content_of u.told ≡ Some c → c.names name ≡ option_map (λ (x : FileId). x.0) o) → MarksStay u w name
marks_none u w name o none at g stands c x told there = absurd (let wrong : Some g ≡ None = sym (stands c told) ∙ at c told ∙ ap (option_map (λ (k : FileId). k.0)) none in cc)

-- over writes to the name's file
pub marks_still : (u v w : View) (name : List ℕ) (f : ℕ) → MarksStay u v name → IsOwn u name f → OnlyWrites f v w → MarksStay u w name
marks_still u v w name f one own two g stands c x told there =
    ⊎_elim
    (λ (here : c.names name ≡ Some f). (let whole : Some f ≡ Some g = sym here ∙ stands c told in let same : f ≡ g = cc in marks_trans g u v w (one g stands) (subst (λ (k : ℕ). SameMarks k v w) same two.marks) c x told there))
    (λ (begun : (c.names name ≡ None) × (c.files f ≡ None)). absurd (let wrong : None ≡ Some g = sym begun.0 ∙ stands c told in cc))
    (own c told)
