-- The file in which a database is made: its mode and its stamp.
use Rattle.std.proofs.Common.{◌≡◌, inl, inr, ℕ, Bool, true, List, [], Option, Some, None, Result, Ok, refl, sym, ap, subst, ◌∙◌}
use Rattle.std.specs.Option.{option_and_then}
use Rattle.std.specs.Prelude.{option_map, is_ok, IfSome}
use Rattle.gd_vault.specs.declared.vaults.FileId.{FileId}
use Rattle.gd_vault.specs.declared.vaults.Mode.TheVariants.{Both}
use Rattle.gd_vault.specs.Content.{File, Content}
use Rattle.gd_vault.specs.Effects.{Names, Makes, empty_file}
use Rattle.gd_vault.specs.Events.{content_after}
use Rattle.gd_vault.specs.Events.Call.{Create, Truncate}
use Rattle.gd_vault.specs.Frame.{Within}
use Rattle.gd_vault.specs.Views.{View, Told, HasFile, Asked, content_of}
use Rattle.gd_vault.specs.Views.Told.{Nothing, Tells, Records}
use Rattle.gd_vault.specs.Changes.{Changed, Creates, TellsAfter}
use Rattle.gd_create.specs.Stands.{Stands}
use Rattle.gd_update.proofs.Files.{told_first}
use Rattle.gd_store.specs.Opened.{IsCleared, cleared, named_in}

-- what a call makes of the content that was told
told_after : (P : Content → Content → Type 0) (c d k l : Content) → k ≡ c → l ≡ d → P k l → P c d
told_after P c d k l first last h = subst (λ (m : Content). P m d) first (subst (λ (m : Content). P k m) last h)

abbrev Empties : ℕ → Content → Content → Type 0
Empties f c d = (x : File) → c.files f ≡ Some x → d.files f ≡ Some (record x { bytes = [] })

truncate_told : (f : ℕ) (t u : Told) (c d : Content) → TellsAfter (Truncate f) true t u → content_of t ≡ Some c → content_of u ≡ Some d → Empties f c d
truncate_told f Nothing u c d h before after = absurd cc
truncate_told f (Tells k) u c d h before after =
    let whole : Some h.0 ≡ Some d = ap content_of (sym h.1) ∙ after in
    let first : k ≡ c = cc in
    let last : h.0 ≡ d = cc in
    told_after (Empties f) c d k h.0 first last (λ x there. let y = h.2.file x there in y.1 ∙ ap Some y.2)
truncate_told f (Records first es) u c d (inl h) before after =
    let whole : Some h.0 ≡ Some d = ap content_of (sym h.1) ∙ after in
    let start : content_after first es ≡ c = cc in
    let last : h.0 ≡ d = cc in
    told_after (Empties f) c d (content_after first es) h.0 start last (λ x there. let y = h.2.file x there in y.1 ∙ ap Some y.2)
truncate_told f (Records first es) u c d (inr h) before after = absurd (cc h.0)

abbrev Begins : List ℕ → Content → Content → Type 0
Begins name c d = (f : ℕ) → d.names name ≡ Some f → d.files f ≡ Some (empty_file Both)

begun : (name : List ℕ) (c d : Content) (id : ℕ) → Makes id Both c d → Names name (Some id) c d → Begins name c d
begun name c d id makes names f here =
    let whole : Some id ≡ Some f = sym names.here ∙ here in
    let same : id ≡ f = cc in
    subst (λ (k : ℕ). d.files k ≡ Some (empty_file Both)) same makes.empty

create_told : (name : List ℕ) (t u : Told) (c d : Content) → TellsAfter (Create name Both) true t u → content_of t ≡ Some c → content_of u ≡ Some d → Begins name c d
create_told name Nothing u c d h before after = absurd cc
create_told name (Tells k) u c d h before after =
    let whole : Some h.0 ≡ Some d = ap content_of (sym h.1) ∙ after in
    let first : k ≡ c = cc in
    let last : h.0 ≡ d = cc in
    told_after (Begins name) c d k h.0 first last (begun name k h.0 h.2.0 h.2.1 h.2.2)
create_told name (Records first es) u c d (inl h) before after =
    let whole : Some h.0 ≡ Some d = ap content_of (sym h.1) ∙ after in
    let does = h.2 in
    let start : content_after first es ≡ c = cc in
    let last : h.0 ≡ d = cc in
    told_after (Begins name) c d (content_after first es) h.0 start last (begun name (content_after first es) h.0 does.0 does.1 does.2)
create_told name (Records first es) u c d (inr h) before after = absurd (cc h.0)

-- an old file that is emptied
pub truncated_clears : {T E U F : Type 0} (asked : Result T E) (result : Result U F) (u v w : View) (name : List ℕ) (o : Option FileId) (f : FileId) → o ≡ Some f → ((c : Content) → content_of u.told ≡ Some c → c.names name ≡ option_map (λ (x : FileId). x.0) o)
    → IfSome o (λ p. HasFile v p.0) → Asked asked u v → is_ok result ≡ true → Changed (Truncate f.0) result v w → IsCleared u w name f.0 []
truncated_clears asked result u v w name o f is at has a ok t c d before after =
    let names : c.names name ≡ Some f.0 = at c before ∙ ap (option_map (λ (x : FileId). x.0)) is in
    let now : content_of v.told ≡ Some c = ap content_of a.told ∙ before in
    let there : HasFile v f.0 = subst (λ (p : Option FileId). IfSome p (λ q. HasFile v q.0)) is has in
    let x = there c now in
    let named : named_in c name ≡ Some x.0 = ap (option_and_then c.files) names ∙ x.1 in
    let told = subst (λ (b : Bool). TellsAfter (Truncate f.0) b v.told w.told) ok t.told in
    truncate_told f.0 v.told w.told c d told now after x.0 x.1 ∙ ap (λ (y : Option File). Some (record (cleared y) { bytes = [] })) (sym named)

-- a new file
pub created_clears : {T E : Type 0} (asked : Result T E) (u v w : View) (name : List ℕ) (o : Option FileId) (f : FileId) → o ≡ None → ((c : Content) → content_of u.told ≡ Some c → c.names name ≡ option_map (λ (x : FileId). x.0) o)
    → Asked asked u v → Creates name Both (Ok f) v w → IsCleared u w name f.0 []
created_clears asked u v w name o f none at a made c d before after =
    let names : c.names name ≡ None = at c before ∙ ap (option_map (λ (x : FileId). x.0)) none in
    let now : content_of v.told ≡ Some c = ap content_of a.told ∙ before in
    let named : named_in c name ≡ None = ap (option_and_then c.files) names in
    create_told name v.told w.told c d made.0.told now after f.0 (made.1 d after) ∙ ap (λ (y : Option File). Some (record (cleared y) { bytes = [] })) (sym named)

-- and the blocks that are written into it
pub made_cleared : {mine : ℕ → Type 0} {named : List ℕ → Type 0} (u v w : View) (name : List ℕ) (f : ℕ) (new : List ℕ) → IsCleared u v name f [] → Within mine named v w
    → ((x : File) → Stands v f x → x.bytes ≡ [] → Stands w f (record x { bytes = new })) → IsCleared u w name f new
made_cleared u v w name f new is frame made c d before after =
    let mid = told_first v w d frame after in
    let there = is c mid.0 before mid.1 in
    let st = made (record (cleared (named_in c name)) { bytes = [] }) (record { content = mid.0; told = mid.1; there = there }) refl in
    let one : st.content ≡ d = (let s : Some st.content ≡ Some d = sym st.told ∙ after in cc) in
    ap (λ (k : Content). k.files f) (sym one) ∙ st.there
