-- One file of a vault over calls and frames: for the crates above.
use Rattle.std.proofs.Common.{◌≡◌, ◌⊎◌, inl, inr, ⊎_elim, ℕ, Bool, true, false, List, [], ◌∷◌, ◌++◌, Some, None, Result, Ok, Err, refl, sym, ap, subst, ◌∙◌}
use Rattle.gd_vault.specs.declared.vaults.Mode.{Mode}
use Rattle.gd_vault.specs.declared.vaults.FileId.{FileId}
use Rattle.gd_vault.specs.declared.vaults.CreateError.{CreateError}
use Rattle.gd_vault.specs.declared.vaults.CreateError.TheVariants.{Exists, Failed}
use Rattle.gd_vault.specs.Content.{File, Content}
use Rattle.gd_vault.specs.Events.{Event, content_after}
use Rattle.gd_vault.specs.Events.Call.{Sync, Sync_names, Replace, Remove}
use Rattle.gd_vault.specs.Effects.{Same, DoesOrMayDo}
use Rattle.gd_vault.specs.Changes.{TellsAfter, AddsCall, AddsIdle, AddsNone, Changed, Creates, event}
use Rattle.gd_vault.specs.Stands.{Is, IsDurable, FileStands, NameStands}
use Rattle.gd_vault.specs.Frame.{Touches, Frame, Along, Reads, Within}
use Rattle.gd_vault.specs.Views.{Told, View, HasFile, content_of}
use Rattle.gd_vault.specs.Views.Told.{Nothing, Tells, Records}
use Rattle.gd_vault.proofs.Content.{content_step}
use Rattle.gd_vault.proofs.FrameLeft.{frame_reads}
use Rattle.gd_vault.proofs.Stands.{synced_stands}
use Rattle.gd_vault.proofs.Within.{within_changed, within_refl}

-- ---- what is told over a frame

pub reads_in : (mine : ℕ → Type 0) (named : List ℕ → Type 0) (t u : Told) (c : Content) → Frame mine named t u → content_of t ≡ Some c → (d : Content) × (content_of u ≡ Some d) × Reads mine named c d
reads_in mine named Nothing u c h told = absurd (let no : None ≡ Some c = told in cc)
reads_in mine named (Tells b) u c h told =
    let same : b ≡ c = let both : Some b ≡ Some c = told in cc in
    (h.0, ap content_of h.1, subst (λ (k : Content). Reads mine named k h.0) same h.2)
reads_in mine named (Records first es) u c h told =
    let same : content_after first es ≡ c = let both : Some (content_after first es) ≡ Some c = told in cc in
    (content_after first (h.0 ++ es), ap content_of h.1, subst (λ (k : Content). Reads mine named k (content_after first (h.0 ++ es))) same (frame_reads mine named first es (h.0 ++ es) (h.0, refl, h.2)))

-- what is told stays told
pub frame_content : (mine : ℕ → Type 0) (named : List ℕ → Type 0) (old new : Told) (c : Content) → Frame mine named old new → content_of old ≡ Some c → (d : Content) × (content_of new ≡ Some d)
frame_content mine named old new c f is = let r = reads_in mine named old new c f is in (r.0, r.1)

-- what is told at the end was told at the start
pub frame_told : (mine : ℕ → Type 0) (named : List ℕ → Type 0) (old new : Told) (d : Content) → Frame mine named old new → content_of new ≡ Some d → (c : Content) × (content_of old ≡ Some c)
frame_told mine named Nothing new d h told = absurd (let no : None ≡ Some d = subst (λ k. content_of k ≡ Some d) h told in cc)
frame_told mine named (Tells c) new d h told = (c, refl)
frame_told mine named (Records first es) new d h told = (content_after first es, refl)

-- the content at the end, and at the start, with what stays
pub record Between (mine : ℕ → Type 0) (named : List ℕ → Type 0) (old : Told) (d : Content) : Type 0 where
  pub content : Content
  pub told : content_of old ≡ Some content
  pub reads : Reads mine named content d

pub between : (mine : ℕ → Type 0) (named : List ℕ → Type 0) (old new : Told) (d : Content) → Frame mine named old new → content_of new ≡ Some d → Between mine named old d
between mine named old new d f is =
    let c = frame_told mine named old new d f is in
    let r = reads_in mine named old new c.0 f c.1 in
    let same : r.0 ≡ d = (let both : Some r.0 ≡ Some d = sym r.1 ∙ is in cc) in
    record { content = c.0; told = c.1; reads = subst (Reads mine named c.0) same r.2 }

-- what is told of a file is told once
pub same_file : (v : View) (f : ℕ) (c d : Content) (x y : File) → content_of v.told ≡ Some c → content_of v.told ≡ Some d → c.files f ≡ Some x → d.files f ≡ Some y → x ≡ y
same_file v f c d x y one two here there =
    let whole : Some c ≡ Some d = sym one ∙ two in
    let same : c ≡ d = cc in
    let files : Some x ≡ Some y = sym here ∙ ap (λ (k : Content). k.files f) same ∙ there in
    cc

pub same_content : (c d : Content) → Same c d → d ≡ c
same_content c d s = λ i. record { names = λ n. s.names n i; files = λ f. s.files f i }

-- ---- one file over a frame

-- no call takes a file away
pub frame_there : (mine : ℕ → Type 0) (named : List ℕ → Type 0) (u v : View) (f : ℕ) → Within mine named u v → HasFile u f → HasFile v f
frame_there mine named u v f w has d is =
    let b = between mine named u.told v.told d w.told is in
    let x = has b.content b.told in
    b.reads.stay f x.0 x.1

-- a file that is left alone has its bytes
pub stays_told : (mine : ℕ → Type 0) (named : List ℕ → Type 0) (u v : View) (f : ℕ) → ((c : Content) → content_of u.told ≡ Some c → mine f → ⊥) → Within mine named u v → (d : Content) (y : File) → HasFile u f → content_of v.told ≡ Some d → d.files f ≡ Some y
    → (c : Content) × (content_of u.told ≡ Some c) × (c.files f ≡ Some y)
stays_told mine named u v f other w d y has is here =
    let b = between mine named u.told v.told d w.told is in
    let x = has b.content b.told in
    let there : d.files f ≡ Some x.0 = b.reads.files f x.0 (other b.content b.told) x.1 in
    let one : x.0 ≡ y = (let both : Some x.0 ≡ Some y = sym there ∙ here in cc) in
    (b.content, b.told, subst (λ k. b.content.files f ≡ Some k) one x.1)

-- ---- wider frames

-- a frame with fewer files and names lies in one with more
module _ (mine mine' : ℕ → Type 0) (named named' : List ℕ → Type 0) (files : (f : ℕ) → mine f → mine' f) (names : (n : List ℕ) → named n → named' n) where
  reads_more : (c d : Content) → Reads mine named c d → Reads mine' named' c d
  reads_more c d r = record { files = λ f x other e. r.files f x (λ h. other (files f h)) e; names = λ n other. r.names n (λ h. other (names n h)); stay = r.stay }

  touches_more : (start before : Content) (e : Event) → Touches mine named start before e → Touches mine' named' start before e
  touches_more start before e t = record { by_call = t.by_call; file = λ f is. ⊎_elim (λ h. inl (files f h)) (λ h. inr h) (t.file f is); name = λ n r. names n (t.name n r) }

  along_more : (first : Content) (es more : List Event) → Along mine named first es more → Along mine' named' first es more
  along_more first es [] a = tt
  along_more first es (e ∷ more) a = (along_more first es more a.0, touches_more _ _ e a.1)

  frame_more : (t u : Told) → Frame mine named t u → Frame mine' named' t u
  frame_more Nothing u h = h
  frame_more (Tells c) u h = (h.0, h.1, reads_more c h.0 h.2)
  frame_more (Records first es) u h = (h.0, h.1, along_more first es h.0 h.2)

  pub within_more : (u v : View) → Within mine named u v → Within mine' named' u v
  within_more u v w = record { told = frame_more u.told v.told w.told; faults = w.faults }

pub within_wider : (mine wider : ℕ → Type 0) (named : List ℕ → Type 0) (u v : View) → ((f : ℕ) → mine f → wider f) → Within mine named u v → Within wider named u v
within_wider mine wider named u v wide w = within_more mine wider named named wide (λ n h. h) u v w

-- ---- frames of the calls on names

pub within_created : (mine : ℕ → Type 0) (named : List ℕ → Type 0) (name : List ℕ) (mode : Mode) (r : Result FileId CreateError) (u v : View) → named name → Creates name mode r u v → Within mine named u v
within_created mine named name mode (Ok f) u v own h = within_changed mine named (λ k e. cc) (λ n is. subst named (sym is) own) h.0
within_created mine named name mode (Err Exists) u v own h = subst (λ w. Within mine named u w) (sym h) (within_refl u)
within_created mine named name mode (Err Failed) u v own h = within_changed mine named (λ k e. cc) (λ n is. subst named (sym is) own) h

pub within_replaced : {T E : Type 0} {from to : List ℕ} {result : Result T E} {u v : View} (mine : ℕ → Type 0) (named : List ℕ → Type 0) → named from → named to → Changed (Replace from to) result u v → Within mine named u v
within_replaced {from = from} {to = to} mine named own_from own_to h =
    within_changed mine named (λ k e. cc) (λ n r. ⊎_elim (λ (is : n ≡ from). subst named (sym is) own_from) (λ (is : n ≡ to). subst named (sym is) own_to) r) h

pub within_removed : {T E : Type 0} {name : List ℕ} {result : Result T E} {u v : View} (mine : ℕ → Type 0) (named : List ℕ → Type 0) → named name → Changed (Remove name) result u v → Within mine named u v
within_removed mine named own h = within_changed mine named (λ k e. cc) (λ n is. subst named (sym is) own) h

-- ---- what a crash leaves of a file or a name after some calls

firsts : (a b : Content) (xs ys : List Event) → Records a xs ≡ Records b ys → a ≡ b
firsts a b xs ys e = cc

events : (a b : Content) (xs ys : List Event) → Records a xs ≡ Records b ys → xs ≡ ys
events a b xs ys e = cc

durable_told : (f : ℕ) (old new : Told) → ((c : Content) → content_of old ≡ Some c → (x : File) × (c.files f ≡ Some x)) → TellsAfter (Sync f) true old new → IsDurable new f
durable_told f Nothing new has t first es is = absurd (let wrong : Nothing ≡ Records first es = sym t ∙ is in cc)
durable_told f (Tells b) new has t first es is = absurd (let wrong : Tells t.0 ≡ Records first es = sym t.1 ∙ is in cc)
durable_told f (Records a xs) new has t first es is =
    let x = has (content_after a xs) refl in
    ⊎_elim
    (λ (k : AddsCall (Sync f) true a xs new).
    let e : Event = event (Sync f) true k.0 in
    let both : Records a (e ∷ xs) ≡ Records first es = sym k.1 ∙ is in
    let stands : FileStands a xs f (Is x.0) (λ y. Unit {0}) = record { reads = (x.0, x.1, refl); left = λ y l. tt } in
    let same : Same (content_after a xs) k.0 = k.2 in
    let now : FileStands a (e ∷ xs) f (Is x.0) (Is x.0) = synced_stands a xs e f (Is x.0) (λ y. Unit {0}) stands refl refl (same.files f) in
    (x.0, subst (λ b. FileStands b es f (Is x.0) (Is x.0)) (firsts a first (e ∷ xs) es both) (subst (λ l. FileStands a l f (Is x.0) (Is x.0)) (events a first (e ∷ xs) es both) now)))
    (λ (k : (true ≡ false) × (AddsIdle a xs new ⊎ AddsNone a xs new)). absurd (let wrong : true ≡ false = k.0 in cc))
    t

-- behind a sync that succeeded
pub durable_after : (f : ℕ) (u v : View) → HasFile u f → TellsAfter (Sync f) true u.told v.told → IsDurable v.told f
durable_after f u v has t = durable_told f u.told v.told has t

-- a file that an event made
pub made_stands : (first : Content) (es : List Event) (e : Event) (f : ℕ) (x : File) → (content_after first es).files f ≡ None → e.after.files f ≡ Some x → FileStands first (e ∷ es) f (Is x) (Is x)
made_stands first es e f x new is = record {
  reads = (x, is, refl);
  left = λ y l. let here : e.after.files f ≡ Some y = l.made new in let both : Some y ≡ Some x = sym here ∙ is in cc;
}

-- a name after a sync of the names
pub names_stand : (first : Content) (es : List Event) (e : Event) (n : List ℕ) (id : ℕ) → e.call ≡ Sync_names → e.ok ≡ true → e.after.names n ≡ Some id → NameStands first (e ∷ es) n id
names_stand first es e n id call ok is = record { reads = is; left = λ z l. l.synced call ok ∙ is }

same_by : (ok : Bool) (f : ℕ) (c d : Content) → DoesOrMayDo ok (Sync f) c d → Same c d
same_by true f c d h = h
same_by false f c d h = h

-- a sync, a failed one too, changes nothing that is read
pub same_synced : (f : ℕ) (ok : Bool) (old new : Told) (c : Content) → TellsAfter (Sync f) ok old new → content_of old ≡ Some c → content_of new ≡ Some c
same_synced f ok old new c t is =
    let s = content_step (Sync f) ok old new t c is in
    s.1 ∙ ap Some (same_content c s.0 (same_by ok f c s.0 s.2))
