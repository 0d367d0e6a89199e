-- How frames go on, and what they keep.
use Rattle.std.proofs.Common.{◌≡◌, ◌≢◌, ◌⊎◌, inl, inr, ⊎_elim, ℕ, Bool, true, false, List, [], ◌∷◌, ◌++◌, Option, Some, None, refl, sym, ap, subst, ◌∙◌, append_assoc}
use Rattle.gd_vault.specs.Content.{File, Content}
use Rattle.gd_vault.specs.Events.{Call, Event, content_after}
use Rattle.gd_vault.specs.Effects.{Makes, Same, Does, MayDo, file_of, DoesOrMayDo}
use Rattle.gd_vault.specs.History.{Renames}
use Rattle.gd_vault.specs.Views.{Told}
use Rattle.gd_vault.specs.Changes.{TellsAfter, AddsCall, AddsIdle, AddsNone, event}
use Rattle.gd_vault.specs.Frame.{Touches, Along, Reads, Frame}
use Rattle.gd_vault.specs.Events.Call.{Create, Write, Truncate, Clone_into, Set_mode, Sync, Sync_names, Replace, Remove, Idle}
use Rattle.gd_vault.specs.Views.Told.{Nothing, Tells, Records}
use Rattle.gd_vault.specs.Stay.{Has, has_after}

-- a call leaves each file that is there and is not its own
same_other : (g : ℕ) (x : File) (id : ℕ) (mode : _) (c d : Content) → Makes id mode c d → c.files g ≡ Some x → d.files g ≡ Some x
same_other g x id mode c d h is =
    let ne : g ≢ id = λ e. (let wrong : None ≡ Some x = sym h.new ∙ (ap (λ k. c.files k) (sym e) ∙ is) in cc) in
    h.others g ne ∙ is

kept_does : (call : Call) (c d : Content) → Does call c d → (g : ℕ) (x : File) → file_of call ≢ Some g → c.files g ≡ Some x → d.files g ≡ Some x
kept_does (Create name mode) c d h g x ne is = same_other g x h.0 mode c d h.1 is
kept_does (Write f at bytes) c d h g x ne is = h.others g (λ e. ne (ap Some (sym e))) ∙ is
kept_does (Truncate f) c d h g x ne is = h.others g (λ e. ne (ap Some (sym e))) ∙ is
kept_does (Clone_into f src stamp) c d h g x ne is = h.others g (λ e. ne (ap Some (sym e))) ∙ is
kept_does (Set_mode f mode) c d h g x ne is = h.others g (λ e. ne (ap Some (sym e))) ∙ is
kept_does (Sync f) c d h g x ne is = h.files g ∙ is
kept_does Sync_names c d h g x ne is = h.files g ∙ is
kept_does (Replace from to) c d h g x ne is = h.0.files g ∙ is
kept_does (Remove name) c d h g x ne is = h.0.files g ∙ is
kept_does Idle c d h g x ne is = h.files g ∙ is

kept_may : (call : Call) (c d : Content) → MayDo call c d → (g : ℕ) (x : File) → file_of call ≢ Some g → c.files g ≡ Some x → d.files g ≡ Some x
kept_may (Create name mode) c d h g x ne is = ⊎_elim (λ (s : Same c d). s.files g ∙ is) (λ (s : Does (Create name mode) c d). kept_does (Create name mode) c d s g x ne is) h
kept_may (Write f at bytes) c d h g x ne is = h.others g (λ e. ne (ap Some (sym e))) ∙ is
kept_may (Truncate f) c d h g x ne is = h.others g (λ e. ne (ap Some (sym e))) ∙ is
kept_may (Clone_into f src stamp) c d h g x ne is = h.others g (λ e. ne (ap Some (sym e))) ∙ is
kept_may (Set_mode f mode) c d h g x ne is = h.others g (λ e. ne (ap Some (sym e))) ∙ is
kept_may (Sync f) c d h g x ne is = h.files g ∙ is
kept_may Sync_names c d h g x ne is = h.files g ∙ is
kept_may (Replace from to) c d h g x ne is = ⊎_elim (λ (s : Same c d). s.files g ∙ is) (λ (s : Does (Replace from to) c d). kept_does (Replace from to) c d s g x ne is) h
kept_may Idle c d h g x ne is = h.files g ∙ is
kept_may (Remove name) c d h g x ne is = ⊎_elim (λ (s : Same c d). s.files g ∙ is) (λ (s : Does (Remove name) c d). kept_does (Remove name) c d s g x ne is) h

pub kept : (ok : Bool) (call : Call) (c d : Content) → DoesOrMayDo ok call c d → (g : ℕ) (x : File) → file_of call ≢ Some g → c.files g ≡ Some x → d.files g ≡ Some x
kept true call c d h g x ne is = kept_does call c d h g x ne is
kept false call c d h g x ne is = kept_may call c d h g x ne is

-- and each name that it does not change
named_does : (call : Call) (c d : Content) → Does call c d → (n : List ℕ) → (Renames call n → ⊥) → d.names n ≡ c.names n
named_does (Create name mode) c d h n no_name = h.2.others n no_name
named_does (Write f at bytes) c d h n no_name = h.names n
named_does (Truncate f) c d h n no_name = h.names n
named_does (Clone_into f src stamp) c d h n no_name = h.names n
named_does (Set_mode f mode) c d h n no_name = h.names n
named_does (Sync f) c d h n no_name = h.names n
named_does Sync_names c d h n no_name = h.names n
named_does (Replace from to) c d h n no_name = h.1.others n (λ e. no_name (inl e)) (λ e. no_name (inr e))
named_does (Remove name) c d h n no_name = h.1.others n no_name
named_does Idle c d h n no_name = h.names n

pub named : (ok : Bool) (call : Call) (c d : Content) → DoesOrMayDo ok call c d → (n : List ℕ) → (Renames call n → ⊥) → d.names n ≡ c.names n
named true call c d h n no_name = named_does call c d h n no_name
named false (Create name mode) c d h n no_name = ⊎_elim (λ (s : Same c d). s.names n) (λ (s : Does (Create name mode) c d). named_does (Create name mode) c d s n no_name) h
named false (Write f at bytes) c d h n no_name = h.names n
named false (Truncate f) c d h n no_name = h.names n
named false (Clone_into f src stamp) c d h n no_name = h.names n
named false (Set_mode f mode) c d h n no_name = h.names n
named false (Sync f) c d h n no_name = h.names n
named false Sync_names c d h n no_name = h.names n
named false (Replace from to) c d h n no_name = ⊎_elim (λ (s : Same c d). s.names n) (λ (s : Does (Replace from to) c d). named_does (Replace from to) c d s n no_name) h
named false Idle c d h n no_name = h.names n
named false (Remove name) c d h n no_name = ⊎_elim (λ (s : Same c d). s.names n) (λ (s : Does (Remove name) c d). named_does (Remove name) c d s n no_name) h

-- a call by itself
by_one : (mine : ℕ → Type 0) (names : List ℕ → Type 0) (call : Call) (ok : Bool) (c d : Content) → ((f : ℕ) → file_of call ≡ Some f → mine f) → ((n : List ℕ) → Renames call n → names n) → DoesOrMayDo ok call c d → Reads mine names c d
by_one mine names call ok c d file name h = record {
  files = λ f x no_file is. kept ok call c d h f x (λ e. no_file (file f e)) is;
  names = λ n no_name. named ok call c d h n (λ r. no_name (name n r));
  stay = λ f x is. has_after ok call c d h f (x, is);
}

reads_refl : (mine : ℕ → Type 0) (names : List ℕ → Type 0) (c : Content) → Reads mine names c c
reads_refl mine names c = record { files = λ f x no_file is. is; names = λ n no_name. refl; stay = λ f x is. (x, is) }

reads_trans : (mine : ℕ → Type 0) (names : List ℕ → Type 0) (c d e : Content) → Reads mine names c d → Reads mine names d e → Reads mine names c e
reads_trans mine names c d e one two = record {
  files = λ f x no_file is. two.files f x no_file (one.files f x no_file is);
  names = λ n no_name. two.names n no_name ∙ one.names n no_name;
  stay = λ f x is. let y = one.stay f x is in two.stay f y.0 y.1;
}

pub frame_refl : (mine : ℕ → Type 0) (names : List ℕ → Type 0) (t : Told) → Frame mine names t t
frame_refl mine names Nothing = refl
frame_refl mine names (Tells c) = (c, refl, reads_refl mine names c)
frame_refl mine names (Records first es) = ([], refl, tt)

pub frame_call : (mine : ℕ → Type 0) (names : List ℕ → Type 0) (call : Call) (ok : Bool) (old new : Told) → ((f : ℕ) → file_of call ≡ Some f → mine f) → ((n : List ℕ) → Renames call n → names n) → TellsAfter call ok old new → Frame mine names old new
frame_call mine names call ok Nothing new file name t = t
frame_call mine names call ok (Tells c) new file name t = (t.0, t.1, by_one mine names call ok c t.0 file name t.2)
frame_call mine names call ok (Records first es) new file name t =
    ⊎_elim
    (λ (a : AddsCall call ok first es new).
    let touches : Touches mine names (content_after first es) (content_after first es) (event call ok a.0) = record { by_call = a.2; file = λ f e. inl (file f e); name = name } in
    (event call ok a.0 ∷ [], a.1, (tt, touches)))
    (λ (a : (ok ≡ false) × (AddsIdle first es new ⊎ AddsNone first es new)). ⊎_elim
    (λ (idle : AddsIdle first es new).
    let touches : Touches mine names (content_after first es) (content_after first es) (event Idle false (content_after first es)) = record { by_call = record { names = λ n. refl; files = λ f. refl }; file = λ f e. cc; name = λ n h. absurd h } in
    (event Idle false (content_after first es) ∷ [], idle.0, (tt, touches)))
    (λ (full : AddsNone first es new). ([], full.0, tt))
    a.1)
    t

-- what was there at the start is there
pub along_has : (mine : ℕ → Type 0) (names : List ℕ → Type 0) (first : Content) (es more : List Event) → Along mine names first es more → (f : ℕ) → Has (content_after first es) f → Has (content_after first (more ++ es)) f
along_has mine names first es [] a f has = has
along_has mine names first es (e ∷ more) a f has = has_after e.ok e.call (content_after first (more ++ es)) e.after a.1.by_call f (along_has mine names first es more a.0 f has)

not_there : (c d : Content) (f : ℕ) → (Has c f → Has d f) → (o : Option File) → c.files f ≡ o → d.files f ≡ None → c.files f ≡ None
not_there c d f stay None is gone = is
not_there c d f stay (Some x) is gone = absurd (let y = stay (x, is) in let wrong : Some y.0 ≡ None = sym y.1 ∙ gone in cc)

along_trans : (mine : ℕ → Type 0) (names : List ℕ → Type 0) (first : Content) (es one two : List Event) → Along mine names first es one → Along mine names first (one ++ es) two → Along mine names first es (two ++ one)
along_trans mine names first es one [] a b = a
along_trans mine names first es one (e ∷ two) a b =
    let same : two ++ (one ++ es) ≡ (two ++ one) ++ es = sym (append_assoc two one es) in
    let back : (f : ℕ) → (content_after first (one ++ es)).files f ≡ None → (content_after first es).files f ≡ None = λ f gone. not_there (content_after first es) (content_after first (one ++ es)) f (along_has mine names first es one a f) ((content_after first es).files f) refl gone in
    let touches : Touches mine names (content_after first es) (content_after first (two ++ (one ++ es))) e = record {
      by_call = b.1.by_call;
      file = λ f is. ⊎_elim (λ (m : mine f). inl m) (λ (gone : (content_after first (one ++ es)).files f ≡ None). inr (back f gone)) (b.1.file f is);
      name = b.1.name;
    } in
    (along_trans mine names first es one two a b.0, subst (λ l. Touches mine names (content_after first es) (content_after first l) e) same touches)

pub frame_trans : (mine : ℕ → Type 0) (names : List ℕ → Type 0) (old mid new : Told) → Frame mine names old mid → Frame mine names mid new → Frame mine names old new
frame_trans mine names Nothing mid new one two = subst (λ t. Frame mine names t new) one two
frame_trans mine names (Tells c) mid new one two =
    let next = subst (λ t. Frame mine names t new) one.1 two in
    (next.0, next.1, reads_trans mine names c one.0 next.0 one.2 next.2)
frame_trans mine names (Records first es) mid new one two =
    let next = subst (λ t. Frame mine names t new) one.1 two in
    (next.0 ++ one.0, next.1 ∙ ap (λ l. Records first l) (sym (append_assoc next.0 one.0 es)), along_trans mine names first es one.0 next.0 one.2 next.2)
