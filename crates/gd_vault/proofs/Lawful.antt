-- What a vault reads now, a crash may leave.
use Rattle.std.proofs.Common.{◌≡◌, ◌≢◌, ◌⊎◌, ◌≤◌, max, arith, inl, inr, ⊎_elim, ℕ, Bool, true, false, List, [], ◌∷◌, length, Option, Some, None, refl, sym, ap, subst, ◌∙◌}
use Rattle.std.proofs.Common.{Decides}
use Rattle.std.specs.Str.{bytes_eq}
use Rattle.std.proofs.lemmas.Slice.Eq.{bytes_eq-Decides}
use Rattle.std.proofs.lemmas.Bool.Decides.{not_from_Decides}
use Rattle.gd_vault.specs.Content.{File, Content}
use Rattle.gd_vault.specs.Events.{Call, Event, content_after}
use Rattle.gd_vault.specs.Effects.{Changes, Same, Does, Finished, Unfinished, Torn, written, file_of, empty_file, DoesOrMayDo}
use Rattle.gd_vault.specs.History.{FileLeft, LeftAfter, IsProper}
use Rattle.gd_vault.specs.Lawful.{IsLawful}
use Rattle.gd_vault.specs.Events.Call.{Create, Write, Truncate, Clone_into, Set_mode, Sync, Sync_names, Replace, Remove, Idle}
use Rattle.gd_vault.specs.Stay.{has_after}
use Rattle.gd_vault.specs.FrameLaws.{kept}
use Rattle.gd_vault.proofs.FrameLeft.{name_now}
use Rattle.gd_vault.proofs.Torn.{written_torn}

some_of : {A : Type 0} (o : Option A) → o ≢ None → (x : A) × (o ≡ Some x)
some_of None some = absurd (some refl)
some_of (Some x) some = (x, refl)

-- what has changed is as R says
by_change : (f g : ℕ) (R : File → File → Type 0) (c d : Content) (x y : File) → Changes f R c d → Some f ≡ Some g → c.files g ≡ Some x → d.files g ≡ Some y → R x y
by_change f g R c d x y h e is now =
    let same : f ≡ g = cc in
    let z = h.file x (subst (λ k. c.files k ≡ Some x) (sym same) is) in
    let there : d.files g ≡ Some z.0 = subst (λ k. d.files k ≡ Some z.0) same z.1 in
    let one : z.0 ≡ y = cc in
    subst (R x) one z.2

torn_by_write : (at : ℕ) (bytes : List ℕ) (x y : File) → y ≡ record x { bytes = written x.bytes at bytes } → Torn at (length bytes) x.bytes y.bytes × (y.mode ≡ x.mode) × (y.stamp ≡ x.stamp)
torn_by_write at bytes x y e = (subst (Torn at (length bytes) x.bytes) (sym (ap (λ (z : File). z.bytes) e)) (written_torn x.bytes at bytes), ap (λ (z : File). z.mode) e, ap (λ (z : File). z.stamp) e)

stays : (c d : Content) (f : ℕ) (x y : File) → d.files f ≡ c.files f → c.files f ≡ Some x → d.files f ≡ Some y → y ≡ x
stays c d f x y same is now = cc

pub unfinished : (ok : Bool) (call : Call) (c d : Content) → DoesOrMayDo ok call c d → (f : ℕ) (x y : File) → file_of call ≡ Some f → c.files f ≡ Some x → d.files f ≡ Some y → Unfinished call x y
unfinished ok (Create name mode) c d h f x y e is now = cc
unfinished true (Write g at bytes) c d h f x y e is now = torn_by_write at bytes x y (by_change g f (Finished c (Write g at bytes)) c d x y h e is now)
unfinished false (Write g at bytes) c d h f x y e is now = by_change g f (Unfinished (Write g at bytes)) c d x y h e is now
unfinished true (Truncate g) c d h f x y e is now = let k : y ≡ record x { bytes = [] } = by_change g f (Finished c (Truncate g)) c d x y h e is now in (ap (λ (z : File). z.mode) k, ap (λ (z : File). z.stamp) k)
unfinished false (Truncate g) c d h f x y e is now = by_change g f (Unfinished (Truncate g)) c d x y h e is now
unfinished true (Clone_into g src stamp) c d h f x y e is now = ap (λ (z : File). z.mode) (by_change g f (Finished c (Clone_into g src stamp)) c d x y h e is now).2
unfinished false (Clone_into g src stamp) c d h f x y e is now = by_change g f (Unfinished (Clone_into g src stamp)) c d x y h e is now
unfinished true (Set_mode g mode) c d h f x y e is now = inr (by_change g f (Finished c (Set_mode g mode)) c d x y h e is now)
unfinished false (Set_mode g mode) c d h f x y e is now = by_change g f (Unfinished (Set_mode g mode)) c d x y h e is now
unfinished true (Sync g) c d h f x y e is now = stays c d f x y (h.files f) is now
unfinished false (Sync g) c d h f x y e is now = stays c d f x y (h.files f) is now
unfinished ok Sync_names c d h f x y e is now = cc
unfinished ok (Replace from to) c d h f x y e is now = cc
unfinished ok (Remove name) c d h f x y e is now = cc
unfinished ok Idle c d h f x y e is now = cc

no_longer : (d : Content) (f : ℕ) (x y now : File) → d.files f ≡ Some x → d.files f ≡ Some now → length x.bytes ≤ max (length y.bytes) (length now.bytes)
no_longer d f x y now is there =
    let same : x ≡ now = cc in
    let long : length x.bytes ≡ length now.bytes = ap (λ (z : File). length z.bytes) same in
    omega (arith, long)

-- what the file reads now
pub file_now : (first : Content) (es : List Event) → IsLawful first es → (f : ℕ) (x : File) → (content_after first es).files f ≡ Some x → FileLeft first es f x
file_now first [] lawful f x is = is
file_now first (e ∷ es) lawful f x is = record {
  synced = λ _ _. is;
  made = λ _. is;
  step = λ _ exists.
      let y = some_of ((content_after first es).files f) exists in (
        y.0,
        file_now first es lawful.0 f y.0 y.1,
        record {
          own = λ own. unfinished e.ok e.call (content_after first es) e.after lawful.1 f y.0 x own y.1 is;
          other = λ other. (let before : e.after.files f ≡ Some y.0 = kept e.ok e.call (content_after first es) e.after lawful.1 f y.0 other y.1 in cc);
        },
        λ at bytes now by_write there. no_longer e.after f x y.0 now is there,
      );
}

decided : (n m : List ℕ) (b : Bool) → Decides b (n ≡ m) → (n ≡ m) ⊎ (n ≢ m)
decided n m true h = inl (h.0 refl)
decided n m false h = inr (not_from_Decides false h refl)

pub same_name : (n m : List ℕ) → (n ≡ m) ⊎ (n ≢ m)
same_name n m = decided n m (bytes_eq n m) (bytes_eq-Decides n m)

some_one : (o : Option ℕ) (id id' : ℕ) → o ≡ Some id → o ≡ Some id' → id ≡ id'
some_one o id id' e f = cc

there : (d : Content) (id : ℕ) (y : File) → d.files id ≡ Some y → d.files id ≢ None
there d id y is gone = (let wrong : Some y ≡ None = sym is ∙ gone in cc)

-- a file that was there is there
pub stays_there : (ok : Bool) (call : Call) (c d : Content) → DoesOrMayDo ok call c d → (id : ℕ) → c.files id ≢ None → d.files id ≢ None
stays_there ok call c d h id was = let x = some_of (c.files id) was in let y = has_after ok call c d h id x in there d id y.0 y.1

proper_does : (call : Call) (c d : Content) → Does call c d → IsProper c → IsProper d
proper_does (Create name mode) c d h p n id is =
    ⊎_elim
    (λ (e : n ≡ name).
    let same : id ≡ h.0 = some_one (d.names n) id h.0 is (subst (λ k. d.names k ≡ Some h.0) (sym e) h.2.here) in
    subst (λ k. d.files k ≢ None) (sym same) (there d h.0 (empty_file mode) h.1.empty))
    (λ (e : n ≢ name). stays_there true (Create name mode) c d h id (p n id (sym (h.2.others n e) ∙ is)))
    (same_name n name)
proper_does (Write f at bytes) c d h p n id is = stays_there true (Write f at bytes) c d h id (p n id (sym (h.names n) ∙ is))
proper_does (Truncate f) c d h p n id is = stays_there true (Truncate f) c d h id (p n id (sym (h.names n) ∙ is))
proper_does (Clone_into f src stamp) c d h p n id is = stays_there true (Clone_into f src stamp) c d h id (p n id (sym (h.names n) ∙ is))
proper_does (Set_mode f mode) c d h p n id is = stays_there true (Set_mode f mode) c d h id (p n id (sym (h.names n) ∙ is))
proper_does (Sync f) c d h p n id is = stays_there true (Sync f) c d h id (p n id (sym (h.names n) ∙ is))
proper_does Sync_names c d h p n id is = stays_there true Sync_names c d h id (p n id (sym (h.names n) ∙ is))
proper_does Idle c d h p n id is = stays_there true Idle c d h id (p n id (sym (h.names n) ∙ is))
proper_does (Replace from to) c d h p n id is =
    let kept = stays_there true (Replace from to) c d h id in
    ⊎_elim
    (λ (e : n ≡ to). kept (p from id (sym h.1.there ∙ subst (λ k. d.names k ≡ Some id) e is)))
    (λ (e : n ≢ to). ⊎_elim
    (λ (f : n ≡ from).
    let ne : from ≢ to = λ q. e (f ∙ q) in
    absurd (let gone : d.names n ≡ None = subst (λ k. d.names k ≡ None) (sym f) (h.1.gone ne) in let wrong : Some id ≡ None = sym is ∙ gone in cc))
    (λ (f : n ≢ from). kept (p n id (sym (h.1.others n f e) ∙ is)))
    (same_name n from))
    (same_name n to)
proper_does (Remove name) c d h p n id is =
    ⊎_elim
    (λ (e : n ≡ name). absurd (let gone : d.names n ≡ None = subst (λ k. d.names k ≡ None) (sym e) h.1.here in let wrong : Some id ≡ None = sym is ∙ gone in cc))
    (λ (e : n ≢ name). stays_there true (Remove name) c d h id (p n id (sym (h.1.others n e) ∙ is)))
    (same_name n name)

proper_same : (c d : Content) → Same c d → IsProper c → IsProper d
proper_same c d h p n id is gone = p n id (sym (h.names n) ∙ is) (sym (h.files id) ∙ gone)

pub proper_after : (ok : Bool) (call : Call) (c d : Content) → DoesOrMayDo ok call c d → IsProper c → IsProper d
proper_after true call c d h p = proper_does call c d h p
proper_after false (Create name mode) c d h p = ⊎_elim (λ (s : Same c d). proper_same c d s p) (λ (s : Does (Create name mode) c d). proper_does (Create name mode) c d s p) h
proper_after false (Write f at bytes) c d h p = λ n id is. stays_there false (Write f at bytes) c d h id (p n id (sym (h.names n) ∙ is))
proper_after false (Truncate f) c d h p = λ n id is. stays_there false (Truncate f) c d h id (p n id (sym (h.names n) ∙ is))
proper_after false (Clone_into f src stamp) c d h p = λ n id is. stays_there false (Clone_into f src stamp) c d h id (p n id (sym (h.names n) ∙ is))
proper_after false (Set_mode f mode) c d h p = λ n id is. stays_there false (Set_mode f mode) c d h id (p n id (sym (h.names n) ∙ is))
proper_after false (Sync f) c d h p = proper_same c d h p
proper_after false Sync_names c d h p = proper_same c d h p
proper_after false Idle c d h p = proper_same c d h p
proper_after false (Replace from to) c d h p = ⊎_elim (λ (s : Same c d). proper_same c d s p) (λ (s : Does (Replace from to) c d). proper_does (Replace from to) c d s p) h
proper_after false (Remove name) c d h p = ⊎_elim (λ (s : Same c d). proper_same c d s p) (λ (s : Does (Remove name) c d). proper_does (Remove name) c d s p) h

pub proper : (first : Content) (es : List Event) → IsLawful first es → IsProper (content_after first es)
proper first [] lawful = lawful
proper first (e ∷ es) lawful = proper_after e.ok e.call (content_after first es) e.after lawful.1 (proper first es lawful.0)

-- what the vault reads now is an image of the present moment
pub content_left : (first : Content) (es : List Event) → IsLawful first es → LeftAfter first es (content_after first es)
content_left first es lawful = record { proper = proper first es lawful; files = λ f x is. file_now first es lawful f x is; names = λ n. name_now first es n }
