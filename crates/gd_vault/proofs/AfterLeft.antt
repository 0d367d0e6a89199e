-- Inside a call a crash may leave what the call makes.
use Rattle.std.proofs.Common.{◌≡◌, ◌≢◌, ◌⊎◌, inl, inr, ⊎_elim, ℕ, ◌+◌, Bool, true, false, List, ◌∷◌, Option, Some, None, refl, sym, subst, ◌∙◌, eqb, arith}
use Rattle.std.proofs.lemmas.Bool.Decides.{eqb_tells}
use Rattle.gd_vault.specs.declared.vaults.Mode.{Mode}
use Rattle.gd_vault.specs.Content.{File, Content}
use Rattle.gd_vault.specs.Events.{Call, Event, content_after, moment_after}
use Rattle.gd_vault.specs.Events.Call.{Create, Write, Truncate, Clone_into, Set_mode, Sync, Sync_names, Replace, Remove, Idle}
use Rattle.gd_vault.specs.Effects.{Changes, Makes, Same, Does, DoesOrMayDo, empty_file}
use Rattle.gd_vault.specs.History.{LeftInside, MayMake, MayName, NameLeft, left}
use Rattle.gd_vault.specs.Lawful.{IsLawful}
use Rattle.gd_vault.specs.Laws.{HasItsFile}
use Rattle.gd_vault.specs.FrameLaws.{kept}
use Rattle.gd_vault.proofs.FrameLeft.{name_now}
use Rattle.gd_vault.proofs.Lawful.{file_now, proper, same_name, unfinished}

some_of : {A : Type 0} (o : Option A) → o ≢ None → (x : A) × (o ≡ Some x)
some_of None some = absurd (some refl)
some_of (Some x) some = (x, refl)

-- ---- a file that was not there

kept_absent : (c d : Content) (f : ℕ) (x : File) → d.files f ≡ c.files f → c.files f ≡ None → d.files f ≡ Some x → ⊥
kept_absent c d f x same gone is = (let wrong : None ≡ Some x = sym gone ∙ (sym same ∙ is) in cc)

absent : (g : ℕ) (R : File → File → Type 0) (c d : Content) → Changes g R c d → (c.files g ≢ None) → (f : ℕ) (x : File) → c.files f ≡ None → d.files f ≡ Some x → ⊥
absent g R c d h there f x gone is =
    ⊎_elim
    (λ (e : (eqb f g ≡ true) × (f ≡ g)). there (subst (λ k. c.files k ≡ None) e.1 gone))
    (λ (e : (eqb f g ≡ false) × (f ≢ g)). kept_absent c d f x (h.others f e.1) gone is)
    (eqb_tells f g)

made : (id : ℕ) (mode : Mode) (c d : Content) → Makes id mode c d → (f : ℕ) (x : File) → c.files f ≡ None → d.files f ≡ Some x → x ≡ empty_file mode
made id mode c d h f x gone is =
    ⊎_elim
    (λ (e : (eqb f id ≡ true) × (f ≡ id)). let new : d.files f ≡ Some (empty_file mode) = subst (λ k. d.files k ≡ Some (empty_file mode)) (sym e.1) h.empty in cc)
    (λ (e : (eqb f id ≡ false) × (f ≢ id)). absurd (kept_absent c d f x (h.others f e.1) gone is))
    (eqb_tells f id)

made_does : (call : Call) (c d : Content) → Does call c d → HasItsFile c call → (f : ℕ) (x : File) → c.files f ≡ None → d.files f ≡ Some x → MayMake call x
made_does (Create name mode) c d h its f x gone is = made h.0 mode c d h.1 f x gone is
made_does (Write g at bytes) c d h its f x gone is = absent g _ c d h (its g refl) f x gone is
made_does (Truncate g) c d h its f x gone is = absent g _ c d h (its g refl) f x gone is
made_does (Clone_into g src stamp) c d h its f x gone is = absent g _ c d h (its g refl) f x gone is
made_does (Set_mode g mode) c d h its f x gone is = absent g _ c d h (its g refl) f x gone is
made_does (Sync g) c d h its f x gone is = kept_absent c d f x (h.files f) gone is
made_does Sync_names c d h its f x gone is = kept_absent c d f x (h.files f) gone is
made_does (Replace from to) c d h its f x gone is = kept_absent c d f x (h.0.files f) gone is
made_does (Remove name) c d h its f x gone is = kept_absent c d f x (h.0.files f) gone is
made_does Idle c d h its f x gone is = kept_absent c d f x (h.files f) gone is

made_after : (ok : Bool) (call : Call) (c d : Content) → DoesOrMayDo ok call c d → HasItsFile c call → (f : ℕ) (x : File) → c.files f ≡ None → d.files f ≡ Some x → MayMake call x
made_after true call c d h its f x gone is = made_does call c d h its f x gone is
made_after false (Create name mode) c d h its f x gone is = ⊎_elim (λ (s : Same c d). absurd (kept_absent c d f x (s.files f) gone is)) (λ (s : Does (Create name mode) c d). made_does (Create name mode) c d s its f x gone is) h
made_after false (Write g at bytes) c d h its f x gone is = absent g _ c d h (its g refl) f x gone is
made_after false (Truncate g) c d h its f x gone is = absent g _ c d h (its g refl) f x gone is
made_after false (Clone_into g src stamp) c d h its f x gone is = absent g _ c d h (its g refl) f x gone is
made_after false (Set_mode g mode) c d h its f x gone is = absent g _ c d h (its g refl) f x gone is
made_after false (Sync g) c d h its f x gone is = kept_absent c d f x (h.files f) gone is
made_after false Sync_names c d h its f x gone is = kept_absent c d f x (h.files f) gone is
made_after false (Replace from to) c d h its f x gone is = ⊎_elim (λ (s : Same c d). kept_absent c d f x (s.files f) gone is) (λ (s : Does (Replace from to) c d). made_does (Replace from to) c d s its f x gone is) h
made_after false (Remove name) c d h its f x gone is = ⊎_elim (λ (s : Same c d). kept_absent c d f x (s.files f) gone is) (λ (s : Does (Remove name) c d). made_does (Remove name) c d s its f x gone is) h
made_after false Idle c d h its f x gone is = kept_absent c d f x (h.files f) gone is

-- ---- the names

named_does : (call : Call) (c d : Content) → Does call c d → (n : List ℕ) → (d.names n ≡ c.names n) ⊎ MayName c call n (d.names n)
named_does (Create name mode) c d h n =
    ⊎_elim
    (λ (e : n ≡ name). inr (e, (h.0, h.1.new, subst (λ k. d.names k ≡ Some h.0) (sym e) h.2.here)))
    (λ (e : n ≢ name). inl (h.2.others n e))
    (same_name n name)
named_does (Write g at bytes) c d h n = inl (h.names n)
named_does (Truncate g) c d h n = inl (h.names n)
named_does (Clone_into g src stamp) c d h n = inl (h.names n)
named_does (Set_mode g mode) c d h n = inl (h.names n)
named_does (Sync g) c d h n = inl (h.names n)
named_does Sync_names c d h n = inl (h.names n)
named_does Idle c d h n = inl (h.names n)
named_does (Replace from to) c d h n =
    ⊎_elim
    (λ (e : n ≡ to). inr (inl (e, subst (λ k. d.names k ≡ c.names from) (sym e) h.1.there)))
    (λ (e : n ≢ to). ⊎_elim
    (λ (f : n ≡ from). let ne : from ≢ to = λ q. e (f ∙ q) in inr (inr (f, ne, subst (λ k. d.names k ≡ None) (sym f) (h.1.gone ne))))
    (λ (f : n ≢ from). inl (h.1.others n f e))
    (same_name n from))
    (same_name n to)
named_does (Remove name) c d h n =
    ⊎_elim
    (λ (e : n ≡ name). inr (e, subst (λ k. d.names k ≡ None) (sym e) h.1.here))
    (λ (e : n ≢ name). inl (h.1.others n e))
    (same_name n name)

named_after : (ok : Bool) (call : Call) (c d : Content) → DoesOrMayDo ok call c d → (n : List ℕ) → (d.names n ≡ c.names n) ⊎ MayName c call n (d.names n)
named_after true call c d h n = named_does call c d h n
named_after false (Create name mode) c d h n = ⊎_elim (λ (s : Same c d). inl (s.names n)) (λ (s : Does (Create name mode) c d). named_does (Create name mode) c d s n) h
named_after false (Write g at bytes) c d h n = inl (h.names n)
named_after false (Truncate g) c d h n = inl (h.names n)
named_after false (Clone_into g src stamp) c d h n = inl (h.names n)
named_after false (Set_mode g mode) c d h n = inl (h.names n)
named_after false (Sync g) c d h n = inl (h.names n)
named_after false Sync_names c d h n = inl (h.names n)
named_after false (Replace from to) c d h n = ⊎_elim (λ (s : Same c d). inl (s.names n)) (λ (s : Does (Replace from to) c d). named_does (Replace from to) c d s n) h
named_after false (Remove name) c d h n = ⊎_elim (λ (s : Same c d). inl (s.names n)) (λ (s : Does (Remove name) c d). named_does (Remove name) c d s n) h
named_after false Idle c d h n = inl (h.names n)

-- ---- the whole

after_inside : (first : Content) (es : List Event) (e : Event) → IsLawful first (e ∷ es) → HasItsFile (content_after first es) e.call → LeftInside first es e.call e.after
after_inside first es e lawful its = record {
  proper = proper first (e ∷ es) lawful;
  files = λ f x is. record {
    made = λ gone. made_after e.ok e.call (content_after first es) e.after lawful.1 its f x gone is;
    step = λ there.
        let y = some_of ((content_after first es).files f) there in (
          y.0,
          file_now first es lawful.0 f y.0 y.1,
          record {
            own = λ own. unfinished e.ok e.call (content_after first es) e.after lawful.1 f y.0 x own y.1 is;
            other = λ other. (let before : e.after.files f ≡ Some y.0 = kept e.ok e.call (content_after first es) e.after lawful.1 f y.0 other y.1 in cc);
          },
        );
  };
  names = λ n. ⊎_elim
      (λ (s : e.after.names n ≡ (content_after first es).names n). inl (subst (NameLeft first es n) (sym s) (name_now first es n)))
      (λ (m : MayName (content_after first es) e.call n (e.after.names n)). inr m)
      (named_after e.ok e.call (content_after first es) e.after lawful.1 n);
}

pub after_left : (first : Content) (es : List Event) (e : Event) → IsLawful first (e ∷ es) → HasItsFile (content_after first es) e.call → left first (e ∷ es) (moment_after es + 1) e.after
after_left first es e lawful its = record {
  earlier = λ early. absurd (omega (arith, early));
  inside = λ _. after_inside first es e lawful its;
  after = λ is. absurd (omega (arith, is));
}
