-- What a crash may leave of one file and of one name, in closed words.
use Rattle.std.proofs.Common.{◌≡◌, ◌≢◌, inl, inr, ⊎_elim, ℕ, true, false, List, [], ◌∷◌, length, Option, Some, None, refl, sym, ap, subst, ◌∙◌, arith}
use Rattle.gd_vault.specs.declared.vaults.Mode.{Mode}
use Rattle.gd_vault.specs.Content.{File, Content}
use Rattle.gd_vault.specs.Events.{Call, Event, content_after}
use Rattle.gd_vault.specs.Events.Call.{Create, Write, Truncate, Clone_into, Set_mode, Sync, Sync_names, Replace, Remove, Idle}
use Rattle.gd_vault.specs.Effects.{file_of, Unfinished}
use Rattle.gd_vault.specs.History.{FileLeft, NameLeft, NoLonger, Renames}
use Rattle.gd_vault.specs.Lawful.{IsLawful}
use Rattle.gd_vault.specs.FrameLaws.{kept, named}
use Rattle.gd_vault.specs.Stay.{Has, has_after}
use Rattle.gd_vault.specs.Since.{Settles, Since, LeftQuiet, IsGentle, IsModeOf, length_of, LeftWritten, IsNameKept, IsNameSince, SameLeft}
use Rattle.gd_vault.specs.Since.SinceStep.{Settled, Passed, Met}
use Rattle.gd_vault.proofs.Left.{other_kept, names_synced}

one_of : (x y : File) (o : Option File) → o ≡ Some x → o ≡ Some y → y ≡ x
one_of x y o a b = let both : Some x ≡ Some y = sym a ∙ b in cc

not_none : (o : Option File) (x : File) → o ≡ Some x → o ≢ None
not_none o x is gone = let wrong : Some x ≡ None = sym is ∙ gone in cc

settled : (first : Content) (es : List Event) (e : Event) (f : ℕ) (x y : File) → Settles (content_after first es) e f x → FileLeft first (e ∷ es) f y → y ≡ x
settled first es e f x y s l = one_of x y (e.after.files f) s.now (⊎_elim
    (λ (none : (content_after first es).files f ≡ None). l.made none)
    (λ (h : (e.call ≡ Sync f) × (e.ok ≡ true)). l.synced h.0 h.1) s.how)

nothing_more : (e : Event) (es : List Event) → [] ≡ e ∷ es → ⊥
nothing_more e es is = cc

pub quiet : (first : Content) (es : List Event) (f : ℕ) (x : File) → IsLawful first es → Since first f x es [] → LeftQuiet first es f x
quiet first [] f x lawful s = record { reads = s.0; left = λ y l. one_of x y (first.files f) s.0 l }
quiet first (e ∷ es) f x lawful (Settled s none) = record { reads = s.now; left = λ y l. settled first es e f x y s l }
quiet first (e ∷ es) f x lawful (Passed p past) =
    let before = quiet first es f x lawful.0 past in
    record {
      reads = kept e.ok e.call (content_after first es) e.after lawful.1 f x p.other before.reads;
      left = λ y l. before.left y (other_kept first es e f y p.there p.other l);
    }
quiet first (e ∷ es) f x lawful (Met m rest is past) = absurd (nothing_more e rest is)

-- ---- writes and changes of the mode

none_left : (f : ℕ) (x : File) → LeftWritten f x [] x
none_left f x = record { stamp = refl; mode = refl; least = omega arith; most = omega arith; same = λ k lt spared. refl }

-- the same file behind one event more
one_more : (f : ℕ) (x y : File) (own : List Event) (e : Event) → LeftWritten f x own y → LeftWritten f x (e ∷ own) y
one_more f x y own e l = record {
  stamp = l.stamp;
  mode = inl l.mode;
  least = l.least;
  most = omega (arith, l.most);
  same = λ k lt spared. l.same k lt spared.1;
}

one_mode_more : (f : ℕ) (x y : File) (own : List Event) (e : Event) (g : ℕ) (mode : Mode) → e.call ≡ Set_mode g mode → LeftWritten f x own y → LeftWritten f x (e ∷ own) (record y { mode = mode })
one_mode_more f x y own e g mode is l = record {
  stamp = l.stamp;
  mode = inr (g, is);
  least = l.least;
  most = omega (arith, l.most);
  same = λ k lt spared. l.same k lt spared.1;
}

after_write : (f : ℕ) (x y z : File) (own : List Event) (e : Event) (g at : ℕ) (bytes : List ℕ) → e.call ≡ Write g at bytes → g ≡ f → LeftWritten f x own y
    → Unfinished (Write g at bytes) y z → NoLonger e f y z → Has e.after f → LeftWritten f x (e ∷ own) z
after_write f x y z own e g at bytes is mine l cut bound has = record {
  stamp = cut.2 ∙ l.stamp;
  mode = inl (subst (IsModeOf x.mode own) (sym cut.1) l.mode);
  least = let grows = cut.0.no_shorter in omega (arith, l.least, grows);
  most =
      let within = bound at bytes has.0 (is ∙ ap (λ (k : ℕ). Write k at bytes) mine) has.1 in
      let len : length_of (e.after.files f) ≡ length has.0.bytes = ap length_of has.1 in
      omega (arith, l.most, within, len);
  same = λ k lt spared. cut.0.same k (omega (arith, lt, l.least)) (spared.0 g at bytes is) ∙ l.same k lt spared.1;
}

some_is : (g f : ℕ) → Some g ≡ Some f → g ≡ f
some_is g f e = cc

one_call_more : (f : ℕ) (x y z : File) (own : List Event) (e : Event) (call : Call) → e.call ≡ call → file_of call ≡ Some f → IsGentle (e ∷ own) → LeftWritten f x own y
    → Unfinished call y z → NoLonger e f y z → Has e.after f → LeftWritten f x (e ∷ own) z
one_call_more f x y z own e (Create name mode) is mine gentle l cut bound has = absurd (let no : None ≡ Some f = mine in cc)
one_call_more f x y z own e (Write g at bytes) is mine gentle l cut bound has = after_write f x y z own e g at bytes is (some_is g f mine) l cut bound has
one_call_more f x y z own e (Truncate g) is mine gentle l cut bound has = absurd (gentle.0 g is)
one_call_more f x y z own e (Clone_into g src stamp) is mine gentle l cut bound has = absurd (gentle.1 g src stamp is)
one_call_more f x y z own e (Set_mode g mode) is mine gentle l cut bound has = ⊎_elim
    (λ (same : z ≡ y). subst (LeftWritten f x (e ∷ own)) (sym same) (one_more f x y own e l))
    (λ (set : z ≡ record y { mode = mode }). subst (LeftWritten f x (e ∷ own)) (sym set) (one_mode_more f x y own e g mode is l))
    cut
one_call_more f x y z own e (Sync g) is mine gentle l cut bound has = subst (LeftWritten f x (e ∷ own)) (sym cut) (one_more f x y own e l)
one_call_more f x y z own e Sync_names is mine gentle l cut bound has = absurd (let no : None ≡ Some f = mine in cc)
one_call_more f x y z own e (Replace from to) is mine gentle l cut bound has = absurd (let no : None ≡ Some f = mine in cc)
one_call_more f x y z own e (Remove name) is mine gentle l cut bound has = absurd (let no : None ≡ Some f = mine in cc)
one_call_more f x y z own e Idle is mine gentle l cut bound has = absurd (let no : None ≡ Some f = mine in cc)

has_some : (c : Content) (f : ℕ) (o : Option File) → c.files f ≡ o → o ≢ None → Has c f
has_some c f None is some = absurd (some refl)
has_some c f (Some x) is some = (x, is)

pub written : (first : Content) (es : List Event) (f : ℕ) (x : File) (own : List Event) → IsLawful first es → Since first f x es own → IsGentle own → (y : File) → FileLeft first es f y → LeftWritten f x own y
written first [] f x own lawful s gentle y l =
    let here : LeftWritten f x [] y = subst (LeftWritten f x []) (sym (one_of x y (first.files f) s.0 l)) (none_left f x) in
    subst (λ (o : List Event). LeftWritten f x o y) (sym s.1) here
written first (e ∷ es) f x own lawful (Settled s none) gentle y l =
    let here : LeftWritten f x [] y = subst (LeftWritten f x []) (sym (settled first es e f x y s l)) (none_left f x) in
    subst (λ (o : List Event). LeftWritten f x o y) (sym none) here
written first (e ∷ es) f x own lawful (Passed p past) gentle y l = written first es f x own lawful.0 past gentle y (other_kept first es e f y p.there p.other l)
written first (e ∷ es) f x own lawful (Met m rest is past) gentle y l =
    let all : IsGentle (e ∷ rest) = subst IsGentle is gentle in
    let step = l.step m.failed m.there in
    let before = written first es f x rest lawful.0 past all.2 step.0 step.1 in
    let has = has_after e.ok e.call (content_after first es) e.after lawful.1 f (has_some (content_after first es) f ((content_after first es).files f) refl m.there) in
    let here = one_call_more f x step.0 y rest e e.call refl m.own all before (step.2.own m.own) step.3 has in
    subst (λ (o : List Event). LeftWritten f x o y) (sym is) here

-- ---- names

pub name_quiet : (first : Content) (es : List Event) (n : List ℕ) (z : Option ℕ) → IsLawful first es → IsNameKept n es → NameLeft first es n z → z ≡ (content_after first es).names n
name_quiet first [] n z lawful k l = l
name_quiet first (e ∷ es) n z lawful k l = ⊎_elim
    (λ (s : (e.call ≡ Sync_names) × (e.ok ≡ true)). l.synced s.0 s.1)
    (λ (q : (Renames e.call n → ⊥) × IsNameKept n es). ⊎_elim
    (λ (s : (e.call ≡ Sync_names) × (e.ok ≡ true)). l.synced s.0 s.1)
    (λ (h : e.call ≡ Sync_names → e.ok ≡ false). ⊎_elim
    (λ (past : NameLeft first es n z). name_quiet first es n z lawful.0 q.1 past ∙ sym (named e.ok e.call (content_after first es) e.after lawful.1 n q.0))
    (λ (now : z ≡ e.after.names n). now)
    (l.step h))
    (names_synced e.call e.ok))
    k

pub name_since : (first : Content) (es : List Event) (n : List ℕ) (z : Option ℕ) → NameLeft first es n z → IsNameSince first n es z
name_since first [] n z l = l
name_since first (e ∷ es) n z l = ⊎_elim
    (λ (s : (e.call ≡ Sync_names) × (e.ok ≡ true)). inl (l.synced s.0 s.1))
    (λ (h : e.call ≡ Sync_names → e.ok ≡ false). ⊎_elim
    (λ (past : NameLeft first es n z). inr (h, name_since first es n z past))
    (λ (now : z ≡ e.after.names n). inl now)
    (l.step h))
    (names_synced e.call e.ok)

since_at_end : (first : Content) (n : List ℕ) (es : List Event) → IsNameSince first n es ((content_after first es).names n)
since_at_end first n [] = refl
since_at_end first n (e ∷ es) = inl refl

no_file : (e : Event) (f : ℕ) → e.call ≡ Idle → file_of e.call ≢ Some f
no_file e f is own = let wrong : None ≡ Some f = sym (ap file_of is) ∙ own in cc

not_renamed : (e : Event) (n : List ℕ) → e.call ≡ Idle → Renames e.call n → ⊥
not_renamed e n is h = subst (λ c. Renames c n) is h

pub idle : (first : Content) (es : List Event) (e : Event) → IsLawful first (e ∷ es) → e.call ≡ Idle → SameLeft first es e
idle first es e lawful is = record {
  files = λ f x there l. other_kept first es e f x there (no_file e f is) l;
  names = λ n z l. ⊎_elim
      (λ (now : z ≡ e.after.names n). subst (IsNameSince first n es) (sym (now ∙ named e.ok e.call (content_after first es) e.after lawful.1 n (not_renamed e n is))) (since_at_end first n es))
      (λ (past : (e.call ≡ Sync_names → e.ok ≡ false) × IsNameSince first n es z). past.1)
      (name_since first (e ∷ es) n z l);
}
