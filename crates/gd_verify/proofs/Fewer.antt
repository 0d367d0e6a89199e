-- A list of extents that leaves some out, since two of those that it has meet.
use Rattle.std.proofs.Common.{◌≡◌, ℕ, ◌+◌, Bool, true, false, ◌&&◌, leb, List, [], ◌∷◌, ◌++◌, Option, Some, None, is_none, refl, sym, ap, subst, ◌∙◌, append_assoc}
use Rattle.std.specs.Prelude.{Result, Ok, Err, IfOk, IfSome}
use Rattle.gd_readable.specs.declared.reading.Stopped.{Stopped}
use Rattle.gd_base.specs.declared.errors.DbError.{DbError}
use Rattle.gd_base.specs.declared.errors.DbError.TheVariants.{BadAvail}
use Rattle.gd_format.specs.declared.Held.{Held}
use Rattle.gd_format.specs.First.{or_else, unless}
use Rattle.gd_format.specs.Sound.{meets_none, meet_fault}
use Rattle.gd_verify.specs.Apart.{AreApart, MeetsAlike, StandsFor, end_of}
use Rattle.gd_verify.proofs.Meets.{some_meet}

or_front : (b : Bool) (e : DbError) (o p : Option DbError) → (is_none o ≡ false → p ≡ o) → is_none (or_else (unless b e) o) ≡ false → or_else (unless b e) p ≡ or_else (unless b e) o
or_front true e o p f h = f h
or_front false e o p f h = refl

module _ (next : ℕ) where
  -- what stands behind a refusal
  front : (before ks ys : List Held) → is_none (meet_fault next before ks) ≡ false → meet_fault next before (ks ++ ys) ≡ meet_fault next before ks
  front before [] ys h = absurd cc
  front before (k ∷ ks) ys h =
      or_front (leb (end_of k) next && meets_none k.extent before) (BadAvail k.by) (meet_fault next (before ++ k ∷ []) ks) (meet_fault next (before ++ k ∷ []) (ks ++ ys))
      (λ some. front (before ++ k ∷ []) ks ys some) h

apart_back : (xs ys : List Held) → AreApart (xs ++ ys) → AreApart ys
apart_back [] ys h = h
apart_back (x ∷ xs) ys h = apart_back xs ys h.1

regroup : (b x m a : List Held) → (b ++ (x ++ m)) ++ a ≡ (b ++ x) ++ (m ++ a)
regroup b x m a = ap (λ (xs : List Held). xs ++ a) (sym (append_assoc b x m)) ∙ append_assoc (b ++ x) m a

at_front : (next : ℕ) (before listed after : List Held) → ¬ AreApart listed → meet_fault next [] ((before ++ listed) ++ after) ≡ meet_fault next [] (before ++ listed)
at_front next before listed after meet = front next [] (before ++ listed) after (some_meet next (before ++ listed) (λ apart. meet (apart_back before listed apart)))

pub alike_self : (xs : List Held) → MeetsAlike xs xs
alike_self xs = record { same = λ next before after. refl }

alike_push : (all listed more : List Held) → MeetsAlike all listed → MeetsAlike (all ++ more) (listed ++ more)
alike_push all listed more h = record {
  same = λ next before after.
      ap (meet_fault next []) (regroup before listed more after)
      ∙ h.same next before (more ++ after)
      ∙ ap (meet_fault next []) (sym (regroup before all more after));
}

alike_stays : (all listed more : List Held) → MeetsAlike all listed → ¬ AreApart listed → MeetsAlike (all ++ more) listed
alike_stays all listed more h meet = record {
  same = λ next before after.
      at_front next before listed after meet
      ∙ sym (at_front next before listed (more ++ after) meet)
      ∙ h.same next before (more ++ after)
      ∙ ap (meet_fault next []) (sym (regroup before all more after));
}

-- more is listed
pub stands_on : (all old new seen more : List Held) (was enough : Bool) → was ≡ false → StandsFor all old was → new ≡ old ++ more → seen ≡ new → (enough ≡ true → ¬ AreApart seen) → StandsFor (all ++ more) new enough
stands_on all old new seen more was enough off h is same meet = record {
  alike = subst (λ (xs : List Held). MeetsAlike (all ++ more) xs) (sym is) (alike_push all old more h.alike);
  meet = λ on apart. meet on (subst AreApart (sym same) apart);
}

-- or enough is listed
pub stands_still : (all old more : List Held) (enough : Bool) → enough ≡ true → StandsFor all old enough → StandsFor (all ++ more) old enough
stands_still all old more enough on h = record { alike = alike_stays all old more h.alike (h.meet on); meet = h.meet }

pub stands_first : (list : List Held) → StandsFor list list false
stands_first list = record { alike = alike_self list; meet = λ e. absurd cc }

-- ---- what is said of an option

pub ok_some_all : (r : Result (Option ℕ) Stopped) {P : Type 0} → P → IfOk r (λ o. IfSome o (λ n. P))
ok_some_all (Err e) h = tt
ok_some_all (Ok None) h = tt
ok_some_all (Ok (Some n)) h = h

pub some_map : (r : Option ℕ) {P Q : ℕ → Type 0} → ((n : ℕ) → P n → Q n) → IfSome r P → IfSome r Q
some_map None f h = tt
some_map (Some n) f h = f n h
