-- At each moment what the vault was is left.
use Rattle.std.proofs.Common.{◌≡◌, inl, ⊎_elim, ℕ, ◌+◌, ◌<◌, ◌≤◌, true, false, cond, leb, List, [], ◌∷◌, Some, None, refl, sym, ap, subst, ◌∙◌, arith}
use Rattle.std.proofs.lemmas.Bool.Decides.{leb_tells}
use Rattle.gd_vault.specs.Content.{File, Content}
use Rattle.gd_vault.specs.Events.{Call, Event, content_after, moment_after}
use Rattle.gd_vault.specs.Effects.{Unfinished}
use Rattle.gd_vault.specs.History.{was, left, LeftInside}
use Rattle.gd_vault.specs.Lawful.{IsLawful}
use Rattle.gd_vault.specs.Events.Call.{Create, Write, Truncate, Clone_into, Set_mode, Sync, Sync_names, Replace, Remove, Idle}
use Rattle.gd_vault.proofs.Lawful.{file_now, content_left, proper}
use Rattle.gd_vault.proofs.FrameLeft.{name_now}

-- a call that is cut short may have done nothing
pub unfinished_same : (call : Call) (x : File) → Unfinished call x x
unfinished_same (Create name mode) x = refl
unfinished_same (Write f at bytes) x = (record { same = λ k lt h. refl; no_shorter = omega arith; no_longer = omega arith }, refl, refl)
unfinished_same (Truncate f) x = (refl, refl)
unfinished_same (Clone_into f src stamp) x = refl
unfinished_same (Set_mode f mode) x = inl refl
unfinished_same (Sync f) x = refl
unfinished_same Sync_names x = refl
unfinished_same (Replace from to) x = refl
unfinished_same (Remove name) x = refl
unfinished_same Idle x = refl

pub content_inside : (first : Content) (es : List Event) (call : Call) → IsLawful first es → LeftInside first es call (content_after first es)
content_inside first es call lawful = record {
  proper = proper first es lawful;
  files = λ f x is. record {
    made = λ gone. absurd (let wrong : Some x ≡ None = sym is ∙ gone in cc);
    step = λ _. (x, file_now first es lawful f x is, record { own = λ _. unfinished_same call x; other = λ _. refl });
  };
  names = λ n. inl (name_now first es n);
}

pub was_now : (first : Content) (es : List Event) → was first es (moment_after es) ≡ content_after first es
was_now first [] = refl
was_now first (e ∷ es) =
    let test : leb (moment_after (e ∷ es)) (moment_after es + 1) ≡ false = ⊎_elim (λ (h : (leb (moment_after (e ∷ es)) (moment_after es + 1) ≡ true) × (moment_after (e ∷ es) ≤ moment_after es + 1)). absurd (omega (arith, h.1))) (λ (h : (leb (moment_after (e ∷ es)) (moment_after es + 1) ≡ false) × (moment_after es + 1 < moment_after (e ∷ es))). h.0) (leb_tells (moment_after (e ∷ es)) (moment_after es + 1)) in
    ap (λ b. cond b (was first es (moment_after (e ∷ es))) e.after) test

-- before a moment the past does not tell the end
was_end : (first : Content) (es : List Event) (t : ℕ) → moment_after es ≤ t → was first es t ≡ content_after first es
was_end first [] t le = refl
was_end first (e ∷ es) t le =
    let test : leb t (moment_after es + 1) ≡ false = ⊎_elim (λ (h : (leb t (moment_after es + 1) ≡ true) × (t ≤ moment_after es + 1)). absurd (omega (arith, h.1))) (λ (h : (leb t (moment_after es + 1) ≡ false) × (moment_after es + 1 < t)). h.0) (leb_tells t (moment_after es + 1)) in
    ap (λ b. cond b (was first es t) e.after) test

pub was_left : (first : Content) (es : List Event) → IsLawful first es → (t : ℕ) → t ≤ moment_after es → left first es t (was first es t)
was_left first [] lawful t le = content_left first [] lawful
was_left first (e ∷ es) lawful t le =
    ⊎_elim
    (λ (h : (leb t (moment_after es + 1) ≡ true) × (t ≤ moment_after es + 1)).
    let here : was first (e ∷ es) t ≡ was first es t = ap (λ b. cond b (was first es t) e.after) h.0 in
    subst (λ c. left first (e ∷ es) t c) (sym here) (record {
      earlier = λ early. was_left first es lawful.0 t early;
      inside = λ is. subst (LeftInside first es e.call) (sym (was_end first es t (omega (arith, is)))) (content_inside first es e.call lawful.0);
      after = λ is. absurd (omega (arith, is, h.1));
    }))
    (λ (h : (leb t (moment_after es + 1) ≡ false) × (moment_after es + 1 < t)).
    let here : was first (e ∷ es) t ≡ e.after = ap (λ b. cond b (was first es t) e.after) h.0 in
    subst (λ c. left first (e ∷ es) t c) (sym here) (record {
      earlier = λ early. absurd (omega (arith, early, h.1));
      inside = λ is. absurd (omega (arith, is, h.1));
      after = λ is. content_left first (e ∷ es) lawful;
    }))
    (leb_tells t (moment_after es + 1))
