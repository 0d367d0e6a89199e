-- Equal numbers by their test.
use Rattle.std.proofs.Common.{◌≡◌, ℕ, Bool, true, false, not, refl, sym, ◌∙◌}
use Rattle.std.specs.Prelude.{nat_eq}
use Rattle.std.specs.Cmp.{IsEquivalence}
use Rattle.std.proofs.lemmas.Bool.{eq-eqb, eqb-true, eqb-false, ne_eqb}

pub bool_cases : (b : Bool) {P : Type 0} → (b ≡ true → P) → (b ≡ false → P) → P
bool_cases true p q = p refl
bool_cases false p q = q refl

pub not_false_is : (b : Bool) → not b ≡ false → b ≡ true
not_false_is true h = refl
not_false_is false h = absurd cc

pub not_true_is : (b : Bool) → not b ≡ true → b ≡ false
not_true_is true h = absurd cc
not_true_is false h = refl

pub eqb-symm : (x y : ℕ) → nat_eq x y ≡ nat_eq y x
eqb-symm x y =
    bool_cases (nat_eq x y)
    (λ yes. yes ∙ sym (eq-eqb y x (sym (eqb-true x y yes))))
    (λ no. no ∙ sym (ne_eqb y x (λ e. eqb-false x y no (sym e))))

pub eqb-laws : IsEquivalence nat_eq
eqb-laws = record {
  refl = λ x. eq-eqb x x refl;
  symm = eqb-symm;
  congr = λ x y z e. let same = eqb-true x y e in rw same refl;
}
