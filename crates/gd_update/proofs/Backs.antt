-- Room that is given back.
use Rattle.std.proofs.Common.{◌≡◌, ℕ, true, ◌+◌, ◌<◌, ◌≤◌, ◌^◌, inl, inr, List, [], ◌∷◌, refl, ap, subst, arith}
use Rattle.std.specs.Prelude.{nat_lt}
use Rattle.std.proofs.lemmas.Bool.{cases_lt}
use Rattle.std.proofs.lemmas.Bool.Decides.{nat_tests}
use Rattle.gd_format.specs.declared.Header.{Header}
use Rattle.gd_format.specs.declared.Extent.{Extent}
use Rattle.gd_format.specs.declared.Slot.{Slot}
use Rattle.gd_format.specs.declared.Slot.TheVariants.{Empty, Full}
use Rattle.gd_format.specs.Covers.{cover, size_sum}
use Rattle.gd_format.specs.FreeSide.{FreeLists, IsFreeSide, free_extents}
use Rattle.gd_format.specs.Sound.{extent}
use Rattle.gd_space.specs.Effect.{Given, CanBeGiven, give_growth}
use Rattle.gd_update.specs.Open.{slot_size, slot_extents, slot_growth, MayGoBack}
use Rattle.gd_update.specs.Writes.{GivenBack}

pub growth_small : (e : Extent) (h : Header) (table bucket : List Extent) → give_growth e h table bucket ≤ h.block
growth_small e h table bucket = grind (arith, nat_tests)

-- a record without a byte, or with more than an extent may have
pub growth_none : (gone : Slot) (h : Header) (table bucket : List Extent) → (0 < slot_size gone → 2 ^ 31 ≤ slot_size gone) → slot_growth gone h table bucket ≡ 0
growth_none Empty h table bucket large = refl
growth_none (Full hash start at k v) h table bucket large = grind (arith, nat_tests, large)

pub growth_some : (gone : Slot) (e : Extent) (h : Header) (table bucket : List Extent) → slot_extents gone ≡ e ∷ [] → e.size < 2 ^ 31 → slot_growth gone h table bucket ≡ give_growth e h table bucket
growth_some Empty e h table bucket is fits = absurd (let no : [] ≡ e ∷ [] = is in cc)
growth_some (Full hash start at k v) e h table bucket is fits =
    let same : extent at (k + v) ≡ e = cc in
    let size : k + v ≡ e.size = ap (λ (z : Extent). z.size) same in
    let small : nat_lt (k + v) (2 ^ 31) ≡ true = grind (arith, nat_tests) in
    rw small (ap (λ (z : Extent). give_growth z h table bucket) same)

given_if : (gone : Slot) (e : Extent) (next : ℕ) (free : List Extent) → slot_extents gone ≡ e ∷ [] → 0 < e.size → MayGoBack next free gone → CanBeGiven next free e
given_if Empty e next free is some may = absurd (let no : [] ≡ e ∷ [] = is in cc)
given_if (Full hash start at k v) e next free is some may =
    let same : extent at (k + v) ≡ e = cc in
    let size : k + v ≡ e.size = ap (λ (z : Extent). z.size) same in
    subst (λ (z : Extent). CanBeGiven next free z) same (may (omega (arith, size, some)))

pub given_back : (old new : List ℕ) (h h' : Header) (top top' : ℕ) (s s' : FreeLists) (gone : Slot) (e : Extent) → slot_extents gone ≡ e ∷ [] → 0 < e.size → MayGoBack h.next_block (free_extents s) gone → Given old new h h' top top' s s' e → GivenBack old new h h' top top' s s' gone
given_back old new h h' top top' s s' gone e is some may given = record {
  keeps = given.keeps;
  moves = rw is given.moves;
  side = given.side (given_if gone e h.next_block (free_extents s) is some may);
}

none_to_cover : (gone : Slot) (next : ℕ) (free : List Extent) → (0 < slot_size gone → 2 ^ 31 ≤ slot_size gone) → MayGoBack next free gone → (b : ℕ) → cover (slot_extents gone) b ≡ 0
none_to_cover Empty next free large may b = refl
none_to_cover (Full hash start at k v) next free large may b =
    elim (cases_lt 0 (k + v)) [
      | inl some ↦ let fits = (may some).fits in let l = large some in absurd (omega (arith, fits, l))
      | inr none ↦ grind (arith, nat_tests, none)
    ]

none_to_sum : (gone : Slot) (next : ℕ) (free : List Extent) → (0 < slot_size gone → 2 ^ 31 ≤ slot_size gone) → MayGoBack next free gone → size_sum (slot_extents gone) ≡ 0
none_to_sum Empty next free large may = refl
none_to_sum (Full hash start at k v) next free large may =
    elim (cases_lt 0 (k + v)) [
      | inl some ↦ let fits = (may some).fits in let l = large some in absurd (omega (arith, fits, l))
      | inr none ↦ omega (arith, none)
    ]

-- a record without a byte is nothing to give back
pub nothing_back : (old : List ℕ) (h : Header) (top : ℕ) (s : FreeLists) (gone : Slot) → (0 < slot_size gone → 2 ^ 31 ≤ slot_size gone) → MayGoBack h.next_block (free_extents s) gone → IsFreeSide old h top s → GivenBack old old h h top top s s gone
nothing_back old h top s gone large may side =
    let sum = none_to_sum gone h.next_block (free_extents s) large may in
    record {
      keeps = record { longer = omega arith; bytes = λ at n fits clear. refl };
      moves = record {
        grows = omega arith;
        bytes = λ b. (let z = none_to_cover gone h.next_block (free_extents s) large may b in omega (arith, z));
        least = omega (arith, sum);
        most = omega (arith, sum);
      };
      side = side;
    }
