-- The pairs of a binary dump, one after another.
use Rattle.std.proofs.Common.{◌≡◌, ◌∙◌, ap, ap₂, sym, refl, inl, inr, ℕ, zero, suc, ◌+◌, ◌^◌, ◌<◌, ◌≤◌, List, [], ◌∷◌, ◌++◌, length, take, drop, arith, cond, append-nil}
use Rattle.std.proofs.lemmas.List.{length-append, length-drop, take-append-le, drop-append-le}
use Rattle.std.proofs.lemmas.Bool.{cases_lt, cond-true, cond-false, le-ltb, lt-ltb}
use Rattle.std.specs.Prelude.{nat_lt}
use Rattle.std.specs.Int.{w32, from_be_bytes}
use Rattle.gd_dump_reading.specs.BinaryDemand.{DemandIs, HasKey, HasSizes, MaySize, needed}
use Rattle.gd_dump_reading.specs.BinaryItems.{keyed_pair_told, number_at, pair_told, pairs_told, sized_pair_told, some_pairs_told}
use Rattle.gd_dump_reading.specs.Told.{Told, given, nothing, refused}
use Rattle.gd_dump_reading.specs.declared.items.DumpKind.TheVariants.{TooLarge, Truncated}
use Rattle.gd_dump_reading.specs.declared.items.Item.TheVariants.{End, Pair}
use Rattle.gd_dump_reading.specs.BinaryLeft.{left_in}
use Rattle.gd_dump_reading.specs.declared.binary_machine.Demand.TheVariants as demands
use Rattle.gd_dump_reading.specs.declared.binary_machine.Phase.{Phase}
use Rattle.gd_dump_reading.specs.declared.binary_machine.Phase.TheVariants.{Pairs}

-- ---- what follows a pair is told by any function that agrees on fewer bytes

size_of : List ℕ → ℕ
size_of bytes = 8 + number_at bytes + number_at (drop (4 + number_at bytes) bytes)

pair-next : (next other : ℕ → List ℕ → Told) (place : ℕ) (bytes : List ℕ) → 0 < length bytes → ((p : ℕ) (b : List ℕ) → length b < length bytes → next p b ≡ other p b)
    → pair_told next place bytes ≡ pair_told other place bytes
unfolding size_of
pair-next next other place bytes some same =
    let n = size_of bytes in
    ap (λ (t : Told). pair_told (λ _ _. t) place bytes) (same (place + n) (drop n bytes) (omega (arith, length-drop n bytes, some)))

fuel : (k m n place : ℕ) (bytes : List ℕ) → length bytes ≤ k → length bytes ≤ m → length bytes ≤ n → some_pairs_told m place bytes ≡ some_pairs_told n place bytes
unfolding some_pairs_told
fuel k zero zero place [] a b c = refl
fuel k zero (suc n) place [] a b c = refl
fuel k (suc m) zero place [] a b c = refl
fuel k (suc m) (suc n) place [] a b c = refl
fuel zero m n place (x ∷ bytes) a b c = absurd (omega (arith, a))
fuel (suc k) zero n place (x ∷ bytes) a b c = absurd (omega (arith, b))
fuel (suc k) (suc m) zero place (x ∷ bytes) a b c = absurd (omega (arith, c))
fuel (suc k) (suc m) (suc n) place (x ∷ bytes) a b c =
    pair-next (some_pairs_told m) (some_pairs_told n) place (x ∷ bytes) (omega arith) (λ p r less. fuel k m n p r (omega (arith, a, less)) (omega (arith, b, less)) (omega (arith, c, less)))

pub pairs-step : (place : ℕ) (bytes : List ℕ) → 0 < length bytes → pairs_told place bytes ≡ pair_told pairs_told place bytes
unfolding some_pairs_told
pairs-step place [] some = absurd (omega (arith, some))
pairs-step place (x ∷ bytes) some =
    pair-next (some_pairs_told (length bytes)) pairs_told place (x ∷ bytes) some (λ p r less. fuel (length bytes) (length bytes) (length r) p r (omega (arith, less)) (omega (arith, less)) (omega arith))

-- ---- what the bytes that have come say

pub number-front : (xs ys : List ℕ) → 4 ≤ length xs → number_at (xs ++ ys) ≡ number_at xs
number-front xs ys le = ap (λ (b : List ℕ). from_be_bytes w32 b) (take-append-le 4 xs ys le)

keyed : (next : ℕ → List ℕ → Told) (place k : ℕ) (held rest : List ℕ) → HasKey held k → pair_told next place (held ++ rest) ≡ keyed_pair_told next k place (held ++ rest)
keyed next place k held rest (four, is) =
    let len = length-append held rest in
    cond-false (nat_lt (length (held ++ rest)) 4) _ _ (le-ltb _ _ (omega (arith, four, len)))
    ∙ ap (λ n. keyed_pair_told next n place (held ++ rest)) (number-front held rest four ∙ sym is)

sized : (next : ℕ → List ℕ → Told) (place k v : ℕ) (held rest : List ℕ) → HasSizes held k v → pair_told next place (held ++ rest) ≡ sized_pair_told next k v place (held ++ rest)
sized next place k v held rest (key, small, both, is) =
    let len = length-append held rest in
    keyed next place k held rest key
    ∙ cond-false (nat_lt (2 ^ 30) k) _ _ (le-ltb _ _ small)
    ∙ cond-false (nat_lt (length (held ++ rest)) (8 + k)) _ _ (le-ltb _ _ (omega (arith, both, len)))
    ∙ ap (λ n. sized_pair_told next k n place (held ++ rest)) (ap number_at (drop-append-le (4 + k) held rest (omega (arith, both))) ∙ number-front (drop (4 + k) held) rest (omega (arith, length-drop (4 + k) held, both)) ∙ sym is)

pub told-whole : (next : ℕ → List ℕ → Told) (place k v : ℕ) (held rest : List ℕ) → DemandIs held (demands.Whole k v)
    → pair_told next place (held ++ rest) ≡ given (Pair (take k (drop 4 held)) (take v (drop (8 + k) held))) (place + (8 + k + v)) (next (place + (8 + k + v)) (drop (8 + k + v) held ++ rest))
told-whole next place k v held rest (sizes, small, whole) =
    let len = length-append held rest in
    let bytes = held ++ rest in
    let n = 8 + k + v in
    let key : take k (drop 4 bytes) ≡ take k (drop 4 held) =
    ap (take k) (drop-append-le 4 held rest (omega (arith, whole))) ∙ take-append-le k (drop 4 held) rest (omega (arith, whole, length-drop 4 held)) in
    let value : take v (drop (8 + k) bytes) ≡ take v (drop (8 + k) held) =
    ap (take v) (drop-append-le (8 + k) held rest (omega (arith, whole))) ∙ take-append-le v (drop (8 + k) held) rest (omega (arith, whole, length-drop (8 + k) held)) in
    sized next place k v held rest sizes
    ∙ cond-false (nat_lt (2 ^ 30) (k + v)) _ _ (le-ltb _ _ small)
    ∙ cond-false (nat_lt (length bytes) (8 + k + v)) _ _ (le-ltb _ _ (omega (arith, whole, len)))
    ∙ ap₂ (λ (x y : List ℕ). given (Pair x y) (place + n) (next (place + n) (drop n bytes))) key value
    ∙ ap (λ (r : List ℕ). given (Pair (take k (drop 4 held)) (take v (drop (8 + k) held))) (place + n) (next (place + n) r)) (drop-append-le n held rest whole)

pub told-large : (next : ℕ → List ℕ → Told) (place at : ℕ) (held rest : List ℕ) → DemandIs held (demands.TooLarge at) → pair_told next place (held ++ rest) ≡ refused TooLarge (place + at)
told-large next place at held rest (k, inl (key, large, is)) =
    keyed next place k held rest key ∙ cond-true (nat_lt (2 ^ 30) k) _ _ (lt-ltb _ _ large) ∙ ap (refused TooLarge) (omega (arith, is))
told-large next place at held rest (k, inr (v, sizes, large, is)) =
    sized next place k v held rest sizes ∙ cond-true (nat_lt (2 ^ 30) (k + v)) _ _ (lt-ltb _ _ large) ∙ ap (λ n. refused TooLarge (place + n)) (sym is)

large-some : (held : List ℕ) (at : ℕ) → DemandIs held (demands.TooLarge at) → 0 < length held
large-some held at (k, inl (key, large, is)) = omega (arith, key.0)
large-some held at (k, inr (v, sizes, large, is)) = omega (arith, sizes.0.0)

pub large-left : (p : Phase) (place at : ℕ) (held rest : List ℕ) → p ≡ Pairs → DemandIs held (demands.TooLarge at) → left_in p place held rest ≡ refused TooLarge (place + at)
large-left p place at held rest is d =
    ap (λ q. left_in q place held rest) is ∙ pairs-step place (held ++ rest) (omega (arith, large-some held at d, length-append held rest)) ∙ told-large pairs_told place at held rest d

-- the input ends inside a pair
small-told : (next : ℕ → List ℕ → Told) (place : ℕ) (held : List ℕ) → length held < needed held → MaySize held → pair_told next place held ≡ refused Truncated (place + length held)
small-told next place held short (key, value) = elim (cases_lt (length held) 4) [
  | inl less ↦ cond-true (nat_lt (length held) 4) _ _ (lt-ltb _ _ less)
  | inr four ↦
      let k = number_at held in
      let v = number_at (drop (4 + k) held) in
      let large = cond-false (nat_lt (2 ^ 30) k) (refused TooLarge place) (cond (nat_lt (length held) (8 + k)) (refused Truncated (place + length held)) (sized_pair_told next k v place held)) (le-ltb _ _ (key four)) in
      let start = cond-false (nat_lt (length held) 4) (refused Truncated (place + length held)) (keyed_pair_told next k place held) (le-ltb _ _ four) ∙ large in
      elim (cases_lt (length held) (8 + k)) [
        | inl less ↦ start ∙ cond-true (nat_lt (length held) (8 + k)) _ _ (lt-ltb _ _ less)
        | inr both ↦
            let want : needed held ≡ 8 + k + v = cond-false (nat_lt (length held) 4) _ _ (le-ltb _ _ four) ∙ cond-false (nat_lt (length held) (8 + k)) _ _ (le-ltb _ _ both) in
            start ∙ cond-false (nat_lt (length held) (8 + k)) _ _ (le-ltb _ _ both)
            ∙ cond-false (nat_lt (2 ^ 30) (k + v)) _ _ (le-ltb _ _ (value four both))
            ∙ cond-true (nat_lt (length held) (8 + k + v)) _ _ (lt-ltb _ _ (omega (arith, want, short)))
      ]
]

pub small-left : (p : Phase) (place n : ℕ) (held : List ℕ) → p ≡ Pairs → 0 < length held → DemandIs held (demands.More n) → left_in p place held [] ≡ refused Truncated (place + length held)
small-left p place n held is some (less, want, may) =
    ap (λ q. left_in q place held []) is ∙ ap (pairs_told place) (append-nil held) ∙ pairs-step place held some ∙ small-told pairs_told place held (omega (arith, less, want)) may

pub done-left : (p : Phase) (place : ℕ) (held : List ℕ) → p ≡ Pairs → length held ≡ 0 → left_in p place held [] ≡ given End (place + length held) nothing
unfolding some_pairs_told
done-left p place [] is none = ap (λ q. left_in q place [] []) is ∙ ap (λ n. given End n nothing) (omega arith)
done-left p place (x ∷ held) is none = absurd (omega (arith, none))
