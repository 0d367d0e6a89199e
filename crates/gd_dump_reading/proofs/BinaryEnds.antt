-- Where the items of a binary dump end.
use Rattle.std.proofs.Common.{◌≡◌, ◌∙◌, ap, sym, subst, inl, inr, ℕ, zero, suc, ◌+◌, ◌^◌, ◌<◌, ◌≤◌, List, [], ◌∷◌, ◌++◌, length, take, drop, Option, Some, None, arith, cond}
use Rattle.std.specs.Prelude.{nat_lt}
use Rattle.std.proofs.lemmas.Bool.{cases_lt, cond-true, cond-false, le-ltb, lt-ltb}
use Rattle.std.proofs.lemmas.List.{drop-append-le, length-append, length-drop}
use Rattle.gd_dump_reading.specs.BinaryDemand.{needed, room}
use Rattle.gd_dump_reading.specs.BinaryItems.{head_line_told, head_told, number_at, pair_told, pairs_told, some_pairs_told}
use Rattle.gd_dump_reading.specs.BinaryLeft.{head_left, left_in}
use Rattle.gd_dump_reading.specs.Lines.{first_line}
use Rattle.gd_dump_reading.specs.Told.{EndBehind, Told}
use Rattle.gd_dump_reading.specs.declared.items.DumpKind.TheVariants.{TooLarge, Truncated}
use Rattle.gd_dump_reading.specs.declared.items.Item.TheVariants.{Pair}
use Rattle.gd_dump_reading.specs.declared.binary_machine.Phase.{Phase}
use Rattle.gd_dump_reading.specs.declared.binary_machine.Phase.TheVariants.{Head, Pairs, Ended}
use Rattle.gd_dump_reading.proofs.BinaryPairs.{number-front, pairs-step}
use Rattle.gd_dump_reading.proofs.BinaryReading.{at-phase}
use Rattle.gd_dump_reading.proofs.ItemEnds.{Behind, either, first-item, no-items}

-- ---- what is told from a place on

-- how many bytes a pair takes up
pair_size : List ℕ → ℕ
pair_size bytes = 8 + number_at bytes + number_at (drop (4 + number_at bytes) bytes)

pair-ends : (n : ℕ) (next : ℕ → List ℕ → Told) (place : ℕ) (bytes : List ℕ) → n < place + pair_size bytes → ((rest : List ℕ) → Behind n (next (place + pair_size bytes) rest))
    → Behind n (pair_told next place bytes)
unfolding pair_size
pair-ends n next place bytes less ends =
    let k = number_at bytes in
    let v = number_at (drop (4 + k) bytes) in
    let cut = no-items n Truncated (place + length bytes) in
    either n (nat_lt (length bytes) 4) _ _ cut
    (either n (nat_lt (2 ^ 30) k) _ _ (no-items n TooLarge place)
    (either n (nat_lt (length bytes) (8 + k)) _ _ cut
    (either n (nat_lt (2 ^ 30) (k + v)) _ _ (no-items n TooLarge (place + (4 + k)))
    (either n (nat_lt (length bytes) (8 + k + v)) _ _ cut
    (first-item n (Pair (take k (drop 4 bytes)) (take v (drop (8 + k) bytes))) (place + (8 + k + v)) _ less (ends (drop (8 + k + v) bytes)))))))

some-pairs-end : (m n place : ℕ) (bytes : List ℕ) → n < place → Behind n (some_pairs_told m place bytes)
unfolding some_pairs_told
some-pairs-end zero n place [] less = record { ends = (less, tt) }
some-pairs-end (suc m) n place [] less = record { ends = (less, tt) }
some-pairs-end zero n place (b ∷ bytes) less = record { ends = tt }
some-pairs-end (suc m) n place (b ∷ bytes) less =
    pair-ends n (some_pairs_told m) place (b ∷ bytes) (omega (arith, less)) (λ rest. some-pairs-end m n (place + pair_size (b ∷ bytes)) rest (omega (arith, less)))

pairs-end : (n place : ℕ) (bytes : List ℕ) → n < place → Behind n (pairs_told place bytes)
pairs-end n place bytes less = some-pairs-end (length bytes) n place bytes less

line-ends : (n k place : ℕ) (line : List ℕ) (after : Option (List ℕ)) (next : ℕ → List ℕ → Told) → ((rest : List ℕ) → Behind n (next (place + length line + 1) rest))
    → Behind n (head_line_told k place line after next)
line-ends n k place line None next ends = either n _ _ _ (no-items n _ _) (no-items n _ _)
line-ends n k place line (Some rest) next ends = either n _ _ _ (ends rest) (no-items n _ _)

head-ends : (n k place : ℕ) (bytes : List ℕ) → n < place → Behind n (head_told pairs_told k place bytes)
head-ends n zero place bytes less = first-item n _ place _ less (pairs-end n place bytes less)
head-ends n (suc k) place bytes less =
    line-ends n k place (first_line bytes).0 (first_line bytes).1 (head_told pairs_told k) (λ rest. head-ends n k (place + length (first_line bytes).0 + 1) rest (omega (arith, less)))

-- ---- what a reader still gives

-- a pair is no shorter than what it needs
needed-size : (held rest : List ℕ) → needed held ≤ pair_size (held ++ rest)
unfolding pair_size
needed-size held rest = elim (cases_lt (length held) 4) [
  | inl less ↦ omega (arith, cond-true (nat_lt (length held) 4) 4 (cond (nat_lt (length held) (8 + number_at held)) (8 + number_at held) (8 + number_at held + number_at (drop (4 + number_at held) held))) (lt-ltb _ _ less))
  | inr four ↦
      let k = number_at held in
      let v = number_at (drop (4 + k) held) in
      let key : number_at (held ++ rest) ≡ k = number-front held rest four in
      let start : needed held ≡ cond (nat_lt (length held) (8 + k)) (8 + k) (8 + k + v) = cond-false (nat_lt (length held) 4) _ _ (le-ltb _ _ four) in
      elim (cases_lt (length held) (8 + k)) [
        | inl less ↦ omega (arith, key, start ∙ cond-true (nat_lt (length held) (8 + k)) (8 + k) (8 + k + v) (lt-ltb _ _ less))
        | inr both ↦
            let value : number_at (drop (4 + number_at (held ++ rest)) (held ++ rest)) ≡ v =
            ap (λ m. number_at (drop (4 + m) (held ++ rest))) key
            ∙ ap number_at (drop-append-le (4 + k) held rest (omega (arith, both)))
            ∙ number-front (drop (4 + k) held) rest (omega (arith, length-drop (4 + k) held, both)) in
            omega (arith, key, value, start ∙ cond-false (nat_lt (length held) (8 + k)) (8 + k) (8 + k + v) (le-ltb _ _ both))
      ]
]

held-pairs : (n place : ℕ) (held rest : List ℕ) → 0 < length held + length rest → n < place + needed held → Behind n (pairs_told place (held ++ rest))
held-pairs n place held rest some less =
    let bytes = held ++ rest in
    let size = needed-size held rest in
    subst (Behind n) (sym (pairs-step place bytes (omega (arith, length-append held rest, some))))
    (pair-ends n pairs_told place bytes (omega (arith, less, size)) (λ more. pairs-end n (place + pair_size bytes) more (omega (arith, less, size))))

held-line : (n k place : ℕ) (held rest : List ℕ) → n ≤ place + length held → Behind n (head_left (suc k) place held rest)
held-line n k place held rest less =
    let line = held ++ (first_line rest).0 in
    line-ends n k place line (first_line rest).1 (head_told pairs_told k) (λ more. head-ends n k (place + length line + 1) more (omega (arith, less, length-append held (first_line rest).0)))

-- a line of the head that has no end yet
pub line-waits : (p : Phase) (k place : ℕ) (held rest : List ℕ) (n : ℕ) → p ≡ Head (k + 1) → n ≡ place + length held → EndBehind n (left_in p place held rest).items
line-waits p k place held rest n is at = (subst (λ q. Behind n (left_in q place held rest)) (sym (at-phase p k is)) (held-line n k place held rest (omega (arith, at)))).ends

-- a pair that is not whole
pub pair-waits : (p : Phase) (place : ℕ) (held rest : List ℕ) (n : ℕ) → p ≡ Pairs → length held < needed held → n ≡ place + length held → 0 < length rest → EndBehind n (left_in p place held rest).items
pair-waits p place held rest n is less at some =
    (subst (λ q. Behind n (left_in q place held rest)) (sym is) (held-pairs n place held rest (omega (arith, some)) (omega (arith, at, less)))).ends

later : (p : Phase) (place : ℕ) (held rest : List ℕ) (n : ℕ) → length held ≤ room p held → n < place + length held → Behind n (left_in p place held rest)
later (Head zero) place held rest n fits less = first-item n _ place _ (omega (arith, fits, less)) (pairs-end n place (held ++ rest) (omega (arith, fits, less)))
later (Head (suc k)) place held rest n fits less = held-line n k place held rest (omega (arith, less))
later Pairs place [] rest n fits less = pairs-end n place rest (omega (arith, less))
later Pairs place (b ∷ held) rest n fits less = held-pairs n place (b ∷ held) rest (omega arith) (omega (arith, fits, less))
later Ended place held rest n fits less = record { ends = tt }

-- behind each place before the end of the bytes that have come
pub ends-later : (p : Phase) (place : ℕ) (held rest : List ℕ) (n : ℕ) → length held ≤ room p held → n < place + length held → EndBehind n (left_in p place held rest).items
ends-later p place held rest n fits less = (later p place held rest n fits less).ends
