-- A binary dump is read as its pairs.
use Rattle.std.proofs.Common.{◌≡◌, ◌∙◌, ap, ap₂, sym, refl, subst, ℕ, ◌+◌, ◌^◌, ◌<◌, ◌≤◌, List, [], ◌∷◌, ◌++◌, length, take, drop, arith, None}
use Rattle.std.proofs.lemmas.List.{length-append, take-append-le, drop-drop, take_all, drop_all}
use Rattle.std.proofs.Math.Seq.{drop-append_seam}
use Rattle.std.proofs.lemmas.Nat.{from_be_bytes-to_be_bytes_4}
use Rattle.gd_dump.specs.Binary.{binary_head, binary_pair, binary_pairs, sized}
use Rattle.gd_dump_reading.specs.BinaryDemand.{DemandIs}
use Rattle.gd_dump_reading.specs.BinaryItems.{binary_items, number_at, pairs_told, some_pairs_told}
use Rattle.gd_dump.specs.RoundTrip.{ArePairs, BinaryRoundTrip, FitPairs, ReadsAs}
use Rattle.gd_dump_reading.specs.Told.{Told, given, pairs_of}
use Rattle.gd_dump_reading.specs.declared.items.Item.TheVariants.{Head, Pair}
use Rattle.gd_dump_reading.specs.declared.binary_machine.Demand.TheVariants.{Whole}
use Rattle.gd_dump_reading.proofs.BinaryPairs.{pairs-step, told-whole}

-- the head of a text is read as a head
head-read : (rest : List ℕ) → binary_items (binary_head ++ rest) ≡ given (Head (record { format = None; file = None })) 77 (pairs_told 77 rest)
head-read rest = refl

sized-number : (bytes rest : List ℕ) → length bytes < 2 ^ 32 → number_at (sized bytes ++ rest) ≡ length bytes
sized-number bytes rest small = from_be_bytes-to_be_bytes_4 (length bytes) small

length-sized : (bytes : List ℕ) → length (sized bytes) ≡ 4 + length bytes
length-sized bytes = omega arith

take-front : (xs ys : List ℕ) → take (length xs) (xs ++ ys) ≡ xs
take-front xs ys = take-append-le (length xs) xs ys (omega arith) ∙ take_all (length xs) xs (omega arith)

-- the bytes of a pair
value-part : (key value : List ℕ) → drop (4 + length key) (binary_pair key value) ≡ sized value
value-part key value = ap (λ n. drop n (binary_pair key value)) (sym (length-sized key)) ∙ drop-append_seam (sized key) (sized value)

length-pair : (key value : List ℕ) → length (binary_pair key value) ≡ 8 + length key + length value
length-pair key value = omega (arith, length-append (sized key) (sized value), length-sized key, length-sized value)

pair-demand : (key value : List ℕ) → length key + length value ≤ 2 ^ 30 → DemandIs (binary_pair key value) (Whole (length key) (length value))
pair-demand key value fits =
    let len = length-pair key value in (
      (
        (omega (arith, len), sym (sized-number key (sized value) (omega (arith, fits)))),
        omega (arith, fits),
        omega (arith, len),
        sym (ap number_at (value-part key value) ∙ from_be_bytes-to_be_bytes_4 (length value) (omega (arith, fits))),
      ),
      fits,
      omega (arith, len),
    )

pair-read : (place : ℕ) (key value rest : List ℕ) → length key + length value ≤ 2 ^ 30
    → pairs_told place (binary_pair key value ++ rest) ≡ given (Pair key value) (place + (8 + length key + length value)) (pairs_told (place + (8 + length key + length value)) rest)
pair-read place key value rest fits =
    let n = 8 + length key + length value in
    let held = binary_pair key value in
    let len = length-pair key value in
    let first : take (length key) (drop 4 held) ≡ key = take-front key (sized value) in
    let second : take (length value) (drop (8 + length key) held) ≡ value =
    ap (take (length value)) (sym (drop-drop 4 (4 + length key) held ∙ ap (λ m. drop m held) (omega arith)) ∙ ap (drop 4) (value-part key value)) ∙ take_all (length value) value (omega arith) in
    let none : drop n held ≡ [] = drop_all n held (omega (arith, len)) in
    pairs-step place (held ++ rest) (omega (arith, len, length-append held rest))
    ∙ told-whole pairs_told place (length key) (length value) held rest (pair-demand key value fits)
    ∙ ap₂ (λ (x y : List ℕ). given (Pair x y) (place + n) (pairs_told (place + n) (drop n held ++ rest))) first second
    ∙ ap (λ (r : List ℕ). given (Pair key value) (place + n) (pairs_told (place + n) (r ++ rest))) none

abbrev Reads : Told → List (List ℕ × List ℕ) → Type 0
Reads told ps = ArePairs told.items ps × (pairs_of told.items ≡ ps) × (told.refusal ≡ None)

pairs-read : (place : ℕ) (ps : List (List ℕ × List ℕ)) → FitPairs ps → Reads (pairs_told place (binary_pairs ps)) ps
unfolding some_pairs_told
pairs-read place [] fit = (tt, refl, refl)
pairs-read place (p ∷ ps) (fits, fit) =
    let next = place + (8 + length p.0 + length p.1) in
    let others = pairs-read next ps fit in
    subst (λ (t : Told). Reads t (p ∷ ps)) (sym (pair-read place p.0 p.1 (binary_pairs ps) fits)) ((refl, refl, others.0), ap (λ (l : List (List ℕ × List ℕ)). (p.0, p.1) ∷ l) others.1, others.2)

pub trip : BinaryRoundTrip
trip pairs count fit =
    let read = pairs-read 77 pairs fit in
    subst (λ (t : Told). ReadsAs t (record { format = None; file = None }) pairs) (sym (head-read (binary_pairs pairs))) (record { whole = (refl, read.0); list = read.1; accepted = read.2 })
