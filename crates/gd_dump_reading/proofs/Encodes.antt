-- A text of base64 that comes in parts.
use Rattle.std.proofs.Common.{◌≡◌, ◌∙◌, ap, sym, refl, inl, inr, ℕ, zero, suc, ◌+◌, ◌-◌, ◌*◌, ◌/◌, ◌%◌, ◌<◌, ◌≤◌, Bool, true, false, ◌&&◌, List, [], ◌∷◌, ◌++◌, length, take, drop, get_or, Option, Some, None, Result, Ok, Err, arith, cond, append-nil}
use Rattle.std.specs.List.{list_all}
use Rattle.std.specs.Str.{bytes_eq}
use Rattle.std.proofs.lemmas.Bool.{cases_lt, cond-true, ltb-true, lt-ltb}
use Rattle.std.proofs.lemmas.List.{length-append, length-drop, length-replicate, length-take-le, take-append-le, drop-append-le, take-append-drop, take_all, drop_all}
use Rattle.std.proofs.lemmas.Slice.Eq.{bytes_eq-Decides}
use Rattle.base64.specs.Engines.{standard}
use Rattle.base64.specs.GeneralPurpose.{IsBytes, decode_of}
use Rattle.base64.specs.declared.decode.DecodeError.{DecodeError}
use Rattle.base64.proofs.EngineFacts.{decode_of-encode_of, decode_of_strict, encode_of-append}
use Rattle.base64.proofs.RoundTrip.{length-encode_symbols}
use Rattle.gd_dump_reading.specs.Base64.{base64_text, if_strict, is_byte, strict_bytes}

pub length-text : (bytes : List ℕ) → length (base64_text bytes) ≡ (4 * length bytes + 2) / 3 + (3 - length bytes % 3) % 3
length-text bytes = rw (length-append, length-encode_symbols, length-replicate) refl

-- ---- bytes

and-left : (a b : Bool) → (a && b) ≡ true → a ≡ true
and-left true b e = refl
and-left false b e = absurd (cc)

and-right : (a b : Bool) → (a && b) ≡ true → b ≡ true
and-right true b e = e
and-right false b e = absurd (cc)

both : (a b : Bool) → a ≡ true → b ≡ true → (a && b) ≡ true
both true b e f = f
both false b e f = absurd (cc)

all-bytes : (xs : List ℕ) → list_all is_byte xs ≡ true → IsBytes xs
all-bytes [] all i = omega arith
all-bytes (x ∷ xs) all zero = ltb-true x 256 (and-left (is_byte x) (list_all is_byte xs) all)
all-bytes (x ∷ xs) all (suc i) = all-bytes xs (and-right (is_byte x) (list_all is_byte xs) all) i

bytes-all : (xs : List ℕ) → IsBytes xs → list_all is_byte xs ≡ true
bytes-all [] is = refl
bytes-all (x ∷ xs) is = both (is_byte x) (list_all is_byte xs) (lt-ltb x 256 (is 0)) (bytes-all xs (λ i. is (suc i)))

bytes-take : (n : ℕ) (xs : List ℕ) → IsBytes xs → IsBytes (take n xs)
bytes-take zero xs is i = omega arith
bytes-take (suc n) [] is i = omega arith
bytes-take (suc n) (x ∷ xs) is zero = is 0
bytes-take (suc n) (x ∷ xs) is (suc i) = bytes-take n xs (λ j. is (suc j)) i

bytes-drop : (n : ℕ) (xs : List ℕ) → IsBytes xs → IsBytes (drop n xs)
bytes-drop zero xs is = is
bytes-drop (suc n) [] is = is
bytes-drop (suc n) (x ∷ xs) is = bytes-drop n xs (λ j. is (suc j))

-- ---- strict texts

strict-if : (b : Bool) (x : List ℕ) (r : List ℕ) → cond b (Some x) None ≡ Some r → (b ≡ true) × (x ≡ r)
strict-if true x r is = (refl, cc)
strict-if false x r is = absurd (cc)

strict-by : (t : List ℕ) (d : Result (List ℕ) DecodeError) (r : List ℕ) → if_strict t d ≡ Some r → (base64_text r ≡ t) × IsBytes r
strict-by t (Err e) r is = absurd (cc)
strict-by t (Ok bytes) r is =
    let found = strict-if (bytes_eq (base64_text bytes) t && list_all is_byte bytes) bytes r is in
    let same = (bytes_eq-Decides (base64_text bytes) t).0 (and-left _ (list_all is_byte bytes) found.0) in
    (ap base64_text (sym found.1) ∙ same, all-bytes r (ap (list_all is_byte) (sym found.1) ∙ and-right (bytes_eq (base64_text bytes) t) _ found.0))

pub strict-text : (t r : List ℕ) → strict_bytes t ≡ Some r → (base64_text r ≡ t) × IsBytes r
strict-text t r is = strict-by t (decode_of standard t) r is

pub strict-of : (r : List ℕ) → IsBytes r → strict_bytes (base64_text r) ≡ Some r
strict-of r is =
    ap (if_strict (base64_text r)) (decode_of-encode_of standard r refl is)
    ∙ cond-true (bytes_eq (base64_text r) (base64_text r) && list_all is_byte r) (Some r) None
    (both _ _ ((bytes_eq-Decides (base64_text r) (base64_text r)).1 refl) (bytes-all r is))

none-by : (t : List ℕ) (o : Option (List ℕ)) → strict_bytes t ≡ o → ((r : List ℕ) → strict_bytes t ≡ Some r → ⊥) → strict_bytes t ≡ None
none-by t None is never = is
none-by t (Some r) is never = absurd (never r is)

-- ---- in parts

-- the first 3 * q bytes, and the others
split-text : (r : List ℕ) (q : ℕ) → 3 * q ≤ length r → (base64_text r ≡ base64_text (take (3 * q) r) ++ base64_text (drop (3 * q) r)) × (length (base64_text (take (3 * q) r)) ≡ 4 * q)
split-text r q fits =
    let len = length-take-le (3 * q) r fits in
    let size = length-text (take (3 * q) r) in (
      ap base64_text (sym (take-append-drop (3 * q) r)) ∙ encode_of-append standard (take (3 * q) r) (drop (3 * q) r) (omega (arith, len)),
      omega (arith, size, len),
    )

front-same : (a b c d : List ℕ) → a ++ b ≡ c ++ d → length a ≡ length c → (a ≡ c) × (b ≡ d)
front-same a b c d is len =
    let n = length a in (
      sym (take-append-le n a b (omega arith) ∙ take_all n a (omega arith)) ∙ ap (take n) is ∙ take-append-le n c d (omega (arith, len)) ∙ take_all n c (omega (arith, len)),
      sym (drop-append-le n a b (omega arith) ∙ ap (λ (t : List ℕ). t ++ b) (drop_all n a (omega arith))) ∙ ap (drop n) is ∙ drop-append-le n c d (omega (arith, len)) ∙ ap (λ (t : List ℕ). t ++ d) (drop_all n c (omega (arith, len))),
    )

-- nothing comes behind a text that was padded
pub padded-none : (bytes x : List ℕ) → 0 < length bytes % 3 → 0 < length x → IsBytes bytes → strict_bytes (base64_text bytes ++ x) ≡ None
padded-none bytes x odd some is = none-by (base64_text bytes ++ x) _ refl (λ r read.
    let whole = strict-text (base64_text bytes ++ x) r read in
    let q = (length bytes + 2) / 3 in
    let size = length-text bytes in
    let all = length-text r in
    let sum = length-append (base64_text bytes) x in
    let same = ap length whole.0 in
    let cut = split-text r q (omega (arith, size, all, sum, same, some)) in
    let front = front-same (base64_text (take (3 * q) r)) (base64_text (drop (3 * q) r)) (base64_text bytes) x (sym cut.0 ∙ whole.0) (omega (arith, cut.1, size)) in
    let both_some = sym (strict-of (take (3 * q) r) (bytes-take (3 * q) r whole.1)) ∙ ap strict_bytes front.0 ∙ strict-of bytes is in
    let equal : take (3 * q) r ≡ bytes = cc in
    let len = length-take-le (3 * q) r (omega (arith, size, all, sum, same, some)) in
    omega (arith, len, ap length equal, odd))

no-more : (c more : List ℕ) → length more ≡ 0 → c ++ more ≡ c
no-more c [] none = append-nil c
no-more c (m ∷ more) none = absurd (omega (arith, none))

-- what groups are no base64 are none between others
groups-none : (c more s : List ℕ) → length c % 4 ≡ 0 → IsBytes s → strict_bytes c ≡ None → base64_text s ≡ c ++ more → ⊥
groups-none c more s groups is bad whole =
    let k = length c / 4 in
    let size = length-text s in
    let sum = length-append c more in
    let same = ap length whole in
    elim (cases_lt (length s) (3 * k)) [
      | inl less ↦
          let equal : base64_text s ≡ c = whole ∙ no-more c more (omega (arith, size, sum, same, less, groups)) in
          let read = sym (strict-of s is) ∙ ap strict_bytes equal ∙ bad in cc
      | inr fits ↦
          let cut = split-text s k fits in
          let front = front-same (base64_text (take (3 * k) s)) (base64_text (drop (3 * k) s)) c more (sym cut.0 ∙ whole) (omega (arith, cut.1, groups)) in
          let read = sym (strict-of (take (3 * k) s) (bytes-take (3 * k) s is)) ∙ ap strict_bytes front.0 ∙ bad in cc
    ]

err-none : (c : List ℕ) (e : DecodeError) → decode_of standard c ≡ Err e → strict_bytes c ≡ None
err-none c e is = ap (if_strict c) is

pub bad-none : (bytes c more : List ℕ) (e : DecodeError) → length bytes % 3 ≡ 0 → 0 < length c → length c % 4 ≡ 0 → decode_of standard c ≡ Err e → strict_bytes (base64_text bytes ++ (c ++ more)) ≡ None
bad-none bytes c more e whole some groups is = none-by (base64_text bytes ++ (c ++ more)) _ refl (λ r read.
    let text = strict-text (base64_text bytes ++ (c ++ more)) r read in
    let q = length bytes / 3 in
    let size = length-text bytes in
    let all = length-text r in
    let sum = length-append (base64_text bytes) (c ++ more) in
    let rest = length-append c more in
    let same = ap length text.0 in
    let cut = split-text r q (omega (arith, size, all, sum, rest, same, some)) in
    let front = front-same (base64_text (take (3 * q) r)) (base64_text (drop (3 * q) r)) (base64_text bytes) (c ++ more) (sym cut.0 ∙ text.0) (omega (arith, cut.1, size, whole)) in
    groups-none c more (drop (3 * q) r) groups (bytes-drop (3 * q) r text.1) (err-none c e is) front.1)

pub good-text : (bytes c new : List ℕ) → length bytes % 3 ≡ 0 → IsBytes c → decode_of standard c ≡ Ok new → base64_text (bytes ++ new) ≡ base64_text bytes ++ c
good-text bytes c new whole is read =
    encode_of-append standard bytes new whole ∙ ap (λ (t : List ℕ). base64_text bytes ++ t) (sym (decode_of_strict standard c new (refl, refl) is read))

pub decoded-size : (c new : List ℕ) → IsBytes c → decode_of standard c ≡ Ok new → length new ≤ length c
decoded-size c new is read =
    let size = length-text new in
    omega (arith, size, ap length (decode_of_strict standard c new (refl, refl) is read))
