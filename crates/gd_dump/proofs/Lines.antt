-- A text of base64, line by line.
use Rattle.std.proofs.Common.{◌≡◌, ◌∙◌, ap, sym, refl, inl, inr, ℕ, zero, suc, ◌+◌, ◌-◌, ◌*◌, ◌/◌, ◌%◌, ◌<◌, ◌≤◌, min, List, [], ◌∷◌, ◌++◌, length, take, drop, arith}
use Rattle.std.proofs.lemmas.List.{append-nil, append_assoc, length-append, length-drop, length-take, drop-drop, take-append-drop, take_all, drop_all, length-replicate}
use Rattle.std.proofs.lemmas.Bool.{cases_lt}
use Rattle.base64.specs.Engines.{standard}
use Rattle.base64.proofs.EngineFacts.{encode_of-append, encode_of-nil}
use Rattle.base64.proofs.RoundTrip.{length-encode_symbols}
use Rattle.gd_dump.specs.Ascii.{base64_text, broken, lines_of}

-- a full line, and the lines of what follows it
broken-full : (room : ℕ) (xs ys : List ℕ) → length xs ≡ room → broken room (xs ++ ys) ≡ xs ++ 10 ∷ lines_of ys
unfolding broken
broken-full zero [] [] e = refl
broken-full zero [] (y ∷ ys) e = refl
broken-full zero (x ∷ xs) ys e = absurd (omega (arith, e))
broken-full (suc room) [] ys e = absurd (omega (arith, e))
broken-full (suc room) (x ∷ xs) ys e = ap (λ zs. x ∷ zs) (broken-full room xs ys (omega (arith, e)))

-- the last line
broken-last : (room : ℕ) (xs : List ℕ) → length xs ≤ room → broken room xs ≡ xs ++ 10 ∷ []
unfolding broken
broken-last room [] e = refl
broken-last zero (x ∷ xs) e = absurd (omega (arith, e))
broken-last (suc room) (x ∷ xs) e = ap (λ zs. x ∷ zs) (broken-last room xs (omega (arith, e)))

lines-full : (xs ys : List ℕ) → length xs ≡ 76 → lines_of (xs ++ ys) ≡ (xs ++ 10 ∷ []) ++ lines_of ys
lines-full [] ys e = absurd (omega (arith, e))
lines-full (x ∷ xs) ys e = ap (λ zs. x ∷ zs) (broken-full 75 xs ys (omega (arith, e))) ∙ sym (append_assoc (x ∷ xs) (10 ∷ []) (lines_of ys))

lines-last : (xs : List ℕ) → 0 < length xs → length xs ≤ 76 → lines_of xs ≡ xs ++ 10 ∷ []
lines-last [] some fits = absurd (omega (arith, some))
lines-last (x ∷ xs) some fits = ap (λ zs. x ∷ zs) (broken-last 75 xs (omega (arith, fits)))

-- how long a text is
pub length-text : (bytes : List ℕ) → length (base64_text bytes) ≡ (4 * length bytes + 2) / 3 + (3 - length bytes % 3) % 3
length-text bytes = rw (length-append, length-encode_symbols, length-replicate) refl

-- the lines of bytes are that of the first 57 of them or of all, and those of the rest
pub line-first : (bytes : List ℕ) (n : ℕ) → 0 < length bytes → n ≡ min (length bytes) 57
    → lines_of (base64_text bytes) ≡ (base64_text (take n bytes) ++ 10 ∷ []) ++ lines_of (base64_text (drop n bytes))
line-first bytes n some is = elim (cases_lt 57 (length bytes)) [
  | inl more ↦
      let len : length (take n bytes) ≡ 57 = length-take n bytes ∙ omega (arith, is, more) in
      let whole : length (take n bytes) % 3 ≡ 0 = rw len refl in
      let full : length (base64_text (take n bytes)) ≡ 76 = length-text (take n bytes) ∙ rw len refl in
      ap (λ b. lines_of (base64_text b)) (sym (take-append-drop n bytes))
      ∙ ap lines_of (encode_of-append standard (take n bytes) (drop n bytes) whole)
      ∙ lines-full (base64_text (take n bytes)) (base64_text (drop n bytes)) full
  | inr all ↦
      let front : take n bytes ≡ bytes = take_all n bytes (omega (arith, is, all)) in
      let rest : drop n bytes ≡ [] = drop_all n bytes (omega (arith, is, all)) in
      let size = length-text bytes in
      rw (front, rest, encode_of-nil standard)
      (lines-last (base64_text bytes) (omega (arith, size, some)) (omega (arith, size, all)) ∙ sym (append-nil _))
]

-- the same from a place on
pub line-next : (bytes : List ℕ) (at end : ℕ) → at < length bytes → end ≡ min (length bytes) (at + 57)
    → lines_of (base64_text (drop at bytes)) ≡ (base64_text (take (end - at) (drop at bytes)) ++ 10 ∷ []) ++ lines_of (base64_text (drop end bytes))
line-next bytes at end some is =
    let len = length-drop at bytes in
    line-first (drop at bytes) (end - at) (omega (arith, len, some)) (omega (arith, len, some, is))
    ∙ ap (λ b. (base64_text (take (end - at) (drop at bytes)) ++ 10 ∷ []) ++ lines_of (base64_text b)) (drop-drop (end - at) at bytes ∙ ap (λ k. drop k bytes) (omega (arith, some, is)))

-- nothing is left
pub lines-done : (bytes : List ℕ) (at : ℕ) → length bytes ≤ at → lines_of (base64_text (drop at bytes)) ≡ []
lines-done bytes at all = rw (drop_all at bytes all, encode_of-nil standard) refl
