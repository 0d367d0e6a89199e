-- A datum's text, of which some characters more are taken.
use Rattle.std.proofs.Common.{◌≡◌, ◌≢◌, ◌∙◌, ap, sym, refl, ℕ, ◌+◌, ◌*◌, ◌/◌, ◌<◌, ◌≤◌, Bool, true, false, List, [], ◌∷◌, ◌++◌, length, get_or, Option, Some, None, Ok, Err, arith, cond, append-nil}
use Rattle.std.specs.Prelude.{◌==◌, nat_lt, not}
use Rattle.std.proofs.lemmas.Bool.{cond-true, cond-false, eq-eqb, le-ltb, lt-ltb, ne_eqb}
use Rattle.base64.specs.GeneralPurpose.{IsBytes}
use Rattle.std.proofs.lemmas.List.{append_assoc, length-append}
use Rattle.gd_dump_reading.specs.AsciiItems.{datum_in, decoded, text_size}
use Rattle.gd_dump_reading.specs.Base64.{base64_text, strict_bytes}
use Rattle.gd_dump_reading.specs.TextLeft.{broken_in, text_by}
use Rattle.gd_dump_reading.specs.declared.items.DumpKind.TheVariants.{Base64, Length, Truncated}
use Rattle.gd_dump_reading.proofs.Encodes.{length-text, strict-of}

pub none-in : (n at end : ℕ) (text : List ℕ) (follows : Bool) → strict_bytes text ≡ None → datum_in n at text follows end ≡ broken_in n at (length text) follows end
none-in n at end text follows none =
    ap (λ (o : Option (List ℕ)). cond (nat_lt (text_size n) (length text)) (Err (Length, at)) (cond (not follows) (Err (Truncated, end)) (cond (nat_lt (length text) (text_size n)) (Err (Length, at)) (decoded n at o)))) none

pub takes-good : (old new : Bool) (size at olen nlen : ℕ) (before after xs more : List ℕ) (follows : Bool) (end : ℕ) → old ≡ false → new ≡ false → after ≡ before ++ xs
    → text_by old size at olen before (xs ++ more) follows end ≡ text_by new size at nlen after more follows end
takes-good true new size at olen nlen before after xs more follows end good still is = absurd (cc)
takes-good false true size at olen nlen before after xs more follows end good still is = absurd (cc)
takes-good false false size at olen nlen before after xs more follows end good still is =
    ap (λ (t : List ℕ). datum_in size at t follows end) (sym (append_assoc before xs more) ∙ ap (λ (t : List ℕ). t ++ more) (sym is))

pub takes-bad : (old new : Bool) (size at olen nlen : ℕ) (before after xs more : List ℕ) (follows : Bool) (end : ℕ) → old ≡ false → new ≡ true → olen ≡ length before → nlen ≡ olen + length xs
    → strict_bytes (before ++ (xs ++ more)) ≡ None → text_by old size at olen before (xs ++ more) follows end ≡ text_by new size at nlen after more follows end
takes-bad true new size at olen nlen before after xs more follows end good bad is next none = absurd (cc)
takes-bad false false size at olen nlen before after xs more follows end good bad is next none = absurd (cc)
takes-bad false true size at olen nlen before after xs more follows end good bad is next none =
    let whole = length-append before (xs ++ more) in
    let part = length-append xs more in
    none-in size at end (before ++ (xs ++ more)) follows none ∙ ap (λ n. broken_in size at n follows end) (omega (arith, whole, part, is, next))

no-after : (text after : List ℕ) → length after ≡ 0 → text ++ after ≡ text
no-after text [] none = append-nil text
no-after text (c ∷ after) none = absurd (omega (arith, none))

pub no-front : (front text : List ℕ) → length front ≡ 0 → text ≡ front ++ text
no-front [] text none = refl
no-front (c ∷ front) text none = absurd (omega (arith, none))

pub takes-broken : (old new : Bool) (size at olen nlen : ℕ) (before after xs more : List ℕ) (follows : Bool) (end : ℕ) → old ≡ true → new ≡ true → nlen ≡ olen + length xs
    → text_by old size at olen before (xs ++ more) follows end ≡ text_by new size at nlen after more follows end
takes-broken false new size at olen nlen before after xs more follows end bad still next = absurd (cc)
takes-broken true false size at olen nlen before after xs more follows end bad still next = absurd (cc)
takes-broken true true size at olen nlen before after xs more follows end bad still next =
    let part = length-append xs more in ap (λ n. broken_in size at n follows end) (omega (arith, part, next))

-- groups were decoded behind bytes, or are no base64: the characters that waited and those that came
pub takes-decoded : (bad ok : Bool) (size at len : ℕ) (bytes new quad after xs group more : List ℕ) (follows : Bool) (end : ℕ) → bad ≡ false → len ≡ length (base64_text bytes) + length quad → length after ≡ 0 → group ≡ quad ++ xs
    → (ok ≡ true → base64_text new ≡ base64_text bytes ++ group) → (ok ≡ false → strict_bytes (base64_text bytes ++ (group ++ more)) ≡ None)
    → text_by bad size at len (base64_text bytes ++ quad) (xs ++ more) follows end ≡ text_by (not ok) size at (len + length xs) (base64_text new ++ after) more follows end
takes-decoded bad true size at len bytes new quad after xs group more follows end fine counted none is good worse =
    takes-good bad false size at len (len + length xs) (base64_text bytes ++ quad) (base64_text new ++ after) xs more follows end fine refl
    (no-after (base64_text new) after none ∙ good refl ∙ ap (λ (t : List ℕ). base64_text bytes ++ t) is ∙ sym (append_assoc (base64_text bytes) quad xs))
takes-decoded bad false size at len bytes new quad after xs group more follows end fine counted none is good worse =
    let all = length-append (base64_text bytes) quad in
    takes-bad bad true size at len (len + length xs) (base64_text bytes ++ quad) (base64_text new ++ after) xs more follows end fine refl (omega (arith, counted, all)) refl
    (ap strict_bytes (append_assoc (base64_text bytes) quad (xs ++ more) ∙ ap (λ (t : List ℕ). base64_text bytes ++ t) (sym (append_assoc quad xs more) ∙ ap (λ (t : List ℕ). t ++ more) (sym is))) ∙ worse refl)

-- ---- a line follows

exact-in : (n at end : ℕ) (text : List ℕ) (o : Option (List ℕ)) → length text ≡ text_size n → strict_bytes text ≡ o → datum_in n at text true end ≡ decoded n at o
exact-in n at end text o len is =
    cond-false (nat_lt (text_size n) (length text)) (Err (Length, at)) _ (le-ltb _ _ (omega (arith, len)))
    ∙ cond-false (nat_lt (length text) (text_size n)) (Err (Length, at)) _ (le-ltb _ _ (omega (arith, len)))
    ∙ ap (decoded n at) is

groups-length : (bytes : List ℕ) → length (base64_text bytes) ≡ 4 * ((length bytes + 2) / 3)
groups-length bytes = let size = length-text bytes in omega (arith, size)

no-quad : (text quad : List ℕ) → length quad ≡ 0 → (text ++ quad) ++ [] ≡ text
no-quad text [] none = append-nil (text ++ []) ∙ append-nil text
no-quad text (c ∷ quad) none = absurd (omega (arith, none))

closed-read : (bad : Bool) (size at len end : ℕ) (bytes quad : List ℕ) → bad ≡ false → len ≡ text_size size → len ≡ length (base64_text bytes) + length quad → length quad ≤ 3 → IsBytes bytes
    → text_by bad size at len (base64_text bytes ++ quad) [] true end ≡ decoded size at (Some bytes)
closed-read true size at len end bytes quad good exact counted few is = absurd (cc)
closed-read false size at len end bytes quad good exact counted few is =
    let groups = groups-length bytes in
    let text = no-quad (base64_text bytes) quad (omega (arith, exact, counted, few, groups)) in
    ap (λ (t : List ℕ). datum_in size at t true end) text
    ∙ exact-in size at end (base64_text bytes) (Some bytes) (omega (arith, exact, counted, few, groups)) (strict-of bytes is)

pub closed-good : (bad : Bool) (size at len end : ℕ) (bytes quad : List ℕ) → bad ≡ false → len ≡ text_size size → len ≡ length (base64_text bytes) + length quad → length quad ≤ 3 → IsBytes bytes → length bytes ≡ size
    → text_by bad size at len (base64_text bytes ++ quad) [] true end ≡ Ok bytes
closed-good bad size at len end bytes quad good exact counted few is same =
    closed-read bad size at len end bytes quad good exact counted few is ∙ cond-true (length bytes == size) (Ok bytes) (Err (Length, at)) (eq-eqb _ _ same)

pub closed-size : (bad : Bool) (size at len end : ℕ) (bytes quad : List ℕ) → bad ≡ false → len ≡ text_size size → len ≡ length (base64_text bytes) + length quad → length quad ≤ 3 → IsBytes bytes → length bytes ≢ size
    → text_by bad size at len (base64_text bytes ++ quad) [] true end ≡ Err (Length, at)
closed-size bad size at len end bytes quad good exact counted few is other =
    closed-read bad size at len end bytes quad good exact counted few is ∙ cond-false (length bytes == size) (Ok bytes) (Err (Length, at)) (ne_eqb _ _ other)

pub closed-bad : (bad : Bool) (size at len end : ℕ) (text : List ℕ) → bad ≡ true → len ≡ text_size size → text_by bad size at len text [] true end ≡ Err (Base64, at)
closed-bad false size at len end text bad exact = absurd (cc)
closed-bad true size at len end text bad exact =
    cond-false (nat_lt (text_size size) (len + 0)) (Err (Length, at)) _ (le-ltb _ _ (omega (arith, exact)))
    ∙ cond-false (nat_lt (len + 0) (text_size size)) (Err (Length, at)) _ (le-ltb _ _ (omega (arith, exact)))

pub closed-short : (bad : Bool) (size at len end : ℕ) (text : List ℕ) → len < text_size size → (bad ≡ false → len ≡ length text) → text_by bad size at len text [] true end ≡ Err (Length, at)
closed-short true size at len end text short counted =
    cond-false (nat_lt (text_size size) (len + 0)) (Err (Length, at)) _ (le-ltb _ _ (omega (arith, short)))
    ∙ cond-true (nat_lt (len + 0) (text_size size)) (Err (Length, at)) _ (lt-ltb _ _ (omega (arith, short)))
closed-short false size at len end text short counted =
    let is = counted refl in
    let all = length-append text [] in
    cond-false (nat_lt (text_size size) (length (text ++ []))) (Err (Length, at)) _ (le-ltb _ _ (omega (arith, short, is, all)))
    ∙ cond-true (nat_lt (length (text ++ [])) (text_size size)) (Err (Length, at)) _ (lt-ltb _ _ (omega (arith, short, is, all)))

three-in : (xs : List ℕ) (char : ℕ) → length xs ≡ 3 → get_or xs 0 0 ∷ get_or xs 1 0 ∷ get_or xs 2 0 ∷ char ∷ [] ≡ xs ++ char ∷ []
three-in [] char len = absurd (omega (arith, len))
three-in (x ∷ []) char len = absurd (omega (arith, len))
three-in (x ∷ y ∷ []) char len = absurd (omega (arith, len))
three-in (x ∷ y ∷ z ∷ []) char len = refl
three-in (x ∷ y ∷ z ∷ w ∷ rest) char len = absurd (omega (arith, len))

pub three-of : (xs a b c : List ℕ) (char : ℕ) → length xs ≡ 3 → a ≡ xs → b ≡ xs → c ≡ xs → get_or a 0 0 ∷ get_or b 1 0 ∷ get_or c 2 0 ∷ char ∷ [] ≡ xs ++ char ∷ []
three-of xs a b c char len ea eb ec =
    ap (λ (t : List ℕ). get_or t 0 0 ∷ get_or b 1 0 ∷ get_or c 2 0 ∷ char ∷ []) ea
    ∙ ap (λ (t : List ℕ). get_or xs 0 0 ∷ get_or t 1 0 ∷ get_or c 2 0 ∷ char ∷ []) eb
    ∙ ap (λ (t : List ℕ). get_or xs 0 0 ∷ get_or xs 1 0 ∷ get_or t 2 0 ∷ char ∷ []) ec
    ∙ three-in xs char len

-- the input ends
pub text-end : (bad : Bool) (size at len end : ℕ) (text : List ℕ) → len ≤ text_size size → (bad ≡ false → len ≡ length text) → text_by bad size at len text [] false end ≡ Err (Truncated, end)
text-end true size at len end text short counted = cond-false (nat_lt (text_size size) (len + 0)) (Err (Length, at)) _ (le-ltb _ _ (omega (arith, short)))
text-end false size at len end text short counted =
    let is = counted refl in
    let all = length-append text [] in
    cond-false (nat_lt (text_size size) (length (text ++ []))) (Err (Length, at)) _ (le-ltb _ _ (omega (arith, short, is, all)))
