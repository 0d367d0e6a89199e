-- What was encoded is printed as the words.
use Rattle.std.proofs.Common.{◌≡◌, ◌∙◌, ap, sym, refl, subst, ℕ, zero, suc, ◌+◌, ◌-◌, ◌*◌, ◌^◌, ◌≤◌, ◌==◌, ◌&&◌, not, Bool, true, false, nat_lt, nat_le, if◌then◌else◌, List, [], ◌∷◌, ◌++◌, length, take, drop, replicate, slice_get, ℤ, pos, negsuc, Option, Some, None, Result, Ok, Err, inl, inr, arith, length-append}
use Rattle.std.specs.Fmt.{signed_decimal}
use Rattle.std.specs.List.{flat_map, list_any}
use Rattle.std.proofs.lemmas.List.{append-nil, append_assoc, drop_at, length-replicate, take_at}
use Rattle.std.proofs.lemmas.Bool.Decides.{nat_tests}
use Rattle.byteorder.specs.Numbers.{length-bytes_low_first}
use Rattle.gd_types.specs.Decoding.{datum_fault, datum_text, kind_fault, kind_text, last_member, left_fault, member_text, rest_fault, unless, zero_fault}
use Rattle.gd_types.specs.Encoding.{before, held_bytes, member_bytes, value_count, word_bytes, words_after}
use Rattle.gd_types.specs.Members.{Defined, fits_at, goes_on, has_room, is_made_from, is_text, is_within, place_after, placed, reached, reached_from}
use Rattle.gd_types.specs.Numerals.{held_number, numeral, word_number}
use Rattle.gd_types.specs.Printing.{joined, printed}
use Rattle.gd_types.specs.RoundTrip.{IsMade, none, next, PrintsBack, number_again, word_again, words_again}
use Rattle.gd_types.specs.Rows.{Kind, Byte, Number, Rest, ZeroEnded, is_width, kind_of, kind_width, number_bytes, number_in}
use Rattle.gd_types.specs.declared.errors.TypeError.{TypeError}
use Rattle.gd_types.specs.declared.errors.TypeError.TheVariants.{Short, Text, Trailing}
use Rattle.gd_types.specs.declared.members.Member.{Member}
use Rattle.gd_types.specs.declared.members.Member.TheVariants.{Row, Float, Double, Off, Pad}
use Rattle.gd_types.proofs.Appending.{made-next}
use Rattle.gd_types.proofs.Back.{numbers-back}
use Rattle.gd_types.proofs.Cuts.{held-ok}
use Rattle.gd_types.proofs.Making.{and-left, and-right, cases_bool, made-fits, made-push, made-text, not-true, or-left, or-right}

abbrev Bytes : Type 0
Bytes = Result (List ℕ) TypeError

same-ok : (xs ys : List ℕ) → ◌≡◌ {A = Bytes} (Ok xs) (Ok ys) → xs ≡ ys
same-ok xs ys h = cc

-- ---- the kinds of the rows

-- a number has one of the widths
abbrev HasWidth : Kind → Type 0
HasWidth (Number width signed) = is_width width ≡ true
HasWidth kind = Unit {0}

has-width : (row : ℕ) → HasWidth (kind_of row)
has-width zero = tt
has-width (suc zero) = refl
has-width (suc (suc zero)) = refl
has-width (suc (suc (suc zero))) = refl
has-width (suc (suc (suc (suc zero)))) = refl
has-width (suc (suc (suc (suc (suc zero))))) = refl
has-width (suc (suc (suc (suc (suc (suc zero)))))) = refl
has-width (suc (suc (suc (suc (suc (suc (suc zero))))))) = refl
has-width (suc (suc (suc (suc (suc (suc (suc (suc zero)))))))) = refl
has-width (suc (suc (suc (suc (suc (suc (suc (suc (suc zero))))))))) = tt
has-width (suc (suc (suc (suc (suc (suc (suc (suc (suc (suc zero)))))))))) = tt
has-width (suc (suc (suc (suc (suc (suc (suc (suc (suc (suc (suc n))))))))))) = tt

-- a kind whose values take their width
abbrev IsPlain : Kind → Type 0
IsPlain Rest = ⊥
IsPlain ZeroEnded = ⊥
IsPlain kind = Unit {0}

is-plain : (row : ℕ) → is_text (Row row) ≡ false → IsPlain (kind_of row)
is-plain zero h = tt
is-plain (suc zero) h = tt
is-plain (suc (suc zero)) h = tt
is-plain (suc (suc (suc zero))) h = tt
is-plain (suc (suc (suc (suc zero)))) h = tt
is-plain (suc (suc (suc (suc (suc zero))))) h = tt
is-plain (suc (suc (suc (suc (suc (suc zero)))))) h = tt
is-plain (suc (suc (suc (suc (suc (suc (suc zero))))))) h = tt
is-plain (suc (suc (suc (suc (suc (suc (suc (suc zero)))))))) h = tt
is-plain (suc (suc (suc (suc (suc (suc (suc (suc (suc n))))))))) h = absurd (grind (arith, nat_tests, h))

-- a kind whose values take what is left
abbrev IsLast : Kind → Type 0
IsLast Rest = Unit {0}
IsLast ZeroEnded = Unit {0}
IsLast kind = ⊥

is-last : (row : ℕ) → is_text (Row row) ≡ true → IsLast (kind_of row)
is-last zero h = cc
is-last (suc zero) h = cc
is-last (suc (suc zero)) h = cc
is-last (suc (suc (suc zero))) h = cc
is-last (suc (suc (suc (suc zero)))) h = cc
is-last (suc (suc (suc (suc (suc zero))))) h = cc
is-last (suc (suc (suc (suc (suc (suc zero)))))) h = cc
is-last (suc (suc (suc (suc (suc (suc (suc zero))))))) h = cc
is-last (suc (suc (suc (suc (suc (suc (suc (suc zero)))))))) h = cc
is-last (suc (suc (suc (suc (suc (suc (suc (suc (suc zero))))))))) h = tt
is-last (suc (suc (suc (suc (suc (suc (suc (suc (suc (suc zero)))))))))) h = tt
is-last (suc (suc (suc (suc (suc (suc (suc (suc (suc (suc (suc n))))))))))) h = tt

-- ---- one value

if-ok : (b : Bool) (xs ys : List ℕ) (e : TypeError) → ◌≡◌ {A = Bytes} (if b then Ok xs else Err e) (Ok ys) → (b ≡ true) × (xs ≡ ys)
if-ok true xs ys e h = (refl, same-ok xs ys h)
if-ok false xs ys e h = cc

if-not : (b : Bool) (xs ys : List ℕ) (e : TypeError) → ◌≡◌ {A = Bytes} (if b then Err e else Ok xs) (Ok ys) → (b ≡ false) × (xs ≡ ys)
if-not true xs ys e h = cc
if-not false xs ys e h = (refl, same-ok xs ys h)

length-number : (w : ℕ) (z : ℤ) → length (number_bytes w z) ≡ w
length-number w (pos n) = length-bytes_low_first 0 w n
length-number w (negsuc n) = length-bytes_low_first 0 w (2 ^ (8 * w) - suc n)

-- a value at the front of bytes, as long as its kind says, is printed as its word
record Shows (kind : Kind) (word bytes : List ℕ) : Type 0 where
  size : length bytes ≡ kind_width kind
  text : (rest : List ℕ) → kind_text kind (bytes ++ rest) ≡ word_again kind word

number-shows : (w : ℕ) (signed : Bool) (word bytes : List ℕ) (read : Option ℤ) (result : Result ℤ TypeError) → is_width w ≡ true → result ≡ held_number w signed read
    → held_bytes w result ≡ Ok bytes → (length bytes ≡ w) × ((rest : List ℕ) → signed_decimal (number_in w signed (bytes ++ rest)) ≡ number_again result)
number-shows w signed word bytes read (Ok z) width is h =
    let same = same-ok (number_bytes w z) bytes h in
    let held = held-ok w signed read z z refl is in (
      ap length (sym same) ∙ length-number w z,
      λ rest. ap (λ (b : List ℕ). signed_decimal (number_in w signed (b ++ rest))) (sym same) ∙ ap signed_decimal (numbers-back w signed z rest width held),
    )
number-shows w signed word bytes read (Err e) width is h = cc

one-byte : (word rest : List ℕ) → length word ≡ 1 → take 1 (word ++ rest) ≡ word
one-byte word rest h = take_at word rest 1 h

kind-shows : (kind : Kind) (word bytes : List ℕ) → HasWidth kind → IsPlain kind → word_bytes kind word ≡ Ok bytes → Shows kind word bytes
kind-shows Byte word bytes width plain h =
    let both = if-ok (length word == 1) word bytes Text h in
    let one : length word ≡ 1 = let e = both.0 in grind (arith, nat_tests) in
    record {
      size = ap length (sym both.1) ∙ one;
      text = λ rest. ap (λ (b : List ℕ). printed (take 1 (b ++ rest))) (sym both.1) ∙ ap printed (one-byte word rest one);
    }
kind-shows (Number w signed) word bytes width plain h =
    let both = number-shows w signed word bytes (numeral signed word) (word_number w signed word) width refl h in
    record { size = both.0; text = both.1 }
kind-shows Rest word bytes width plain h = absurd plain
kind-shows ZeroEnded word bytes width plain h = absurd plain

-- a text that ends in its first NUL
zero-last : (word : List ℕ) → list_any (λ b. b == 0) word ≡ false → zero_fault (word ++ 0 ∷ []) ≡ None
zero-last [] h = refl
zero-last (b ∷ bytes) h =
    let other = or-left (b == 0) (list_any (λ c. c == 0) bytes) h in
    ap (λ (t : Bool). if t then (if length (bytes ++ 0 ∷ []) == 0 then None else Some Trailing) else zero_fault (bytes ++ 0 ∷ [])) other
    ∙ zero-last bytes (or-right (b == 0) (list_any (λ c. c == 0) bytes) h)

all-but-zero : (word : List ℕ) → take (length (word ++ 0 ∷ []) - 1) (word ++ 0 ∷ []) ≡ word
all-but-zero word =
    let len : length (word ++ 0 ∷ []) - 1 ≡ length word = omega (arith, length-append word (0 ∷ [])) in
    ap (λ (n : ℕ). take n (word ++ 0 ∷ [])) len ∙ take_at word (0 ∷ []) (length word) refl

-- a text as the last value
record Ends (kind : Kind) (word bytes : List ℕ) : Type 0 where
  fault : kind_fault kind bytes ≡ None
  text : kind_text kind bytes ≡ word_again kind word

kind-ends : (kind : Kind) (word bytes : List ℕ) → IsLast kind → word_bytes kind word ≡ Ok bytes → Ends kind word bytes
kind-ends Rest word bytes last h = record { fault = refl; text = ap printed (sym (same-ok word bytes h)) }
kind-ends ZeroEnded word bytes last h =
    let both = if-not (list_any (λ b. b == 0) word) (word ++ 0 ∷ []) bytes Text h in
    record {
      fault = ap zero_fault (sym both.1) ∙ zero-last word both.0;
      text = ap (λ (b : List ℕ). printed (take (length b - 1) b)) (sym both.1) ∙ ap printed (all-but-zero word);
    }
kind-ends Byte word bytes last h = absurd last
kind-ends (Number w signed) word bytes last h = absurd last

plain-fault : (kind : Kind) → IsPlain kind → kind_fault kind [] ≡ None
plain-fault Byte p = refl
plain-fault (Number w signed) p = refl
plain-fault Rest p = absurd p
plain-fault ZeroEnded p = absurd p

last-width : (kind : Kind) → IsLast kind → kind_width kind ≡ 0
last-width Rest p = refl
last-width ZeroEnded p = refl
last-width Byte p = absurd p
last-width (Number w signed) p = absurd p

-- ---- members

before-ok : (a b : Bytes) (rest : List ℕ) → before a b ≡ Ok rest → (xs : List ℕ) × ((ys : List ℕ) × (a ≡ Ok xs) × (b ≡ Ok ys) × (rest ≡ xs ++ ys))
before-ok (Ok xs) (Ok ys) rest h = (xs, (ys, refl, refl, sym (same-ok (xs ++ ys) rest h)))
before-ok (Ok xs) (Err e) rest h = cc
before-ok (Err e) b rest h = cc

-- members from a place on are printed as their words, over bytes that have no fault
record PrintsFrom (members : List Member) (at : ℕ) (words : List (List ℕ)) (bytes : List ℕ) : Type 0 where
  texts : flat_map (member_text bytes) (placed at members) ≡ words_again members words
  long : reached_from at members ≤ length bytes
  fault : rest_fault (last_member members) (drop (reached_from at members) bytes) ≡ None

plain-last : (m : Member) (bytes : List ℕ) → is_text m ≡ false → left_fault bytes ≡ None → rest_fault (Some m) bytes ≡ None
plain-last (Row row) [] plain h = plain-fault (kind_of row) (is-plain row plain)
plain-last Float [] plain h = refl
plain-last Double [] plain h = refl
plain-last (Off place) [] plain h = refl
plain-last (Pad count) [] plain h = refl
plain-last m (b ∷ bytes) plain h = cc

last-cons : (m x : Member) (xs : List Member) → last_member (m ∷ x ∷ xs) ≡ last_member (x ∷ xs)
last-cons m x xs =
    let first : suc (suc (length xs)) - 1 ≡ suc (length xs) = omega arith in
    let second : suc (length xs) - 1 ≡ length xs = omega arith in
    ap (slice_get (m ∷ x ∷ xs)) first ∙ sym (ap (slice_get (x ∷ xs)) second)

fault-step : (m : Member) (ms : List Member) (bytes : List ℕ) → is_text m ≡ false → rest_fault (last_member ms) bytes ≡ None → rest_fault (last_member (m ∷ ms)) bytes ≡ None
fault-step m [] bytes plain h = plain-last m bytes plain h
fault-step m (x ∷ xs) bytes plain h = ap (λ (o : Option Member). rest_fault o bytes) (last-cons m x xs) ∙ h

-- the bytes of one member that takes its width
record Piece (m : Member) (at : ℕ) (words : List (List ℕ)) (bytes : List ℕ) : Type 0 where
  plain : is_text m ≡ false
  size : at + length bytes ≡ place_after at m
  text : (front rest : List ℕ) (ms : List Member) → length front ≡ at → member_text ((front ++ bytes) ++ rest) (m, at) ++ words_again ms (words_after m words) ≡ words_again (m ∷ ms) words

off-piece : (place at : ℕ) (words : List (List ℕ)) → at ≤ place → Piece (Off place) at words (replicate (place - at) 0)
off-piece place at words low = record { plain = refl; size = omega (arith, length-replicate {A = ℕ} (place - at) 0); text = λ front rest ms len. refl }

pad-piece : (count at : ℕ) (words : List (List ℕ)) → Piece (Pad count) at words (replicate count 0)
pad-piece count at words = record { plain = refl; size = ap (λ n. at + n) (length-replicate {A = ℕ} count 0); text = λ front rest ms len. refl }

row-piece : (row at : ℕ) (word : List ℕ) (words : List (List ℕ)) (bytes : List ℕ) → is_text (Row row) ≡ false → word_bytes (kind_of row) word ≡ Ok bytes → Piece (Row row) at (word ∷ words) bytes
row-piece row at word words bytes plain h =
    let shows = kind-shows (kind_of row) word bytes (has-width row) (is-plain row plain) h in
    record {
      plain = plain;
      size = ap (λ n. at + n) shows.size;
      text = λ front rest ms len. ap (λ (t : List ℕ). t ∷ words_again ms words)
          (ap (λ (b : List ℕ). kind_text (kind_of row) (drop at b)) (append_assoc front bytes rest) ∙ ap (kind_text (kind_of row)) (drop_at front (bytes ++ rest) at len) ∙ shows.text rest);
    }

plain-step : (m : Member) (ms : List Member) (at : ℕ) (words : List (List ℕ)) (front bytes rest all : List ℕ) → Piece m at words bytes → all ≡ bytes ++ rest → length front ≡ at
    → PrintsFrom ms (place_after at m) (words_after m words) ((front ++ bytes) ++ rest) → PrintsFrom (m ∷ ms) at words (front ++ all)
plain-step m ms at words front bytes rest all piece is len behind =
    subst (PrintsFrom (m ∷ ms) at words) (append_assoc front bytes rest ∙ ap (λ t. front ++ t) (sym is)) (record {
      texts = ap (λ ts. member_text ((front ++ bytes) ++ rest) (m, at) ++ ts) behind.texts ∙ piece.text front rest ms len;
      long = behind.long;
      fault = fault-step m ms (drop (reached_from (place_after at m) ms) ((front ++ bytes) ++ rest)) piece.plain behind.fault;
    })

front-length : (m : Member) (at : ℕ) (words : List (List ℕ)) (front bytes : List ℕ) → Piece m at words bytes → length front ≡ at → length (front ++ bytes) ≡ place_after at m
front-length m at words front bytes piece len = length-append front bytes ∙ ap (λ n. n + length bytes) len ∙ piece.size

text-ends : (row at : ℕ) (word : List ℕ) (words : List (List ℕ)) (front bytes : List ℕ) → is_text (Row row) ≡ true → length front ≡ at → word_bytes (kind_of row) word ≡ Ok bytes
    → PrintsFrom (Row row ∷ []) at (word ∷ words) (front ++ bytes)
text-ends row at word words front bytes text len h =
    let last = is-last row text in
    let ends = kind-ends (kind_of row) word bytes last h in
    let width = last-width (kind_of row) last in
    let place : at + kind_width (kind_of row) ≡ at = omega (arith, width) in
    let here = drop_at front bytes at len in
    record {
      texts = ap (λ (b : List ℕ). kind_text (kind_of row) b ∷ []) here ∙ ap (λ (t : List ℕ). t ∷ []) ends.text;
      long = omega (arith, width, len, length-append front bytes);
      fault = ap (λ (n : ℕ). kind_fault (kind_of row) (drop n (front ++ bytes))) place ∙ ap (kind_fault (kind_of row)) here ∙ ends.fault;
    }

one-text : (row at : ℕ) (word : List ℕ) (words : List (List ℕ)) (front all : List ℕ) → is_text (Row row) ≡ true → length front ≡ at
    → member_bytes at (Row row ∷ []) (word ∷ words) ≡ Ok all → PrintsFrom (Row row ∷ []) at (word ∷ words) (front ++ all)
one-text row at word words front all text len h =
    let parts = before-ok (word_bytes (kind_of row) word) (Ok []) all h in
    let empty = same-ok [] parts.1.0 parts.1.2 in
    let same : all ≡ parts.0 = parts.1.3 ∙ ap (λ t. parts.0 ++ t) (sym empty) ∙ append-nil parts.0 in
    subst (λ (b : List ℕ). PrintsFrom (Row row ∷ []) at (word ∷ words) (front ++ b)) (sym same) (text-ends row at word words front parts.0 text len parts.1.1)

off-low : (place at : ℕ) → fits_at at (Off place) ≡ true → at ≤ place
off-low place at h =
    let goes = and-right (is_within (Off place)) (goes_on at (Off place)) (and-left (is_within (Off place) && goes_on at (Off place)) (nat_le place (2 ^ 48)) h) in
    grind (arith, nat_tests)

prints-from : (ms : List Member) (at : ℕ) (words : List (List ℕ)) (front all : List ℕ) → is_made_from at ms ≡ true → length front ≡ at → member_bytes at ms words ≡ Ok all
    → PrintsFrom ms at words (front ++ all)
prints-from [] at words front all made len h =
    let empty = same-ok [] all h in
    let here = drop_at front all at len in
    record {
      texts = refl;
      long = omega (arith, len, length-append front all);
      fault = ap left_fault here ∙ ap left_fault (sym empty);
    }
prints-from (Row row ∷ ms) at [] front all made len h = cc
prints-from (Row row ∷ ms) at (word ∷ words) front all made len h = elim (cases_bool (is_text (Row row))) [
  | inl text ↦
      let nil = made-text at (Row row) ms text made in
      subst (λ (ns : List Member). PrintsFrom (Row row ∷ ns) at (word ∷ words) (front ++ all)) (sym nil)
      (one-text row at word words front all text len (subst (λ (ns : List Member). member_bytes at (Row row ∷ ns) (word ∷ words) ≡ Ok all) nil h))
  | inr plain ↦
      let parts = before-ok (word_bytes (kind_of row) word) (member_bytes (place_after at (Row row)) ms words) all h in
      let piece = row-piece row at word words parts.0 plain parts.1.1 in
      plain-step (Row row) ms at (word ∷ words) front parts.0 parts.1.0 all piece parts.1.3 len
      (prints-from ms (place_after at (Row row)) words (front ++ parts.0) parts.1.0 (made-next at (Row row) ms made) (front-length (Row row) at (word ∷ words) front parts.0 piece len) parts.1.2)
]
prints-from (Float ∷ ms) at words front all made len h = cc
prints-from (Double ∷ ms) at words front all made len h = cc
prints-from (Off place ∷ ms) at words front all made len h =
    let parts = before-ok (Ok (replicate (place - at) 0)) (member_bytes place ms words) all h in
    let same = same-ok (replicate (place - at) 0) parts.0 parts.1.1 in
    let piece = subst (Piece (Off place) at words) same (off-piece place at words (off-low place at (made-fits at (Off place) ms made))) in
    plain-step (Off place) ms at words front parts.0 parts.1.0 all piece parts.1.3 len
    (prints-from ms place words (front ++ parts.0) parts.1.0 (made-next at (Off place) ms made) (front-length (Off place) at words front parts.0 piece len) parts.1.2)
prints-from (Pad count ∷ ms) at words front all made len h =
    let parts = before-ok (Ok (replicate count 0)) (member_bytes (at + count) ms words) all h in
    let same = same-ok (replicate count 0) parts.0 parts.1.1 in
    let piece = subst (Piece (Pad count) at words) same (pad-piece count at words) in
    plain-step (Pad count) ms at words front parts.0 parts.1.0 all piece parts.1.3 len
    (prints-from ms (at + count) words (front ++ parts.0) parts.1.0 (made-next at (Pad count) ms made) (front-length (Pad count) at words front parts.0 piece len) parts.1.2)

-- ---- definitions

made-from : {d : Defined} → IsMade d → is_made_from 0 d.members ≡ true
made-from (none braces) = refl
made-from (next d m made accepted) =
    let both = and-left (fits_at (reached d.members) m && not (list_any is_text d.members)) (has_room d m) accepted in
    let fits = and-left (fits_at (reached d.members) m) (not (list_any is_text d.members)) both in
    let free = not-true (list_any is_text d.members) (and-right (fits_at (reached d.members) m) (not (list_any is_text d.members)) both) in
    made-push 0 d.members m (made-from made) free fits

if-member : (b : Bool) (x : Bytes) (bytes : List ℕ) → (if b then x else Err Text) ≡ Ok bytes → x ≡ Ok bytes
if-member true x bytes h = h
if-member false x bytes h = cc

pub prints-back : PrintsBack
prints-back d words bytes delim made h =
    let encoded = if-member (length words == value_count d) (member_bytes 0 d.members words) bytes h in
    let prints = prints-from d.members 0 words [] bytes (made-from made) refl encoded in
    let long : nat_lt (length bytes) (reached d.members) ≡ false = let e = prints.long in grind (arith, nat_tests) in
    let fault : datum_fault d bytes ≡ None =
    ap (λ (b : Bool). if b then Some Short else rest_fault (last_member d.members) (drop (reached d.members) bytes)) long ∙ prints.fault in
    ap (λ (f : Option TypeError). unless f (datum_text d bytes delim)) fault ∙ ap (λ ts. Ok (joined delim ts)) prints.texts
