-- Lines that come in parts.
use Rattle.std.proofs.Common.{◌≡◌, ◌∙◌, ap, ap₂, sym, refl, ℕ, zero, suc, ◌+◌, ◌<◌, ◌≤◌, Bool, true, false, List, [], ◌∷◌, ◌++◌, length, take, drop, get_or, arith, eqb}
use Rattle.std.specs.Prelude.{codes, Option, Some, None, Result, Ok, Err, ◌==◌}
use Rattle.std.specs.List.{starts_with}
use Rattle.std.proofs.lemmas.Bool.{cond-true, cond-false, eq-eqb, ne_eqb}
use Rattle.std.proofs.lemmas.List.{append_assoc, get_or-take, length-append, length-take-le, take-append-drop}
use Rattle.gd_dump_reading.specs.AsciiItems.{Line, Section, before, data_told, is_some_section, joined, lines_in, parted, section_step, size_of, sizes, with_datum}
use Rattle.gd_dump_reading.specs.AsciiLeft.{attach, datum_left, inside_parted, lines_left, parted_if}
use Rattle.gd_dump_reading.specs.Lines.{NoFeed}
use Rattle.gd_dump_reading.specs.TextLeft.{Takes, text_left}
use Rattle.gd_dump_reading.specs.Told.{Told, given, refused}
use Rattle.gd_dump_reading.specs.declared.ascii_machine.AsciiPhase.{AsciiPhase}
use Rattle.gd_dump_reading.specs.declared.ascii_machine.AsciiPhase.TheVariants as phases
use Rattle.gd_dump_reading.specs.declared.items.DumpKind.{DumpKind}
use Rattle.gd_dump_reading.specs.declared.items.Item.TheVariants.{Pair}
use Rattle.gd_dump_reading.specs.declared.text.Text.{Text}

attach-append : (xs ys : List ℕ) (ls : List Line) → attach (xs ++ ys) ls ≡ attach xs (attach ys ls)
attach-append [] ys ls = refl
attach-append (x ∷ xs) ys ls = ap (before x) (attach-append xs ys ls)

lines-open : (xs rest : List ℕ) → NoFeed xs (length xs) → lines_in (xs ++ rest) ≡ attach xs (lines_in rest)
lines-open [] rest none = refl
lines-open (x ∷ xs) rest none =
    cond-false _ _ _ (ne_eqb x 10 (none 0 (omega arith))) ∙ ap (before x) (lines-open xs rest (λ k lt. none (suc k) (omega (arith, lt))))

pub attach-feed : (line : List ℕ) (ls : List Line) → attach line ((record { text = []; ended = true }) ∷ ls) ≡ (record { text = line; ended = true }) ∷ ls
attach-feed [] ls = refl
attach-feed (b ∷ line) ls = ap (before b) (attach-feed line ls)

pub attach-last : (b : ℕ) (line : List ℕ) → attach (b ∷ line) [] ≡ (record { text = b ∷ line; ended = false }) ∷ []
attach-last b [] = refl
attach-last b (c ∷ line) = ap (before b) (attach-last c line)

-- what a line's end is: its bytes, its line feed, and the lines behind it
abbrev pub first_text : List Line → List ℕ
first_text [] = []
first_text (l ∷ ls) = l.text

abbrev pub first_ended : List Line → Bool
first_ended [] = false
first_ended (l ∷ ls) = l.ended

abbrev pub behind_first : List Line → List Line
behind_first [] = []
behind_first (l ∷ ls) = ls

pub attach-first : (c : ℕ) (line : List ℕ) (ls : List Line) → attach (c ∷ line) ls ≡ (record { text = (c ∷ line) ++ first_text ls; ended = first_ended ls }) ∷ behind_first ls
attach-first c [] [] = refl
attach-first c [] (l ∷ ls) = refl
attach-first c (d ∷ line) ls = ap (before c) (attach-first d line ls)

-- a part without a line feed
pub attach-part : (line piece rest : List ℕ) (n : ℕ) → n ≤ length piece → NoFeed piece n → attach line (lines_in (piece ++ rest)) ≡ attach (line ++ take n piece) (lines_in (drop n piece ++ rest))
attach-part line piece rest n within none =
    let len : length (take n piece) ≡ n = length-take-le n piece within in
    let part : NoFeed (take n piece) (length (take n piece)) = λ k lt e. none k (omega (arith, len, lt)) (sym (get_or-take n piece k 0 (omega (arith, len, lt))) ∙ e) in
    ap (λ (t : List ℕ). attach line (lines_in (t ++ rest))) (sym (take-append-drop n piece))
    ∙ ap (λ (t : List ℕ). attach line (lines_in t)) (append_assoc (take n piece) (drop n piece) rest)
    ∙ ap (attach line) (lines-open (take n piece) (drop n piece ++ rest) part)
    ∙ sym (attach-append line (take n piece) (lines_in (drop n piece ++ rest)))

-- a line feed ends the line
pub feed-cut : (line piece rest : List ℕ) → 0 < length piece → get_or piece 0 0 ≡ 10
    → parted (attach line (lines_in (piece ++ rest))) ≡ section_step (record { text = line; ended = true }) (parted (lines_in (drop 1 piece ++ rest)))
feed-cut line [] rest some feed = absurd (omega (arith, some))
feed-cut line (b ∷ piece) rest some feed =
    ap (λ ls. parted (attach line ls)) (cond-true (b == 10) ((record { text = []; ended = true }) ∷ lines_in (piece ++ rest)) (before b (lines_in (piece ++ rest))) (eq-eqb b 10 feed))
    ∙ ap parted (attach-feed line (lines_in (piece ++ rest)))

-- outside of a datum's text
pub lines-plain : (p : AsciiPhase) (inside : Bool) (ls : List Line) → (p ≡ phases.Datum → ⊥) → lines_left p inside ls ≡ parted ls
lines-plain phases.Head inside ls other = refl
lines-plain phases.Data inside ls other = refl
lines-plain phases.Datum inside ls other = absurd (other refl)
lines-plain phases.Counted inside ls other = refl
lines-plain phases.Ended inside ls other = refl

-- ---- a datum's text

text-feed-cut : (inside : Bool) (ls : List Line) → parted_if inside ((record { text = []; ended = true }) ∷ ls) ≡ ((record { text = []; ended = true }) ∷ (parted ls).0, (parted ls).1)
text-feed-cut true ls = refl
text-feed-cut false ls = refl

-- a line feed counts as a byte, and is none of the text
pub text-feed : (count : ℕ) (key : Option (List ℕ)) (t : Text) (place : ℕ) (inside : Bool) (piece rest : List ℕ) → 0 < length piece → get_or piece 0 0 ≡ 10
    → let old = parted_if inside (lines_in (piece ++ rest)) in let new = parted (lines_in (drop 1 piece ++ rest)) in datum_left count key t place old.0 old.1 ≡ datum_left count key t (place + 1) new.0 new.1
text-feed count key t place inside [] rest some feed = absurd (omega (arith, some))
text-feed count key t place inside (b ∷ piece) rest some feed =
    let ls = lines_in (piece ++ rest) in
    let g = parted ls in
    let told = λ (x : List Line × List Section). datum_left count key t place x.0 x.1 in
    ap (λ (x : List Line). told (parted_if inside x)) (cond-true (b == 10) ((record { text = []; ended = true }) ∷ ls) (before b ls) (eq-eqb b 10 feed))
    ∙ ap told (text-feed-cut inside ls)
    ∙ ap (λ n. with_datum count key n (text_left t (joined g.0) (is_some_section g.1) n) (λ c k. data_told c k n g.1)) (omega arith)

-- what a part of a line leaves of a text
inside-parts : (ls : List Line) → (joined (inside_parted ls).0 ≡ first_text ls ++ joined (parted (behind_first ls)).0) × ((inside_parted ls).1 ≡ (parted (behind_first ls)).1)
    × ((n : ℕ) (xs : List ℕ) → n ≡ length xs → size_of (record { text = xs ++ first_text ls; ended = first_ended ls }) + sizes (parted (behind_first ls)).0 ≡ n + sizes (inside_parted ls).0)
inside-parts [] = (refl, refl, λ n xs is. omega (arith, is, length-append xs []))
inside-parts (l ∷ ls) = (refl, refl, λ n xs is. omega (arith, is, length-append xs l.text))

-- the lines where some of a line of the text comes
pub part-cut : (inside : Bool) (c : ℕ) (line : List ℕ) (ls : List Line) → (inside ≡ false → starts_with eqb (c ∷ line) (codes "#") ≡ false)
    → parted_if inside (attach (c ∷ line) ls) ≡ ((record { text = (c ∷ line) ++ first_text ls; ended = first_ended ls }) ∷ (parted (behind_first ls)).0, (parted (behind_first ls)).1)
part-cut true c line ls no_hash = ap inside_parted (attach-first c line ls)
part-cut false c line ls no_hash = ap parted (attach-first c line ls) ∙ cond-false (starts_with eqb (c ∷ line) (codes "#")) _ _ (no_hash refl)

part-told : (count : ℕ) (key : Option (List ℕ)) (old new : Text) (place n : ℕ) (inside : Bool) (xs : List ℕ) (ls : List Line) → 0 < length xs → n ≡ length xs → (inside ≡ false → starts_with eqb xs (codes "#") ≡ false)
    → Takes old new xs → let a = parted_if inside (attach xs ls) in let b = inside_parted ls in datum_left count key old place a.0 a.1 ≡ datum_left count key new (place + n) b.0 b.1
part-told count key old new place n inside [] ls some is no_hash takes = absurd (omega (arith, some))
part-told count key old new place n inside (c ∷ line) ls some is no_hash takes =
    let xs = c ∷ line in
    let b = inside_parted ls in
    let (text, sections, size) = inside-parts ls in
    let body = (parted (behind_first ls)).0 in
    let ss = (parted (behind_first ls)).1 in
    let end = place + (size_of (record { text = xs ++ first_text ls; ended = first_ended ls }) + sizes body) in
    let ends : end ≡ place + n + sizes b.0 = omega (arith, size n xs is) in
    let read : text_left old ((xs ++ first_text ls) ++ joined body) (is_some_section ss) end ≡ text_left new (joined b.0) (is_some_section ss) end =
    ap (λ (t : List ℕ). text_left old t (is_some_section ss) end) (append_assoc xs (first_text ls) (joined body))
    ∙ takes.left (first_text ls ++ joined body) (is_some_section ss) end
    ∙ ap (λ (t : List ℕ). text_left new t (is_some_section ss) end) (sym text) in
    ap (λ (g : List Line × List Section). datum_left count key old place g.0 g.1) (part-cut inside c line ls no_hash)
    ∙ ap (λ r. with_datum count key end r (λ x k. data_told x k end ss)) read
    ∙ ap₂ (λ (s : List Section) m. with_datum count key m (text_left new (joined b.0) (is_some_section s) m) (λ x k. data_told x k m s)) (sym sections) ends

pub hash-front : (piece : List ℕ) (n : ℕ) → 0 < n → n ≤ length piece → starts_with eqb (take n piece) (codes "#") ≡ starts_with eqb piece (codes "#")
hash-front [] n some within = absurd (omega (arith, some, within))
hash-front (b ∷ piece) zero some within = absurd (omega (arith, some))
hash-front (b ∷ piece) (suc m) some within = refl

pub text-part : (count : ℕ) (key : Option (List ℕ)) (old new : Text) (place n : ℕ) (inside : Bool) (piece rest : List ℕ) → 0 < n → n ≤ length piece → NoFeed piece n → (inside ≡ false → starts_with eqb piece (codes "#") ≡ false)
    → Takes old new (take n piece) → let a = parted_if inside (lines_in (piece ++ rest)) in let b = inside_parted (lines_in (drop n piece ++ rest)) in datum_left count key old place a.0 a.1 ≡ datum_left count key new (place + n) b.0 b.1
text-part count key old new place n inside piece rest some within none no_hash takes =
    let len = length-take-le n piece within in
    ap (λ (ls : List Line). datum_left count key old place (parted_if inside ls).0 (parted_if inside ls).1) (attach-part [] piece rest n within none)
    ∙ part-told count key old new place n inside (take n piece) (lines_in (drop n piece ++ rest)) (omega (arith, len, some)) (omega (arith, len)) (λ e. hash-front piece n some within ∙ no_hash e) takes

-- ---- a '#' ends a text

pub hash-cut : (piece rest : List ℕ) → 0 < length piece → get_or piece 0 0 ≡ 35 → lines_in (piece ++ rest) ≡ before 35 (lines_in (drop 1 piece ++ rest))
hash-cut [] rest some hash = absurd (omega (arith, some))
hash-cut (b ∷ piece) rest some hash =
    cond-false (b == 10) ((record { text = []; ended = true }) ∷ lines_in (piece ++ rest)) (before b (lines_in (piece ++ rest))) (ne_eqb b 10 (λ e. absurd (omega (arith, hash, e))))
    ∙ ap (λ n. before n (lines_in (piece ++ rest))) hash

pub hash-parted : (ls : List Line) → (s : Section) × (ss : List Section) × (parted (before 35 ls) ≡ ([], s ∷ ss))
hash-parted [] = (_, _, refl)
hash-parted (l ∷ ls) = (_, _, refl)

-- the key, the pair, or the refusal
pub closed-key : (count : ℕ) (key : Option (List ℕ)) (t : Text) (place : ℕ) (s : Section) (ss : List Section) (bytes : List ℕ) → key ≡ None → ((end : ℕ) → text_left t [] true end ≡ Ok bytes)
    → datum_left count key t place [] (s ∷ ss) ≡ data_told count (Some bytes) place (s ∷ ss)
closed-key count key t place s ss bytes none read =
    ap₂ (λ k r. with_datum count k (place + 0) r (λ c x. data_told c x (place + 0) (s ∷ ss))) none (read (place + 0))
    ∙ ap (λ n. data_told count (Some bytes) n (s ∷ ss)) (omega arith)

pub closed-pair : (count : ℕ) (key : Option (List ℕ)) (t : Text) (place : ℕ) (s : Section) (ss : List Section) (k bytes : List ℕ) → key ≡ Some k → ((end : ℕ) → text_left t [] true end ≡ Ok bytes)
    → datum_left count key t place [] (s ∷ ss) ≡ given (Pair k bytes) (place + 1) (data_told (count + 1) None place (s ∷ ss))
closed-pair count key t place s ss k bytes is read =
    ap₂ (λ x r. with_datum count x (place + 0) r (λ c y. data_told c y (place + 0) (s ∷ ss))) is (read (place + 0))
    ∙ ap (λ n. given (Pair k bytes) (n + 1) (data_told (count + 1) None n (s ∷ ss))) (omega arith)

pub closed-bad : (count : ℕ) (key : Option (List ℕ)) (t : Text) (place : ℕ) (s : Section) (ss : List Section) (kind : DumpKind) (at : ℕ) → ((end : ℕ) → text_left t [] true end ≡ Err (kind, at))
    → datum_left count key t place [] (s ∷ ss) ≡ refused kind at
closed-bad count key t place s ss kind at read = ap (λ r. with_datum count key (place + 0) r (λ c x. data_told c x (place + 0) (s ∷ ss))) (read (place + 0))

-- ---- the input ends

pub last-cut : (line : List ℕ) → 0 < length line → parted (attach line (lines_in [])) ≡ section_step (record { text = line; ended = false }) ([], [])
last-cut [] some = absurd (omega (arith, some))
last-cut (b ∷ line) some = ap parted (attach-last b line)
