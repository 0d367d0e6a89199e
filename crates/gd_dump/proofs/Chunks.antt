-- The lines of a datum's text.
use Rattle.std.proofs.Common.{◌≡◌, ◌≢◌, ◌∙◌, ap, sym, refl, ℕ, zero, suc, ◌<◌, Bool, true, false, ◌&&◌, List, [], ◌∷◌, ◌++◌, length, arith, eqb, append-nil}
use Rattle.std.specs.Prelude.{◌==◌, codes, not}
use Rattle.std.specs.List.{list_all, starts_with}
use Rattle.std.proofs.lemmas.Bool.{cond-false, eq-eqb, ne_eqb}
use Rattle.gd_dump.specs.Ascii.{broken, lines_of}
use Rattle.gd_dump_reading.specs.AsciiItems.{Line, Section, before, joined, lines_in, parted, section_step}

-- ---- neither a line feed nor a '#'

abbrev pub is_clean : ℕ → Bool
is_clean b = not (b == 10) && not (b == 35)

abbrev pub clean : List ℕ → Bool
clean text = list_all is_clean text

pub and-left : (a b : Bool) → (a && b) ≡ true → a ≡ true
and-left true b e = refl
and-left false b e = absurd (cc)

pub and-right : (a b : Bool) → (a && b) ≡ true → b ≡ true
and-right true b e = e
and-right false b e = absurd (cc)

not-true : (b : Bool) → not b ≡ true → b ≡ false
not-true true e = absurd (cc)
not-true false e = refl

clean-feed : (b : ℕ) → is_clean b ≡ true → (b == 10) ≡ false
clean-feed b e = not-true (b == 10) (and-left _ (not (b == 35)) e)

clean-hash : (b : ℕ) → is_clean b ≡ true → b ≢ 35
clean-hash b e is = let off = not-true (b == 35) (and-right (not (b == 10)) _ e) in let on = eq-eqb b 35 is in absurd (cc)

-- ---- lines that do not begin with '#'

abbrev AllText : List Line → Type 0
AllText [] = Unit {0}
AllText (l ∷ ls) = (starts_with eqb l.text (codes "#") ≡ false) × AllText ls

parted-text : (ls more : List Line) → AllText ls → parted (ls ++ more) ≡ (ls ++ (parted more).0, (parted more).1)
parted-text [] more all = refl
parted-text (l ∷ ls) more (first, all) = ap (section_step l) (parted-text ls more all) ∙ cond-false (starts_with eqb l.text (codes "#")) _ _ first

no-hash : (b : ℕ) (text : List ℕ) → b ≢ 35 → starts_with eqb (b ∷ text) (codes "#") ≡ false
no-hash b text other = ap (λ t. t && true) (ne_eqb 35 b (λ e. other (sym e)))

-- ---- a text that is broken into lines

chunks : ℕ → List ℕ → List Line
chunks room [] = (record { text = []; ended = true }) ∷ []
chunks zero (c ∷ cs) = (record { text = []; ended = true }) ∷ before c (chunks 75 cs)
chunks (suc room) (c ∷ cs) = before c (chunks room cs)

some-before : (c : ℕ) (ls : List Line) → 0 < length (before c ls)
some-before c [] = omega arith
some-before c (l ∷ ls) = omega arith

some-chunks : (room : ℕ) (cs : List ℕ) → 0 < length (chunks room cs)
unfolding chunks
some-chunks room [] = omega arith
some-chunks zero (c ∷ cs) = omega arith
some-chunks (suc room) (c ∷ cs) = some-before c (chunks room cs)

before-append : (c : ℕ) (ls more : List Line) → 0 < length ls → before c (ls ++ more) ≡ before c ls ++ more
before-append c [] more some = absurd (omega (arith, some))
before-append c (l ∷ ls) more some = refl

lines-chunks : (room : ℕ) (cs rest : List ℕ) → clean cs ≡ true → lines_in (broken room cs ++ rest) ≡ chunks room cs ++ lines_in rest
unfolding broken chunks
lines-chunks room [] rest e = refl
lines-chunks zero (c ∷ cs) rest e =
    let tail = lines-chunks 75 cs rest (and-right (is_clean c) _ e) in
    ap (λ (ls : List Line). (record { text = []; ended = true }) ∷ ls)
    (cond-false (c == 10) _ _ (clean-feed c (and-left _ (clean cs) e)) ∙ ap (before c) tail ∙ before-append c (chunks 75 cs) (lines_in rest) (some-chunks 75 cs))
lines-chunks (suc room) (c ∷ cs) rest e =
    let tail = lines-chunks room cs rest (and-right (is_clean c) _ e) in
    cond-false (c == 10) _ _ (clean-feed c (and-left _ (clean cs) e)) ∙ ap (before c) tail ∙ before-append c (chunks room cs) (lines_in rest) (some-chunks room cs)

joined-before : (c : ℕ) (ls : List Line) → joined (before c ls) ≡ c ∷ joined ls
joined-before c [] = refl
joined-before c (l ∷ ls) = refl

joined-chunks : (room : ℕ) (cs : List ℕ) → joined (chunks room cs) ≡ cs
unfolding chunks
joined-chunks room [] = refl
joined-chunks zero (c ∷ cs) = joined-before c (chunks 75 cs) ∙ ap (λ (t : List ℕ). c ∷ t) (joined-chunks 75 cs)
joined-chunks (suc room) (c ∷ cs) = joined-before c (chunks room cs) ∙ ap (λ (t : List ℕ). c ∷ t) (joined-chunks room cs)

text-before : (c : ℕ) (ls : List Line) → c ≢ 35 → AllText ls → AllText (before c ls)
text-before c [] other all = (no-hash c [] other, tt)
text-before c (l ∷ ls) other all = (no-hash c l.text other, all.1)

text-chunks : (room : ℕ) (cs : List ℕ) → clean cs ≡ true → AllText (chunks room cs)
unfolding chunks
text-chunks room [] e = (refl, tt)
text-chunks zero (c ∷ cs) e = (refl, text-before c (chunks 75 cs) (clean-hash c (and-left _ (clean cs) e)) (text-chunks 75 cs (and-right (is_clean c) _ e)))
text-chunks (suc room) (c ∷ cs) e = text-before c (chunks room cs) (clean-hash c (and-left _ (clean cs) e)) (text-chunks room cs (and-right (is_clean c) _ e))

-- the lines of a text, none of an empty one
pub chunked : List ℕ → List Line
chunked [] = []
chunked (c ∷ cs) = before c (chunks 75 cs)

pub lines-chunked : (text rest : List ℕ) → clean text ≡ true → lines_in (lines_of text ++ rest) ≡ chunked text ++ lines_in rest
unfolding chunked
lines-chunked [] rest e = refl
lines-chunked (c ∷ cs) rest e =
    cond-false (c == 10) _ _ (clean-feed c (and-left _ (clean cs) e)) ∙ ap (before c) (lines-chunks 75 cs rest (and-right (is_clean c) _ e)) ∙ before-append c (chunks 75 cs) (lines_in rest) (some-chunks 75 cs)

pub joined-chunked : (text : List ℕ) → joined (chunked text) ≡ text
unfolding chunked
joined-chunked [] = refl
joined-chunked (c ∷ cs) = joined-before c (chunks 75 cs) ∙ ap (λ (t : List ℕ). c ∷ t) (joined-chunks 75 cs)

text-chunked : (text : List ℕ) → clean text ≡ true → AllText (chunked text)
unfolding chunked
text-chunked [] e = tt
text-chunked (c ∷ cs) e = text-before c (chunks 75 cs) (clean-hash c (and-left _ (clean cs) e)) (text-chunks 75 cs (and-right (is_clean c) _ e))

-- they stand before the next section
pub parted-chunked : (text : List ℕ) (more : List Line) (ss : List Section) → clean text ≡ true → parted more ≡ ([], ss) → parted (chunked text ++ more) ≡ (chunked text, ss)
parted-chunked text more ss e next =
    parted-text (chunked text) more (text-chunked text e) ∙ ap (λ (g : List Line × List Section). (chunked text ++ g.0, g.1)) next ∙ ap (λ (ls : List Line). (ls, ss)) (append-nil (chunked text))
