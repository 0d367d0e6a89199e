-- Steps of the reader of binary dumps.
use Rattle.std.proofs.Common.{◌≡◌, ◌∙◌, ap, ap₂, sym, refl, ℕ, zero, suc, ◌+◌, ◌<◌, Bool, true, false, ◌&&◌, ◌||◌, List, [], ◌∷◌, ◌++◌, length, take, drop, get_or, Option, Some, None, arith}
use Rattle.std.specs.Prelude.{◌==◌, not, codes, eqb}
use Rattle.std.specs.List.{starts_with}
use Rattle.std.proofs.lemmas.List.{append_assoc}
use Rattle.std.proofs.lemmas.Bool.{cond-true, cond-false, ne_eqb}
use Rattle.gd_dump_reading.specs.BinaryFront.{is_no_front}
use Rattle.gd_dump_reading.specs.Lines.{NoFeed, contains, first_line, is_overlong}
use Rattle.gd_dump_reading.specs.BinaryItems.{head_line_told, head_told, is_head_line, is_no_head, pairs_told}
use Rattle.gd_dump_reading.specs.BinaryLeft.{head_left, left_in}
use Rattle.gd_dump_reading.specs.Told.{Told, refused}
use Rattle.gd_dump_reading.specs.declared.items.DumpKind.TheVariants.{Version, Truncated}
use Rattle.gd_dump_reading.specs.declared.binary_machine.Phase.{Phase}
use Rattle.gd_dump_reading.specs.declared.binary_machine.Phase.TheVariants.{Head}
use Rattle.gd_dump_reading.proofs.LineCuts.{line-open, line-at, overlong-more}

part-left : (n place : ℕ) (held piece rest : List ℕ) → NoFeed piece (length piece) → head_left (suc n) place held (piece ++ rest) ≡ head_left (suc n) place (held ++ piece) rest
part-left n place held piece rest none =
    let cut = line-open piece rest none in
    ap₂ (λ (line : List ℕ) after. head_line_told n place (held ++ line) after (head_told pairs_told n)) (ap (λ p. p.0) cut) (ap (λ p. p.1) cut)
    ∙ ap (λ line. head_line_told n place line (first_line rest).1 (head_told pairs_told n)) (sym (append_assoc held piece (first_line rest).0))

and-off : (a b c : Bool) → b ≡ true → (a && not b && c) ≡ false
and-off true true c e = refl
and-off false true c e = refl
and-off a false c e = absurd (cc)

or-on : (a b : Bool) → b ≡ true → (a || b) ≡ true
or-on true true e = refl
or-on false true e = refl
or-on a false e = absurd (cc)

overlong-told : (n place : ℕ) (line : List ℕ) (after : Option (List ℕ)) (next : ℕ → List ℕ → Told) → ((ended : Bool) → is_overlong ended line ≡ true) → head_line_told n place line after next ≡ refused Version place
overlong-told n place line None next long = cond-true (is_no_head line) (refused Version place) (refused Truncated (place + length line)) (or-on _ (is_overlong false line) (long false))
overlong-told n place line (Some rest) next long =
    cond-false (is_head_line n line) (next (place + length line + 1) rest) (refused Version place) (and-off (starts_with eqb line (codes "!")) (is_overlong true line) _ (long true))

-- a line that begins otherwise
begins-off : (a b c : Bool) → a ≡ false → (a && b && c) ≡ false
begins-off true b c e = absurd (cc)
begins-off false b c e = refl

or-first : (a b c : Bool) → a ≡ false → b ≡ false → (not b && not a || c) ≡ true
or-first true b c e f = absurd (cc)
or-first false true c e f = absurd (cc)
or-first false false c e f = refl

bad-front : (n place : ℕ) (b : ℕ) (line : List ℕ) (after : Option (List ℕ)) (next : ℕ → List ℕ → Told) → starts_with eqb (b ∷ line) (codes "!") ≡ false → head_line_told n place (b ∷ line) after next ≡ refused Version place
bad-front n place b line None next off =
    cond-true (is_no_head (b ∷ line)) (refused Version place) (refused Truncated (place + length (b ∷ line))) (or-first (starts_with eqb (b ∷ line) (codes "!")) (length (b ∷ line) == 0) (is_overlong false (b ∷ line)) off (ne_eqb _ 0 (λ e. absurd (omega (arith, e)))))
bad-front n place b line (Some rest) next off =
    cond-false (is_head_line n (b ∷ line)) (next (place + length (b ∷ line) + 1) rest) (refused Version place) (begins-off (starts_with eqb (b ∷ line) (codes "!")) (not (is_overlong true (b ∷ line))) (not (n == 2) || contains (codes "GDBM FLAT FILE DUMP") (b ∷ line)) off)

never : (b : Bool) → (b && false || false) ≡ true → ⊥
never true e = absurd (cc)
never false e = absurd (cc)

by-front : (m at : ℕ) (c : ℕ) (xs ys : List ℕ) (z : Option (List ℕ)) (f : ℕ → List ℕ → Told) (a o : Bool) → starts_with eqb (c ∷ xs) (codes "!") ≡ a → is_overlong true (c ∷ xs) ≡ o → (not (length (c ∷ xs) == 0) && not a || o) ≡ true
    → head_line_told m at ((c ∷ xs) ++ ys) z f ≡ refused Version at
by-front m at c xs ys z f false o begins long e = bad-front m at c (xs ++ ys) z f begins
by-front m at c xs ys z f true true begins long e = overlong-told m at ((c ∷ xs) ++ ys) z f (λ ended. overlong-more ended (c ∷ xs) ys long)
by-front m at c xs ys z f true false begins long e = absurd (never (not (length (c ∷ xs) == 0)) e)

front-told : (n place : ℕ) (line more : List ℕ) (after : Option (List ℕ)) (next : ℕ → List ℕ → Told) → is_no_front line ≡ true → head_line_told n place (line ++ more) after next ≡ refused Version place
front-told n place [] more after next bad = absurd (cc)
front-told n place (b ∷ line) more after next bad = by-front n place b line more after next _ _ refl refl bad

front-left : (n place : ℕ) (held piece rest : List ℕ) → NoFeed piece (length piece) → is_no_front (held ++ piece) ≡ true → head_left (suc n) place held (piece ++ rest) ≡ refused Version place
front-left n place held piece rest none bad =
    part-left n place held piece rest none ∙ front-told n place (held ++ piece) (first_line rest).0 (first_line rest).1 (head_told pairs_told n) bad

line-left : (n place : ℕ) (held piece rest : List ℕ) (end : ℕ) → end < length piece → NoFeed piece end → get_or piece end 0 ≡ 10
    → head_left (suc n) place held (piece ++ rest) ≡ head_line_told n place (held ++ take end piece) (Some (drop (end + 1) piece ++ rest)) (head_told pairs_told n)
line-left n place held piece rest end inside none feed =
    let cut = line-at piece rest end inside none feed in
    ap₂ (λ (line : List ℕ) after. head_line_told n place (held ++ line) after (head_told pairs_told n)) (ap (λ p. p.0) cut) (ap (λ p. p.1) cut)

begun : (n place : ℕ) (rest : List ℕ) → head_told pairs_told n place rest ≡ head_left n place [] rest
begun zero place rest = refl
begun (suc n) place rest = refl

good-line-left : (n place : ℕ) (held piece rest : List ℕ) (end : ℕ) → end < length piece → NoFeed piece end → get_or piece end 0 ≡ 10 → is_head_line n (held ++ take end piece) ≡ true
    → head_left (suc n) place held (piece ++ rest) ≡ head_left n (place + length (held ++ take end piece) + 1) [] (drop (end + 1) piece ++ rest)
good-line-left n place held piece rest end inside none feed good =
    let line = held ++ take end piece in
    line-left n place held piece rest end inside none feed
    ∙ cond-true (is_head_line n line) (head_told pairs_told n (place + length line + 1) (drop (end + 1) piece ++ rest)) (refused Version place) good ∙ begun n _ _

bad-line-left : (n place : ℕ) (held piece rest : List ℕ) (end : ℕ) → end < length piece → NoFeed piece end → get_or piece end 0 ≡ 10 → is_head_line n (held ++ take end piece) ≡ false
    → head_left (suc n) place held (piece ++ rest) ≡ refused Version place
bad-line-left n place held piece rest end inside none feed bad =
    let line = held ++ take end piece in
    line-left n place held piece rest end inside none feed
    ∙ cond-false (is_head_line n line) (head_told pairs_told n (place + length line + 1) (drop (end + 1) piece ++ rest)) (refused Version place) bad

-- the same by the phase
pub at-phase : (p : Phase) (n : ℕ) → p ≡ Head (n + 1) → p ≡ Head (suc n)
at-phase p n is = is ∙ ap Head (omega arith)

pub part-phase : (p : Phase) (n place : ℕ) (held piece rest : List ℕ) → p ≡ Head (n + 1) → NoFeed piece (length piece) → left_in p place held (piece ++ rest) ≡ left_in p place (held ++ piece) rest
part-phase p n place held piece rest is none =
    let e = at-phase p n is in
    ap (λ q. left_in q place held (piece ++ rest)) e ∙ part-left n place held piece rest none ∙ sym (ap (λ q. left_in q place (held ++ piece) rest) e)

pub front-phase : (p : Phase) (n place : ℕ) (held piece rest : List ℕ) → p ≡ Head (n + 1) → NoFeed piece (length piece) → is_no_front (held ++ piece) ≡ true → left_in p place held (piece ++ rest) ≡ refused Version place
front-phase p n place held piece rest is none long = ap (λ q. left_in q place held (piece ++ rest)) (at-phase p n is) ∙ front-left n place held piece rest none long

pub good-phase : (p : Phase) (n place : ℕ) (held piece rest : List ℕ) (end : ℕ) → p ≡ Head (n + 1) → end < length piece → NoFeed piece end → get_or piece end 0 ≡ 10 → is_head_line n (held ++ take end piece) ≡ true
    → left_in p place held (piece ++ rest) ≡ head_left n (place + length (held ++ take end piece) + 1) [] (drop (end + 1) piece ++ rest)
good-phase p n place held piece rest end is inside none feed good = ap (λ q. left_in q place held (piece ++ rest)) (at-phase p n is) ∙ good-line-left n place held piece rest end inside none feed good

pub bad-phase : (p : Phase) (n place : ℕ) (held piece rest : List ℕ) (end : ℕ) → p ≡ Head (n + 1) → end < length piece → NoFeed piece end → get_or piece end 0 ≡ 10 → is_head_line n (held ++ take end piece) ≡ false
    → left_in p place held (piece ++ rest) ≡ refused Version place
bad-phase p n place held piece rest end is inside none feed bad = ap (λ q. left_in q place held (piece ++ rest)) (at-phase p n is) ∙ bad-line-left n place held piece rest end inside none feed bad
