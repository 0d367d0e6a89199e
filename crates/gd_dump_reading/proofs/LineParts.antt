-- Parts of lines: what a reader does with them changes nothing of what is told.
use Rattle.std.proofs.Common.{◌≡◌, ◌∙◌, ap, ap₂, sym, refl, ℕ, ◌+◌, ◌<◌, ◌≤◌, Bool, false, List, [], ◌∷◌, ◌++◌, length, take, drop, Option, arith, eqb}
use Rattle.std.specs.Prelude.{codes}
use Rattle.std.specs.List.{starts_with}
use Rattle.std.proofs.lemmas.List.{length-append, length-take-le}
use Rattle.gd_dump_reading.specs.AsciiItems.{Line, Section, lines_in, parted}
use Rattle.gd_dump_reading.specs.AsciiLeft.{attach, key_of, lines_left, told_by}
use Rattle.gd_dump_reading.specs.Lines.{NoFeed}
use Rattle.gd_dump_reading.specs.Live.{line_shown}
use Rattle.gd_dump_reading.specs.Params.{Named}
use Rattle.gd_dump_reading.specs.Told.{Told, refused}
use Rattle.gd_dump_reading.specs.declared.ascii_machine.AsciiPhase.{AsciiPhase}
use Rattle.gd_dump_reading.specs.declared.ascii_machine.AsciiPhase.TheVariants as phases
use Rattle.gd_dump_reading.specs.declared.items.DumpKind.{DumpKind}
use Rattle.gd_dump_reading.specs.declared.live.Shown.TheVariants.{Bad, Comment}
use Rattle.gd_dump_reading.specs.declared.text.Text.{Text}
use Rattle.gd_dump_reading.proofs.LineShown.{IsComment, IsOfLines, comment-same, not-longer, shown-bad, shown-comment, two-comment}
use Rattle.gd_dump_reading.proofs.TextLines.{attach-part, lines-plain}

-- all that a reader of lines keeps beside the line and its place
abbrev pub told_at : AsciiPhase → Named → ℕ → Option (List ℕ) → Text → ℕ → List Line × List Section → Told
told_at p named count key text place g = told_by p named count key text place g.0 g.1

plain-lines : (p : AsciiPhase) → IsOfLines p → p ≡ phases.Datum → ⊥
plain-lines phases.Head of is = absurd (cc)
plain-lines phases.Data of is = absurd (cc)
plain-lines phases.Datum of is = absurd of
plain-lines phases.Counted of is = absurd (cc)
plain-lines phases.Ended of is = absurd (cc)

pub part-open : (p : AsciiPhase) (named : Named) (count : ℕ) (key : Option (List ℕ)) (text : Text) (place : ℕ) (inside : Bool) (line new piece rest : List ℕ) (n : ℕ) → IsOfLines p → n ≤ length piece → NoFeed piece n → new ≡ line ++ take n piece
    → told_at p named count key text place (lines_left p inside (attach line (lines_in (piece ++ rest)))) ≡ told_at p named count key text place (lines_left p inside (attach new (lines_in (drop n piece ++ rest))))
part-open p named count key text place inside line new piece rest n of within none is =
    ap (λ (ls : List Line). told_at p named count key text place (lines_left p inside ls)) (attach-part line piece rest n within none ∙ ap (λ (l : List ℕ). attach l (lines_in (drop n piece ++ rest))) (sym is))

plain-at : (p : AsciiPhase) (named : Named) (count : ℕ) (key : Option (List ℕ)) (text : Text) (place : ℕ) (inside : Bool) (ls : List Line) → IsOfLines p
    → told_at p named count key text place (lines_left p inside ls) ≡ told_at p named count key text place (parted ls)
plain-at p named count key text place inside ls of = ap (told_at p named count key text place) (lines-plain p inside ls (plain-lines p of))

some-part : (line new piece : List ℕ) (n : ℕ) → 0 < n → n ≤ length piece → new ≡ line ++ take n piece → 0 < length new
some-part line new piece n some within is = omega (arith, some, ap length is, length-append line (take n piece), length-take-le n piece within)

pub part-bad : (p : AsciiPhase) (waits : Bool) (named : Named) (count : ℕ) (key : List ℕ) (text : Text) (place : ℕ) (inside : Bool) (line new piece rest : List ℕ) (n : ℕ) (kind : DumpKind) → IsOfLines p → 0 < n → n ≤ length piece → NoFeed piece n → new ≡ line ++ take n piece
    → line_shown p waits place new ≡ Bad kind → told_at p named count (key_of waits key) text place (lines_left p inside (attach line (lines_in (piece ++ rest)))) ≡ refused kind place
part-bad p waits named count key text place inside line new piece rest n kind of some within none is shows =
    let ls = lines_in (drop n piece ++ rest) in
    part-open p named count (key_of waits key) text place inside line new piece rest n of within none is
    ∙ plain-at p named count (key_of waits key) text place inside (attach new ls) of
    ∙ shown-bad p waits named count key text place new ls kind of (some-part line new piece n some within is) shows

pub part-comment : (p : AsciiPhase) (waits : Bool) (named : Named) (count : ℕ) (key : Option (List ℕ)) (text : Text) (place other : ℕ) (inside : Bool) (line new short piece rest : List ℕ) (n : ℕ) → IsOfLines p → 0 < n → n ≤ length piece → NoFeed piece n → new ≡ line ++ take n piece
    → line_shown p waits place new ≡ Comment → short ≡ codes "##" → other + 2 ≡ place + length new
    → told_at p named count key text place (lines_left p inside (attach line (lines_in (piece ++ rest)))) ≡ told_at p named count key text other (lines_left p inside (attach short (lines_in (drop n piece ++ rest))))
part-comment p waits named count key text place other inside line new short piece rest n of some within none is shows two ends =
    let ls = lines_in (drop n piece ++ rest) in
    part-open p named count key text place inside line new piece rest n of within none is
    ∙ plain-at p named count key text place inside (attach new ls) of
    ∙ comment-same p named count key text place other new (codes "##") ls of (shown-comment p waits place new (some-part line new piece n some within is) shows) (two-comment p) (omega (arith, ends))
    ∙ ap (λ (l : List ℕ). told_at p named count key text other (parted (attach l ls))) (sym two)
    ∙ sym (plain-at p named count key text other inside (attach short ls) of)

two-more : (p : AsciiPhase) (x : List ℕ) → IsComment p (codes "##" ++ x)
two-more phases.Head x = record { two = omega arith; hash = refl; plain = refl; other = not-longer (codes "# End of header") (codes "##") x _ refl refl }
two-more phases.Data x = record { two = omega arith; hash = refl; plain = refl; other = not-longer (codes "# End of data") (codes "##") x _ refl refl }
two-more phases.Datum x = record { two = omega arith; hash = refl; plain = refl; other = not-longer (codes "# End of data") (codes "##") x _ refl refl }
two-more phases.Counted x = record { two = omega arith; hash = refl; plain = refl; other = not-longer (codes "# End of data") (codes "##") x _ refl refl }
two-more phases.Ended x = record { two = omega arith; hash = refl; plain = refl; other = not-longer (codes "# End of data") (codes "##") x _ refl refl }

-- of a comment only the size counts
pub part-skipped : (p : AsciiPhase) (named : Named) (count : ℕ) (key : Option (List ℕ)) (text : Text) (place : ℕ) (inside : Bool) (line piece rest : List ℕ) (n : ℕ) → IsOfLines p → n ≤ length piece → NoFeed piece n → line ≡ codes "##"
    → told_at p named count key text place (lines_left p inside (attach line (lines_in (piece ++ rest)))) ≡ told_at p named count key text (place + n) (lines_left p inside (attach line (lines_in (drop n piece ++ rest))))
part-skipped p named count key text place inside line piece rest n of within none is =
    let ls = lines_in (drop n piece ++ rest) in
    let long = codes "##" ++ take n piece in
    part-open p named count key text place inside line long piece rest n of within none (ap (λ (l : List ℕ). l ++ take n piece) (sym is))
    ∙ plain-at p named count key text place inside (attach long ls) of
    ∙ comment-same p named count key text place (place + n) long (codes "##") ls of (two-more p (take n piece)) (two-comment p) (omega (arith, length-append (codes "##") (take n piece), length-take-le n piece within))
    ∙ ap (λ (l : List ℕ). told_at p named count key text (place + n) (parted (attach l ls))) (sym is)
    ∙ sym (plain-at p named count key text (place + n) inside (attach line ls) of)
