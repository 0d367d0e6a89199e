-- What a reader of ASCII dumps still gives.
use Rattle.std.specs.Prelude.{ℕ, ◌+◌, ◌==◌, Bool, true, false, List, [], ◌∷◌, Option, Some, None, vec_len, if◌then◌else◌}
use Rattle.gd_dump_reading.specs.AsciiItems.{Line, Section, before, data_told, end_told, is_some_section, joined, lines_in, named_told, parted, sizes, unless_body, with_datum}
use Rattle.gd_dump_reading.specs.Params.{Named}
use Rattle.gd_dump_reading.specs.Said.{named_in}
use Rattle.gd_dump_reading.specs.TextLeft.{text_left}
use Rattle.gd_dump_reading.specs.Told.{Told, nothing, refused}
use Rattle.gd_dump_reading.specs.declared.items.DumpKind.TheVariants.{Version, Parameter}
use Rattle.gd_dump_reading.specs.declared.ascii_machine.AsciiPhase.{AsciiPhase}
use Rattle.gd_dump_reading.specs.declared.ascii_machine.AsciiPhase.TheVariants as phases
use Rattle.gd_dump_reading.specs.declared.ascii_machine.AsciiMachine.{AsciiMachine}
use Rattle.gd_dump_reading.specs.declared.text.Text.{Text}

-- lines with bytes in front of the first
abbrev pub attach : List ℕ → List Line → List Line
attach [] ls = ls
attach (b ∷ bytes) ls = before b (attach bytes ls)

-- the first line is the rest of a line of a datum's text, whatever it begins with
abbrev pub inside_parted : List Line → List Line × List Section
inside_parted [] = ([], [])
inside_parted (l ∷ ls) = (l ∷ (parted ls).0, (parted ls).1)

abbrev pub parted_if : Bool → List Line → List Line × List Section
parted_if true ls = inside_parted ls
parted_if false ls = parted ls

abbrev pub lines_left : AsciiPhase → Bool → List Line → List Line × List Section
lines_left phases.Datum inside ls = parted_if inside ls
lines_left phase inside ls = parted ls

-- a key waits for its value
abbrev pub key_of : Bool → List ℕ → Option (List ℕ)
key_of true key = Some key
key_of false key = None

-- in the head, whose first line is to begin with '#'
abbrev pub head_left : Named → ℕ → List Line → List Section → Told
head_left named place [] ss = named_told named place ss
head_left named place (l ∷ ls) ss = refused (if place == 0 then Version else Parameter) place

-- a datum of which the text has come in part
abbrev pub datum_left : ℕ → Option (List ℕ) → Text → ℕ → List Line → List Section → Told
datum_left count key text place body ss =
    with_datum count key (place + sizes body) (text_left text (joined body) (is_some_section ss) (place + sizes body)) (λ c k. data_told c k (place + sizes body) ss)

-- from the next line on: the phase, what the head said, the pairs so far, a key that waits, the datum's text so far, and the line's place
abbrev pub told_by : AsciiPhase → Named → ℕ → Option (List ℕ) → Text → ℕ → List Line → List Section → Told
told_by phases.Head named count key text place body ss = head_left named place body ss
told_by phases.Data named count key text place body ss = unless_body place body (data_told count key place ss)
told_by phases.Datum named count key text place body ss = datum_left count key text place body ss
told_by phases.Counted named count key text place body ss = unless_body place body (end_told place ss)
told_by phases.Ended named count key text place body ss = nothing

abbrev pub told_in : AsciiMachine → List Line × List Section → Told
told_in m lines = told_by m.phase (named_in m.names) m.count (key_of m.waits m.key.items) m.text m.place lines.0 lines.1

abbrev pub ascii_left : AsciiMachine → List ℕ → Told
ascii_left m rest = told_in m (lines_left m.phase m.inside (attach m.line.items (lines_in rest)))

abbrev pub ascii_taken : AsciiMachine → ℕ
ascii_taken m = m.place + vec_len m.line
