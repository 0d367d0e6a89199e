-- A line that was followed.
use Rattle.std.proofs.Common.{◌≡◌, ◌∙◌, ap, ap₂, sym, refl, ℕ, ◌<◌, Bool, true, false, List, [], ◌++◌, length, drop, get_or, Option, Ok, Err}
use Rattle.gd_dump_reading.specs.AsciiItems.{Line, lines_in, parted}
use Rattle.gd_dump_reading.specs.AsciiLeft.{ascii_left, attach, lines_left, told_in}
use Rattle.gd_dump_reading.specs.AsciiSteps.{Follows}
use Rattle.gd_dump_reading.specs.Told.{given_if, refused}
use Rattle.gd_dump_reading.specs.declared.ascii_machine.AsciiMachine.{AsciiMachine}
use Rattle.gd_dump_reading.specs.declared.ascii_machine.AsciiPhase.{AsciiPhase}
use Rattle.gd_dump_reading.specs.declared.ascii_machine.AsciiPhase.TheVariants as phases
use Rattle.gd_dump_reading.specs.declared.items.Item.{Item}
use Rattle.gd_dump_reading.specs.declared.items.Refusal.{Refusal}
use Rattle.gd_dump_reading.proofs.TextLines.{feed-cut, last-cut, lines-plain}

lines-fresh : (p : AsciiPhase) (ls : List Line) → lines_left p false ls ≡ parted ls
lines-fresh phases.Head ls = refl
lines-fresh phases.Data ls = refl
lines-fresh phases.Datum ls = refl
lines-fresh phases.Counted ls = refl
lines-fresh phases.Ended ls = refl

-- the line begins anew
fresh-left : (new : AsciiMachine) (rest : List ℕ) → new.line.items ≡ [] → new.inside ≡ false → told_in new (parted (lines_in rest)) ≡ ascii_left new rest
fresh-left new rest line inside =
    sym (ap₂ (λ (b : Bool) (l : List ℕ). told_in new (lines_left new.phase b (attach l (lines_in rest)))) inside line ∙ ap (told_in new) (lines-fresh new.phase (lines_in rest)))

pub feed-told : (old new : AsciiMachine) (item : Option Item) (end : ℕ) (piece rest : List ℕ) → (old.phase ≡ phases.Datum → ⊥) → 0 < length piece → get_or piece 0 0 ≡ 10 → Follows old new true end (Ok item)
    → ascii_left old (piece ++ rest) ≡ given_if item end (ascii_left new (drop 1 piece ++ rest))
feed-told old new item end piece rest other some feed done =
    ap (told_in old) (lines-plain old.phase old.inside (attach old.line.items (lines_in (piece ++ rest))) other ∙ feed-cut old.line.items piece rest some feed)
    ∙ done.3 (parted (lines_in (drop 1 piece ++ rest)))
    ∙ ap (given_if item end) (fresh-left new (drop 1 piece ++ rest) done.0 done.1)

pub feed-refused : (old new : AsciiMachine) (stop : Refusal) (end : ℕ) (piece rest : List ℕ) → (old.phase ≡ phases.Datum → ⊥) → 0 < length piece → get_or piece 0 0 ≡ 10 → Follows old new true end (Err stop)
    → ascii_left old (piece ++ rest) ≡ refused stop.kind stop.place
feed-refused old new stop end piece rest other some feed done =
    ap (told_in old) (lines-plain old.phase old.inside (attach old.line.items (lines_in (piece ++ rest))) other ∙ feed-cut old.line.items piece rest some feed) ∙ done (parted (lines_in (drop 1 piece ++ rest)))

-- the last line lacks its line feed
pub last-told : (old new : AsciiMachine) (item : Option Item) (end : ℕ) → (old.phase ≡ phases.Datum → ⊥) → 0 < length old.line.items → Follows old new false end (Ok item) → ascii_left old [] ≡ given_if item end (ascii_left new [])
last-told old new item end other some done =
    ap (told_in old) (lines-plain old.phase old.inside (attach old.line.items (lines_in [])) other ∙ last-cut old.line.items some)
    ∙ done.3 ([], [])
    ∙ ap (given_if item end) (fresh-left new [] done.0 done.1)

pub last-refused : (old new : AsciiMachine) (stop : Refusal) (end : ℕ) → (old.phase ≡ phases.Datum → ⊥) → 0 < length old.line.items → Follows old new false end (Err stop) → ascii_left old [] ≡ refused stop.kind stop.place
last-refused old new stop end other some done = ap (told_in old) (lines-plain old.phase old.inside (attach old.line.items (lines_in [])) other ∙ last-cut old.line.items some) ∙ done ([], [])
