-- What holds of a reader between its steps.
use Rattle.std.specs.Prelude.{ℕ, ◌+◌, min}
use Rattle.gd_dump_reading.specs.declared.ascii_machine.AsciiPhase.{AsciiPhase}
use Rattle.gd_dump_reading.specs.declared.ascii_machine.AsciiPhase.TheVariants.{Head, Datum, Ended}

-- how long the line may be, which has n bytes: none is kept in a datum's text, and behind the end
abbrev pub line_room : AsciiPhase → ℕ → ℕ
line_room Datum n = 0
line_room Ended n = 0
line_room phase n = n

-- in the head it fits both lists for values
abbrev pub names_room : AsciiPhase → (file value n : ℕ) → ℕ
names_room Head file value n = min file value
names_room phase file value n = n

-- a datum that is being read counts too
abbrev pub counted : AsciiPhase → ℕ → ℕ
counted Datum count = count + 1
counted phase count = count
