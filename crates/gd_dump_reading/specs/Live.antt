-- What the front of a line shows.
use Rattle.std.specs.Prelude.{ℕ, ◌==◌, ◌&&◌, ◌||◌, not, nat_le, Bool, true, false, List, length, drop, codes, eqb, if◌then◌else◌}
use Rattle.std.specs.Char.{is_ascii_digit}
use Rattle.std.specs.List.{list_all, starts_with}
use Rattle.gd_dump_reading.specs.Lines.{is_overlong}
use Rattle.gd_dump_reading.specs.declared.ascii_machine.AsciiPhase.{AsciiPhase}
use Rattle.gd_dump_reading.specs.declared.ascii_machine.AsciiPhase.TheVariants as phases
use Rattle.gd_dump_reading.specs.declared.items.DumpKind.{DumpKind}
use Rattle.gd_dump_reading.specs.declared.items.DumpKind.TheVariants.{Version, Parameter}
use Rattle.gd_dump_reading.specs.declared.live.Shown.{Shown}
use Rattle.gd_dump_reading.specs.declared.live.Shown.TheVariants.{Bad, Comment, Open}

-- the one begins with the other
abbrev pub agrees : List ℕ → List ℕ → Bool
agrees pattern line = starts_with eqb line pattern || starts_with eqb pattern line

-- the line may become the pattern with at most so many digits behind it
abbrev pub live_number : List ℕ → ℕ → List ℕ → Bool
live_number pattern most line = agrees pattern line && (nat_le (length line) (length pattern) || nat_le (length (drop (length pattern) line)) most && list_all is_ascii_digit (drop (length pattern) line))

-- between data, where a key waits for its value or not
abbrev pub data_live : Bool → List ℕ → Bool
data_live waits line = live_number (codes "#:len=") 10 line || not waits && live_number (codes "#:count=") 20 line

-- the line may become the last one of the head, or of the data
abbrev pub ends_in : AsciiPhase → List ℕ → Bool
ends_in phases.Head line = starts_with eqb (codes "# End of header") line
ends_in phase line = starts_with eqb (codes "# End of data") line

-- a line that begins with "#:"
abbrev pub parameter_shown : AsciiPhase → Bool → List ℕ → Shown
parameter_shown phases.Head waits line = if is_overlong true line then Bad Parameter else Open
parameter_shown phases.Data waits line = if data_live waits line then Open else Bad Parameter
parameter_shown phase waits line = Bad Parameter

abbrev pub is_head : AsciiPhase → Bool
is_head phases.Head = true
is_head phase = false

abbrev pub line_shown : AsciiPhase → Bool → ℕ → List ℕ → Shown
line_shown phase waits place line =
    if not (starts_with eqb line (codes "#")) then Bad (if is_head phase && place == 0 then Version else Parameter)
    else (if starts_with eqb line (codes "#:") then parameter_shown phase waits line
    else (if ends_in phase line then Open else Comment))
