-- What the lines of a head have said.
use Rattle.std.specs.Prelude.{ℕ, ◌≤◌, Bool, true, false, List, Option, Some, None, Result, Ok, Err}
use Rattle.gd_dump_reading.specs.Params.{Named}
use Rattle.gd_dump_reading.specs.declared.items.DumpKind.{DumpKind}
use Rattle.gd_dump_reading.specs.declared.names.Names.{Names}

-- bytes that are there or not
abbrev pub where_named : Bool → List ℕ → Option (List ℕ)
where_named true bytes = Some bytes
where_named false bytes = None

abbrev pub named_in : Names → Named
named_in n = record { version = n.version; format = n.format; file = where_named n.named n.file.items }

-- what was said, or the refusal
abbrev pub standing : Named → Option DumpKind → Result Named DumpKind
standing named None = Ok named
standing named (Some kind) = Err kind

-- two lists, of which these are the capacities, have room for so many bytes
abbrev pub IsRoomy : (n file value : ℕ) → Type 0
IsRoomy n file value = (n ≤ file) × (n ≤ value)
