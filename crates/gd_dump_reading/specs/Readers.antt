-- What the readers still give.
use Rattle.std.specs.Prelude.{ℕ, List, Option, Some, None}
use Rattle.gd_dump_reading.specs.Told.{Told, refused}
use Rattle.gd_dump_reading.specs.declared.items.Refusal.{Refusal}
use Rattle.gd_dump_reading.specs.declared.reader.Reader.{Reader}

abbrev pub unless : Option Refusal → Told → Told
unless None told = told
unless (Some stop) told = refused stop.kind stop.place

-- how many bytes were taken; a reader that has refused takes none
abbrev pub unless_stopped : Option Refusal → ℕ → ℕ
unless_stopped None n = n
unless_stopped (Some stop) n = 0

-- what a reader over a machine still gives, and how many bytes it took
abbrev pub left_by : {M : Type 0} → (M → List ℕ → Told) → Reader M → List ℕ → Told
left_by left r rest = unless r.stop (left r.machine rest)

abbrev pub taken_by : {M : Type 0} → (M → ℕ) → Reader M → ℕ
taken_by taken r = unless_stopped r.stop (taken r.machine)
