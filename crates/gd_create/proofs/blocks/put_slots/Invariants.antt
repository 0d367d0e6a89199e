use Rattle.std.proofs.Common.{List, ℕ, ◌+◌, ◌*◌, ◌++◌}
use Rattle.gd_create.specs.Begun.{Begun}
use Rattle.gd_create.specs.NewFile.{repeated, slot_bytes}
use Rattle.gd_create.proofs.blocks.put_slots.Given as goal

abbrev pub invariant-loop-s : goal.invariant-loop-s
invariant-loop-s l = (front : List ℕ) → Begun front 112 l.initial.block → Begun (front ++ repeated l.s slot_bytes) (112 + 24 * l.s) l.block
