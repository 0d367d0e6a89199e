use Rattle.std.proofs.Common.{◌*◌}
use Rattle.byteorder.specs.Endian.{little_bytes}
use Rattle.gd_create.specs.Begun.{Begun}
use Rattle.gd_create.specs.NewFile.{repeated}
use Rattle.gd_create.proofs.blocks.put_directory.Given as goal

abbrev pub invariant-loop-i : goal.invariant-loop-i
invariant-loop-i l = Begun (repeated l.i (little_bytes 8 (2 * l.header.block))) (8 * l.i) l.block
