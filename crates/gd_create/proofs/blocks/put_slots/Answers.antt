use Rattle.std.proofs.Common.{◌++◌, arith}
use Rattle.gd_create.specs.NewFile.{repeated, slot_bytes}
use Rattle.gd_create.proofs.Begins.{begun_none, slot_more}
use Rattle.gd_create.proofs.blocks.put_slots.Goals as goal

pub loop-s-init : goal.loop-s-init
loop-s-init c = λ front b. begun_none front slot_bytes c.args.block.now 112 b

pub loop-s-preserved : goal.loop-s-preserved
loop-s-preserved c = λ front b. slot_more front c.put_u32.new.block c.loop-s.s (omega arith) (c.put_u32.ensures (front ++ repeated c.loop-s.s slot_bytes) (c.loop-s.invariant front b))
