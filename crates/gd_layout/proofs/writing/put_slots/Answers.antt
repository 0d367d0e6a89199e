use Rattle.std.proofs.Common.{◌+◌, ◌*◌, take, refl, ◌∙◌, sym, arith}
use Rattle.std.proofs.lemmas.List.{take_more}
use Rattle.gd_format.specs.declared.Slot.TheVariants.{Empty}
use Rattle.gd_layout.proofs.Pieces.{take-front, drop-more}
use Rattle.gd_layout.proofs.Written.{slots_more, right_more}
use Rattle.gd_layout.proofs.Zeros.{empty_more}
use Rattle.gd_layout.proofs.writing.put_slots.Goals as goal

pub loop-s-preserved : goal.loop-s-preserved
loop-s-preserved c =
    let front = c.put_slot.ensures.front in
    record {
      reads =
          slots_more c.loop-s.block c.put_slot.new.block c.loop-s.s (take c.loop-s.s c.args.slots.now) _ c.put_slot.ensures.front c.loop-s.invariant.reads c.put_slot.ensures.reads
          ∙ sym (take_more c.args.slots.now c.loop-s.s Empty c.loop-s-test.true);
      right = right_more c.loop-s.block c.put_slot.new.block c.loop-s.s c.put_slot.ensures.front c.loop-s.invariant.right c.put_slot.ensures.right;
      front = take-front 112 (112 + 24 * c.loop-s.s) c.put_slot.new.block c.loop-s.block (omega arith) c.put_slot.ensures.front ∙ c.loop-s.invariant.front;
      back =
          drop-more (112 + 24 * c.loop-s.s + 24) (112 + 24 * (c.loop-s.s + 1)) c.put_slot.new.block c.loop-s.block (omega arith) c.put_slot.ensures.back
          ∙ drop-more (112 + 24 * c.loop-s.s) (112 + 24 * (c.loop-s.s + 1)) c.loop-s.block c.args.block.now (omega arith) c.loop-s.invariant.back;
      empty = empty_more c.args.block.now c.loop-s.block c.put_slot.new.block c.loop-s.s c.args.slots.now _ c.loop-s-test.true refl c.put_slot.ensures.front c.loop-s.invariant.back c.put_slot.ensures.empty c.loop-s.invariant.empty;
    }
