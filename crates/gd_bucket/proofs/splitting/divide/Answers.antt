use Rattle.std.proofs.Common.{◌≡◌, true, false, length, get_or, take, refl, sym, ap, ◌∙◌, arith}
use Rattle.std.proofs.lemmas.List.{take_more, length-take-le}
use Rattle.gd_format.specs.Bucket.{Bucket}
use Rattle.gd_format.specs.declared.Slot.TheVariants.{Empty}
use Rattle.gd_format.specs.Slots.{is_astray}
use Rattle.gd_bucket.specs.Splitting.{IsEmptyHalf}
use Rattle.gd_bucket.proofs.Parts.{begins, passes, to_first, to_second, room_first, room_second, other_side}
use Rattle.gd_bucket.proofs.splitting.divide.Goals as goal
use Rattle.gd_bucket.proofs.splitting.divide.Goals.{then-is_full+else-is_high, then-is_full+then-is_high, else-is_full}

pub loop-slot-init : goal.loop-slot-init
loop-slot-init c =
    let e = c.move_free.ensures in
    let first : IsEmptyHalf c.args.bucket.now c.move_free.new.first = record { bits = ap (λ (b : Bucket). b.bits) e ∙ c.requires.first.bits; slots = ap (λ (b : Bucket). b.slots) e ∙ c.requires.first.slots } in
    begins c.args.bucket.now c.move_free.new.first c.args.second.now c.args.bucket.now.free c.args.second.now.free first c.requires.second (ap (λ (b : Bucket). b.free) e) refl

pub insert_slot-requires-clause-room : goal.insert_slot-requires-clause-room
insert_slot-requires-clause-room c =
    let seen = length-take-le c.loop-slot.slot-index c.slots-slots.result.now (omega arith) in
    let slots = ap length c.slots-slots.ensures.are in
    room_second c.args.bucket.now c.loop-slot.first c.loop-slot.second (take c.loop-slot.slot-index c.slots-slots.result.now) Empty c.args.bucket.now.free c.args.second.now.free c.loop-slot.invariant (omega (arith, seen, slots))

pub insert_slot-requires-else-is_high-clause-room : goal.insert_slot-requires-else-is_high-clause-room
insert_slot-requires-else-is_high-clause-room c =
    let seen = length-take-le c.loop-slot.slot-index c.slots-slots.result.now (omega arith) in
    let slots = ap length c.slots-slots.ensures.are in
    room_first c.args.bucket.now c.loop-slot.first c.loop-slot.second (take c.loop-slot.slot-index c.slots-slots.result.now) Empty c.args.bucket.now.free c.args.second.now.free c.loop-slot.invariant (omega (arith, seen, slots))

pub loop-slot-preserved : goal.loop-slot-preserved
loop-slot-preserved c =
    let more = take_more c.slots-slots.result.now c.loop-slot.slot-index Empty c.loop-slot-test.true in
    elim c.if-is_full.branch [
      | then-is_full+then-is_high w ↦
          let astray : is_astray c.args.bucket.now.bits 0 (get_or c.slots-slots.result.now c.loop-slot.slot-index Empty) ≡ true =
          ap (λ b. is_astray b 0 (get_or c.slots-slots.result.now c.loop-slot.slot-index Empty)) (sym c.bits-bits.ensures.is) ∙ sym w.is_high.ensures.low ∙ w.if-is_high.true in
          rw (w.first-is, w.second-is, more)
          (to_second c.args.bucket.now c.loop-slot.first c.loop-slot.second (take c.loop-slot.slot-index c.slots-slots.result.now) (get_or c.slots-slots.result.now c.loop-slot.slot-index Empty) c.args.bucket.now.free c.args.second.now.free c.loop-slot.invariant w.insert_slot.new.bucket w.insert_slot.result
          (other_side c.args.bucket.now.bits (get_or c.slots-slots.result.now c.loop-slot.slot-index Empty) astray) w.insert_slot.ensures.slots w.insert_slot.ensures.others
          (w.insert_slot.ensures.reached c.loop-slot.invariant.high.reached))
      | then-is_full+else-is_high w ↦
          let straight : is_astray c.args.bucket.now.bits 0 (get_or c.slots-slots.result.now c.loop-slot.slot-index Empty) ≡ false =
          ap (λ b. is_astray b 0 (get_or c.slots-slots.result.now c.loop-slot.slot-index Empty)) (sym c.bits-bits.ensures.is) ∙ sym w.is_high.ensures.low ∙ w.if-is_high.false in
          rw (w.first-is, w.second-is, more)
          (to_first c.args.bucket.now c.loop-slot.first c.loop-slot.second (take c.loop-slot.slot-index c.slots-slots.result.now) (get_or c.slots-slots.result.now c.loop-slot.slot-index Empty) c.args.bucket.now.free c.args.second.now.free c.loop-slot.invariant
          w.insert_slot-else-is_high.new.bucket w.insert_slot-else-is_high.result straight w.insert_slot-else-is_high.ensures.slots w.insert_slot-else-is_high.ensures.others (w.insert_slot-else-is_high.ensures.reached c.loop-slot.invariant.low.reached))
      | else-is_full w ↦
          rw (w.first-is, w.second-is, more)
          (passes c.args.bucket.now c.loop-slot.first c.loop-slot.second (take c.loop-slot.slot-index c.slots-slots.result.now) (get_or c.slots-slots.result.now c.loop-slot.slot-index Empty) c.args.bucket.now.free c.args.second.now.free c.loop-slot.invariant (sym c.is_full.ensures ∙ w.if-is_full.false))
    ]
