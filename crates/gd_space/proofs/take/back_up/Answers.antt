use Rattle.std.proofs.Common.{length, List, sym, ap, ◌∙◌, arith}
use Rattle.gd_format.specs.declared.Extent.{Extent}
use Rattle.gd_format.specs.Sound.{most_of}
use Rattle.gd_space.proofs.BlockReads.{too_far}
use Rattle.gd_space.proofs.Dones.{backed_empty, backed_full, backed_some}
use Rattle.gd_space.proofs.take.back_up.Goals as goal
use Rattle.gd_space.proofs.take.back_up.Goals.{then-top-eq0-via-then-top-eq0, then-top-eq0-via-else-top-eq0+then-old-header}

pub returns-then-top-eq0-clause-back : goal.returns-then-top-eq0-clause-back
returns-then-top-eq0-clause-back g c = λ k x blocks bucket told there side.
    elim c.then-top-eq0.branch [
      | then-top-eq0-via-then-top-eq0 w ↦ backed_empty x.bytes c.args.header.now c.args.table.now.next_block c.args.table.now.extents bucket blocks (sym c.next_block-top.ensures ∙ w.if-top-eq0.true) side
      | then-top-eq0-via-else-top-eq0+then-old-header w ↦
          let half = w.if-old-header.true in
          let old = ap (λ (z : List Extent). length z) c.extents-old.ensures.are in
          backed_full x.bytes c.args.header.now c.args.table.now.next_block c.args.table.now.extents bucket blocks (omega (arith, half, old)) side
    ]

pub returns-clause-back : goal.returns-clause-back
returns-clause-back g c = λ k x blocks bucket told there side.
    let top = c.next_block-top.ensures in
    let half = c.if-old-header.false in
    let fits = c.if-old-extents.false in
    let old = ap (λ (z : List Extent). length z) c.extents-old.ensures.are in
    let new = ap (λ (z : List Extent). length z) c.extents.ensures.are in
    let ne = c.if-top-eq0.false in
    let is = c.in_ok-read_block.ensures.extents k told x there in
    let next = c.in_ok-read_block.ensures.next k told x there in
    let items = c.take_back.ensures.extents in
    backed_some x.bytes c.args.header.now c.args.table.now.next_block c.args.table.now.extents c.take_back.new.table.extents bucket c.read_block.new.spare.extents c.take_back.new.table.next_block blocks
    (λ z. ne (top ∙ z)) (rw (← top) is) (c.take_back.ensures.next ∙ rw (← top) next) (omega (arith, half, old)) (omega (arith, fits, old, new)) (rw (← top) items) side

pub returns-clause-fields : goal.returns-clause-fields
returns-clause-fields g c = λ fields. c.take_back.ensures.fields fields c.in_ok-read_block.ensures.fields (let t = c.if-top.false in omega (arith, t))

pub returns-then-top-clause-no_block : goal.returns-then-top-clause-no_block
returns-then-top-clause-no_block g c = λ other k told x there. (let t = c.if-top.true in let is = c.next_block-top.ensures in too_far x.bytes (most_of c.args.header.now) c.args.table.now.next_block (omega (arith, t, is)))
