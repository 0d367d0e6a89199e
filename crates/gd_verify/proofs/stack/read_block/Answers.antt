use Rattle.std.proofs.Common.{◌≡◌, ◌-◌, ◌*◌, ◌+◌, ◌++◌, List, take, min, length, ap, ◌∙◌, arith}
use Rattle.gd_format.specs.declared.Held.{Held}
use Rattle.gd_verify.proofs.Stacks.{if_none, if_some, far_block, block_wrong, block_right, block_next, block_held}
use Rattle.gd_verify.proofs.stack.read_block.Goals as goal

pub returns-then-at-clause-wrong : goal.returns-then-at-clause-wrong
returns-then-at-clause-wrong g c = λ file told. far_block file c.args.most c.args.at (omega arith)

pub returns-in-Ok-clause-wrong : goal.returns-in-Ok-clause-wrong
returns-in-Ok-clause-wrong g c =
    if_none c.in-Ok.next
    (λ wrong file told.
    let read = c.in_ok-n.ensures.read file told in
    let room = c.requires.room in
    let count : c.in_ok-n.n ≡ min (16 + 16 * c.args.most) (length file - c.args.at) = rw room at read.0 in
    block_wrong file (take c.in_ok-n.n c.read_some.new.buf) c.args.most c.args.at c.in_ok-n.n count read.1 wrong)
    c.in-Ok.ensures.none

pub returns-in-Ok-clause-right : goal.returns-in-Ok-clause-right
returns-in-Ok-clause-right g c =
    if_some c.in-Ok.next
    (λ next right at_next held file told.
    let read = c.in_ok-n.ensures.read file told in
    let room = c.requires.room in
    let count : c.in_ok-n.n ≡ min (16 + 16 * c.args.most) (length file - c.args.at) = rw room at read.0 in
    let bytes = take c.in_ok-n.n c.read_some.new.buf in (
      block_right file bytes c.args.most c.args.at c.in_ok-n.n count read.1 c.requires.some (omega arith) right,
      at_next ∙ block_next file bytes c.args.most c.args.at c.in_ok-n.n count read.1 right,
      held ∙ ap (λ (xs : List Held). c.args.list.now.items ++ xs) (block_held file bytes c.args.most c.args.at c.in_ok-n.n count read.1 right),
    ))
    c.in-Ok.ensures.some c.in-Ok.ensures.next c.in-Ok.ensures.held
