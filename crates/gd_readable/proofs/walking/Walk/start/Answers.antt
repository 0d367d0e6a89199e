use Rattle.std.proofs.Common.{arith, rules}
use Rattle.gd_readable.proofs.Ahead.{ahead_few}
use Rattle.gd_readable.proofs.Headers.{header_block, header_room}
use Rattle.gd_readable.proofs.Left.{walk_start}
use Rattle.gd_readable.proofs.Passing.{starts_whole}
use Rattle.gd_readable.proofs.walking.Walk.start.Goals as goal

pub invariant_of-result : goal.invariant_of-result
invariant_of-result g c =
    let head = c.requires.header in
    record {
      dir = head.dir;
      bits = head.bits;
      room = header_room c.args.header.now head;
      size = search rules;
      entries = omega arith;
      slots = omega arith;
    }

pub returns-clause-few : goal.returns-clause-few
returns-clause-few g c =
    let head = c.requires.header in
    ahead_few c.args.header.now head.bits (header_room c.args.header.now head) (header_block c.args.header.now head)

pub returns-clause-stands : goal.returns-clause-stands
returns-clause-stands g c =
    λ c' told x is.
    let file = c.requires.readable c' told x is in
    walk_start x.bytes c.args.header.now c.in-Ok.block.items file.0 file.1

pub returns-clause-records : goal.returns-clause-records
returns-clause-records g c =
    λ c' told x is.
    let file = c.requires.readable c' told x is in
    starts_whole x.bytes c.args.header.now c.in-Ok.block.items file.1
