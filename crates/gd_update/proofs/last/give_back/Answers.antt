use Rattle.std.proofs.Common.{inl, inr, arith}
use Rattle.gd_space.specs.Calls.{free_lists}
use Rattle.gd_space.proofs.Fits.{bounds}
use Rattle.gd_update.proofs.Backs.{growth_small, growth_none, growth_some, given_back, nothing_back}
use Rattle.gd_update.proofs.last.give_back.Goals as goal

pub returns-in_default-clause-back : goal.returns-in_default-clause-back
returns-in_default-clause-back g c = λ k x blocks told there side may. record {
  content = k;
  file = x;
  blocks = blocks;
  told = told;
  there = there;
  back = nothing_back x.bytes c.args.file.now.header c.args.file.now.table.next_block (free_lists c.args.file.now.table.extents blocks c.args.bucket.now.free) c.args.gone.now c.in_default.ensures.none may side;
}

pub returns-in_default-clause-growth : goal.returns-in_default-clause-growth
returns-in_default-clause-growth g c = let z = growth_none c.args.gone.now c.args.file.now.header c.args.file.now.table.extents c.args.bucket.now.free c.in_default.ensures.none in omega (arith, z)

pub returns-in-Ok-clause-back : goal.returns-in-Ok-clause-back
returns-in-Ok-clause-back g c = λ k x blocks told there side may.
    let a = c.in-Ok.ensures.gave k x blocks told there side in
    let s = c.in-Some.ensures.some in
    record {
      content = a.content;
      file = a.file;
      blocks = a.blocks;
      told = a.told;
      there = a.there;
      back = given_back x.bytes a.file.bytes c.args.file.now.header c.give.new.self.header c.args.file.now.table.next_block c.give.new.self.table.next_block (free_lists c.args.file.now.table.extents blocks c.args.bucket.now.free) (free_lists c.give.new.self.table.extents a.blocks c.give.new.bucket.free) c.args.gone.now c.in-Some.extent s.0 s.2 may a.given;
    }

pub returns-in-Ok-clause-growth : goal.returns-in-Ok-clause-growth
returns-in-Ok-clause-growth g c =
    let s = c.in-Some.ensures.some in
    let same = growth_some c.args.gone.now c.in-Some.extent c.args.file.now.header c.args.file.now.table.extents c.args.bucket.now.free s.0 s.3 in
    let grew = c.in-Ok.ensures.growth in
    omega (arith, same, grew)

pub returns-in-Err-clause-fault : goal.returns-in-Err-clause-fault
returns-in-Err-clause-fault g c =
    let size = (bounds c.args.file.now.header c.requires.fit.header).most in
    let room = c.requires.room in
    elim c.in-Err.ensures.error [
      | inl fault ↦ c.in-Err.ensures.fault fault
      | inr full ↦
          let over = c.in-Err.ensures.full full in
          let small = growth_small c.in-Some.extent c.args.file.now.header c.args.file.now.table.extents c.args.bucket.now.free in
          absurd (omega (arith, over, small, room, size))
    ]
