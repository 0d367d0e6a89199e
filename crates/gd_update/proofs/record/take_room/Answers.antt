use Rattle.std.proofs.Common.{◌≢◌, refl, inr, arith}
use Rattle.gd_space.specs.Calls.{free_lists}
use Rattle.gd_space.specs.declared.stack.SpaceError.TheVariants.{FileFull}
use Rattle.gd_space.proofs.Dones.{tells_none}
use Rattle.gd_space.proofs.Fits.{bounds}
use Rattle.gd_update.proofs.Records.{taken_ends, error_of}
use Rattle.gd_update.proofs.record.take_room.Goals as goal

pub returns-else-place-clause-inside : goal.returns-else-place-clause-inside
returns-else-place-clause-inside g c = λ k told x there.
    let s = c.requires.side k x told there in
    let a = c.in-Ok.ensures.done k x s.0 told there s.1 in
    let some = c.if-n-eq0.false in
    taken_ends x.bytes c.args.file.now.header c.args.file.now.table.next_block (free_lists c.args.file.now.table.extents s.0 c.args.bucket.now.free) (free_lists c.take.new.self.table.extents a.blocks c.take.new.bucket.free) c.take.new.self.header.next_block c.in-Ok.place c.args.n 32 (omega (arith, some)) s.1 a.change.moves

pub returns-then-place-clause-error : goal.returns-then-place-clause-error
returns-then-place-clause-error g c = inr (
  c.in-Ok.place,
  refl,
  tells_none (g.V.Vault.view_of c.args.vault.now) (λ k told.
      (let file = c.requires.file k told in
      let s = c.requires.side k file.0 told file.1 in
      let a = c.in-Ok.ensures.done k file.0 s.0 told file.1 s.1 in
      let some = c.if-n-eq0.false in
      let ends = taken_ends file.0.bytes c.args.file.now.header c.args.file.now.table.next_block (free_lists c.args.file.now.table.extents s.0 c.args.bucket.now.free) (free_lists c.take.new.self.table.extents a.blocks c.take.new.bucket.free) c.take.new.self.header.next_block c.in-Ok.place c.args.n 32 (omega (arith, some)) s.1 a.change.moves in
      let below = c.in-Ok.ensures.below in
      let far = c.if-place.true in
      omega (arith, ends, below, far))),
)

pub returns-in-Err-clause-error : goal.returns-in-Err-clause-error
returns-in-Err-clause-error g c =
    let size = (bounds c.args.file.now.header c.requires.fit.header).most in
    let room = c.requires.room in
    let not_full : c.in-Err.e ≢ FileFull = λ is. (let over = c.in-Err.ensures.full_any is in omega (arith, over, room, size)) in
    rw c.db_error.ensures (error_of c.in-Err.e (g.V.Vault.view_of c.args.vault.now) (λ a is. (c.in-Err.ensures.bad a is).1) c.in-Err.ensures.memory not_full)
