use Rattle.gd_space.specs.Effect.{recut_loses}
use Rattle.gd_numsync.proofs.Shrunk.{recut_none}
use Rattle.gd_numsync.proofs.shrinking.make_fit.Goals as goal

pub returns-then-extents-capacity-clause-recut : goal.returns-then-extents-capacity-clause-recut
returns-then-extents-capacity-clause-recut g c = λ k x told there.
    record {
      content = k;
      file = x;
      told = told;
      there = there;
      holds = recut_none x.bytes c.args.header.now c.args.space.now.table (recut_loses c.args.capacity c.args.header.now c.args.space.now.table.extents) (c.requires.open k x told there);
    }
