use Rattle.std.proofs.Common.{◌∙◌, arith}
use Rattle.gd_base.proofs.Writes.{write-more}
use Rattle.gd_base.proofs.streams.write_all.Goals as goal

pub loop-at-preserved : goal.loop-at-preserved
loop-at-preserved g c = record {
  at = grind (arith, c.in_ok-at.ensures.bytes.1, c.loop-at.invariant.at, c.loop-at-test.true);
  written = write-more _ _ _ c.args.bytes.now c.loop-at.at c.in_ok-at.field-0 c.loop-at.invariant.written c.in_ok-at.ensures.bytes.2;
  faults = c.in_ok-at.ensures.cause.answered ∙ c.loop-at.invariant.faults;
  kept = g.met.O.Sink.kept_on c.args.out.now c.loop-at.out c.write.new.self c.loop-at.invariant.kept c.write.ensures.kept;
}
