use Rattle.gd_verify.proofs.Lists.{records_more}
use Rattle.gd_verify.proofs.held.push_records.Goals as goal

pub loop-s-preserved : goal.loop-s-preserved
loop-s-preserved c = record {
  held = records_more c.args.block.now c.loop-s.s c.args.list.now.items c.loop-s.list.items c.push_stored.new.list.items c.loop-s.invariant.held c.in_ok-push_stored.ensures.taken c.in_ok-push_stored.ensures.skipped;
  plain = c.in_ok-push_stored.ensures.plain;
}
