use Rattle.gd_session.specs.Texts.{counts_text}
use Rattle.gd_base.proofs.Waits.{flush-all}
use Rattle.gd_session.proofs.printing.write_counts.Goals as goal

pub returns-clause-bytes : goal.returns-clause-bytes
returns-clause-bytes g c = flush-all c.flush.result _ _ _ _ _ (counts_text c.args.count c.args.counts.now) c.new-page.ensures c.in_ok-put_counts.ensures.bytes c.flush.ensures.bytes
