use Rattle.gd_base.proofs.Waits.{flush-all}
use Rattle.gd_types.proofs.decoding.put_datum.Goals as goal

pub returns-clause-bytes : goal.returns-clause-bytes
returns-clause-bytes g c = flush-all c.flush.result _ _ _ _ _ _ c.new-page.ensures c.in_ok-put_members.ensures.bytes c.flush.ensures.bytes
