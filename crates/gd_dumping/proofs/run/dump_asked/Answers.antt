use Rattle.gd_dumping.proofs.Ends.{starved_unread}
use Rattle.gd_dumping.proofs.run.dump_asked.Goals as goal

pub returns-in-Err-Memory-clause-ends : goal.returns-in-Err-Memory-clause-ends
returns-in-Err-Memory-clause-ends g c = starved_unread _ _ _
