use Rattle.gd_dumping.proofs.Ends.{usage_by}
use Rattle.gd_dumping.proofs.run.dump_by_words.Goals as goal

pub returns-clause-usage : goal.returns-clause-usage
returns-clause-usage g c three = usage_by c.dump_asked-ending.result _ _ _ _ _ _ _ _ _ c.dump_asked-ending.ensures.ends c.report.ensures.says three
