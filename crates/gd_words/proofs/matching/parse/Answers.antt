use Rattle.clap.proofs.WalkLemmas.{both}
use Rattle.gd_words.proofs.Facts.{fails_as}
use Rattle.gd_words.proofs.matching.parse.Goals as goal

pub returns-in-Ok : goal.returns-in-Ok
returns-in-Ok c = (c.in-Ok.ensures.kinds c.requires, (c.in-Ok.ensures.matches (both _ _ c.requires).0).0)

pub returns-in-Err : goal.returns-in-Err
returns-in-Err c = fails_as _ c.in-Err.error c.kind.result c.refusal_of.result (c.in-Err.ensures.kinds c.requires) c.kind.ensures c.refusal_of.ensures
