use Rattle.gd_loader.proofs.Calm.{comes_calm, says_calm}
use Rattle.gd_loader.proofs.loader.load_run.Goals as goal

pub returns-clause-quiet : goal.returns-clause-quiet
returns-clause-quiet g c = λ quiet.
    let calm = says_calm c.load_by_words-end.result c.report.result _ _ _ _ c.report.ensures.says quiet in
    let none = comes_calm _ c.load_by_words-end.result _ _ c.load_by_words-end.ensures calm.0 in
    record { input = none.0; vault = none.1; err = calm.1 }
