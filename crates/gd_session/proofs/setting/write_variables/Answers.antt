use Rattle.gd_session.specs.Texts.{variables_text}
use Rattle.gd_base.proofs.Waits.{flush-all}
use Rattle.gd_session.proofs.setting.write_variables.Goals as goal

pub returns-clause-bytes : goal.returns-clause-bytes
returns-clause-bytes g c = flush-all c.flush.result _ _ _ _ _ (variables_text c.args.settings.now) c.new-page.ensures c.in_ok-put_variables.ensures.bytes c.flush.ensures.bytes
