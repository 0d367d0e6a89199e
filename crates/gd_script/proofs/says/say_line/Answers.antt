use Rattle.gd_script.specs.Says.{answer_text, numbered}
use Rattle.gd_base.proofs.Waits.{flush-all, puts-error}
use Rattle.gd_script.proofs.says.say_line.Goals as goal

pub returns-in_err-put_line-clause-bytes : goal.returns-in_err-put_line-clause-bytes
returns-in_err-put_line-clause-bytes g c =
    puts-error _ c.from_residual.result _ _ _ (numbered c.args.number (answer_text c.args.answer)) c.from_residual.ensures.1 c.new-page.ensures c.in_err-put_line.ensures.bytes

pub returns-clause-bytes : goal.returns-clause-bytes
returns-clause-bytes g c =
    flush-all c.flush.result _ _ _ _ _ (numbered c.args.number (answer_text c.args.answer)) c.new-page.ensures c.in_ok-put_line.ensures.bytes c.flush.ensures.bytes
