use Rattle.gd_base.proofs.Waits.{flush-all, puts-error}
use Rattle.gd_top.specs.Tool.{refusal_line}
use Rattle.gd_top.proofs.scripting.say_refusal.Goals as goal

pub returns-in_err-put_refusal-clause-bytes : goal.returns-in_err-put_refusal-clause-bytes
returns-in_err-put_refusal-clause-bytes g c =
    puts-error _ c.from_residual.result _ _ _ (refusal_line c.args.refusal) c.from_residual.ensures.1 c.new-page.ensures c.in_err-put_refusal.ensures.bytes

pub returns-clause-bytes : goal.returns-clause-bytes
returns-clause-bytes g c =
    flush-all c.flush.result _ _ _ _ _ (refusal_line c.args.refusal) c.new-page.ensures c.in_ok-put_refusal.ensures.bytes c.flush.ensures.bytes
