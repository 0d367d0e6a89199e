use Rattle.gd_script.specs.Script.{closing_line, ending_line}
use Rattle.gd_base.proofs.Waits.{pends-after, pends-front}
use Rattle.gd_script.proofs.script.put_last.Goals as goal

pub returns-in_err-put_ending-clause-bytes : goal.returns-in_err-put_ending-clause-bytes
returns-in_err-put_ending-clause-bytes g c =
    pends-front _ c.from_residual.result _ _ _ _ (ending_line c.args.ending) (closing_line c.args.closing) c.from_residual.ensures.1 c.in_err-put_ending.ensures.bytes

pub returns-clause-bytes : goal.returns-clause-bytes
returns-clause-bytes g c =
    pends-after c.put_closing.result _ _ _ _ _ _ (ending_line c.args.ending) (closing_line c.args.closing) c.in_ok-put_ending.ensures.bytes c.put_closing.ensures.bytes
