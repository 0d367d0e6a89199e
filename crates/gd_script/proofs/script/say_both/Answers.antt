use Rattle.std.proofs.Common.{◌++◌}
use Rattle.gd_script.specs.Script.{closing_line, ending_line}
use Rattle.gd_base.proofs.Waits.{flush-all, puts-error}
use Rattle.gd_script.proofs.script.say_both.Goals as goal

pub returns-in_err-put_last-clause-bytes : goal.returns-in_err-put_last-clause-bytes
returns-in_err-put_last-clause-bytes g c =
    puts-error _ c.from_residual.result _ _ _ (ending_line c.args.ending ++ closing_line c.args.closing) c.from_residual.ensures.1 c.new-page.ensures c.in_err-put_last.ensures.bytes

pub returns-clause-bytes : goal.returns-clause-bytes
returns-clause-bytes g c =
    flush-all c.flush.result _ _ _ _ _ (ending_line c.args.ending ++ closing_line c.args.closing) c.new-page.ensures c.in_ok-put_last.ensures.bytes c.flush.ensures.bytes
