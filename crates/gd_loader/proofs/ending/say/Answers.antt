use Rattle.gd_base.proofs.Waits.{flush-all, puts-error}
use Rattle.gd_loader.specs.Ends.{line_of}
use Rattle.gd_loader.proofs.ending.say.Goals as goal

pub returns-in_err-put_line-clause-bytes : goal.returns-in_err-put_line-clause-bytes
returns-in_err-put_line-clause-bytes g c =
    puts-error _ c.from_residual.result _ _ _ (line_of c.args.end) c.from_residual.ensures.1 c.new-page.ensures c.in_err-put_line.ensures.bytes

pub returns-clause-bytes : goal.returns-clause-bytes
returns-clause-bytes g c =
    flush-all c.flush.result _ _ _ _ _ (line_of c.args.end) c.new-page.ensures c.in_ok-put_line.ensures.bytes c.flush.ensures.bytes
