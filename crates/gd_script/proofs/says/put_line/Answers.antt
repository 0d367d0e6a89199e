use Rattle.std.proofs.Common.{[], ◌∷◌, ◌++◌, codes}
use Rattle.std.specs.Fmt.{decimal}
use Rattle.gd_script.specs.Says.{answer_text, numbered}
use Rattle.gd_base.proofs.Waits.{pends-after, pends-front}
use Rattle.gd_script.proofs.says.put_line.Goals as goal

pub returns-in_err-put-clause-bytes : goal.returns-in_err-put-clause-bytes
unfolding numbered
returns-in_err-put-clause-bytes g c =
    pends-front _ c.from_residual.result _ _ _ _ (codes "gdbmtool: ") (decimal c.args.number ++ (codes ": " ++ (answer_text c.args.answer ++ 10 ∷ []))) c.from_residual.ensures.1 c.in_err-put.ensures.bytes

pub returns-clause-bytes : goal.returns-clause-bytes
unfolding numbered
returns-clause-bytes g c =
    pends-after c.put_numbered.result _ _ _ _ _ _ (codes "gdbmtool: ") (decimal c.args.number ++ (codes ": " ++ (answer_text c.args.answer ++ 10 ∷ []))) c.in_ok-put.ensures.bytes c.put_numbered.ensures.bytes
