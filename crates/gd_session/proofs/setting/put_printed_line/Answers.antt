use Rattle.std.proofs.Common.{[], ◌∷◌, ◌++◌}
use Rattle.gd_types.specs.Printing.{printed}
use Rattle.gd_base.proofs.Waits.{pends-after, pends-front}
use Rattle.gd_session.proofs.setting.put_printed_line.Goals as goal

pub returns-in_err-put_printed-clause-bytes : goal.returns-in_err-put_printed-clause-bytes
returns-in_err-put_printed-clause-bytes g c = pends-front _ c.from_residual.result _ _ _ _ (printed c.args.text.now) (10 ∷ []) c.from_residual.ensures.1 c.in_err-put_printed.ensures.bytes

pub returns-clause-bytes : goal.returns-clause-bytes
returns-clause-bytes g c = pends-after c.put.result _ _ _ _ _ _ (printed c.args.text.now) (10 ∷ []) c.in_ok-put_printed.ensures.bytes c.put.ensures.bytes
