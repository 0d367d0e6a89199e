use Rattle.std.proofs.Common.{[], ◌∷◌, ◌++◌}
use Rattle.gd_types.specs.Decoding.{datum_text}
use Rattle.gd_base.proofs.Waits.{pends-after, pends-front}
use Rattle.gd_session.proofs.typed.put_datum_line.Goals as goal

pub returns-in_err-put_typed-clause-bytes : goal.returns-in_err-put_typed-clause-bytes
returns-in_err-put_typed-clause-bytes g c = pends-front _ c.from_residual.result _ _ _ _ (datum_text c.args.form.now c.args.bytes.now c.args.delim.now) (10 ∷ []) c.from_residual.ensures.1 c.in_err-put_typed.ensures.bytes

pub returns-clause-bytes : goal.returns-clause-bytes
returns-clause-bytes g c = pends-after c.put.result _ _ _ _ _ _ (datum_text c.args.form.now c.args.bytes.now c.args.delim.now) (10 ∷ []) c.in_ok-put_typed.ensures.bytes c.put.ensures.bytes
