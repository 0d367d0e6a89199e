use Rattle.std.proofs.Common.{[], ◌∷◌, ◌++◌}
use Rattle.gd_types.specs.Decoding.{datum_text}
use Rattle.gd_session.specs.Texts.{line}
use Rattle.gd_base.proofs.Waits.{pends-after, pends-front}
use Rattle.gd_session.proofs.typed.put_pair_line.Goals as goal

pub returns-in_err-put_typed-clause-bytes : goal.returns-in_err-put_typed-clause-bytes
returns-in_err-put_typed-clause-bytes g c = pends-front _ c.from_residual.result _ _ _ _ (datum_text c.args.key_form.now c.args.key.now c.args.delim.now) ((32 ∷ []) ++ (line (datum_text c.args.content_form.now c.args.content.now c.args.delim.now))) c.from_residual.ensures.1 c.in_err-put_typed.ensures.bytes

pub returns-in_err-put-clause-bytes : goal.returns-in_err-put-clause-bytes
returns-in_err-put-clause-bytes g c =
    let r = c.from_residual-in_err-put.result in
    pends-after r _ _ _ _ _ _ (datum_text c.args.key_form.now c.args.key.now c.args.delim.now) ((32 ∷ []) ++ (line (datum_text c.args.content_form.now c.args.content.now c.args.delim.now))) c.in_ok-put_typed.ensures.bytes
    (pends-front _ r _ _ _ _ (32 ∷ []) (line (datum_text c.args.content_form.now c.args.content.now c.args.delim.now)) c.from_residual-in_err-put.ensures.1 c.in_err-put.ensures.bytes)

pub returns-clause-bytes : goal.returns-clause-bytes
returns-clause-bytes g c =
    let r = c.put_datum_line.result in
    pends-after r _ _ _ _ _ _ (datum_text c.args.key_form.now c.args.key.now c.args.delim.now) ((32 ∷ []) ++ (line (datum_text c.args.content_form.now c.args.content.now c.args.delim.now))) c.in_ok-put_typed.ensures.bytes
    (pends-after r _ _ _ _ _ _ (32 ∷ []) (line (datum_text c.args.content_form.now c.args.content.now c.args.delim.now)) c.in_ok-put.ensures.bytes c.put_datum_line.ensures.bytes)
