use Rattle.std.proofs.Common.{◌∷◌, ◌++◌, codes}
use Rattle.gd_base.specs.Errors.{error_text, name_of, number_of, spaced, values_text}
use Rattle.gd_base.proofs.Waits.{pends-after, pends-front}
use Rattle.gd_base.proofs.error_lines.put_error.Goals as goal

pub returns-in_err-put-clause-bytes : goal.returns-in_err-put-clause-bytes
unfolding error_text
returns-in_err-put-clause-bytes g c =
    let e = c.args.error in
    pends-front _ c.from_residual.result _ _ _ _ (codes "error") (spaced (number_of e) ++ (32 ∷ name_of e ++ values_text e)) c.from_residual.ensures.1 c.in_err-put.ensures.bytes

pub returns-in_err-put_number-clause-bytes : goal.returns-in_err-put_number-clause-bytes
unfolding error_text
returns-in_err-put_number-clause-bytes g c =
    let e = c.args.error in
    let r = c.from_residual-in_err-put_number.result in
    pends-after r _ _ _ _ _ _ (codes "error") (spaced (number_of e) ++ (32 ∷ name_of e ++ values_text e)) c.in_ok-put.ensures.bytes
    (pends-front _ r _ _ _ _ (spaced (number_of e)) (32 ∷ name_of e ++ values_text e) c.from_residual-in_err-put_number.ensures.1 c.in_err-put_number.ensures.bytes)

pub returns-in_err-put_name-clause-bytes : goal.returns-in_err-put_name-clause-bytes
unfolding error_text
returns-in_err-put_name-clause-bytes g c =
    let e = c.args.error in
    let r = c.from_residual-in_err-put_name.result in
    pends-after r _ _ _ _ _ _ (codes "error") (spaced (number_of e) ++ (32 ∷ name_of e ++ values_text e)) c.in_ok-put.ensures.bytes
    (pends-after r _ _ _ _ _ _ (spaced (number_of e)) (32 ∷ name_of e ++ values_text e) c.in_ok-put_number.ensures.bytes
    (pends-front _ r _ _ _ _ (32 ∷ name_of e) (values_text e) c.from_residual-in_err-put_name.ensures.1 c.in_err-put_name.ensures.bytes))

pub returns-clause-bytes : goal.returns-clause-bytes
unfolding error_text
returns-clause-bytes g c =
    let e = c.args.error in
    let r = c.put_values.result in
    pends-after r _ _ _ _ _ _ (codes "error") (spaced (number_of e) ++ (32 ∷ name_of e ++ values_text e)) c.in_ok-put.ensures.bytes
    (pends-after r _ _ _ _ _ _ (spaced (number_of e)) (32 ∷ name_of e ++ values_text e) c.in_ok-put_number.ensures.bytes
    (pends-after r _ _ _ _ _ _ (32 ∷ name_of e) (values_text e) c.in_ok-put_name.ensures.bytes c.put_values.ensures.bytes))
