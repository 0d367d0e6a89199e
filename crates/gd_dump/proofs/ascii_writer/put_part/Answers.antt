use Rattle.std.proofs.Common.{codes, ◌++◌, ◌∷◌, []}
use Rattle.gd_base.proofs.Waits.{pends-front, pends-after}
use Rattle.gd_dump.proofs.ascii_writer.put_part.Goals as goal

pub returns-in_err-put-clause-bytes : goal.returns-in_err-put-clause-bytes
returns-in_err-put-clause-bytes g c =
    pends-front _ c.from_residual.result _ _ _ _ (codes "#:file=") (c.args.part.now ++ 10 ∷ []) c.from_residual.ensures.1 c.in_err-put.ensures.bytes

pub returns-in_err-put-2-clause-bytes : goal.returns-in_err-put-2-clause-bytes
returns-in_err-put-2-clause-bytes g c =
    let r = c.from_residual-in_err-put-2.result in
    pends-after r _ _ _ _ _ _ (codes "#:file=") (c.args.part.now ++ 10 ∷ []) c.in_ok-put.ensures.bytes
    (pends-front _ r _ _ _ _ c.args.part.now (10 ∷ []) c.from_residual-in_err-put-2.ensures.1 c.in_err-put-2.ensures.bytes)

pub returns-clause-bytes : goal.returns-clause-bytes
returns-clause-bytes g c =
    let r = c.put-3.result in
    pends-after r _ _ _ _ _ _ (codes "#:file=") (c.args.part.now ++ 10 ∷ []) c.in_ok-put.ensures.bytes
    (pends-after r _ _ _ _ _ _ c.args.part.now (10 ∷ []) c.in_ok-put-2.ensures.bytes c.put-3.ensures.bytes)
