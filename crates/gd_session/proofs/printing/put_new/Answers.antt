use Rattle.std.proofs.Common.{[], ◌∷◌, ◌++◌}
use Rattle.std.specs.Prelude.{codes}
use Rattle.std.specs.Fmt.{decimal}
use Rattle.gd_session.specs.Texts.{line}
use Rattle.gd_base.proofs.Waits.{pends-after, pends-front}
use Rattle.gd_session.proofs.printing.put_new.Goals as goal

pub returns-in_err-put-clause-bytes : goal.returns-in_err-put-clause-bytes
returns-in_err-put-clause-bytes g c = pends-front _ c.from_residual.result _ _ _ _ (codes " new ") ((decimal c.args.counts.now.added) ++ (codes " replaced " ++ (decimal c.args.counts.now.replaced ++ (codes " bytes " ++ line (decimal c.args.counts.now.bytes))))) c.from_residual.ensures.1 c.in_err-put.ensures.bytes

pub returns-in_err-put_number-clause-bytes : goal.returns-in_err-put_number-clause-bytes
returns-in_err-put_number-clause-bytes g c =
    let r = c.from_residual-in_err-put_number.result in
    pends-after r _ _ _ _ _ _ (codes " new ") ((decimal c.args.counts.now.added) ++ (codes " replaced " ++ (decimal c.args.counts.now.replaced ++ (codes " bytes " ++ line (decimal c.args.counts.now.bytes))))) c.in_ok-put.ensures.bytes
    (pends-front _ r _ _ _ _ (decimal c.args.counts.now.added) (codes " replaced " ++ (decimal c.args.counts.now.replaced ++ (codes " bytes " ++ line (decimal c.args.counts.now.bytes)))) c.from_residual-in_err-put_number.ensures.1 c.in_err-put_number.ensures.bytes)

pub returns-clause-bytes : goal.returns-clause-bytes
returns-clause-bytes g c =
    let r = c.put_replaced.result in
    pends-after r _ _ _ _ _ _ (codes " new ") ((decimal c.args.counts.now.added) ++ (codes " replaced " ++ (decimal c.args.counts.now.replaced ++ (codes " bytes " ++ line (decimal c.args.counts.now.bytes))))) c.in_ok-put.ensures.bytes
    (pends-after r _ _ _ _ _ _ (decimal c.args.counts.now.added) (codes " replaced " ++ (decimal c.args.counts.now.replaced ++ (codes " bytes " ++ line (decimal c.args.counts.now.bytes)))) c.in_ok-put_number.ensures.bytes c.put_replaced.ensures.bytes)
