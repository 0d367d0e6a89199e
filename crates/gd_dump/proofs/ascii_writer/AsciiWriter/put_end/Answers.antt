use Rattle.std.proofs.Common.{codes, ◌++◌}
use Rattle.std.specs.Fmt.{decimal}
use Rattle.gd_base.proofs.Waits.{pends-front, pends-after}
use Rattle.gd_dump.proofs.ascii_writer.AsciiWriter.put_end.Goals as goal

pub returns-in_err-put-clause-bytes : goal.returns-in_err-put-clause-bytes
returns-in_err-put-clause-bytes g c =
    let rest = decimal c.args.count ++ codes "\n# End of data\n" in
    pends-front _ c.from_residual.result _ _ _ _ (codes "#:count=") rest c.from_residual.ensures.1 c.in_err-put.ensures.bytes

pub returns-in_err-put_number-clause-bytes : goal.returns-in_err-put_number-clause-bytes
returns-in_err-put_number-clause-bytes g c =
    let rest = decimal c.args.count ++ codes "\n# End of data\n" in
    let r = c.from_residual-in_err-put_number.result in
    pends-after r _ _ _ _ _ _ (codes "#:count=") rest c.in_ok-put.ensures.bytes
    (pends-front _ r _ _ _ _ (decimal c.args.count) (codes "\n# End of data\n") c.from_residual-in_err-put_number.ensures.1 c.in_err-put_number.ensures.bytes)

pub returns-clause-bytes : goal.returns-clause-bytes
returns-clause-bytes g c =
    let rest = decimal c.args.count ++ codes "\n# End of data\n" in
    let r = c.put-2.result in
    pends-after r _ _ _ _ _ _ (codes "#:count=") rest c.in_ok-put.ensures.bytes
    (pends-after r _ _ _ _ _ _ (decimal c.args.count) (codes "\n# End of data\n") c.in_ok-put_number.ensures.bytes c.put-2.ensures.bytes)
