use Rattle.std.proofs.Common.{codes, ◌++◌, ◌∷◌, [], length}
use Rattle.std.specs.Fmt.{decimal}
use Rattle.gd_dump.specs.Ascii.{base64_text, lines_of}
use Rattle.gd_base.proofs.Waits.{pends-front, pends-after}
use Rattle.gd_dump.proofs.ascii_data.put_datum.Goals as goal

pub returns-in_err-put-clause-bytes : goal.returns-in_err-put-clause-bytes
returns-in_err-put-clause-bytes g c =
    let n = decimal (length c.args.bytes.now) in
    let lines = lines_of (base64_text c.args.bytes.now) in
    pends-front _ c.from_residual.result _ _ _ _ (codes "#:len=") (n ++ 10 ∷ lines) c.from_residual.ensures.1 c.in_err-put.ensures.bytes

pub returns-in_err-put_number-clause-bytes : goal.returns-in_err-put_number-clause-bytes
returns-in_err-put_number-clause-bytes g c =
    let n = decimal (length c.args.bytes.now) in
    let lines = lines_of (base64_text c.args.bytes.now) in
    let r = c.from_residual-in_err-put_number.result in
    pends-after r _ _ _ _ _ _ (codes "#:len=") (n ++ 10 ∷ lines) c.in_ok-put.ensures.bytes
    (pends-front _ r _ _ _ _ n (10 ∷ lines) c.from_residual-in_err-put_number.ensures.1 c.in_err-put_number.ensures.bytes)

pub returns-in_err-put-2-clause-bytes : goal.returns-in_err-put-2-clause-bytes
returns-in_err-put-2-clause-bytes g c =
    let n = decimal (length c.args.bytes.now) in
    let lines = lines_of (base64_text c.args.bytes.now) in
    let r = c.from_residual-in_err-put-2.result in
    pends-after r _ _ _ _ _ _ (codes "#:len=") (n ++ 10 ∷ lines) c.in_ok-put.ensures.bytes
    (pends-after r _ _ _ _ _ _ n (10 ∷ lines) c.in_ok-put_number.ensures.bytes
    (pends-front _ r _ _ _ _ (10 ∷ []) lines c.from_residual-in_err-put-2.ensures.1 c.in_err-put-2.ensures.bytes))

pub returns-clause-bytes : goal.returns-clause-bytes
returns-clause-bytes g c =
    let n = decimal (length c.args.bytes.now) in
    let lines = lines_of (base64_text c.args.bytes.now) in
    let r = c.put_lines.result in
    pends-after r _ _ _ _ _ _ (codes "#:len=") (n ++ 10 ∷ lines) c.in_ok-put.ensures.bytes
    (pends-after r _ _ _ _ _ _ n (10 ∷ lines) c.in_ok-put_number.ensures.bytes
    (pends-after r _ _ _ _ _ _ (10 ∷ []) lines c.in_ok-put-2.ensures.bytes c.put_lines.ensures.bytes))
