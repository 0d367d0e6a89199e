use Rattle.gd_dump.specs.Ascii.{datum_text}
use Rattle.gd_base.proofs.Waits.{pends-front, pends-after}
use Rattle.gd_dump.proofs.ascii_writer.AsciiWriter.put_pair.Goals as goal

pub returns-in_err-put_datum-clause-bytes : goal.returns-in_err-put_datum-clause-bytes
returns-in_err-put_datum-clause-bytes g c =
    pends-front _ c.from_residual.result _ _ _ _ (datum_text c.args.key.now) (datum_text c.args.value.now) c.from_residual.ensures.1 c.in_err-put_datum.ensures.bytes

pub returns-clause-bytes : goal.returns-clause-bytes
returns-clause-bytes g c =
    pends-after c.put_datum-2.result _ _ _ _ _ _ (datum_text c.args.key.now) (datum_text c.args.value.now) c.in_ok-put_datum.ensures.bytes c.put_datum-2.ensures.bytes
