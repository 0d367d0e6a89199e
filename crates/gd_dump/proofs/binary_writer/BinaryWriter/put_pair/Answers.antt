use Rattle.gd_dump.specs.Binary.{sized}
use Rattle.gd_base.proofs.Waits.{pends-front, pends-after}
use Rattle.gd_dump.proofs.binary_writer.BinaryWriter.put_pair.Goals as goal

pub returns-in_err-put_sized-clause-bytes : goal.returns-in_err-put_sized-clause-bytes
returns-in_err-put_sized-clause-bytes g c =
    pends-front _ c.from_residual.result _ _ _ _ (sized c.args.key.now) (sized c.args.value.now) c.from_residual.ensures.1 c.in_err-put_sized.ensures.bytes

pub returns-clause-bytes : goal.returns-clause-bytes
returns-clause-bytes g c =
    pends-after c.put_sized-2.result _ _ _ _ _ _ (sized c.args.key.now) (sized c.args.value.now) c.in_ok-put_sized.ensures.bytes c.put_sized-2.ensures.bytes
