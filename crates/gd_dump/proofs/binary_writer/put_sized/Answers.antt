use Rattle.std.proofs.Common.{length}
use Rattle.std.specs.Int.{w32, to_be_bytes}
use Rattle.gd_base.proofs.Waits.{pends-front, pends-after}
use Rattle.gd_dump.proofs.binary_writer.put_sized.Goals as goal

pub returns-in_err-put_length-clause-bytes : goal.returns-in_err-put_length-clause-bytes
returns-in_err-put_length-clause-bytes g c =
    pends-front _ c.from_residual.result _ _ _ _ (to_be_bytes w32 (length c.args.bytes.now)) c.args.bytes.now c.from_residual.ensures.1 c.in_err-put_length.ensures.bytes

pub returns-clause-bytes : goal.returns-clause-bytes
returns-clause-bytes g c =
    pends-after c.put.result _ _ _ _ _ _ (to_be_bytes w32 (length c.args.bytes.now)) c.args.bytes.now c.in_ok-put_length.ensures.bytes c.put.ensures.bytes
