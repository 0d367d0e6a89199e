use Rattle.gd_dump.specs.Binary.{binary_head}
use Rattle.gd_base.proofs.Waits.{flush-all}
use Rattle.gd_dump.proofs.binary_writer.BinaryWriter.head.Goals as goal

pub returns-clause-bytes : goal.returns-clause-bytes
returns-clause-bytes g c =
    flush-all c.flush.result _ _ _ _ _ binary_head c.new-page.ensures c.in_ok-put_head.ensures.bytes c.flush.ensures.bytes
