use Rattle.gd_dump.specs.Binary.{binary_pair}
use Rattle.gd_base.proofs.Waits.{flush-all}
use Rattle.gd_dump.proofs.binary_writer.BinaryWriter.pair.Goals as goal

pub returns-clause-bytes : goal.returns-clause-bytes
returns-clause-bytes g c =
    flush-all c.flush.result _ _ _ _ _ (binary_pair c.args.key.now c.args.value.now) c.new-page.ensures c.in_ok-put_pair.ensures.bytes c.flush.ensures.bytes
