use Rattle.gd_dump.specs.Ascii.{head_text}
use Rattle.gd_base.proofs.Waits.{flush-all}
use Rattle.gd_dump.proofs.ascii_writer.AsciiWriter.head.Goals as goal

pub returns-clause-bytes : goal.returns-clause-bytes
returns-clause-bytes g c =
    flush-all c.flush.result _ _ _ _ _ (head_text c.args.format c.args.file.now) c.new-page.ensures c.in_ok-put_head.ensures.bytes c.flush.ensures.bytes
