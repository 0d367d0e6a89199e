use Rattle.gd_dump.specs.Ascii.{end_text}
use Rattle.gd_base.proofs.Waits.{flush-all}
use Rattle.gd_dump.proofs.ascii_writer.AsciiWriter.end.Goals as goal

pub returns-clause-bytes : goal.returns-clause-bytes
returns-clause-bytes g c =
    flush-all c.flush.result _ _ _ _ _ (end_text c.args.count) c.new-page.ensures c.in_ok-put_end.ensures.bytes c.flush.ensures.bytes
