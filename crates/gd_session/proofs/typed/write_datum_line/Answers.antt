use Rattle.gd_types.specs.Decoding.{datum_text}
use Rattle.gd_session.specs.Texts.{line}
use Rattle.gd_base.proofs.Waits.{flush-all}
use Rattle.gd_session.proofs.typed.write_datum_line.Goals as goal

pub returns-clause-bytes : goal.returns-clause-bytes
returns-clause-bytes g c = flush-all c.flush.result _ _ _ _ _ (line (datum_text c.args.form.now c.args.bytes.now c.args.delim.now)) c.new-page.ensures c.in_ok-put_datum_line.ensures.bytes c.flush.ensures.bytes
