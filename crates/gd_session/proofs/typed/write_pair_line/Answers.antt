use Rattle.std.proofs.Common.{[], ◌∷◌, ◌++◌}
use Rattle.gd_types.specs.Decoding.{datum_text}
use Rattle.gd_session.specs.Texts.{line}
use Rattle.gd_base.proofs.Waits.{flush-all}
use Rattle.gd_session.proofs.typed.write_pair_line.Goals as goal

pub returns-clause-bytes : goal.returns-clause-bytes
returns-clause-bytes g c = flush-all c.flush.result _ _ _ _ _ (datum_text c.args.key_form.now c.args.key.now c.args.delim.now ++ (32 ∷ [] ++ line (datum_text c.args.content_form.now c.args.content.now c.args.delim.now))) c.new-page.ensures c.in_ok-put_pair_line.ensures.bytes c.flush.ensures.bytes
