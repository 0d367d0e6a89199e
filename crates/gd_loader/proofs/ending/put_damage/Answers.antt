use Rattle.std.proofs.Common.{codes}
use Rattle.gd_loader.specs.Ends.{place_text}
use Rattle.gd_base.proofs.Waits.{pends-after, pends-front}
use Rattle.gd_loader.proofs.ending.put_damage.Goals as goal

pub returns-in_err-put-clause-bytes : goal.returns-in_err-put-clause-bytes
returns-in_err-put-clause-bytes g c =
    pends-front _ c.from_residual.result _ _ _ _ (codes "gdbm_load: dump error ") (place_text c.args.kind c.args.place) c.from_residual.ensures.1 c.in_err-put.ensures.bytes

pub returns-clause-bytes : goal.returns-clause-bytes
returns-clause-bytes g c =
    pends-after c.put_kind_at.result _ _ _ _ _ _ (codes "gdbm_load: dump error ") (place_text c.args.kind c.args.place) c.in_ok-put.ensures.bytes c.put_kind_at.ensures.bytes
