use Rattle.gd_memvault.specs.Disk.{disk_content}
use Rattle.gd_memvault.proofs.Pasts.{was_is_left}
use Rattle.gd_memvault.proofs.images.image_of_picks.Goals as goal

pub returns-then-is_quiet-clause-left : goal.returns-then-is_quiet-clause-left
returns-then-is_quiet-clause-left c = was_is_left c.was_at.result (disk_content c.args.first.now) c.args.log.now c.args.t c.requires.lawful c.requires.moment c.was_at.ensures
