use Rattle.gd_memvault.specs.Disk.{disk_content}
use Rattle.gd_memvault.proofs.Disks.{cloned}
use Rattle.gd_memvault.proofs.disk.Disk.clone_into.Goals as goal

pub returns-in-Ok-clause-done : goal.returns-in-Ok-clause-done
returns-in-Ok-clause-done c = cloned c.args.dst c.args.src c.args.stamp c.in-Ok.bytes.items (disk_content c.args.self.now) _ c.requires c.in-Ok.ensures c.put_clone.ensures
