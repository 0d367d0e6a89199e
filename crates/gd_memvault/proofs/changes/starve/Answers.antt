use Rattle.gd_memvault.specs.Disk.{disk_content}
use Rattle.gd_memvault.proofs.Logs.{idle_content, idle_told}
use Rattle.gd_memvault.proofs.changes.starve.Goals as goal

pub returns-clause-told : goal.returns-clause-told
returns-clause-told c = idle_told (disk_content c.args.first.now) c.args.log.now c.idle.new.self c.requires c.idle.ensures

pub returns-clause-content : goal.returns-clause-content
returns-clause-content c = idle_content (disk_content c.args.first.now) c.args.log.now c.idle.new.self c.idle.ensures
