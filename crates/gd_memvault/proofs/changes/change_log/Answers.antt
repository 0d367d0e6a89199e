use Rattle.std.proofs.Common.{◌≡◌, true, false, inr, refl}
use Rattle.gd_memvault.specs.Disk.{call_of, disk_content}
use Rattle.gd_vault.specs.Views.Told.{Records}
use Rattle.gd_memvault.specs.Log.{events_of}
use Rattle.gd_memvault.proofs.Idles.{none_not_idle}
use Rattle.gd_memvault.proofs.Logs.{adds_none, full_moments}
use Rattle.gd_memvault.proofs.changes.change_log.Goals as goal

pub returns-then-not-has_room-clause-told : goal.returns-then-not-has_room-clause-told
returns-then-not-has_room-clause-told c = adds_none (call_of c.args.step) (disk_content c.args.first.now) c.args.log.now (λ room. (let h = c.if-not-has_room.ensures in let wrong : false ≡ true = h.1 room in cc))

pub returns-then-not-has_room-clause-failed : goal.returns-then-not-has_room-clause-failed
returns-then-not-has_room-clause-failed c = λ _. inr (full_moments (disk_content c.args.first.now) c.args.log.now (λ room. (let h = c.if-not-has_room.ensures in let wrong : false ≡ true = h.1 room in cc)))

pub returns-then-not-has_room-clause-idle : goal.returns-then-not-has_room-clause-idle
returns-then-not-has_room-clause-idle c =
    let told = Records (disk_content c.args.first.now) (events_of (disk_content c.args.first.now) c.args.log.now) in
    none_not_idle told told refl
