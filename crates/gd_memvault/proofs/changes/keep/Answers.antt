use Rattle.std.proofs.Common.{◌∙◌, subst}
use Rattle.gd_vault.specs.Changes.{Adds}
use Rattle.gd_vault.specs.Views.Told.{Records}
use Rattle.gd_memvault.specs.Disk.{call_of, disk_content}
use Rattle.gd_memvault.specs.Log.{events_of}
use Rattle.gd_memvault.proofs.Idles.{push_not_idle}
use Rattle.gd_memvault.proofs.Logs.{adds_call, push_content}
use Rattle.gd_memvault.proofs.changes.keep.Goals as goal

pub returns-then-ok-clause-told : goal.returns-then-ok-clause-told
returns-then-ok-clause-told c =
    let first = disk_content c.args.first.now in
    subst (λ ok. Adds (call_of c.args.step) ok first (events_of first c.args.log.now) (Records first (events_of first c.push.new.self))) c.if-ok.true
    (adds_call first c.args.log.now c.push.new.self c.args.step c.args.ok c.args.after c.requires.room c.in-Ok.ensures.done c.requires.effect)

pub returns-else-ok-clause-told : goal.returns-else-ok-clause-told
returns-else-ok-clause-told c =
    let first = disk_content c.args.first.now in
    subst (λ ok. Adds (call_of c.args.step) ok first (events_of first c.args.log.now) (Records first (events_of first c.push.new.self))) c.if-ok.false
    (adds_call first c.args.log.now c.push.new.self c.args.step c.args.ok c.args.after c.requires.room c.in-Ok.ensures.done c.requires.effect)

pub returns-then-ok-clause-content : goal.returns-then-ok-clause-content
returns-then-ok-clause-content c = λ same. push_content (disk_content c.args.first.now) c.args.log.now c.push.new.self (record { step = c.args.step; ok = c.args.ok; after = c.args.after; idle_before = c.args.log.now.idle }) c.in-Ok.ensures.done ∙ same

pub returns-then-ok-clause-idle : goal.returns-then-ok-clause-idle
returns-then-ok-clause-idle c = push_not_idle (disk_content c.args.first.now) c.args.log.now c.push.new.self c.args.step c.args.ok c.args.after c.requires.room c.in-Ok.ensures.done c.requires.effect

pub returns-else-ok-clause-content : goal.returns-else-ok-clause-content
returns-else-ok-clause-content c = λ same. push_content (disk_content c.args.first.now) c.args.log.now c.push.new.self (record { step = c.args.step; ok = c.args.ok; after = c.args.after; idle_before = c.args.log.now.idle }) c.in-Ok.ensures.done ∙ same

pub returns-else-ok-clause-idle : goal.returns-else-ok-clause-idle
returns-else-ok-clause-idle c = push_not_idle (disk_content c.args.first.now) c.args.log.now c.push.new.self c.args.step c.args.ok c.args.after c.requires.room c.in-Ok.ensures.done c.requires.effect
