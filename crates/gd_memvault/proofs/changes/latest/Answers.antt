use Rattle.std.proofs.Common.{◌≡◌, length, ◌-◌, slice_get, sym, ap, ◌∙◌, subst, Some, None}
use Rattle.std.specs.Option.{option_copied}
use Rattle.gd_memvault.specs.Disk.{disk_content}
use Rattle.gd_memvault.proofs.Logs.{current_some, current_none, none_empty}
use Rattle.gd_memvault.proofs.changes.latest.Goals as goal

pub returns-in-Some : goal.returns-in-Some
returns-in-Some c =
    current_some (disk_content c.args.first.now) c.args.log.now.entries c.args.log.now.idle c.in-Some.entry.now
    (subst (λ l. slice_get l (length l - 1) ≡ Some c.in-Some.entry.now) c.entries.ensures (sym c.last.ensures.value ∙ ap option_copied c.in-Some.is))

pub returns-in-None : goal.returns-in-None
returns-in-None c =
    current_none (disk_content c.args.first.now) c.args.log.now.entries c.args.log.now.idle
    (none_empty c.args.log.now.entries (subst (λ l. slice_get l (length l - 1) ≡ None) c.entries.ensures (sym c.last.ensures.value ∙ ap option_copied c.in-None.is)))
