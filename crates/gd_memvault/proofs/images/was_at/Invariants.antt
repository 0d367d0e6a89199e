use Rattle.std.proofs.Common.{◌≡◌, ◌+◌}
use Rattle.gd_vault.specs.Events.{content_after, moment_after}
use Rattle.gd_memvault.specs.Disk.{disk_content}
use Rattle.gd_memvault.specs.Image.{events_at}
use Rattle.gd_memvault.proofs.images.was_at.Given as goal

abbrev pub invariant-loop-entry : goal.invariant-loop-entry
invariant-loop-entry l = record {
  items : l.entry-items ≡ l.log.entries;
  before : disk_content l.before ≡ content_after (disk_content l.first) (events_at (disk_content l.first) l.log.entries l.entry-index);
  rest : l.t ≡ moment_after (events_at (disk_content l.first) l.log.entries l.entry-index) + l.rest;
}
