use Rattle.std.proofs.Common.{◌≡◌, ◌-◌}
use Rattle.gd_format.specs.File.{entries_of}
use Rattle.gd_readable.specs.Left.{IsWalk, records_left}
use Rattle.gd_readable.proofs.records.Records.next.Given as goal

abbrev pub invariant-buckets : goal.invariant-buckets
invariant-buckets l = record {
  walk : IsWalk l.self-inside.file.now l.self-inside.header l.self-inside.entry l.self-inside.block.now l.self-inside.slot;
  left : records_left l.self-inside.file.now l.self-inside.header l.self-inside.entry l.self-inside.block.now l.self-inside.slot ≡ l.fn.self;
}

abbrev pub decreases-buckets : goal.decreases-buckets
decreases-buckets l = entries_of l.self-inside.header - l.self-inside.entry
