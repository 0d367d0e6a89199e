use Rattle.std.proofs.Common.{◌≡◌, ◌+◌, ◌-◌, ◌^◌, ◌≤◌}
use Rattle.gd_format.specs.File.{entries_fault, dir_fault}
use Rattle.gd_readable.specs.Checks.{SeesPlaces}
use Rattle.gd_readable.proofs.directory.dir_refusal.Given as goal

abbrev pub invariant-runs : goal.invariant-runs
invariant-runs l = record {
  far : l.i ≤ 2 ^ 24 + 2 ^ 24;
  seen : SeesPlaces l.places l.file l.header l.i;
  rest : entries_fault l.file l.header (2 ^ l.header.dir_bits - l.i) 0 l.i ≡ dir_fault l.file l.header;
}

abbrev pub decreases-runs : goal.decreases-runs
decreases-runs l = 2 ^ l.header.dir_bits - l.i
