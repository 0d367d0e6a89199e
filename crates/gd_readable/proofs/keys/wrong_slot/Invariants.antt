use Rattle.std.proofs.Common.{◌≡◌, None}
use Rattle.gd_format.specs.First.{first_below}
use Rattle.gd_format.specs.File.{slot_fault}
use Rattle.gd_readable.specs.Checks.{HaveKeys, SeesHashes}
use Rattle.gd_readable.proofs.keys.wrong_slot.Given as goal

abbrev pub invariant-loop-s : goal.invariant-loop-s
invariant-loop-s l = record {
  none : first_below l.s (slot_fault l.file l.block l.at l.top) ≡ None;
  keys : HaveKeys l.file l.block l.s;
  seen : SeesHashes l.seen l.block l.s;
}
