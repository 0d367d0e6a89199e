use Rattle.std.proofs.Common.{◌≡◌, ◌-◌, ◌<◌, ◌≤◌, true, false, [], take, length, is_none}
use Rattle.gd_format.specs.Sound.{meet_fault}
use Rattle.gd_verify.proofs.meeting.first_meeting.Given as goal

abbrev pub invariant-halves : goal.invariant-halves
invariant-halves l = record {
  order : l.low < l.high;
  top : l.high ≤ length l.list;
  before : is_none (meet_fault l.next [] (take l.low l.list)) ≡ true;
  here : is_none (meet_fault l.next [] (take l.high l.list)) ≡ false;
}

abbrev pub decreases-halves : goal.decreases-halves
decreases-halves l = l.high - l.low
