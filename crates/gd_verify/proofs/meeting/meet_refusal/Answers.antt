use Rattle.std.proofs.Common.{sym}
use Rattle.gd_verify.proofs.Chains.{nowhere}
use Rattle.gd_verify.proofs.Meets.{first_meets}
use Rattle.gd_verify.proofs.meeting.meet_refusal.Goals as goal

pub returns : goal.returns
returns c = let n = c.in_ok-n.ensures in sym (first_meets c.args.next c.args.list.now c.in_ok-n.n nowhere n.place n.before n.here)
