use Rattle.gd_types.proofs.Appending.{Encoded}
use Rattle.gd_types.proofs.encoding.encode_members.Given as goal

abbrev pub invariant-loop-member : goal.invariant-loop-member
invariant-loop-member l = Encoded l.members l.words l.out.items l.at l.member-index l.left
