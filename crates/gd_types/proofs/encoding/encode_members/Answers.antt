use Rattle.gd_types.proofs.Appending.{encoded-more}
use Rattle.gd_types.proofs.encoding.encode_members.Goals as goal

pub loop-member-preserved : goal.loop-member-preserved
loop-member-preserved c =
    let put = c.in_ok-append_member.ensures in
    encoded-more c.args.members.now c.args.words.now c.loop-member.out.items c.loop-member.at c.loop-member.member-index c.loop-member.left.now _ c.loop-member.invariant
    c.loop-member-test.true c.append_member.new.out.items put.0 c.place_after-at.result c.words_after-left.result.now put.1 put.2 c.place_after-at.ensures c.words_after-left.ensures
