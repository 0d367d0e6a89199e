use Rattle.std.proofs.Common.{◌++◌, ◌+◌, ◌&&◌, List, ℕ, ◌∙◌, not, arith, drop, get_or, subst}
use Rattle.std.specs.List.{flat_map}
use Rattle.gd_base.specs.Streams.{WritesFront}
use Rattle.gd_base.proofs.Waits.{Waits, pends-after, pends-front, waits-more}
use Rattle.gd_types.specs.Decoding.{member_text}
use Rattle.gd_types.specs.Members.{is_row, place_after, placed}
use Rattle.gd_types.specs.Printing.{lead_of, spread}
use Rattle.gd_types.specs.declared.members.Member.TheVariants.{Row}
use Rattle.gd_types.proofs.Spreading.{printed-all, printed-here, printed-next, printed-room, printed-split-member}
use Rattle.gd_types.proofs.decoding.put_members.Goals as goal

pub put_member-requires-clause-at : goal.put_member-requires-clause-at
put_member-requires-clause-at g c =
    let put = c.loop-member.invariant.put in
    printed-here c.args.members.now c.args.bytes.now c.args.delim.now c.loop-member.at c.loop-member.member-index c.loop-member.first put.0 (Row 0) put.2 c.loop-member-test.true

pub put_member-requires-clause-room : goal.put_member-requires-clause-room
put_member-requires-clause-room g c =
    let put = c.loop-member.invariant.put in
    printed-room c.args.members.now c.args.bytes.now c.args.delim.now c.loop-member.at c.loop-member.member-index c.loop-member.first put.0 (Row 0) put.2 c.loop-member-test.true

pub returns-in_err-put_member-clause-bytes : goal.returns-in_err-put_member-clause-bytes
returns-in_err-put_member-clause-bytes g c =
    let sink = g.O.Sink in
    let put = c.loop-member.invariant.put in
    let delim = c.args.delim.now in
    let first = c.loop-member.first in
    let index = c.loop-member.member-index in
    let members = c.args.members.now in
    let at = c.loop-member.at in
    let m = get_or members index (Row 0) in
    let texts = member_text c.args.bytes.now (m, at) in
    let tail = spread (first && not (is_row m)) delim (flat_map (member_text c.args.bytes.now) (placed (place_after at m) (drop (index + 1) members))) in
    let written = subst (λ (lead : List ℕ). WritesFront (sink.written c.loop-member.out) (sink.written c.put_member.new.out) (c.loop-member.page.items ++ flat_map (λ t. lead ++ t) texts))
    c.lead.ensures c.in_err-put_member.ensures.bytes in
    rw (printed-split-member members c.args.bytes.now delim at index first put.0 (Row 0) put.2 c.loop-member-test.true)
    (pends-after c.from_residual.result _ _ _ _ _ _ put.0 _ put.1
    (pends-front _ c.from_residual.result _ _ _ _ (flat_map (λ t. lead_of first delim ++ t) texts) tail c.from_residual.ensures.1 written))

pub loop-member-preserved : goal.loop-member-preserved
loop-member-preserved g c =
    let sink = g.O.Sink in
    let put = c.loop-member.invariant.put in
    let delim = c.args.delim.now in
    let first = c.loop-member.first in
    let index = c.loop-member.member-index in
    let members = c.args.members.now in
    let at = c.loop-member.at in
    let texts = member_text c.args.bytes.now (get_or members index (Row 0), at) in
    let written = subst (λ (lead : List ℕ). Waits (sink.written c.loop-member.out) c.loop-member.page.items (sink.written c.put_member.new.out) c.put_member.new.page.items (flat_map (λ t. lead ++ t) texts))
    c.lead.ensures c.in_ok-put_member.ensures.bytes in
    record {
      put = (
        put.0 ++ flat_map (λ t. lead_of first delim ++ t) texts,
        waits-more _ _ _ _ _ _ put.0 (flat_map (λ t. lead_of first delim ++ t) texts) put.1 written,
        printed-next members c.args.bytes.now delim at index first put.0 (Row 0) put.2 c.loop-member-test.true c.place_after-at.result c.stays_first-first.result c.place_after-at.ensures c.stays_first-first.ensures,
      );
      faults = c.in_ok-put_member.ensures.cause.answered ∙ c.loop-member.invariant.faults;
      kept = g.met.O.Sink.kept_on c.args.out.now c.loop-member.out c.put_member.new.out c.loop-member.invariant.kept c.put_member.ensures.kept;
    }

pub returns-clause-bytes : goal.returns-clause-bytes
returns-clause-bytes g c =
    let sink = g.O.Sink in
    let put = c.loop-member.invariant.put in
    let all = printed-all c.args.members.now c.args.bytes.now c.args.delim.now c.loop-member.at c.loop-member.member-index c.loop-member.first put.0 put.2 c.loop-member-test.false in
    subst (Waits (sink.written c.args.out.now) c.args.page.now.items (sink.written c.loop-member.out) c.loop-member.page.items) all put.1
