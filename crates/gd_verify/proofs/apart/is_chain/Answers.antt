use Rattle.std.proofs.Common.{◌≡◌, ◌+◌, ◌-◌, get_or, arith}
use Rattle.gd_format.specs.declared.Held.{Held}
use Rattle.gd_verify.specs.Apart.{end_of}
use Rattle.gd_verify.proofs.Chains.{nowhere, apart_more, ends_more, ends_here}
use Rattle.gd_verify.proofs.apart.is_chain.Goals as goal

pub loop-k-preserved : goal.loop-k-preserved
loop-k-preserved c =
    let old = c.loop-k.invariant in
    let list = c.args.list.now in
    let n = c.loop-k.k-index in
    let k : Held = get_or list n nowhere in
    let end : k.extent.at + c.from.result ≡ end_of k = omega (arith, c.from.ensures) in
    let same : n + 1 - 1 ≡ n = omega arith in
    record {
      apart = apart_more list n nowhere c.loop-k-test.true old.apart (ends_here list n nowhere c.loop-k.end old.ends c.if-k-end.false);
      ends = rw end (ends_more list n nowhere c.loop-k.end c.loop-k-test.true old.ends c.if-k-end.false);
      first = λ zero. absurd (omega (arith, zero));
      last = λ some. rw same end;
    }
