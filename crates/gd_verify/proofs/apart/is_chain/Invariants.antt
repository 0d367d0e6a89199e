use Rattle.std.proofs.Common.{◌≡◌, ◌-◌, ◌<◌, take, get_or}
use Rattle.gd_verify.specs.Apart.{AreApart, AllEnd, end_of}
use Rattle.gd_verify.proofs.Chains.{nowhere}
use Rattle.gd_verify.proofs.apart.is_chain.Given as goal

abbrev pub invariant-loop-k : goal.invariant-loop-k
invariant-loop-k l = record {
  apart : AreApart (take l.k-index l.list);
  ends : AllEnd l.end (take l.k-index l.list);
  first : l.k-index ≡ 0 → l.end ≡ 0;
  last : 0 < l.k-index → l.end ≡ end_of (get_or l.list (l.k-index - 1) nowhere);
}
