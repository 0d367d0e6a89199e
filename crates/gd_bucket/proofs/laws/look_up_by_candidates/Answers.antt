use Rattle.gd_bucket.proofs.Maps.{found, passed, absent}
use Rattle.gd_bucket.proofs.laws.look_up_by_candidates.Goals as goal

pub returns : goal.returns
returns c = record {
  found = λ slots hash key own d test. found slots hash key own test d;
  passed = λ slots hash key own from d test. passed slots hash key own test from d;
  absent = λ slots hash key own from reached test. absent slots hash key own test from reached;
}
