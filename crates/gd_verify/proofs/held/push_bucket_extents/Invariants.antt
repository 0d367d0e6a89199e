use Rattle.std.proofs.Common.{◌≡◌, ◌++◌, true, map}
use Rattle.std.specs.List.{All}
use Rattle.gd_format.specs.First.{all_below}
use Rattle.gd_format.specs.Bucket.{free_at}
use Rattle.gd_format.specs.Sound.{held_by}
use Rattle.gd_verify.specs.Apart.{IsPlain}
use Rattle.gd_verify.specs.Fronts.{is_free_right_at}
use Rattle.gd_verify.proofs.held.push_bucket_extents.Given as goal

abbrev pub invariant-loop-e : goal.invariant-loop-e
invariant-loop-e l = record {
  right : all_below l.e (is_free_right_at l.block) ≡ true;
  held : l.list.items ≡ l.fn.list.items ++ map (held_by l.by) (free_at l.block l.e);
  plain : All IsPlain l.list.items;
}
