use Rattle.std.proofs.Common.{◌≡◌, ◌++◌, true, map}
use Rattle.std.specs.List.{All}
use Rattle.gd_format.specs.First.{all_below, list_below}
use Rattle.gd_format.specs.Avail.{extent_at, is_extent_right_at}
use Rattle.gd_format.specs.Sound.{held_by}
use Rattle.gd_verify.specs.Apart.{IsPlain}
use Rattle.gd_verify.proofs.held.push_extents.Given as goal

abbrev pub invariant-loop-e : goal.invariant-loop-e
invariant-loop-e l = record {
  right : all_below l.e (is_extent_right_at l.bytes) ≡ true;
  held : l.list.items ≡ l.fn.list.items ++ map (held_by l.by) (list_below l.e (extent_at l.bytes));
  plain : All IsPlain l.list.items;
}
