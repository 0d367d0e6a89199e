use Rattle.std.proofs.Common.{◌≡◌, ◌++◌, map}
use Rattle.std.specs.List.{All, filter, range_with_len}
use Rattle.gd_format.specs.Sound.{record_held, takes_place}
use Rattle.gd_verify.specs.Apart.{IsPlain}
use Rattle.gd_verify.proofs.held.push_records.Given as goal

abbrev pub invariant-loop-s : goal.invariant-loop-s
invariant-loop-s l = record {
  held : l.list.items ≡ l.fn.list.items ++ map (record_held l.block) (filter (takes_place l.block) (range_with_len 0 l.s));
  plain : All IsPlain l.list.items;
}
