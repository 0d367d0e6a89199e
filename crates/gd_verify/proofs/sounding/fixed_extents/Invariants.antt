use Rattle.std.proofs.Common.{◌≡◌, take}
use Rattle.std.specs.List.{All}
use Rattle.gd_verify.specs.Apart.{IsPlain}
use Rattle.gd_verify.specs.Refused.{fixed_held}
use Rattle.gd_verify.proofs.sounding.fixed_extents.Given as goal

abbrev pub invariant-loop-at : goal.invariant-loop-at
invariant-loop-at l = record {
  held : l.list.items ≡ fixed_held l.header (take l.at-index l.places);
  plain : All IsPlain l.list.items;
}
