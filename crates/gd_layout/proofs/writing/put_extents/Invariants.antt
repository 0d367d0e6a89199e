use Rattle.std.proofs.Common.{◌≡◌, ℕ, ◌+◌, ◌*◌, ◌<◌, get_or, take, drop}
use Rattle.gd_format.specs.declared.Extent.{Extent}
use Rattle.gd_layout.specs.Writing.{IsPut}
use Rattle.gd_layout.proofs.writing.put_extents.Given as goal

abbrev pub invariant-loop-e : goal.invariant-loop-e
invariant-loop-e l = record {
  put : (k : ℕ) (d : Extent) → k < l.e → IsPut l.block (l.at + 16 * k) (get_or l.extents k d);
  front : take l.at l.block ≡ take l.at l.initial.block;
  back : drop (l.at + 16 * l.e) l.block ≡ drop (l.at + 16 * l.e) l.initial.block;
}
