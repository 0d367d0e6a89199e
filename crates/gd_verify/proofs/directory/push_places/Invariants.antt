use Rattle.std.proofs.Common.{◌+◌, ℕ, List}
use Rattle.std.specs.List.{All}
use Rattle.gd_format.specs.declared.Header.{Header}
use Rattle.gd_verify.specs.Known.{IsReadBy, IsAddress, IsPlaced, IsPage}
use Rattle.gd_verify.proofs.directory.push_places.Given as goal

abbrev pub invariant-loop-e : goal.invariant-loop-e
invariant-loop-e l = record {
  low : All IsAddress l.places.items;
  placed : (file : List ℕ) (h : Header) (i : ℕ) → IsReadBy file h → IsPage file h i l.count l.entries → IsPlaced file h i l.before l.fn.places.items → IsPlaced file h (i + l.e) l.last l.places.items;
}
