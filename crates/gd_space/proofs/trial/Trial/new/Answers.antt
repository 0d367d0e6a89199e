use Rattle.std.proofs.Common.{refl, sym, ◌∙◌, arith}
use Rattle.gd_space.proofs.trial.Trial.new.Goals as goal

pub load-requires-clause-header : goal.load-requires-clause-header
load-requires-clause-header c = record { block = sym c.is_block.ensures ∙ c.if-not-is_block.false; bits = omega arith; dir = omega arith; elems = refl; next_block = omega arith; least = omega arith; most = omega arith }

pub invariant_of-result : goal.invariant_of-result
invariant_of-result c = record {
  header = record { block = sym c.is_block.ensures ∙ c.if-not-is_block.false; bits = omega arith; dir = omega arith; elems = refl; next_block = omega arith; least = omega arith; most = omega arith };
  magic = refl;
  small = refl;
  block = c.in-Ok-load.ensures.block;
  fits = c.in-Ok-load.ensures.fits;
}
