use Rattle.std.proofs.Common.{◌+◌, ◌*◌, inl, inr, arith}
use Rattle.std.proofs.lemmas.Bool.{cases_lt}
use Rattle.gd_layout.proofs.Pieces.{i64_is, i64_at-front, i64_at-back}
use Rattle.gd_layout.proofs.front.Layout+8+0.write_address.Goals as goal

pub returns-clause-reads : goal.returns-clause-reads
returns-clause-reads c = i64_is c.put_u64.new.block (8 * c.args.index) c.args.at c.put_u64.ensures.reads c.requires.fits

pub returns-clause-others : goal.returns-clause-others
returns-clause-others c = λ j other.
    elim (cases_lt j c.args.index) [
      | inl before ↦ i64_at-front (8 * j) (8 * c.args.index) c.put_u64.new.block c.args.into.now (omega arith) c.put_u64.ensures.front
      | inr after ↦ i64_at-back (8 * j) (8 * c.args.index + 8) c.put_u64.new.block c.args.into.now (omega (arith, other)) c.put_u64.ensures.back
    ]
