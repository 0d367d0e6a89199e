use Rattle.std.proofs.Common.{refl, ap}
use Rattle.gd_format.specs.Bucket.{Bucket}
use Rattle.gd_map_laws.specs.Overflow.{is_close}
use Rattle.gd_update.proofs.NextBits.{first_fewer, second_fewer}
use Rattle.gd_update.proofs.growing.take_half.Goals as goal

pub returns-then-is_high-clause-close : goal.returns-then-is_high-clause-close
returns-then-is_high-clause-close c =
    rw (ap (λ (b : Bucket). b.slots) c.swap.ensures.x_after)
    (second_fewer (is_close c.args.hash) c.args.bucket.now.slots c.args.first.now.slots c.args.second.now.slots refl c.requires.halves.slots)

pub returns-clause-close : goal.returns-clause-close
returns-clause-close c =
    rw (ap (λ (b : Bucket). b.slots) c.swap-2.ensures.x_after)
    (first_fewer (is_close c.args.hash) c.args.bucket.now.slots c.args.first.now.slots c.args.second.now.slots refl c.requires.halves.slots)
