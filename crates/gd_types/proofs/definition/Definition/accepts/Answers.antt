use Rattle.std.proofs.Common.{arith}
use Rattle.gd_types.proofs.Making.{reached-low}
use Rattle.gd_types.proofs.definition.Definition.accepts.Goals as goal

pub fits_at-requires : goal.fits_at-requires
fits_at-requires c =
    let low = reached-low 0 c.self.inside.members.items (omega arith) c.self.invariant.made in
    omega (arith, low, c.self.invariant.place)
