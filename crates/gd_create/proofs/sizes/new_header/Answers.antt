use Rattle.std.proofs.Common.{refl}
use Rattle.gd_create.specs.NewFile.{new_header}
use Rattle.gd_create.proofs.sizes.new_header.Goals as goal

pub returns-clause-new : goal.returns-clause-new
unfolding new_header
returns-clause-new c =
    record { sizes = c.bits_for.ensures; fields = rw (c.magic_of.ensures, c.table_room.ensures, c.from.ensures, c.from-2.ensures) refl }
