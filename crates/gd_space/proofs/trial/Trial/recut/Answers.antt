use Rattle.std.proofs.Common.{arith}
use Rattle.gd_space.proofs.Trials.{room_512}
use Rattle.gd_space.proofs.trial.Trial.recut.Goals as goal

pub recut-requires-clause-most : goal.recut-requires-clause-most
recut-requires-clause-most c = let room = room_512 c.self.inside.header c.self.invariant.magic c.self.invariant.small in let le = c.if-capacity-gt26.false in omega (arith, room, le)
