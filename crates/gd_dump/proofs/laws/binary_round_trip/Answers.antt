use Rattle.gd_dump.proofs.BinaryTrip.{trip}
use Rattle.gd_dump.proofs.laws.binary_round_trip.Goals as goal

pub returns : goal.returns
returns c = trip
