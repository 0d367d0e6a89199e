use Rattle.gd_dump.proofs.AsciiTrip.{trip}
use Rattle.gd_dump.proofs.laws.ascii_round_trip.Goals as goal

pub returns : goal.returns
returns c = trip
