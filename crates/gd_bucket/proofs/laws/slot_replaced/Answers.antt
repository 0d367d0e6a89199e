use Rattle.gd_bucket.proofs.Maps.{replaced_reaches}
use Rattle.gd_bucket.proofs.Falls.{set_same}
use Rattle.gd_bucket.proofs.laws.slot_replaced.Goals as goal

pub returns : goal.returns
returns c = record { reached = replaced_reaches; slots = set_same }
