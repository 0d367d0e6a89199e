use Rattle.gd_map_laws.proofs.Slots as slots
use Rattle.gd_map_laws.proofs.buckets_by_slots.Goals as goal

pub returns : goal.returns
returns c = record { of_bucket = slots.of_bucket; of_slots = slots.of_slots }
