use Rattle.gd_map_laws.proofs.Overflow as overflow
use Rattle.gd_map_laws.proofs.overflow_shows.Goals as goal

pub returns : goal.returns
returns c = record { law = overflow.overflow_law; full = overflow.full_is_close; others = overflow.others_not_close; stays = overflow.close_stays; bits = overflow.full_has_bits }
