use Rattle.gd_map_laws.proofs.Sums as sums
use Rattle.gd_map_laws.proofs.sums_change.Goals as goal

pub returns : goal.returns
returns c =
    record {
      fits = sums.total_fits;
      total = sums.total_changes;
      lost = λ old new key blocks gone come rest more sound sound_new wrote. sums.lost_changes old new key blocks gone come rest sound wrote more sound_new;
      any = sums.lost_by_totals;
    }
