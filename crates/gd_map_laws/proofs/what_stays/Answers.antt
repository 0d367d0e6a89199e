use Rattle.gd_map_laws.proofs.Change as changes
use Rattle.gd_map_laws.proofs.Put as puts
use Rattle.gd_map_laws.proofs.Stays as stays
use Rattle.gd_map_laws.proofs.what_stays.Goals as goal

pub returns : goal.returns
returns c =
    record {
      stays = λ old new h i next pool gone rest li dir_in parts right before keeps. stays.stays old new h i next pool gone rest li dir_in parts right before keeps;
      join = stays.keeps_join;
      more = changes.keeps_weaker;
      write = stays.write_keeps;
      reads = puts.written_stays;
      size = puts.written_size;
    }
