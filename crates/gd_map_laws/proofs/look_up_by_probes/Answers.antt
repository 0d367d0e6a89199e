use Rattle.gd_map_laws.proofs.Find as finds
use Rattle.gd_map_laws.proofs.look_up_by_probes.Goals as goal

pub returns : goal.returns
returns c =
    record {
      absent = λ file bits top elems slots key n len right none ends. finds.absent file bits top elems slots key len right n none ends;
      present = finds.present;
      once = finds.key_once;
      fields = finds.fields_of_key;
      none = finds.absent_by_count;
    }
