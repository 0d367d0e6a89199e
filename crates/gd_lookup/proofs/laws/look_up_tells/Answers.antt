use Rattle.gd_lookup.proofs.Keys.{own_slot, none_own, lies}
use Rattle.gd_lookup.proofs.laws.look_up_tells.Goals as goal

pub returns : goal.returns
returns c =
    record {
      present = λ file key slots place b lt own. own_slot file key slots b place lt own;
      absent = λ file key slots b z. none_own file key slots b z;
      inside = λ file key slots place b lt. lies file key slots b place lt;
    }
