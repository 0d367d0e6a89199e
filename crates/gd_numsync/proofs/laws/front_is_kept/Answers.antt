use Rattle.gd_numsync.proofs.Kept.{like_kept, number_kept}
use Rattle.gd_numsync.proofs.laws.front_is_kept.Goals as goal

pub returns-clause-like : goal.returns-clause-like
returns-clause-like c = λ file front h h' table o like fit spells. like_kept file front h h' table o like fit spells

pub returns-clause-number : goal.returns-clause-number
returns-clause-number c = λ file front h table n o spells size. number_kept file front h table n o spells size
