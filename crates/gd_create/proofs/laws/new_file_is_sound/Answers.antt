use Rattle.gd_create.proofs.News.{is_new}
use Rattle.gd_create.proofs.Powers.{fits, is_header}
use Rattle.gd_create.proofs.laws.new_file_is_sound.Goals as goal

pub returns : goal.returns
returns c = record { sound = is_new; header = λ format block bits is. (fits format block bits is, is_header format block bits is) }
