use Rattle.gd_types.proofs.Again.{prints-back}
use Rattle.gd_types.proofs.laws.words_are_printed_back.Goals as goal

pub returns : goal.returns
returns c = prints-back
