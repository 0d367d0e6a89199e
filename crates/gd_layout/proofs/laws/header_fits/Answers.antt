use Rattle.gd_layout.proofs.HeaderFields as fields
use Rattle.gd_layout.proofs.laws.header_fits.Goals as goal

pub returns : goal.returns
returns c = λ bytes len none. (fields.header_fits bytes len none, fields.header_is bytes len none)
