use Rattle.gd_file_laws.proofs.Frame.{kept, records_kept}
use Rattle.gd_file_laws.proofs.still_bucket_is_kept.Goals as goal

pub returns : goal.returns
returns c = record { part = λ old new h i top still. kept old new h i still top; records = records_kept }
