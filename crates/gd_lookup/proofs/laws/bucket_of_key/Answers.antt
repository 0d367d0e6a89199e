use Rattle.gd_lookup.proofs.Keys.{read_bucket_is}
use Rattle.gd_lookup.proofs.laws.bucket_of_key.Goals as goal

pub returns : goal.returns
returns c = read_bucket_is
