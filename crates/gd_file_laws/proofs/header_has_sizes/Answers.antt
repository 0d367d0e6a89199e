use Rattle.gd_file_laws.proofs.Headers.{header_in}
use Rattle.gd_file_laws.proofs.header_has_sizes.Goals as goal

pub returns : goal.returns
returns c = header_in
