use Rattle.gd_vault.proofs.Files.{only_wrote}
use Rattle.gd_space.proofs.stack.write_block.Goals as goal

pub returns-in_err-write_at-clause-frame : goal.returns-in_err-write_at-clause-frame
returns-in_err-write_at-clause-frame g c = only_wrote c.write_at.ensures.wrote

pub returns-clause-frame : goal.returns-clause-frame
returns-clause-frame g c = only_wrote c.write_at.ensures.wrote
