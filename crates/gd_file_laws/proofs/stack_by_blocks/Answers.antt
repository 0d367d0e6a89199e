use Rattle.gd_file_laws.proofs.Stacks as stacks
use Rattle.gd_file_laws.proofs.stack_by_blocks.Goals as goal

pub returns : goal.returns
returns c = record { made = stacks.shown; has = stacks.has_blocks; distinct = stacks.distinct_apart }
