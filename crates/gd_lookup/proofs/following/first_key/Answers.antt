use Rattle.std.proofs.Common.{◌∙◌}
use Rattle.gd_open.proofs.Blocks.{open_dir}
use Rattle.gd_lookup.proofs.Orders.{all_firsts}
use Rattle.gd_lookup.proofs.Runs.{begins_first}
use Rattle.gd_lookup.proofs.following.first_key.Goals as goal

pub first_from-requires-clause-begins : goal.first_from-requires-clause-begins
first_from-requires-clause-begins g c = λ d x told there. begins_first x.bytes c.args.file.now.header (open_dir x.bytes c.args.file.now.header (c.requires.readable.is_open d x told there))

pub returns-clause-first : goal.returns-clause-first
returns-clause-first g c = λ d x told there. c.in_ok-first.ensures.first d x told there ∙ all_firsts x.bytes c.args.file.now.header (c.requires.readable.is_open d x told there)
