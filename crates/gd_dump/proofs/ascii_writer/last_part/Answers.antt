use Rattle.std.proofs.Common.{◌∙◌, sym, ◌+◌, rules}
use Rattle.gd_dump.proofs.Names.{part_after, part_whole}
use Rattle.std.proofs.lemmas.List.{take_rest}
use Rattle.gd_dump.proofs.ascii_writer.last_part.Goals as goal

pub returns-in-Some : goal.returns-in-Some
returns-in-Some c = take_rest c.args.name.now (c.in-Some.i + 1) ∙ sym (part_after c.args.name.now c.in-Some.i (search rules) (search rules) (search rules))

pub returns-in-None : goal.returns-in-None
returns-in-None c = sym (part_whole c.args.name.now (search rules))
