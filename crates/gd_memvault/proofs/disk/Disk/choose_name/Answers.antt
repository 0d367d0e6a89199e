use Rattle.std.proofs.Common.{◌∙◌, ap, sym}
use Rattle.gd_memvault.specs.Disk.{names_of}
use Rattle.gd_memvault.proofs.Names.{chosen}
use Rattle.gd_memvault.proofs.disk.Disk.choose_name.Goals as goal

pub returns-in-Ok-clause-names : goal.returns-in-Ok-clause-names
returns-in-Ok-clause-names c =
    chosen c.in_ok-copied.field-0 c.find-id.result c.args.self.now.names c.bind.new.self.names c.args.after.now.names c.in-Ok.ensures.names
    (c.find-id.ensures ∙ ap (names_of c.args.after.now.names) (c.as_slice.ensures ∙ sym c.in_ok-copied.ensures))
