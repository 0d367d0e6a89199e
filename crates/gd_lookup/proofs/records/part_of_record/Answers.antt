use Rattle.std.proofs.Common.{◌≡◌, false, true}
use Rattle.gd_lookup.proofs.Opens.{bad_slot}
use Rattle.gd_lookup.proofs.records.part_of_record.Goals as goal

pub returns-in-None-clause-refused : goal.returns-in-None-clause-refused
returns-in-None-clause-refused g c =
    bad_slot c.args.refusal.0 c.args.refusal.1 _ _ c.args.file.now.id c.requires.file
    (λ d x told there. let bad : false ≡ true = rw c.in-None.is at (c.in_ok-bytes.ensures.whole d x told there (c.requires.inside d x told there)) in absurd (cc bad))
