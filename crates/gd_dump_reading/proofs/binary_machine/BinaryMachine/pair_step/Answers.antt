use Rattle.std.proofs.Common.{◌≡◌, ◌++◌, ℕ, List, subst, rules}
use Rattle.gd_dump_reading.specs.BinaryDemand.{DemandIs}
use Rattle.gd_dump_reading.specs.declared.binary_machine.Demand.TheVariants.{TooLarge}
use Rattle.gd_dump_reading.proofs.BinaryPairs.{large-left}
use Rattle.gd_dump_reading.proofs.binary_machine.BinaryMachine.pair_step.Goals as goal

pub returns-in-TooLarge-clause-steps : goal.returns-in-TooLarge-clause-steps
returns-in-TooLarge-clause-steps c = λ rest.
    let now = c.args.self.now in
    let same : c.deref.result.now ≡ now.held.items = search rules in
    let large : DemandIs now.held.items (TooLarge c.in-TooLarge.at) = subst (λ (h : List ℕ). DemandIs h (TooLarge c.in-TooLarge.at)) same c.in-TooLarge.ensures in
    large-left now.phase now.place c.in-TooLarge.at now.held.items (c.args.piece.now ++ rest) c.requires.phase large
