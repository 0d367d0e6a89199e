use Rattle.std.proofs.Common.{◌≡◌, ◌∙◌, ap, subst, ℕ, List, ◌+◌, ◌<◌, [], arith, length, rules, vec_len}
use Rattle.gd_dump_reading.specs.BinaryDemand.{DemandIs}
use Rattle.gd_dump_reading.specs.Told.{given, nothing, refused}
use Rattle.gd_dump_reading.specs.declared.items.DumpKind.TheVariants as kinds
use Rattle.gd_dump_reading.specs.declared.items.Item.TheVariants.{End}
use Rattle.gd_dump_reading.specs.declared.binary_machine.Demand.TheVariants.{More, TooLarge}
use Rattle.gd_dump_reading.proofs.BinaryPairs.{done-left, large-left, small-left}
use Rattle.gd_dump_reading.proofs.binary_machine.BinaryMachine.end_of_pairs.Goals as goal

pub returns-then-is_empty : goal.returns-then-is_empty
returns-then-is_empty c =
    let now = c.args.self.now in
    let len : length now.held.items ≡ vec_len now.held = search rules in (
      omega arith,
      done-left now.phase now.place now.held.items c.requires (search rules) ∙ ap (λ n. given End (now.place + n) nothing) len,
    )

pub returns-in-More : goal.returns-in-More
returns-in-More c =
    let now = c.args.self.now in
    let more : DemandIs now.held.items (More c.in-More._wanted) = search rules in
    let some : 0 < length now.held.items = search rules in
    let len : c.len.result ≡ length now.held.items = search rules in
    small-left now.phase now.place c.in-More._wanted now.held.items c.requires some more ∙ ap (λ n. refused kinds.Truncated (now.place + n)) (omega (arith, len))

pub returns-in-TooLarge : goal.returns-in-TooLarge
returns-in-TooLarge c =
    let now = c.args.self.now in
    let same : c.deref.result.now ≡ now.held.items = search rules in
    let large : DemandIs now.held.items (TooLarge c.in-TooLarge.at) = subst (λ (h : List ℕ). DemandIs h (TooLarge c.in-TooLarge.at)) same c.in-TooLarge.ensures in
    large-left now.phase now.place c.in-TooLarge.at now.held.items [] c.requires large
