use Rattle.std.proofs.Common.{◌≡◌, ◌<◌, ◌≤◌, ◌∙◌, ap, arith, rules, length, ℕ, List, ◌++◌, ◌+◌, take, vec_len}
use Rattle.std.specs.Prelude.{codes}
use Rattle.std.proofs.lemmas.List.{length-append, length-take-le}
use Rattle.gd_dump_reading.specs.AsciiLeft.{key_of}
use Rattle.gd_dump_reading.specs.Live.{line_shown}
use Rattle.gd_dump_reading.specs.Said.{named_in}
use Rattle.gd_dump_reading.specs.declared.live.Shown.TheVariants.{Bad, Comment, Open}
use Rattle.gd_dump_reading.proofs.LineParts.{part-bad, part-comment, part-open, part-skipped}
use Rattle.gd_dump_reading.proofs.LineShown.{of-lines, shown-comment, shown-open}
use Rattle.gd_dump_reading.proofs.ascii_machine.AsciiMachine.part_of_line.Goals as goal

pub returns-then-eq-clause-steps : goal.returns-then-eq-clause-steps
returns-then-eq-clause-steps c =
    let now = c.args.self.now in
    let of = of-lines now.phase c.requires.datum c.requires.going in
    let line : now.line.items ≡ codes "##" = search rules in (
      omega arith,
      omega arith,
      λ rest. part-skipped now.phase (named_in now.names) now.count (key_of now.waits now.key.items) now.text now.place now.inside now.line.items c.args.piece.now rest c.args.count of c.requires.some.1 c.requires.within line,
    )

pub returns-in-Bad-clause-steps : goal.returns-in-Bad-clause-steps
returns-in-Bad-clause-steps c = λ rest.
    let now = c.args.self.now in
    let of = of-lines now.phase c.requires.datum c.requires.going in
    let n = c.min-taken.result in
    let line : c.append.new.list.items ≡ now.line.items ++ take n c.args.piece.now = search rules in
    let shows : line_shown now.phase now.waits now.place c.append.new.list.items ≡ Bad c.in-Bad.kind = search rules in
    part-bad now.phase now.waits (named_in now.names) now.count now.key.items now.text now.place now.inside now.line.items c.append.new.list.items c.args.piece.now rest n c.in-Bad.kind of
    (omega arith) (omega arith) (λ k lt. c.requires.within k (omega (arith, lt))) line shows

pub returns-in-Comment-clause-steps : goal.returns-in-Comment-clause-steps
returns-in-Comment-clause-steps c =
    let now = c.args.self.now in
    let of = of-lines now.phase c.requires.datum c.requires.going in
    let n = c.min-taken.result in
    let line : c.append.new.list.items ≡ now.line.items ++ take n c.args.piece.now = search rules in
    let shows : line_shown now.phase now.waits now.place c.append.new.list.items ≡ Comment = search rules in
    let short : c.append-in-Comment.new.list.items ≡ codes "##" = search rules in
    let len : vec_len c.append.new.list ≡ length c.append.new.list.items = search rules in
    let now_len : vec_len now.line ≡ length now.line.items = search rules in
    let short_len : vec_len c.append-in-Comment.new.list ≡ 2 = search rules in
    let size = ap length line ∙ length-append now.line.items (take n c.args.piece.now) in
    let cut = length-take-le n c.args.piece.now (omega arith) in
    let counted : c.len-in-Comment.result ≡ vec_len c.append.new.list = search rules in
    let two = (shown-comment now.phase now.waits now.place c.append.new.list.items (omega (arith, size, cut)) shows).two in (
      omega arith,
      omega (arith, len, now_len, short_len, size, cut, counted, two),
      λ rest. part-comment now.phase now.waits (named_in now.names) now.count (key_of now.waits now.key.items) now.text now.place _ now.inside now.line.items c.append.new.list.items c.append-in-Comment.new.list.items c.args.piece.now rest n of
          (omega arith) (omega arith) (λ k lt. c.requires.within k (omega (arith, lt))) line shows short (omega (arith, len, counted, two)),
    )

pub returns-in-Open-clause-steps : goal.returns-in-Open-clause-steps
returns-in-Open-clause-steps c =
    let now = c.args.self.now in
    let of = of-lines now.phase c.requires.datum c.requires.going in
    let n = c.min-taken.result in
    let line : c.append.new.list.items ≡ now.line.items ++ take n c.args.piece.now = search rules in (
      omega arith,
      search rules,
      λ rest. part-open now.phase (named_in now.names) now.count (key_of now.waits now.key.items) now.text now.place now.inside now.line.items c.append.new.list.items c.args.piece.now rest n of (omega arith) (λ k lt. c.requires.within k (omega (arith, lt))) line,
    )

pub invariant_of-self-in-Open-clause-short : goal.invariant_of-self-in-Open-clause-short
invariant_of-self-in-Open-clause-short c =
    let now = c.args.self.now in
    let shows : line_shown now.phase now.waits now.place c.append.new.list.items ≡ Open = search rules in
    let len : vec_len c.append.new.list ≡ length c.append.new.list.items = search rules in
    let short = shown-open now.phase now.waits now.place c.append.new.list.items shows in
    omega (arith, short, len)
