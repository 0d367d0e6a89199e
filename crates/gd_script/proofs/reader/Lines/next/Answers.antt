use Rattle.std.proofs.Common.{refl}
use Rattle.gd_script.specs.Reading.{reading}
use Rattle.gd_script.proofs.Pieces.{began_on, fault_found, last_found, line_found}
use Rattle.gd_script.proofs.reader.Lines.next.Goals as goal

pub returns-then-found-clause-gives : goal.returns-then-found-clause-gives
returns-then-found-clause-gives g c =
    let l = line_found c.in-Ok.found c.pieces.line.items c.part_line.new.line.items
    (reading c.args.self.now (g.S.Source.left c.args.input.now) (g.S.Source.fault_count c.args.input.now))
    (reading c.pieces.self (g.S.Source.left c.pieces.input) (g.S.Source.fault_count c.pieces.input))
    (reading c.part_line.new.self (g.S.Source.left c.pieces.input) (g.S.Source.fault_count c.pieces.input))
    c.if-found.true c.pieces.invariant.1 (record { parts = c.in-Ok.ensures.parts; taken = c.in-Ok.ensures.taken; left = refl; faults = refl }) in
    record { got = l.0; takes = l.1; is = (l.2, l.3, l.4) }

pub pieces-preserved : goal.pieces-preserved
pieces-preserved g c = (
  c.refill.ensures.within,
  began_on c.in-Ok.found c.in-Ok-true.field-0 c.pieces.line.items c.part_line.new.line.items
      (reading c.args.self.now (g.S.Source.left c.args.input.now) (g.S.Source.fault_count c.args.input.now))
      (reading c.pieces.self (g.S.Source.left c.pieces.input) (g.S.Source.fault_count c.pieces.input))
      (reading c.part_line.new.self (g.S.Source.left c.pieces.input) (g.S.Source.fault_count c.pieces.input))
      (reading c.refill.new.self (g.S.Source.left c.refill.new.input) (g.S.Source.fault_count c.refill.new.input))
      c.if-found.false c.in-Ok-true.field-0-test c.pieces.invariant.1 (record { parts = c.in-Ok.ensures.parts; taken = c.in-Ok.ensures.taken; left = refl; faults = refl }) c.in-Ok-true.ensures.refills,
)

pub returns-in-Ok-false-clause-gives : goal.returns-in-Ok-false-clause-gives
returns-in-Ok-false-clause-gives g c =
    last_found c.in-Ok.found c.in-Ok-false.field-0 c.last_of.result c.pieces.line.items c.part_line.new.line.items
    (reading c.args.self.now (g.S.Source.left c.args.input.now) (g.S.Source.fault_count c.args.input.now))
    (reading c.pieces.self (g.S.Source.left c.pieces.input) (g.S.Source.fault_count c.pieces.input))
    (reading c.part_line.new.self (g.S.Source.left c.pieces.input) (g.S.Source.fault_count c.pieces.input))
    (reading c.refill.new.self (g.S.Source.left c.refill.new.input) (g.S.Source.fault_count c.refill.new.input))
    c.if-found.false c.in-Ok-false.field-0-test c.pieces.invariant.1 (record { parts = c.in-Ok.ensures.parts; taken = c.in-Ok.ensures.taken; left = refl; faults = refl }) c.in-Ok-false.ensures.refills c.last_of.ensures

pub returns-in-Err-clause-gives : goal.returns-in-Err-clause-gives
returns-in-Err-clause-gives g c =
    fault_found c.in-Ok.found c.in-Err.ending c.pieces.line.items c.part_line.new.line.items
    (reading c.args.self.now (g.S.Source.left c.args.input.now) (g.S.Source.fault_count c.args.input.now))
    (reading c.pieces.self (g.S.Source.left c.pieces.input) (g.S.Source.fault_count c.pieces.input))
    (reading c.part_line.new.self (g.S.Source.left c.pieces.input) (g.S.Source.fault_count c.pieces.input))
    (reading c.refill.new.self (g.S.Source.left c.refill.new.input) (g.S.Source.fault_count c.refill.new.input))
    c.if-found.false c.pieces.invariant.1 (record { parts = c.in-Ok.ensures.parts; taken = c.in-Ok.ensures.taken; left = refl; faults = refl }) c.in-Err.ensures.refills
