use Rattle.std.proofs.Common.{rules}
use Rattle.gd_dump_reading.proofs.AsciiWaits.{waits-of}
use Rattle.gd_dump_reading.proofs.ascii_machine.AsciiMachineMachine.step.Goals as goal

pub returns-in-Datum-clause-waits : goal.returns-in-Datum-clause-waits
returns-in-Datum-clause-waits c = waits-of c.datum_step.new.self c.datum_step.result (search rules)

pub returns-in_default-clause-waits : goal.returns-in_default-clause-waits
returns-in_default-clause-waits c = waits-of c.line_step.new.self c.line_step.result (search rules)
