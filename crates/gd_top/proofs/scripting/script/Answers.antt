use Rattle.gd_top.proofs.Scripts.{scripted_later}
use Rattle.gd_top.proofs.scripting.script.Goals as goal

pub returns-in-Ok-clause-later_out : goal.returns-in-Ok-clause-later_out
returns-in-Ok-clause-later_out g c = (scripted_later _ _ _ _ _ c.run_script.ensures.scripted).0

pub returns-in-Ok-clause-later_err : goal.returns-in-Ok-clause-later_err
returns-in-Ok-clause-later_err g c = (scripted_later _ _ _ _ _ c.run_script.ensures.scripted).1

pub returns-in-Ok-clause-clock : goal.returns-in-Ok-clause-clock
returns-in-Ok-clause-clock g c = c.run_script.ensures.clock tt
