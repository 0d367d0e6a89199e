use Rattle.gd_example.proofs.Asked.{still_open}
use Rattle.gd_example.proofs.show_all.Goals as goal

pub returns-in_err-count : goal.returns-in_err-count
returns-in_err-count g c = still_open c.count.ensures.same c.count.ensures.asks c.requires

pub first-requires-clause-fits : goal.first-requires-clause-fits
first-requires-clause-fits g c = (still_open c.count.ensures.same c.count.ensures.asks c.requires).fits

pub returns-in_err-key : goal.returns-in_err-key
returns-in_err-key g c = still_open c.first.ensures.same c.first.ensures.asks (still_open c.count.ensures.same c.count.ensures.asks c.requires)

pub loop-init : goal.loop-init
loop-init g c = still_open c.first.ensures.same c.first.ensures.asks (still_open c.count.ensures.same c.count.ensures.asks c.requires)
