use Rattle.gd_example.proofs.Asked.{still_open}
use Rattle.gd_example.proofs.show_pair.Goals as goal

pub returns-in_err-value : goal.returns-in_err-value
returns-in_err-value g c = still_open c.fetch.ensures.same c.fetch.ensures.asks c.requires

pub next-requires-clause-fits : goal.next-requires-clause-fits
next-requires-clause-fits g c = (still_open c.fetch.ensures.same c.fetch.ensures.asks c.requires).fits

pub returns : goal.returns
returns g c = still_open c.next.ensures.same c.next.ensures.asks (still_open c.fetch.ensures.same c.fetch.ensures.asks c.requires)
