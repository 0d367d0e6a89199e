use Rattle.gd_session.proofs.Firsts.{first_opened}
use Rattle.gd_session.proofs.session.Session.open_first.Goals as goal

pub returns-in_ok-store-in-Fresh-clause-ready : goal.returns-in_ok-store-in-Fresh-clause-ready
returns-in_ok-store-in-Fresh-clause-ready g c = c.in_ok-store-in-Fresh.ensures.opening.is_open

pub returns-in_ok-store-in-Fresh-clause-first : goal.returns-in_ok-store-in-Fresh-clause-first
returns-in_ok-store-in-Fresh-clause-first g c =
    first_opened _ _ _ _ _ c.self.view_is c.in-Fresh.is c.in_ok-store-in-Fresh.ensures.opening c.in_ok-store-in-Fresh.ensures.grows.faults
