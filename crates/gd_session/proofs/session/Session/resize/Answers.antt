use Rattle.gd_session.proofs.Resized.{ready_open, ready_other, state_open, state_other}
use Rattle.gd_session.proofs.session.Session.resize.Goals as goal
use Rattle.gd_session.proofs.session.Session.resize.Goals.{in-Open, in_default}

pub returns-clause-ready : goal.returns-clause-ready
returns-clause-ready g c =
    elim c.match-self.branch [
      | in-Open w ↦ rw w.self-inside-is (ready_open (g.V.Vault.view_of c.args.vault.now) _ c.args.self.now c.args.size w.in-Open.store w.set_cache.new.self c.self.view_is w.in-Open.is w.set_cache.ensures c.requires.ready)
      | in_default w ↦ rw w.self-inside-is (ready_other (g.V.Vault.view_of c.args.vault.now) _ c.args.self.now c.args.size c.self.view_is c.requires.ready)
    ]

pub returns-clause-state : goal.returns-clause-state
returns-clause-state g c =
    elim c.match-self.branch [
      | in-Open w ↦ rw w.self-inside-is (state_open _ c.args.self.now c.args.size w.in-Open.store w.set_cache.new.self c.self.view_is w.in-Open.is w.set_cache.ensures)
      | in_default w ↦ rw w.self-inside-is (state_other _ c.args.self.now c.args.size c.self.view_is w.in_default.not-Open)
    ]
