use Rattle.gd_script.proofs.Stepping.{session_closes}
use Rattle.gd_script.proofs.sessions.SessionInterpreter.finish.Goals as goal

pub returns-clause-closes : goal.returns-clause-closes
returns-clause-closes g c =
    session_closes c.finish.result c.args.self.now c.finish.new.self (g.V.Vault.view_of c.args.vault.now) (g.V.Vault.view_of c.finish.new.vault)
    c.finish.ensures.grows c.finish.ensures.answer c.finish.ensures.fault c.finish.ensures.synced
