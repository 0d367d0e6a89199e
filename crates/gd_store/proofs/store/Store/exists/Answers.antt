use Rattle.gd_store.proofs.Lookups.{there_told}
use Rattle.gd_store.proofs.store.Store.exists.Goals as goal

pub returns-clause-answer : goal.returns-clause-answer
returns-clause-answer g c =
    there_told c.args.key.now c.args.self.now.header c.args.self.now.file c.in_ok-located.located.at c.in_ok-located.located.bucket (g.V.Vault.view_of c.args.vault.now)
    c.in_ok-located.located.place c.is_some.result c.is_some.ensures c.in_ok-located.ensures.found
