use Rattle.gd_store.proofs.OpenFacts.{no_bad_table}
use Rattle.gd_store.proofs.opening.loaded.Goals as goal

pub returns-in-Err-BadAvail-clause-refused : goal.returns-in-Err-BadAvail-clause-refused
returns-in-Err-BadAvail-clause-refused g c = no_bad_table (g.V.Vault.view_of c.args.vault.now) c.args.f.0 c.args.header.now (c.in-Err-BadAvail.ensures.bad c.in-Err-BadAvail.at c.in-Err-BadAvail.field-0-is).1
