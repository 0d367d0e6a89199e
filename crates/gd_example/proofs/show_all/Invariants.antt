use Rattle.gd_example.specs.Open.{IsOpen}
use Rattle.gd_example.proofs.show_all.Given as goal

abbrev pub invariant-loop : goal.invariant-loop
invariant-loop g l = IsOpen (g.V.Vault.view_of l.vault) l.store
