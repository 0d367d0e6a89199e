use Rattle.gd_example.specs.Open.{IsOpen}
use Rattle.gd_example.proofs.fill.Given as goal

abbrev pub invariant-loop-key : goal.invariant-loop-key
invariant-loop-key g l = IsOpen (g.V.Vault.view_of l.vault) l.store
