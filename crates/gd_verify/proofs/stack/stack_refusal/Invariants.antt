use Rattle.std.proofs.Common.{◌≡◌, ◌≤◌, length}
use Rattle.std.specs.List.{All}
use Rattle.gd_verify.specs.Apart.{IsPlain}
use Rattle.gd_readable.specs.Asks.{kept_of, bytes_in, Tells}
use Rattle.gd_verify.proofs.Stacks.{IsListedTo}
use Rattle.gd_verify.proofs.stack.stack_refusal.Given as goal

abbrev pub invariant-loop-k : goal.invariant-loop-k
invariant-loop-k g l = record {
  same : kept_of (g.V.Vault.view_of l.vault) ≡ kept_of (g.V.Vault.view_of l.fn.vault);
  later : (g.V.Vault.view_of l.vault).faults ≡ (g.V.Vault.view_of l.fn.vault).faults;
  plain : All IsPlain l.list.items;
  room : length l.buf ≡ length l.fn.buf;
  stack : Tells (bytes_in (kept_of (g.V.Vault.view_of l.fn.vault)) l.f.0) (λ file. length file ≡ l.len → IsListedTo file l.most l.top l.k l.at l.seen l.fn.list.items l.list.items l.enough);
}
