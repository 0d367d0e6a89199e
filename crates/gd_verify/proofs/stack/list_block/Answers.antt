use Rattle.std.proofs.Common.{◌≡◌, ◌++◌, true, false, rules}
use Rattle.std.specs.Prelude.{ℕ}
use Rattle.gd_verify.proofs.Fewer.{stands_on, stands_still, ok_some_all, some_map}
use Rattle.gd_verify.proofs.stack.list_block.Goals as goal

pub returns-then-enough-clause-listed : goal.returns-then-enough-clause-listed
returns-then-enough-clause-listed g c =
    let on : c.args.enough.now ≡ true = search rules in
    ok_some_all c.read_block.result (λ file told all s. stands_still all _ _ _ on s)

pub returns-clause-listed : goal.returns-clause-listed
returns-clause-listed g c =
    let off : c.args.enough.now ≡ false = search rules in
    some_map c.in_ok-next.next
    (λ next right file told all s. stands_on all _ _ _ _ _ _ off s (right file told).2 c.deref.ensures.value c.in_ok-enough.ensures.meet)
    c.in_ok-next.ensures.right
