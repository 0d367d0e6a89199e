use Rattle.std.proofs.Common.{◌≡◌, List, ◌++◌, true, false, refl, sym, subst, ◌∙◌, rules, arith}
use Rattle.std.specs.Prelude.{nat_eq, Some}
use Rattle.std.specs.HashSet.{contains}
use Rattle.gd_format.specs.declared.Held.{Held}
use Rattle.gd_format.specs.Field.{bytes_at}
use Rattle.gd_format.specs.Avail.{next_at}
use Rattle.gd_format.specs.Sound.{is_stack_block, stack_held}
use Rattle.gd_readable.specs.Asks.{kept_of, bytes_in, Tells}
use Rattle.gd_readable.proofs.Asks.{told_then}
use Rattle.gd_verify.specs.Apart.{MeetsAlike, StandsForMore}
use Rattle.gd_verify.proofs.Fewer.{stands_first}
use Rattle.gd_verify.proofs.Numbers.{not_false_is, not_true_is}
use Rattle.gd_verify.proofs.Stacks.{stack_starts, stack_ends, stack_is_held, stack_repeats, stack_wrong, stack_more, stack_is_short}
use Rattle.gd_verify.proofs.stack.stack_refusal.Goals as goal

pub returns-then-at-eq0-clause-refusal : goal.returns-then-at-eq0-clause-refusal
returns-then-at-eq0-clause-refusal g c =
    λ file told len long.
    let s = c.loop-k.invariant.stack file told len in
    sym (stack_ends file c.args.most c.args.top c.loop-k.k c.loop-k.at c.loop-k.seen c.args.list.now.items s.whole s.stack c.if-at-eq0.true (omega (arith, len)))

pub returns-then-at-eq0-clause-held : goal.returns-then-at-eq0-clause-held
returns-then-at-eq0-clause-held g c =
    λ file told len long is.
    let s = c.loop-k.invariant.stack file told len in
    let whole = stack_is_held file c.args.most c.args.top c.loop-k.k c.loop-k.at c.loop-k.seen c.args.list.now.items s.whole s.stack c.if-at-eq0.true (omega (arith, len)) in
    subst (λ (xs : List Held). MeetsAlike xs c.loop-k.list.items) whole s.stands.alike

pub loop-k-init : goal.loop-k-init
loop-k-init g c = record {
  same = refl;
  later = refl;
  plain = c.requires.plain;
  room = refl;
  stack =
      λ file told len. record {
        whole = c.args.list.now.items;
        stack = stack_starts file c.args.most c.args.top c.new-seen.result c.args.list.now.items (λ q. search rules);
        stands = stands_first c.args.list.now.items;
      };
}

pub returns-then-not-branch-clause-refusal : goal.returns-then-not-branch-clause-refusal
returns-then-not-branch-clause-refusal g c =
    λ file told len long.
    let s = c.loop-k.invariant.stack file told len in
    let again = not_false_is (contains nat_eq c.loop-k.seen c.loop-k.at) (sym c.in_ok-is_new.ensures.new ∙ c.if-not-branch.true) in
    sym (stack_repeats file c.args.most c.args.top c.loop-k.k c.loop-k.at c.loop-k.seen c.args.list.now.items s.whole s.stack (omega arith) (omega (arith, len)) again)

pub returns-in_default-clause-refusal : goal.returns-in_default-clause-refusal
returns-in_default-clause-refusal g c =
    λ file told len long.
    let s = c.loop-k.invariant.stack file told len in
    let told_here : bytes_in (kept_of (g.V.Vault.view_of c.loop-k.vault)) c.args.f.0 ≡ Some file = told_then _ _ c.args.f.0 file c.loop-k.invariant.same told in
    let wrong : Tells (bytes_in (kept_of (g.V.Vault.view_of c.loop-k.vault)) c.args.f.0) (λ file. is_stack_block file c.args.most c.loop-k.at ≡ false) = rw c.in_default.is at c.in_ok-block.ensures.wrong in
    sym (stack_wrong file c.args.most c.args.top c.loop-k.k c.loop-k.at c.loop-k.seen c.args.list.now.items s.whole s.stack (omega arith) (omega (arith, len)) (wrong file told_here))

pub loop-k-preserved : goal.loop-k-preserved
loop-k-preserved g c = record {
  same = c.in_ok-block.ensures.same ∙ c.loop-k.invariant.same;
  later = omega (arith, c.loop-k.invariant.later, c.in_ok-block.ensures.answered);
  plain = c.in_ok-block.ensures.plain;
  room = c.list_block.auto.buf ∙ c.loop-k.invariant.room;
  stack =
      λ file told len.
      let s = c.loop-k.invariant.stack file told len in
      let told_here : bytes_in (kept_of (g.V.Vault.view_of c.loop-k.vault)) c.args.f.0 ≡ Some file = told_then _ _ c.args.f.0 file c.loop-k.invariant.same told in
      let right : Tells (bytes_in (kept_of (g.V.Vault.view_of c.loop-k.vault)) c.args.f.0) (λ file. (is_stack_block file c.args.most c.loop-k.at ≡ true) × (c.in-Some.next ≡ next_at (bytes_at file c.loop-k.at 16))) = rw c.in-Some.is at c.in_ok-block.ensures.right in
      let listed : Tells (bytes_in (kept_of (g.V.Vault.view_of c.loop-k.vault)) c.args.f.0) (λ file. StandsForMore (stack_held file c.loop-k.at) c.loop-k.list.items c.list_block.new.list.items c.loop-k.enough c.list_block.new.enough) = rw c.in-Some.is at c.in_ok-block.ensures.listed in
      let r = right file told_here in
      let new = not_true_is (contains nat_eq c.loop-k.seen c.loop-k.at) (sym c.in_ok-is_new.ensures.new ∙ c.if-not-branch.false) in
      record {
        whole = s.whole ++ stack_held file c.loop-k.at;
        stack = stack_more file c.args.most c.args.top c.loop-k.k c.loop-k.at c.in-Some.next c.loop-k.seen c.is_new.new.seen c.args.list.now.items s.whole (s.whole ++ stack_held file c.loop-k.at) s.stack (omega arith) new c.in_ok-is_new.ensures.more r.0 r.1 refl;
        stands = listed file told_here s.whole s.stands;
      };
}

pub returns-clause-refusal : goal.returns-clause-refusal
returns-clause-refusal g c =
    λ file told len long.
    let s = c.loop-k.invariant.stack file told len in
    let short = stack_is_short file c.args.most c.args.top c.loop-k.k c.loop-k.at c.loop-k.seen c.args.list.now.items s.whole s.stack (omega (arith, len, long)) in
    absurd (omega (arith, short, len, c.loop-k-test.false))
