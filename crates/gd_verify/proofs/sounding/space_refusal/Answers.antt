use Rattle.std.proofs.Common.{◌++◌, List, sym, ap, subst, ◌∙◌, arith}
use Rattle.gd_format.specs.declared.Held.{Held}
use Rattle.gd_readable.proofs.Asks.{told_then}
use Rattle.gd_verify.specs.Apart.{MeetsAlike}
use Rattle.gd_verify.specs.Refused.{blocks_held}
use Rattle.gd_verify.proofs.Orders.{need_recovery, order_blocks, order_rest}
use Rattle.gd_verify.proofs.sounding.space_refusal.Goals as goal

pub returns-then-header-len-clause-refusal : goal.returns-then-header-len-clause-refusal
returns-then-header-len-clause-refusal g c =
    λ file told read.
    let len = c.in_ok-len.ensures.len file told in
    sym (need_recovery file c.args.header.now (omega (arith, len, c.if-header-len.true)))

pub returns-in-Some-clause-refusal : goal.returns-in-Some-clause-refusal
returns-in-Some-clause-refusal g c =
    λ file told read.
    let len = c.in_ok-len.ensures.len file told in
    let told_one = told_then _ _ c.args.f.0 file c.in_ok-len.ensures.same told in
    order_blocks file c.args.header.now c.in-Some.e (omega (arith, len, c.if-header-len.false)) (sym c.in-Some.is ∙ c.in_ok-refusal.ensures.refusal file told_one len read)

pub returns-clause-refusal : goal.returns-clause-refusal
returns-clause-refusal g c =
    λ file told read.
    let len = c.in_ok-len.ensures.len file told in
    let told_one = told_then _ _ c.args.f.0 file c.in_ok-len.ensures.same told in
    let told_two = told_then _ _ c.args.f.0 file c.in_ok-refusal.ensures.same told_one in
    order_rest file c.args.header.now c.deref.result.now c.in_ok-refusal-2.refusal (omega (arith, len, c.if-header-len.false))
    (sym c.in_default.is ∙ c.in_ok-refusal.ensures.refusal file told_one len read)
    (subst (λ (xs : List Held). MeetsAlike xs c.deref.result.now) (ap (λ (xs : List Held). xs ++ blocks_held file c.args.header.now) c.new-space.ensures.items)
    (subst (λ (xs : List Held). MeetsAlike (c.new-space.result.items ++ blocks_held file c.args.header.now) xs) (sym c.deref.ensures.value) (c.in_ok-refusal.ensures.held file told_one len read c.in_default.is)))
    (c.in_ok-refusal-2.ensures.refusal file told_two read)
