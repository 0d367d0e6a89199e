use Rattle.std.proofs.Common.{◌≡◌, rules}
use Rattle.std.specs.List.Sorted.{IsPermutation}
use Rattle.std.proofs.lemmas.List.Sorted.{All-permutation}
use Rattle.gd_verify.specs.Apart.{IsPlain}
use Rattle.gd_verify.proofs.Covers.{apart_from, apart_to}
use Rattle.gd_verify.proofs.apart.are_apart.Goals as goal

pub is_chain-requires-clause-plain : goal.is_chain-requires-clause-plain
is_chain-requires-clause-plain c =
    let items : c.in-Ok.sorted.items ≡ c.args.list.now = search rules in
    let same : IsPermutation c.args.list.now c.deref.result.now = rw (← items, c.deref.ensures.value) c.in_ok-sort_by_start.ensures.same in
    All-permutation IsPlain c.args.list.now c.deref.result.now same c.requires.plain

pub returns-clause-apart : goal.returns-clause-apart
returns-clause-apart c =
    λ yes.
    let items : c.in-Ok.sorted.items ≡ c.args.list.now = search rules in
    let same : IsPermutation c.args.list.now c.deref.result.now = rw (← items, c.deref.ensures.value) c.in_ok-sort_by_start.ensures.same in
    apart_from c.args.list.now c.deref.result.now same c.requires.plain (c.is_chain.ensures.apart yes)

pub returns-clause-meet : goal.returns-clause-meet
returns-clause-meet c =
    λ wrong apart.
    let items : c.in-Ok.sorted.items ≡ c.args.list.now = search rules in
    let same : IsPermutation c.args.list.now c.deref.result.now = rw (← items, c.deref.ensures.value) c.in_ok-sort_by_start.ensures.same in
    c.is_chain.ensures.meet wrong (apart_to c.args.list.now c.deref.result.now same c.requires.plain apart)
