use Rattle.std.proofs.Common.{rules}
use Rattle.std.proofs.lemmas.List.Sorted.{IsNonDecreasingBy-from_sort_by_key}
use Rattle.gd_verify.specs.Apart.{start_of}
use Rattle.gd_verify.proofs.apart.sort_by_start.Goals as goal

pub returns-in-Ok-clause-sorted : goal.returns-in-Ok-clause-sorted
returns-in-Ok-clause-sorted c = IsNonDecreasingBy-from_sort_by_key start_of _ c.in-Ok.ensures.sorted (λ a r q k. search rules)
