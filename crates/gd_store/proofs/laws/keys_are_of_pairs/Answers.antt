use Rattle.gd_store.proofs.Pairs.{first_pair, next_pair}
use Rattle.gd_store.proofs.laws.keys_are_of_pairs.Goals as goal

pub returns-clause-first : goal.returns-clause-first
returns-clause-first c = λ file key readable is. first_pair file key is

pub returns-clause-next : goal.returns-clause-next
returns-clause-next c = next_pair
