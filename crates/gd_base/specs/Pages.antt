-- Bytes that wait in a page before they are written.
use Rattle.std.specs.Prelude.{◌≡◌, ℕ, List, ◌++◌, Option, Result, MatchResult}
use Rattle.gd_base.specs.Streams.{WritesFront, and_then}

-- bytes were put behind what waited: a front of both is written and the rest waits, or after a failure some front is written
abbrev pub Pends : {T E : Type 0} → Option (List ℕ) → List ℕ → Option (List ℕ) → List ℕ → Result T E → List ℕ → Type 0
Pends old waited new waits r bytes = MatchResult r
    (λ _. (front : List ℕ) × (new ≡ and_then old front) × (front ++ waits ≡ waited ++ bytes))
    (λ _. WritesFront old new (waited ++ bytes))
