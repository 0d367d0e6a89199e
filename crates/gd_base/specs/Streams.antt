-- What is told of a sink.
use Rattle.std.specs.Prelude.{◌≡◌, ℕ, ◌<◌, ◌≤◌, List, ◌++◌, length, take, Option, option_map, Result, MatchResult}

-- what is told, with bytes at its end
abbrev pub and_then : Option (List ℕ) → List ℕ → Option (List ℕ)
and_then told bytes = option_map (λ xs. xs ++ bytes) told

-- a write of these bytes took the n that it answers, and a failed one none
abbrev pub Writes : {E : Type 0} → Option (List ℕ) → Option (List ℕ) → Result ℕ E → List ℕ → Type 0
Writes old new r bytes = MatchResult r (λ n. (0 < n) × (n ≤ length bytes) × (new ≡ and_then old (take n bytes))) (λ _. new ≡ old)

-- some front of the bytes was written
abbrev pub WritesFront : Option (List ℕ) → Option (List ℕ) → List ℕ → Type 0
WritesFront old new bytes = (n : ℕ) × (n ≤ length bytes) × (new ≡ and_then old (take n bytes))

-- all the bytes were written, or after a failure some front of them
abbrev pub Puts : {E : Type 0} {T : Type 0} → Option (List ℕ) → Option (List ℕ) → Result T E → List ℕ → Type 0
Puts old new r bytes = MatchResult r (λ _. new ≡ and_then old bytes) (λ _. WritesFront old new bytes)
