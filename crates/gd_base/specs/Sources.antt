-- What is told of a source.
use Rattle.std.specs.Prelude.{◌≡◌, ℕ, ◌<◌, ◌≤◌, List, [], ◌++◌, length, take, Option, option_map, Result, MatchResult}

-- what is told is nothing, or the empty list
abbrev pub IsAtEnd : Option (List ℕ) → Type 0
IsAtEnd told = told ≡ option_map (λ _. []) told

-- a read into this buffer took the n bytes at its front, and a failed one none; no byte means the end
abbrev pub Reads : {E : Type 0} → Option (List ℕ) → Option (List ℕ) → Result ℕ E → List ℕ → Type 0
Reads old new r buf = MatchResult r (λ n. (n ≤ length buf) × (old ≡ option_map (λ xs. take n buf ++ xs) new) × (n ≡ 0 → 0 < length buf → IsAtEnd new)) (λ _. new ≡ old)
