-- What is told of a clock.
use Rattle.std.specs.Prelude.{◌≡◌, ℕ, List, [], ◌∷◌, ◌++◌, Option, Some, None, Result, MatchResult}

-- the readings that were given, and the one that comes next
pub record Readings : Type 0 where
  pub given : List ℕ
  pub next : ℕ

-- a clock answered n: where it tells its readings this is the one that came next, and now the last that was given
pub record Gives (old new : Option Readings) (n : ℕ) : Type 0 where
  pub told : (r : Readings) → old ≡ Some r → (n ≡ r.next) × ((next : ℕ) × (new ≡ Some (record { given = r.given ++ n ∷ []; next = next })))
  pub untold : old ≡ None → new ≡ None

abbrev pub Ticks : {E : Type 0} → Option Readings → Option Readings → Result ℕ E → Type 0
Ticks old new r = MatchResult r (λ n. Gives old new n) (λ _. new ≡ old)
