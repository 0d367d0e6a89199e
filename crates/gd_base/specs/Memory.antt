-- What contracts see of a sink, a source and a clock in memory.
use Rattle.std.specs.Prelude.{ℕ, zero, suc, ◌-◌, List, [], ◌∷◌, ◌++◌, length, min, get_or, Option, Some}
use Rattle.gd_base.specs.Clocks.{Readings}

-- fails has the numbers of the calls that are to fail, calls the number of the next one
pub record SinkState : Type 0 where
  pub bytes : List ℕ
  pub fails : List ℕ
  pub calls : ℕ
  pub faults : ℕ
  pub starved : ℕ

pub record SourceState : Type 0 where
  pub left : List ℕ
  pub fails : List ℕ
  pub calls : ℕ
  pub faults : ℕ

-- given is how many readings it gave
pub record ClockState : Type 0 where
  pub numbers : List ℕ
  pub given : ℕ
  pub fails : List ℕ
  pub calls : ℕ
  pub faults : ℕ

-- the number at a place, or the last one, or 0
abbrev pub reading_at : List ℕ → ℕ → ℕ
reading_at numbers place = get_or numbers (min place (length numbers - 1)) 0

-- the first so many readings
abbrev pub first_readings : List ℕ → ℕ → List ℕ
first_readings numbers zero = []
first_readings numbers (suc n) = first_readings numbers n ++ reading_at numbers n ∷ []

abbrev pub told_by : ClockState → Option Readings
told_by c = Some (record { given = first_readings c.numbers c.given; next = reading_at c.numbers c.given })
