-- What the functions that read parameters answer.
use Rattle.std.specs.Prelude.{◌≡◌, ℕ, ◌+◌, ◌<◌, ◌≤◌, List, drop, take, length, Option, Some, None}
use Rattle.gd_dump_reading.specs.Params.{some_params, with_value}

-- a value that was put into a list, and the number of bytes before the rest
abbrev pub ReadsValue : List ℕ → Option (List ℕ × List ℕ) → List ℕ → Option ℕ → Type 0
ReadsValue text read value (Some taken) = (taken ≤ length text) × (read ≡ Some (value, drop taken text))
ReadsValue text read value None = read ≡ None

-- no parameter begins a text that has none; and behind the first one come a comma and others, or the end
abbrev pub ReadsParam : List ℕ → List ℕ → Option (ℕ × ℕ) → Type 0
ReadsParam text value (Some (k, taken)) = (k ≤ length text) × (0 < taken) × (taken ≤ length text) × ((n : ℕ) → some_params (n + 1) text ≡ with_value (take k text) (Some (value, drop taken text)) (some_params n))
ReadsParam text value None = (n : ℕ) → some_params n text ≡ None
