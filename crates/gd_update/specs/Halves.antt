-- The next bit of a hash, by which a bucket is divided.
use Rattle.std.specs.Prelude.{ℕ, ◌+◌, ◌-◌, ◌/◌, ◌%◌, ◌^◌}

-- the bit of a hash after its first ones
abbrev pub next_bit : ℕ → ℕ → ℕ
next_bit bits hash = hash / 2 ^ (31 - (bits + 1)) % 2
