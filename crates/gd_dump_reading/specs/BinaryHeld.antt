-- What a reader of binary dumps keeps, and the room that it has.
use Rattle.std.specs.Prelude.{ℕ, ◌+◌, ◌-◌, ◌≤◌, vec_capacity, vec_len}
use Rattle.gd_dump_reading.specs.declared.binary_machine.BinaryMachine.{BinaryMachine}
use Rattle.gd_dump_reading.specs.declared.binary_machine.Phase.{Phase}
use Rattle.gd_dump_reading.specs.declared.binary_machine.Phase.TheVariants.{Head, Pairs, Ended}

-- of n bytes that are held of a pair, all but those of its two lengths
abbrev pub pair_bytes : Phase → ℕ → ℕ
pair_bytes Pairs n = n - 8
pair_bytes phase n = 0

abbrev pub binary_pair : BinaryMachine → ℕ
binary_pair m = pair_bytes m.phase (vec_len m.held)

-- the lengths of all its lists
abbrev pub binary_kept : BinaryMachine → ℕ
binary_kept m = vec_len m.held + vec_len m.first + vec_len m.second

-- there is room for so many bytes more
pub record BinaryRoom (m : BinaryMachine) (n : ℕ) : Type 0 where
  pub held : vec_len m.held + n ≤ vec_capacity m.held
  pub first : vec_len m.held + n ≤ vec_capacity m.first
  pub second : vec_len m.held + n ≤ vec_capacity m.second
