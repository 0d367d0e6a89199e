-- What a reader of ASCII dumps keeps, and the room that it has.
use Rattle.std.specs.Prelude.{◌≡◌, ℕ, ◌+◌, ◌≤◌, false, vec_capacity, vec_len}
use Rattle.arrayvec.specs.ArrayVec.{array_vec_len}
use Rattle.gd_dump_reading.specs.Said.{IsRoomy}
use Rattle.gd_dump_reading.specs.declared.ascii_machine.AsciiMachine.{AsciiMachine}
use Rattle.gd_dump_reading.specs.declared.ascii_machine.AsciiPhase.TheVariants.{Head}

-- the bytes of the pair that is being read
abbrev pub ascii_pair : AsciiMachine → ℕ
ascii_pair m = vec_len m.key + vec_len m.text.bytes

-- the lengths of all its lists
abbrev pub ascii_kept : AsciiMachine → ℕ
ascii_kept m = vec_len m.line + vec_len m.names.file + vec_len m.value + array_vec_len m.text.quad + ascii_pair m

-- there is room for a line, for the values of a line of the head, and for the bytes of a datum or two that come in n bytes
pub record HasRoom (m : AsciiMachine) (n : ℕ) : Type 0 where
  pub line : 65538 ≤ vec_capacity m.line
  pub values : m.phase ≡ Head → IsRoomy 65538 (vec_capacity m.names.file) (vec_capacity m.value)
  pub text : vec_len m.text.bytes + array_vec_len m.text.quad + n ≤ vec_capacity m.text.bytes
  pub key : m.waits ≡ false → n ≤ vec_capacity m.key
