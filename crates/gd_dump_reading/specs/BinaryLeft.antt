-- What a reader of binary dumps still gives.
use Rattle.std.specs.Prelude.{ℕ, zero, suc, ◌+◌, List, ◌++◌, vec_len}
use Rattle.gd_dump_reading.specs.BinaryItems.{head_line_told, head_told, pairs_told}
use Rattle.gd_dump_reading.specs.Lines.{first_line}
use Rattle.gd_dump_reading.specs.Told.{Told, nothing}
use Rattle.gd_dump_reading.specs.declared.binary_machine.Phase.{Phase}
use Rattle.gd_dump_reading.specs.declared.binary_machine.Phase.TheVariants.{Head, Pairs, Ended}
use Rattle.gd_dump_reading.specs.declared.binary_machine.BinaryMachine.{BinaryMachine}

-- held is the front of a line that n - 1 more follow
abbrev pub head_left : ℕ → ℕ → List ℕ → List ℕ → Told
head_left zero place held rest = head_told pairs_told 0 place (held ++ rest)
head_left (suc n) place held rest = head_line_told n place (held ++ (first_line rest).0) (first_line rest).1 (head_told pairs_told n)

abbrev pub left_in : Phase → ℕ → List ℕ → List ℕ → Told
left_in (Head n) place held rest = head_left n place held rest
left_in Pairs place held rest = pairs_told place (held ++ rest)
left_in Ended place held rest = nothing

abbrev pub binary_left : BinaryMachine → List ℕ → Told
binary_left m rest = left_in m.phase m.place m.held.items rest

abbrev pub binary_taken : BinaryMachine → ℕ
binary_taken m = m.place + vec_len m.held
