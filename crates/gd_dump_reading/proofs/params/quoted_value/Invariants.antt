use Rattle.std.proofs.Common.{◌≡◌, ◌≤◌, ◌-◌, length, drop, vec_len}
use Rattle.std.specs.Prelude.{vec_capacity}
use Rattle.gd_dump_reading.specs.Params.{quoted}
use Rattle.gd_dump_reading.proofs.Quoted.{onto_all}
use Rattle.gd_dump_reading.proofs.params.quoted_value.Given as goal

-- the bytes so far, and the value of the rest behind them
abbrev pub invariant-loop-at : goal.invariant-loop-at
invariant-loop-at l = record {
  within : l.at ≤ length l.text;
  read : quoted l.text ≡ onto_all l.value.items (quoted (drop l.at l.text));
  len : vec_len l.value ≤ l.at;
  room : length l.text ≤ vec_capacity l.value;
  kept : vec_capacity l.fn.value ≤ vec_capacity l.value;
}

abbrev pub decreases-loop-at : goal.decreases-loop-at
decreases-loop-at l = length l.text - l.at
