use Rattle.std.proofs.Common.{◌≡◌, ◌≤◌, ◌-◌, ◌+◌, ℕ, length, drop, vec_len}
use Rattle.std.specs.Prelude.{vec_capacity, max}
use Rattle.gd_dump_reading.specs.Params.{if_params, params_in, some_params}
use Rattle.gd_dump_reading.specs.Said.{IsRoomy, named_in, standing}
use Rattle.gd_dump_reading.proofs.ParamCuts.{rest_of}
use Rattle.gd_dump_reading.proofs.names.Names.say_params.Given as goal

-- what the parameters so far say, and those of the rest behind them
abbrev pub invariant-loop-name : goal.invariant-loop-name
invariant-loop-name l = record {
  within : l.at ≤ length l.text;
  said : (n : ℕ) × (length l.text ≤ n + l.at) × (if_params (named_in l.fn.self) (params_in l.text) ≡ rest_of (standing (named_in l.self) l.refused) (some_params n (drop l.at l.text)));
  room : (n : ℕ) → IsRoomy n (vec_capacity l.fn.self.file) (vec_capacity l.fn.value) → IsRoomy n (vec_capacity l.self.file) (vec_capacity l.value);
  size : vec_len l.self.file ≤ max (vec_len l.fn.self.file) (length l.text);
}

abbrev pub decreases-loop-name : goal.decreases-loop-name
decreases-loop-name l = length l.text - l.at
