-- What is seen of the objects of a run, before or after it.
use Rattle.std.specs.Prelude.{ℕ, List, Option}
use Rattle.gd_base.specs.Clocks.{Readings}
use Rattle.gd_vault.specs.Views.{View}

-- the input and what is left of it, the output and what was written, standard error and what was said, the vault, and the
-- clock with what it told; and how often each has failed
pub record Devices : Type 0 where
  pub left : Option (List ℕ)
  pub input_faults : ℕ
  pub written : Option (List ℕ)
  pub out_faults : ℕ
  pub said : Option (List ℕ)
  pub err_faults : ℕ
  pub view : View
  pub told : Option Readings
  pub clock_faults : ℕ

abbrev pub devices : Option (List ℕ) → ℕ → Option (List ℕ) → ℕ → Option (List ℕ) → ℕ → View → Option Readings → ℕ → Devices
devices left input_faults written out_faults said err_faults view told clock_faults = record {
  left = left;
  input_faults = input_faults;
  written = written;
  out_faults = out_faults;
  said = said;
  err_faults = err_faults;
  view = view;
  told = told;
  clock_faults = clock_faults;
}
