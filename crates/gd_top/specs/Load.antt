-- How a run of the loader goes.
use Rattle.std.specs.Prelude.{◌≡◌, ℕ, List, [], None}
use Rattle.gd_loader.specs.Runs.{IsQuiet, LoadRuns, NoneFailed, scene}
use Rattle.gd_script.specs.declared.turns.Turn.{Turn}
use Rattle.gd_words.specs.Meaning.{load_reading}
use Rattle.gd_top.specs.Devices.{Devices}
use Rattle.gd_top.specs.Words.{Text}

pub record Loads (words : List Text) (status : ℕ) (turns : List Turn) (old new : Devices) : Type 0 where
  -- only refused words have status 3
  pub usage : status ≡ 3 → load_reading words ≡ None
  pub runs : LoadRuns words status (scene old.left old.input_faults old.view) (scene new.left new.input_faults new.view) old.err_faults new.err_faults old.said new.said
  -- no count of faults rose where the dump was stored to its end or no memory was found
  pub quiet : IsQuiet status → NoneFailed (scene old.left old.input_faults old.view) (scene new.left new.input_faults new.view) old.err_faults new.err_faults
  -- output and clock are left alone, and there are no turns
  pub written : new.written ≡ old.written
  pub out_faults : new.out_faults ≡ old.out_faults
  pub told : new.told ≡ old.told
  pub clock_faults : new.clock_faults ≡ old.clock_faults
  pub turns_none : turns ≡ []
