-- The run of the dumper, over the objects of a run.
use Rattle.std.specs.Prelude.{◌≡◌, ℕ, List, [], None}
use Rattle.gd_dumping.specs.Dump.{DumpEnds, IsQuiet}
use Rattle.gd_dumping.specs.Words.{reading}
use Rattle.gd_script.specs.declared.turns.Turn.{Turn}
use Rattle.gd_vault.specs.Views.{OnlyAsks}
use Rattle.gd_top.specs.Devices.{Devices}
use Rattle.gd_top.specs.Words.{Text}

pub record Dumps (words : List Text) (status : ℕ) (turns : List Turn) (old new : Devices) : Type 0 where
  -- the words are refused; want of memory may come before they are read
  pub usage : status ≡ 3 → reading words ≡ None
  pub ends : DumpEnds words status old.view new.view old.out_faults new.out_faults old.written new.written old.err_faults new.err_faults old.said new.said
  -- no count of faults rose where the whole dump was printed or no memory was found
  pub quiet : IsQuiet status → (new.view.faults ≡ old.view.faults) × (new.out_faults ≡ old.out_faults) × (new.err_faults ≡ old.err_faults)
  -- the vault is only asked, input and clock are left alone, and there are no turns
  pub asks : OnlyAsks old.view new.view
  pub left : new.left ≡ old.left
  pub input_faults : new.input_faults ≡ old.input_faults
  pub told : new.told ≡ old.told
  pub clock_faults : new.clock_faults ≡ old.clock_faults
  pub turns_none : turns ≡ []
