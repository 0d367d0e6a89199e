-- What contracts see of a vault in memory.
use Rattle.std.specs.Prelude.{◌≡◌, ◌⊎◌, ◌+◌, ◌-◌, ◌^◌, ◌≤◌, ℕ, List, [], Option, Some, Result, min, Contains, IsErr, OnErr, OnOk}
use Rattle.gd_base.specs.Causes.{Rose}
use Rattle.gd_vault.specs.Content.{File, Content}
use Rattle.gd_vault.specs.Views.{Told, View, Read}
use Rattle.gd_vault.specs.Views.Told.{Tells, Records}
use Rattle.gd_memvault.specs.DiskData.{DiskData}
use Rattle.gd_memvault.specs.LogData.{LogData}
use Rattle.gd_memvault.specs.Disk.{AddsFile}
use Rattle.gd_memvault.specs.Log.{moment_of, told_of}

-- a vault without a log tells its content, one with a log its history;
-- fails has the numbers of the calls that are to fail, calls the number of the next one
pub record MemState : Type 0 where
  pub disk : DiskData
  pub log : Option LogData
  pub reads : List Read
  pub fails : List ℕ
  pub calls : ℕ
  pub faults : ℕ
  pub starved : ℕ
  pub written : ℕ
  pub clones : ℕ

abbrev pub memory_told : MemState → Told
memory_told m = told_of m.disk m.log

abbrev pub memory_view : MemState → View
memory_view m = record { told = memory_told m; faults = m.faults; bytes_written = m.written; clones = m.clones; reads = m.reads }

-- a vault with this disk in which nothing was called
abbrev pub fresh : DiskData → Option LogData → MemState
fresh disk log = record { disk = disk; log = log; reads = []; fails = []; calls = 0; faults = 0; starved = 0; written = 0; clones = 0 }

-- the next call has the next number
abbrev pub next_number : ℕ → ℕ
next_number calls = min (calls + 1) (2 ^ 64 - 1)

-- a call fails where its number is listed; else only where no memory was found, or for this cause
pub record Fails {T E : Type 0} (other : Type 0) (result : Result T E) (old new : MemState) : Type 0 where
  pub failed : OnErr result (Contains old.fails old.calls ⊎ other ⊎ Rose old.starved new.starved)
  pub listed : Contains old.fails old.calls → IsErr result
  pub fed : OnOk result (new.starved ≡ old.starved)
  pub starved : old.starved ≤ new.starved
  pub counted : new.calls ≡ next_number old.calls
  pub list : new.fails ≡ old.fails

-- beside the disk and the log, and what says how often it failed, all stays
pub record KeepsRest (old new : MemState) : Type 0 where
  pub reads : new.reads ≡ old.reads
  pub fails : new.fails ≡ old.fails
  pub calls : new.calls ≡ old.calls
  pub written : new.written ≡ old.written
  pub clones : new.clones ≡ old.clones

-- a durable file more, and no moment
pub record AddsDurable (name : List ℕ) (file : File) (id : ℕ) (old new : Told) : Type 0 where
  pub plain : (c : Content) → old ≡ Tells c → (d : Content) × (new ≡ Tells d) × AddsFile name file id c d
  pub history : (c : Content) → old ≡ Records c [] → (d : Content) × (new ≡ Records d []) × AddsFile name file id c d

-- the history, where it is told, has no event
abbrev pub HasNoEvent : MemState → Type 0
HasNoEvent m = (l : LogData) → m.log ≡ Some l → l ≡ record { entries = []; idle = 0 }

-- the history is told, and has the moment
abbrev pub HasMoment : MemState → ℕ → Type 0
HasMoment m t = (l : LogData) × (m.log ≡ Some l) × (t ≤ moment_of l)
