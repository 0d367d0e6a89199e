-- A vault that tells nothing but its counts.
use Rattle.std.specs.Prelude.{ℕ, []}
use Rattle.gd_vault.specs.Views.{View}
use Rattle.gd_vault.specs.Views.Told.{Nothing}

abbrev pub untold : (faults bytes_written clones : ℕ) → View
untold faults bytes_written clones = record { told = Nothing; faults = faults; bytes_written = bytes_written; clones = clones; reads = [] }
