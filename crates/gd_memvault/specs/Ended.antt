-- How a changing call ended.
use Rattle.std.specs.Prelude.{◌≡◌, Bool, true, false, Some}
use Rattle.gd_vault.specs.Content.{Content}
use Rattle.gd_vault.specs.Views.{Told, content_of}
use Rattle.gd_memvault.specs.declared.changes.Ended.{Ended}
use Rattle.gd_memvault.specs.declared.changes.Ended.TheVariants.{Done, Failed, Starved}

abbrev pub is_done : Ended → Bool
is_done Done = true
is_done Failed = false
is_done Starved = false

-- where the content is told, it has P
abbrev pub IsAtTold : Told → (Content → Type 0) → Type 0
IsAtTold t P = (c : Content) → content_of t ≡ Some c → P c
