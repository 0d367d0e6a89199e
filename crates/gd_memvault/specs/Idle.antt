-- Failures that are recorded as having touched nothing.
use Rattle.std.specs.Prelude.{◌≡◌, List, ◌∷◌}
use Rattle.gd_base.specs.Causes.{Rose}
use Rattle.gd_vault.specs.Content.{Content}
use Rattle.gd_vault.specs.Events.{Event}
use Rattle.gd_vault.specs.Events.Call.{Idle}
use Rattle.gd_vault.specs.Views.{Told}
use Rattle.gd_vault.specs.Views.Told.{Records}
use Rattle.gd_memvault.specs.Memory.{MemState, memory_told}

-- where one event came, and is a failure that touched nothing, P holds
pub record IdleOnlyWhere (P : Type 0) (old new : Told) : Type 0 where
  pub cause : (first : Content) (es : List Event) (e : Event) → old ≡ Records first es → new ≡ Records first (e ∷ es) → e.call ≡ Idle → P

-- a call is recorded so only where no memory was found in it
abbrev pub IdleWhereStarved : MemState → MemState → Type 0
IdleWhereStarved old new = IdleOnlyWhere (Rose old.starved new.starved) (memory_told old) (memory_told new)
