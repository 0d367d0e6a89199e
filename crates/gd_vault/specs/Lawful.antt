-- What holds of a history that is told.
use Rattle.std.specs.Prelude.{◌≡◌, List, [], ◌∷◌}
use Rattle.gd_vault.specs.Content.{Content}
use Rattle.gd_vault.specs.Events.{Event, content_after}
use Rattle.gd_vault.specs.Effects.{DoesOrMayDo}
use Rattle.gd_vault.specs.History.{IsProper}
use Rattle.gd_vault.specs.Views.{View}
use Rattle.gd_vault.specs.Views.Told.{Records}

-- at first each name that stands for an id stands for a file, and each content follows from the one before
abbrev pub IsLawful : Content → List Event → Type 0
IsLawful first [] = IsProper first
IsLawful first (e ∷ es) = IsLawful first es × DoesOrMayDo e.ok e.call (content_after first es) e.after

-- where the history is told, it is lawful
abbrev pub IsLawfulWhere : View → Type 0
IsLawfulWhere v = (first : Content) (es : List Event) → v.told ≡ Records first es → IsLawful first es
