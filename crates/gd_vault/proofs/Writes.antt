-- Writes to one file as records, for tactics.
use Rattle.std.proofs.Common.{◌≡◌, ℕ, List, Result, refl, ap, ◌∙◌}
use Rattle.gd_vault.specs.Frame.{Within, OneFile, NoName}
use Rattle.gd_vault.specs.Streams.{OnlyWrites, SameMarks, only_writes_nothing, only_writes_more}
use Rattle.gd_vault.specs.Views.{View, Asked, OnlyAsks, content_of}
use Rattle.gd_vault.specs.Changes.{Wrote}
use Rattle.gd_vault.specs.Events.Call.{Write}
use Rattle.gd_vault.proofs.Files.{only_wrote}
use Rattle.gd_vault.proofs.Within.{within_asked, within_only_asks}

pub writes_refl : {f : ℕ} (v : View) → OnlyWrites f v v
writes_refl {f = f} v = only_writes_nothing f v

pub writes_trans : {f : ℕ} {u v w : View} → OnlyWrites f u v → OnlyWrites f v w → OnlyWrites f u w
writes_trans {f = f} {u = u} {v = v} {w = w} a b = only_writes_more f u v w a b

-- what is told as before has the same marks
same_marks : (f : ℕ) (u v : View) → v.told ≡ u.told → SameMarks f u v
same_marks f u v same c x told is = (c, ap content_of same ∙ told, (x, is, refl, refl))

pub writes_wrote : {T E : Type 0} {f at size : ℕ} {bytes : List ℕ} {result : Result T E} {u v : View} → Wrote (Write f at bytes) size result u v → OnlyWrites f u v
writes_wrote h = only_wrote h

pub writes_asked : {T E : Type 0} {f : ℕ} {result : Result T E} {u v : View} → Asked result u v → OnlyWrites f u v
writes_asked {f = f} {u = u} {v = v} h = record { within = within_asked h; marks = same_marks f u v h.told }

pub writes_only_asks : {f : ℕ} {u v : View} → OnlyAsks u v → OnlyWrites f u v
writes_only_asks {f = f} {u = u} {v = v} h = record { within = within_only_asks h; marks = same_marks f u v h.told }

pub writes_within : {f : ℕ} {u v : View} → OnlyWrites f u v → Within (OneFile f) NoName u v
writes_within h = h.within

pub ruleset writes = (writes_trans, writes_wrote, writes_asked, writes_only_asks, writes_refl)
