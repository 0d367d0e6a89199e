-- The history that a log stands for.
use Rattle.std.specs.Prelude.{◌≡◌, ◌⊎◌, ◌+◌, ◌*◌, ◌^◌, ◌≤◌, ℕ, zero, suc, false, List, [], ◌∷◌, fold, Option, Some, None}
use Rattle.gd_vault.specs.Content.{Content}
use Rattle.gd_vault.specs.Events.{Event, content_after, moment_after}
use Rattle.gd_vault.specs.Events.Call.{Idle}
use Rattle.gd_vault.specs.Views.{Told}
use Rattle.gd_vault.specs.Views.Told.{Nothing, Tells, Records}
use Rattle.gd_vault.specs.Changes.{event, AddsIdle, AddsNone}
use Rattle.gd_vault.specs.History.{IsProper}
use Rattle.gd_vault.specs.Lawful.{IsLawful}
use Rattle.gd_memvault.specs.declared.log.Entry.{Entry}
use Rattle.gd_memvault.specs.DiskData.{DiskData}
use Rattle.gd_memvault.specs.LogData.{LogData}
use Rattle.gd_memvault.specs.Disk.{disk_content, call_of}

-- so many failures that did nothing
abbrev pub idles : Content → ℕ → List Event → List Event
idles first zero es = es
idles first (suc n) es = event Idle false (content_after first (idles first n es)) ∷ idles first n es

abbrev pub add_entry : Content → List Event → Entry → List Event
add_entry first es e = event (call_of e.step) e.ok (disk_content e.after) ∷ idles first e.idle_before es

abbrev pub events_of : Content → LogData → List Event
events_of first l = idles first l.idle (fold (add_entry first) [] l.entries)

-- how many events these are
abbrev pub count_of : List Entry → ℕ
count_of [] = 0
count_of (e ∷ es) = e.idle_before + 1 + count_of es

abbrev pub moment_of : LogData → ℕ
moment_of l = 2 * (count_of l.entries + l.idle)

-- without a log the disk is the content now, else the one before the log
abbrev pub told_of : DiskData → Option LogData → Told
told_of d None = Tells (disk_content d)
told_of d (Some l) = Records (disk_content d) (events_of (disk_content d) l)

-- a failure that did nothing
abbrev pub DoesNothing : Told → Told → Type 0
DoesNothing Nothing t = t ≡ Nothing
DoesNothing (Tells c) t = t ≡ Tells c
DoesNothing (Records first es) t = AddsIdle first es t ⊎ AddsNone first es t

-- there is no moment at which a call could end
abbrev pub IsFull : Told → Type 0
IsFull Nothing = ⊥
IsFull (Tells c) = ⊥
IsFull (Records first es) = 2 ^ 64 ≤ moment_after es + 2

-- each name stands for a file, and each content follows from the one before
abbrev pub IsSound : Told → Type 0
IsSound Nothing = Unit {0}
IsSound (Tells c) = IsProper c
IsSound (Records first es) = IsLawful first es
