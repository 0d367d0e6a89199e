-- What a vault has been, and what a crash may leave of it.
use Rattle.std.specs.Prelude.{◌≡◌, ◌≢◌, ◌⊎◌, ℕ, ◌+◌, ◌≤◌, true, false, max, List, [], ◌∷◌, length, Option, Some, None, nat_le, if◌then◌else◌}
use Rattle.gd_vault.specs.Content.{File, Content}
use Rattle.gd_vault.specs.Events.{Call, Event, content_after, moment_after}
use Rattle.gd_vault.specs.Events.Call.{Create, Write, Truncate, Clone_into, Set_mode, Sync, Sync_names, Replace, Remove, Idle}
use Rattle.gd_vault.specs.Effects.{empty_file, Unfinished, file_of}

-- the content at a moment; inside a call, the one before it
abbrev pub was : Content → List Event → ℕ → Content
was first [] t = first
was first (e ∷ es) t = if nat_le t (moment_after es + 1) then was first es t else e.after

-- the call's part in a file, where it is cut short
pub record CutShort (call : Call) (f : ℕ) (x y : File) : Type 0 where
  pub own : file_of call ≡ Some f → Unfinished call x y
  pub other : file_of call ≢ Some f → y ≡ x

-- after a write the file is no longer than before or than the write made it
abbrev pub NoLonger : Event → ℕ → File → File → Type 0
NoLonger e f x y = (at : ℕ) (bytes : List ℕ) (now : File) → e.call ≡ Write f at bytes → e.after.files f ≡ Some now → length y.bytes ≤ max (length x.bytes) (length now.bytes)

-- the file that a running call may have made
abbrev pub MayMake : Call → File → Type 0
MayMake (Create name mode) x = x ≡ empty_file mode
MayMake (Write f at bytes) x = ⊥
MayMake (Truncate f) x = ⊥
MayMake (Clone_into f src stamp) x = ⊥
MayMake (Set_mode f mode) x = ⊥
MayMake (Sync f) x = ⊥
MayMake Sync_names x = ⊥
MayMake (Replace from to) x = ⊥
MayMake (Remove name) x = ⊥
MayMake Idle x = ⊥

-- the call may change for what the name stands
abbrev pub Renames : Call → List ℕ → Type 0
Renames (Create name mode) n = n ≡ name
Renames (Write f at bytes) n = ⊥
Renames (Truncate f) n = ⊥
Renames (Clone_into f src stamp) n = ⊥
Renames (Set_mode f mode) n = ⊥
Renames (Sync f) n = ⊥
Renames Sync_names n = ⊥
Renames (Replace from to) n = (n ≡ from) ⊎ (n ≡ to)
Renames (Remove name) n = n ≡ name
Renames Idle n = ⊥

-- for what a running call may have made the name stand
abbrev pub MayName : Content → Call → List ℕ → Option ℕ → Type 0
MayName c (Create name mode) n z = (n ≡ name) × ((id : ℕ) × (c.files id ≡ None) × (z ≡ Some id))
MayName c (Write f at bytes) n z = ⊥
MayName c (Truncate f) n z = ⊥
MayName c (Clone_into f src stamp) n z = ⊥
MayName c (Set_mode f mode) n z = ⊥
MayName c (Sync f) n z = ⊥
MayName c Sync_names n z = ⊥
MayName c (Replace from to) n z = ((n ≡ to) × (z ≡ c.names from)) ⊎ ((n ≡ from) × (from ≢ to) × (z ≡ None))
MayName c (Remove name) n z = (n ≡ name) × (z ≡ None)
MayName c Idle n z = ⊥

-- what a crash may leave of a file after an event, from what it might have left before
pub record FileStep (before : Content) (e : Event) (f : ℕ) (past : File → Type 0) (x : File) : Type 0 where
  pub synced : e.call ≡ Sync f → e.ok ≡ true → e.after.files f ≡ Some x
  pub made : before.files f ≡ None → e.after.files f ≡ Some x
  pub step : (e.call ≡ Sync f → e.ok ≡ false) → before.files f ≢ None → (y : File) × past y × CutShort e.call f y x × NoLonger e f y x

-- inside a call
pub record FileInside (before : Content) (call : Call) (f : ℕ) (past : File → Type 0) (x : File) : Type 0 where
  pub made : before.files f ≡ None → MayMake call x
  pub step : before.files f ≢ None → (y : File) × past y × CutShort call f y x

-- a name is as in one of the states that it had since it was synced
pub record NameStep (e : Event) (n : List ℕ) (past : Option ℕ → Type 0) (z : Option ℕ) : Type 0 where
  pub synced : e.call ≡ Sync_names → e.ok ≡ true → z ≡ e.after.names n
  pub step : (e.call ≡ Sync_names → e.ok ≡ false) → past z ⊎ (z ≡ e.after.names n)

abbrev pub FileLeft : Content → List Event → ℕ → File → Type 0
FileLeft first [] f x = first.files f ≡ Some x
FileLeft first (e ∷ es) f x = FileStep (content_after first es) e f (FileLeft first es f) x

abbrev pub NameLeft : Content → List Event → List ℕ → Option ℕ → Type 0
NameLeft first [] n z = z ≡ first.names n
NameLeft first (e ∷ es) n z = NameStep e n (NameLeft first es n) z

-- each name stands for nothing or for a file
abbrev pub IsProper : Content → Type 0
IsProper c = (n : List ℕ) (id : ℕ) → c.names n ≡ Some id → c.files id ≢ None

-- after the last event
pub record LeftAfter (first : Content) (es : List Event) (image : Content) : Type 0 where
  pub proper : IsProper image
  pub files : (f : ℕ) (x : File) → image.files f ≡ Some x → FileLeft first es f x
  pub names : (n : List ℕ) → NameLeft first es n (image.names n)

-- inside a call that comes after these events
pub record LeftInside (first : Content) (es : List Event) (call : Call) (image : Content) : Type 0 where
  pub proper : IsProper image
  pub files : (f : ℕ) (x : File) → image.files f ≡ Some x → FileInside (content_after first es) call f (FileLeft first es f) x
  pub names : (n : List ℕ) → NameLeft first es n (image.names n) ⊎ MayName (content_after first es) call n (image.names n)

-- a crash at moment t may leave this image
pub record LeftStep (first : Content) (e : Event) (es : List Event) (past : Type 0) (t : ℕ) (image : Content) : Type 0 where
  pub earlier : t ≤ moment_after es → past
  pub inside : t ≡ moment_after es + 1 → LeftInside first es e.call image
  pub after : t ≡ moment_after es + 2 → LeftAfter first (e ∷ es) image

abbrev pub left : Content → List Event → ℕ → Content → Type 0
left first [] t image = LeftAfter first [] image
left first (e ∷ es) t image = LeftStep first e es (left first es t image) t image

-- each image left at a moment from start on has P
pub record LeavesSince (first : Content) (es : List Event) (start : ℕ) (P : ℕ → Content → Type 0) : Type 0 where
  pub later : start ≤ moment_after es
  pub each : (t : ℕ) (image : Content) → start ≤ t → t ≤ moment_after es → left first es t image → P t image
