-- What a crash may leave of one file and of one name, in closed words: by the calls since it was last durable.
use Rattle.std.specs.Prelude.{◌≡◌, ◌≢◌, ◌⊎◌, ℕ, ◌+◌, ◌<◌, ◌≤◌, true, false, max, List, [], ◌∷◌, length, get_or, Option, Some, None}
use Rattle.gd_vault.specs.declared.vaults.Mode.{Mode}
use Rattle.gd_vault.specs.Content.{File, Content}
use Rattle.gd_vault.specs.Events.{Event, content_after}
use Rattle.gd_vault.specs.Events.Call.{Write, Truncate, Clone_into, Set_mode, Sync, Sync_names, Idle}
use Rattle.gd_vault.specs.Effects.{file_of}
use Rattle.gd_vault.specs.History.{FileLeft, NameLeft, Renames}
use Rattle.gd_vault.specs.Lawful.{IsLawful}

-- the event made the file, or made it durable, as x
pub record Settles (before : Content) (e : Event) (f : ℕ) (x : File) : Type 0 where
  pub now : e.after.files f ≡ Some x
  pub how : (before.files f ≡ None) ⊎ ((e.call ≡ Sync f) × (e.ok ≡ true))

-- the event left the file alone, which was there
pub record Passes (before : Content) (e : Event) (f : ℕ) : Type 0 where
  pub there : before.files f ≢ None
  pub other : file_of e.call ≢ Some f

-- the event was a call on the file, which was there, and no sync that succeeded
pub record Meets (before : Content) (e : Event) (f : ℕ) : Type 0 where
  pub there : before.files f ≢ None
  pub own : file_of e.call ≡ Some f
  pub failed : e.call ≡ Sync f → e.ok ≡ false

-- how one event more goes on: from these calls since the file was durable as x, to those
pub data SinceStep (before : Content) (e : Event) (f : ℕ) (x : File) (own : List Event) (past : List Event → Type 0) : Type 0 where
  Settled : Settles before e f x → own ≡ [] → SinceStep before e f x own past
  Passed : Passes before e f → past own → SinceStep before e f x own past
  Met : Meets before e f → (rest : List Event) → own ≡ e ∷ rest → past rest → SinceStep before e f x own past

-- the file was x when it was last durable, and these are the calls on it since, the newest first
abbrev pub Since : Content → ℕ → File → List Event → List Event → Type 0
Since first f x [] own = (first.files f ≡ Some x) × (own ≡ [])
Since first f x (e ∷ es) own = SinceStep (content_after first es) e f x own (Since first f x es)

-- nothing was called on the file since it was durable: a crash leaves it as it reads
pub record LeftQuiet (first : Content) (es : List Event) (f : ℕ) (x : File) : Type 0 where
  pub reads : (content_after first es).files f ≡ Some x
  pub left : (y : File) → FileLeft first es f y → y ≡ x

abbrev pub QuietIsKept : Type 0
QuietIsKept = (first : Content) (es : List Event) (f : ℕ) (x : File) → IsLawful first es → Since first f x es [] → LeftQuiet first es f x

-- neither emptied nor cloned into
abbrev pub IsGentle : List Event → Type 0
IsGentle [] = Unit {0}
IsGentle (e ∷ es) = ((f : ℕ) → e.call ≢ Truncate f) × ((f src stamp : ℕ) → e.call ≢ Clone_into f src stamp) × IsGentle es

-- no write met this place
abbrev pub IsSpared : ℕ → List Event → Type 0
IsSpared k [] = Unit {0}
IsSpared k (e ∷ es) = ((f at : ℕ) (bytes : List ℕ) → e.call ≡ Write f at bytes → (k < at) ⊎ (at + length bytes ≤ k)) × IsSpared k es

-- the mode is the one that was durable, or one that was set since
abbrev pub IsModeOf : Mode → List Event → Mode → Type 0
IsModeOf mode [] m = m ≡ mode
IsModeOf mode (e ∷ es) m = IsModeOf mode es m ⊎ ((f : ℕ) × (e.call ≡ Set_mode f m))

abbrev pub length_of : Option File → ℕ
length_of None = 0
length_of (Some x) = length x.bytes

-- the greatest length since
abbrev pub greatest : ℕ → ℕ → List Event → ℕ
greatest f n [] = n
greatest f n (e ∷ es) = max (greatest f n es) (length_of (e.after.files f))

-- after writes and changes of the mode alone: no shorter than when it was durable, no longer than it was since, and each
-- place that no write met has the byte that was durable
pub record LeftWritten (f : ℕ) (x : File) (own : List Event) (y : File) : Type 0 where
  pub stamp : y.stamp ≡ x.stamp
  pub mode : IsModeOf x.mode own y.mode
  pub least : length x.bytes ≤ length y.bytes
  pub most : length y.bytes ≤ greatest f (length x.bytes) own
  pub same : (k : ℕ) → k < length x.bytes → IsSpared k own → get_or y.bytes k 0 ≡ get_or x.bytes k 0

abbrev pub WrittenIsLeft : Type 0
WrittenIsLeft = (first : Content) (es : List Event) (f : ℕ) (x : File) (own : List Event) → IsLawful first es → Since first f x es own → IsGentle own
    → (y : File) → FileLeft first es f y → LeftWritten f x own y

-- ---- names

-- the name was not changed since the names were last synced: it stands for what it stood for then
abbrev pub IsNameKept : List ℕ → List Event → Type 0
IsNameKept n [] = Unit {0}
IsNameKept n (e ∷ es) = ((e.call ≡ Sync_names) × (e.ok ≡ true)) ⊎ ((Renames e.call n → ⊥) × IsNameKept n es)

abbrev pub KeptNameIsLeft : Type 0
KeptNameIsLeft = (first : Content) (es : List Event) (n : List ℕ) (z : Option ℕ) → IsLawful first es → IsNameKept n es → NameLeft first es n z → z ≡ (content_after first es).names n

-- a state of the name since the names were last synced
abbrev pub IsNameSince : Content → List ℕ → List Event → Option ℕ → Type 0
IsNameSince first n [] z = z ≡ first.names n
IsNameSince first n (e ∷ es) z = (z ≡ e.after.names n) ⊎ ((e.call ≡ Sync_names → e.ok ≡ false) × IsNameSince first n es z)

abbrev pub NameIsOneSince : Type 0
NameIsOneSince = (first : Content) (es : List Event) (n : List ℕ) (z : Option ℕ) → NameLeft first es n z → IsNameSince first n es z

-- ---- events that did nothing

-- a failure that touched nothing leaves what a crash may leave
pub record SameLeft (first : Content) (es : List Event) (e : Event) : Type 0 where
  pub files : (f : ℕ) (x : File) → (content_after first es).files f ≢ None → FileLeft first (e ∷ es) f x → FileLeft first es f x
  pub names : (n : List ℕ) (z : Option ℕ) → NameLeft first (e ∷ es) n z → IsNameSince first n es z

abbrev pub IdleLeavesAll : Type 0
IdleLeavesAll = (first : Content) (es : List Event) (e : Event) → IsLawful first (e ∷ es) → e.call ≡ Idle → SameLeft first es e
