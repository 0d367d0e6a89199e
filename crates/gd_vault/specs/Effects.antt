-- What the changing calls do to a content.
use Rattle.std.specs.Prelude.{◌≡◌, ◌≢◌, ◌⊎◌, ℕ, ◌+◌, ◌-◌, ◌<◌, ◌≤◌, max, Bool, true, false, List, [], ◌++◌, length, take, drop, replicate, get_or, Option, Some, None}
use Rattle.gd_vault.specs.declared.vaults.Mode.{Mode}
use Rattle.gd_vault.specs.Content.{File, Content}
use Rattle.gd_vault.specs.Events.{Call}
use Rattle.gd_vault.specs.Events.Call.{Create, Write, Truncate, Clone_into, Set_mode, Sync, Sync_names, Replace, Remove, Idle}

abbrev pub empty_file : Mode → File
empty_file mode = record { bytes = []; mode = mode; stamp = 0 }

-- these bytes at that place, over what was there; a gap past the old end reads as zeros
abbrev pub written : List ℕ → ℕ → List ℕ → List ℕ
written old at bytes = take at (old ++ replicate (at - length old) 0) ++ bytes ++ drop (at + length bytes) old

-- after a write of n bytes that is cut short: any bytes in the range and past the old end, the same elsewhere
pub record Torn (at n : ℕ) (old new : List ℕ) : Type 0 where
  pub same : (k : ℕ) → k < length old → (k < at) ⊎ (at + n ≤ k) → get_or new k 0 ≡ get_or old k 0
  pub no_shorter : length old ≤ length new
  pub no_longer : length new ≤ max (length old) (at + n)

-- what a call that succeeds makes of the file that it names
abbrev pub Finished : Content → Call → File → File → Type 0
Finished c (Create name mode) x y = y ≡ x
Finished c (Write f at bytes) x y = y ≡ record x { bytes = written x.bytes at bytes }
Finished c (Truncate f) x y = y ≡ record x { bytes = [] }
Finished c (Clone_into f src stamp) x y = (z : File) × (c.files src ≡ Some z) × (y ≡ record { bytes = z.bytes; mode = x.mode; stamp = stamp })
Finished c (Set_mode f mode) x y = y ≡ record x { mode = mode }
Finished c (Sync f) x y = y ≡ x
Finished c Sync_names x y = y ≡ x
Finished c (Replace from to) x y = y ≡ x
Finished c (Remove name) x y = y ≡ x
Finished c Idle x y = y ≡ x

-- what a call that fails, or that a crash cuts short, may make of it
abbrev pub Unfinished : Call → File → File → Type 0
Unfinished (Create name mode) x y = y ≡ x
Unfinished (Write f at bytes) x y = Torn at (length bytes) x.bytes y.bytes × (y.mode ≡ x.mode) × (y.stamp ≡ x.stamp)
Unfinished (Truncate f) x y = (y.mode ≡ x.mode) × (y.stamp ≡ x.stamp)
Unfinished (Clone_into f src stamp) x y = y.mode ≡ x.mode
Unfinished (Set_mode f mode) x y = (y ≡ x) ⊎ (y ≡ record x { mode = mode })
Unfinished (Sync f) x y = y ≡ x
Unfinished Sync_names x y = y ≡ x
Unfinished (Replace from to) x y = y ≡ x
Unfinished (Remove name) x y = y ≡ x
Unfinished Idle x y = y ≡ x

-- the file whose bytes, mode or stamp the call may change
abbrev pub file_of : Call → Option ℕ
file_of (Create name mode) = None
file_of (Write f at bytes) = Some f
file_of (Truncate f) = Some f
file_of (Clone_into f src stamp) = Some f
file_of (Set_mode f mode) = Some f
file_of (Sync f) = Some f
file_of Sync_names = None
file_of (Replace from to) = None
file_of (Remove name) = None
file_of Idle = None

-- this name stands for the id, or for nothing, and each other name as before
pub record Names (name : List ℕ) (id : Option ℕ) (c d : Content) : Type 0 where
  pub here : d.names name ≡ id
  pub others : (n : List ℕ) → n ≢ name → d.names n ≡ c.names n

-- a file gets another name, which may be the one that it has
pub record Moves (from to : List ℕ) (c d : Content) : Type 0 where
  pub there : d.names to ≡ c.names from
  pub gone : from ≢ to → d.names from ≡ None
  pub others : (n : List ℕ) → n ≢ from → n ≢ to → d.names n ≡ c.names n

-- a new id has an empty file, and each other id what it had
pub record Makes (id : ℕ) (mode : Mode) (c d : Content) : Type 0 where
  pub new : c.files id ≡ None
  pub empty : d.files id ≡ Some (empty_file mode)
  pub others : (f : ℕ) → f ≢ id → d.files f ≡ c.files f

-- one file goes by R, all else stays
pub record Changes (f : ℕ) (R : File → File → Type 0) (c d : Content) : Type 0 where
  pub file : (x : File) → c.files f ≡ Some x → (y : File) × (d.files f ≡ Some y) × R x y
  pub others : (g : ℕ) → g ≢ f → d.files g ≡ c.files g
  pub names : (n : List ℕ) → d.names n ≡ c.names n

pub record Same (c d : Content) : Type 0 where
  pub names : (n : List ℕ) → d.names n ≡ c.names n
  pub files : (f : ℕ) → d.files f ≡ c.files f

pub record SameFiles (c d : Content) : Type 0 where
  pub files : (f : ℕ) → d.files f ≡ c.files f

-- the content after a call that succeeds
abbrev pub Does : Call → Content → Content → Type 0
Does (Create name mode) c d = (id : ℕ) × Makes id mode c d × Names name (Some id) c d
Does (Write f at bytes) c d = Changes f (Finished c (Write f at bytes)) c d
Does (Truncate f) c d = Changes f (Finished c (Truncate f)) c d
Does (Clone_into f src stamp) c d = Changes f (Finished c (Clone_into f src stamp)) c d
Does (Set_mode f mode) c d = Changes f (Finished c (Set_mode f mode)) c d
Does (Sync f) c d = Same c d
Does Sync_names c d = Same c d
Does (Replace from to) c d = SameFiles c d × Moves from to c d
Does (Remove name) c d = SameFiles c d × Names name None c d
Does Idle c d = Same c d

-- the content after a call that fails
abbrev pub MayDo : Call → Content → Content → Type 0
MayDo (Create name mode) c d = Same c d ⊎ Does (Create name mode) c d
MayDo (Write f at bytes) c d = Changes f (Unfinished (Write f at bytes)) c d
MayDo (Truncate f) c d = Changes f (Unfinished (Truncate f)) c d
MayDo (Clone_into f src stamp) c d = Changes f (Unfinished (Clone_into f src stamp)) c d
MayDo (Set_mode f mode) c d = Changes f (Unfinished (Set_mode f mode)) c d
MayDo (Sync f) c d = Same c d
MayDo Sync_names c d = Same c d
MayDo (Replace from to) c d = Same c d ⊎ Does (Replace from to) c d
MayDo (Remove name) c d = Same c d ⊎ Does (Remove name) c d
MayDo Idle c d = Same c d

abbrev pub DoesOrMayDo : Bool → Call → Content → Content → Type 0
DoesOrMayDo true call c d = Does call c d
DoesOrMayDo false call c d = MayDo call c d
