-- The opening of a database by its name, as the variable `open` says.
use Rattle.std.specs.Prelude.{◌≡◌, ◌⊎◌, ℕ, false, List, [], Option, Some, None, Result, Ok, Err}
use Rattle.gd_base.specs.declared.errors.DbError.{DbError}
use Rattle.gd_base.specs.declared.errors.DbError.TheVariants.{OutOfMemory}
use Rattle.gd_create.specs.NewFile.{IsNewBlock, new_file}
use Rattle.gd_format.specs.declared.Header.{Header}
use Rattle.gd_format.specs.File.{records}
use Rattle.gd_format.specs.Sound.{IsSound}
use Rattle.gd_lang.specs.declared.commands.Opening.{Opening}
use Rattle.gd_lang.specs.declared.commands.Opening.TheVariants as ways
use Rattle.gd_store.specs.declared.access.Access.{Access}
use Rattle.gd_store.specs.declared.access.Access.TheVariants.{Reader, Writer}
use Rattle.gd_store.specs.Opened.{IsAsked, StandsOrBegins, cleared, fault_for, named_in, open_due}
use Rattle.gd_vault.specs.Content.{File, Content}
use Rattle.gd_vault.specs.Frame.{Reads}
use Rattle.gd_session.specs.State.{Db, Text}
use Rattle.gd_session.specs.declared.settings.Settings.{Settings}

-- the file for which the name stands has no fault
pub record Checked (s : Settings) (access : Access) (c : Content) (db : Db) : Type 0 where
  pub named : c.names s.file ≡ Some db.file
  pub file : File
  pub there : c.files db.file ≡ Some file
  pub right : fault_for access file.bytes ≡ None
  pub access_is : db.access ≡ access
  pub cache_is : db.cache ≡ s.cache
  pub whole : db.broken ≡ false

-- a file that is there is opened; nothing changes
abbrev pub Checks : Settings → Access → Content → Result Db DbError → Content → Type 0
Checks s access c (Ok db) d = Checked s access c db × (d ≡ c)
Checks s access c (Err e) d = ((open_due c s.file access ≡ Some e) ⊎ (e ≡ OutOfMemory)) × (d ≡ c)

-- the file for which a name stands
abbrev pub IsNamedIn : Content → Text → ℕ → Type 0
IsNamedIn c name f = c.names name ≡ Some f

-- a new file of the variables' format, and of the block size of a header
abbrev pub bytes_of : Settings → Header → List ℕ
bytes_of s h = new_file s.format h.block h.dir_bits

-- the name stands for a file without records, of the format and the block size that the variables ask for, which was made or emptied, and all else stays
pub record Made (s : Settings) (c : Content) (db : Db) (d : Content) : Type 0 where
  pub named : d.names s.file ≡ Some db.file
  pub own : (c.names s.file ≡ Some db.file) ⊎ ((c.names s.file ≡ None) × (c.files db.file ≡ None))
  pub header : Header
  pub asked : IsAsked s.block s.format header
  pub sizes : IsNewBlock header.block header.dir_bits
  pub there : d.files db.file ≡ Some (record (cleared (named_in c s.file)) { bytes = bytes_of s header })
  pub empty : records (bytes_of s header) ≡ []
  pub sound : IsSound (bytes_of s header)
  pub access_is : db.access ≡ Writer
  pub cache_is : db.cache ≡ s.cache
  pub whole : db.broken ≡ false
  pub others : Reads (IsNamedIn c s.file) (λ n. n ≡ s.file) c d

abbrev pub Makes : Settings → Content → Result Db DbError → Content → Type 0
Makes s c (Ok db) d = Made s c db d
Makes s c (Err e) d = (e ≡ OutOfMemory) × (d ≡ c)

-- an absent file is made
abbrev pub OpensOrMakes : Option ℕ → Settings → Content → Result Db DbError → Content → Type 0
OpensOrMakes None s c r d = Makes s c r d
OpensOrMakes (Some f) s c r d = Checks s Writer c r d

abbrev pub OpensAs : Opening → Settings → Content → Result Db DbError → Content → Type 0
OpensAs ways.NewDb s c r d = Makes s c r d
OpensAs ways.WrCreat s c r d = OpensOrMakes (c.names s.file) s c r d
OpensAs ways.Reader s c r d = Checks s Reader c r d

-- the database of the name last used, or why it wasn't opened, and the content afterwards
abbrev pub Opens : Settings → Content → Result Db DbError → Content → Type 0
Opens s c r d = OpensAs s.opening s c r d

-- ---- where the vault failed in an opening

-- nothing changes
abbrev pub Unspoiled : Content → Content → Type 0
Unspoiled c d = d ≡ c

-- the bytes of the file of the name may have changed, and a name that stood for none may stand for a new file
pub record Spoiled (s : Settings) (c d : Content) : Type 0 where
  pub others : Reads (IsNamedIn c s.file) (λ n. n ≡ s.file) c d
  pub name : StandsOrBegins s.file c d
  pub marks : (f : ℕ) (x : File) → c.names s.file ≡ Some f → c.files f ≡ Some x → (y : File) × (d.files f ≡ Some y) × (y.mode ≡ x.mode) × (y.stamp ≡ x.stamp)

abbrev pub SpoilsAt : Option ℕ → Settings → Content → Content → Type 0
SpoilsAt None s c d = Spoiled s c d
SpoilsAt (Some f) s c d = Unspoiled c d

abbrev pub SpoilsAs : Opening → Settings → Content → Content → Type 0
SpoilsAs ways.NewDb s c d = Spoiled s c d
SpoilsAs ways.WrCreat s c d = SpoilsAt (c.names s.file) s c d
SpoilsAs ways.Reader s c d = Unspoiled c d

-- only an opening that makes or empties its file changes anything
abbrev pub Spoils : Settings → Content → Content → Type 0
Spoils s c d = SpoilsAs s.opening s c d
