-- What each command does and prints, where no object fails.
use Rattle.std.specs.Prelude.{◌≡◌, ◌≢◌, ◌⊎◌, ℕ, Bool, true, false, List, [], ◌∷◌, ◌++◌, length, take, Option, Some, None, Result, Ok, Err, if◌then◌else◌}
use Rattle.std.specs.Fmt.{decimal}
use Rattle.std.specs.FinMap.{insert, remove}
use Rattle.std.specs.Str.{bytes_eq}
use Rattle.gd_base.specs.declared.errors.DbError.{DbError}
use Rattle.gd_base.specs.declared.errors.DbError.TheVariants.{ItemNotFound, NeedRecovery, NotOpen, OutOfMemory, ReaderCant, VaultFault}
use Rattle.gd_format.specs.File.{records}
use Rattle.gd_format.specs.Sound.{IsSound}
use Rattle.gd_lang.specs.declared.commands.Setting.{Setting}
use Rattle.gd_lang.specs.declared.commands.Setting.TheVariants as variables
use Rattle.gd_map_laws.specs.Maps.{PairMap, pair_map}
use Rattle.gd_file_laws.specs.Parts.{file_header}
use Rattle.gd_format.specs.declared.Header.{Header}
use Rattle.gd_store.specs.Replies.{delete_due, store_due, value_of}
use Rattle.gd_store.specs.declared.access.Access.{Access}
use Rattle.gd_store.specs.declared.access.Access.TheVariants.{Reader, Writer}
use Rattle.gd_store.specs.declared.access.How.{How}
use Rattle.gd_store.specs.declared.access.How.TheVariants.{Replace}
use Rattle.gd_types.specs.Encoding.{typed_bytes}
use Rattle.gd_types.specs.Members.{Defined}
use Rattle.gd_types.specs.declared.errors.TypeError.{TypeError}
use Rattle.gd_vault.specs.Content.{File, Content}
use Rattle.gd_vault.specs.Frame.{NoName, OneFile, Reads}
use Rattle.gd_session.specs.Answers.{Answer, Ending, Ends, Faults, IsFront, NeverFall, OutRose, Prints, Refuses, Replies, Starves, VaultFails, VaultRose}
use Rattle.gd_session.specs.Opens.{Opens, Spoils}
use Rattle.gd_session.specs.State.{Db, Phase, State, Text, at_phase, broken_db, naming, shut}
use Rattle.gd_session.specs.State.Phase.{Fresh, Open, Shut}
use Rattle.gd_session.specs.Texts.{Pair, content_text, fill_pairs, fill_text, line, pair_text, variables_text, version_text}
use Rattle.gd_session.specs.declared.reply.Reply.{Reply}
use Rattle.gd_session.specs.declared.reply.Reply.TheVariants.{Done, Refused, SinkFault, Typed}

-- a relation of an answer to a command; one of a command that has an open database
abbrev pub Row : Type 1
Row = Answer → Type 0

abbrev pub DbRow : Type 1
DbRow = Db → Answer → Type 0

-- ---- endings

abbrev pub done : State → Text → Ending
done s text = record { reply = Done; text = text; session = s }

abbrev pub refused : State → DbError → Ending
refused s e = record { reply = Refused e; text = []; session = s }

abbrev pub typed : State → TypeError → Ending
typed s e = record { reply = Typed e; text = []; session = s }

-- a text, after which the session is another one, or the refusal of a datum, after which it stays
abbrev pub shown : State → State → Result Text TypeError → Ending
shown s next (Ok text) = done next (line text)
shown s next (Err e) = typed s e

-- ---- the parts of rows

-- a command that needs no database
abbrev pub Alone : (State → Ending) → Row
Alone row a = Prints (row a.old) a ⊎ Starves a

-- the file of a database as it reads
pub record Live (c : Content) (db : Db) (P : File → Type 0) : Type 0 where
  pub file : File
  pub there : c.files db.file ≡ Some file
  pub is : P file

-- why a command that asks gave no ending
abbrev pub Unasked : Row
Unasked a = VaultFails a ⊎ Starves a

-- a command that asks: its ending goes by the records in file order
abbrev pub Asks : (State → List Pair → Ending) → DbRow
Asks row db a = Live a.before db (λ x. Prints (row a.old (records x.bytes)) a) ⊎ Unasked a

-- of a header all stays but the place and the size of the directory, and the end of the space
abbrev pub SameHead : Header → Header → Type 0
SameHead h h' = h' ≡ record h { dir = h'.dir; dir_bits = h'.dir_bits; next_block = h'.next_block }

-- the file is sound afterwards and has this map; what its header has beside the directory and the end of the space, its mode
-- and its stamp stay, and so does all else
pub record Maps (map : PairMap) (f : ℕ) (x : File) (c d : Content) : Type 0 where
  pub bytes : List ℕ
  pub there : d.files f ≡ Some (record x { bytes = bytes })
  pub sound : IsSound bytes
  pub map_is : pair_map (records bytes) ≡ map
  pub head : SameHead (file_header x.bytes) (file_header bytes)
  pub others : Reads (OneFile f) NoName c d

pub record Writes (map : PairMap) (f : ℕ) (x : File) (a : Answer) : Type 0 where
  pub reply : a.reply ≡ Done
  pub text : a.text ≡ []
  pub session : a.new ≡ a.old
  pub maps : Maps map f x a.before a.after

-- the refusal that is due, or else what is done
abbrev pub OrDue : Option DbError → Row → Row
OrDue None row a = row a
OrDue (Some e) row a = Refuses e a

-- a file keeps its mode and its stamp
abbrev pub MarksStay : ℕ → Content → Content → Type 0
MarksStay f c d = (x : File) × (c.files f ≡ Some x) × ((y : File) × (d.files f ≡ Some y) × (y.mode ≡ x.mode) × (y.stamp ≡ x.stamp))

-- the vault failed in a change: the database is broken, and of its file only the mode and the stamp are known
pub record Breaks (db : Db) (a : Answer) : Type 0 where
  pub reply : a.reply ≡ Refused VaultFault
  pub rose : VaultRose a
  pub text : a.text ≡ []
  pub session : a.new ≡ at_phase a.old (Open (broken_db db))
  pub marks : MarksStay db.file a.before a.after
  pub others : Reads (OneFile db.file) NoName a.before a.after

-- a command that changes the map
abbrev pub Changes : (List ℕ → Option DbError) → (PairMap → PairMap) → DbRow
Changes due map db a = Live a.before db (λ x. OrDue (due x.bytes) (Writes (map (pair_map (records x.bytes))) db.file x) a) ⊎ (Breaks db a ⊎ Starves a)

-- ---- the refusals before the command's own, from the last to the first

abbrev pub ForAccess : Access → Row → Row
ForAccess Reader row a = Refuses ReaderCant a
ForAccess Writer row a = row a

-- a database that is open to read refuses
abbrev pub ToWrite : DbRow → DbRow
ToWrite row db a = ForAccess db.access (row db) a

abbrev pub OrBroken : Bool → Row → Row
OrBroken true row a = Refuses NeedRecovery a
OrBroken false row a = row a

-- a broken database refuses
abbrev pub Whole : DbRow → DbRow
Whole row db a = OrBroken db.broken (row db) a

-- the first opening was refused
pub record FirstRefused (a : Answer) : Type 0 where
  pub error : DbError
  pub opens : Opens a.old.settings a.before (Err error) a.after
  pub refuses : Refuses error a

-- the vault failed in the first opening
pub record FirstFails (a : Answer) : Type 0 where
  pub reply : a.reply ≡ Refused VaultFault
  pub rose : VaultRose a
  pub text : a.text ≡ []
  pub session : a.new ≡ a.old
  pub spoils : Spoils a.old.settings a.before a.after

-- the first opening stands, whatever the command then answers
pub record FirstOpened (row : DbRow) (a : Answer) : Type 0 where
  pub db : Db
  pub mid : Content
  pub opens : Opens a.old.settings a.before (Ok db) mid
  pub counted : Faults
  pub later : NeverFall a.counted counted
  pub rest : row db (record a { old = at_phase a.old (Open db); before = mid; counted = counted })

abbrev pub InPhase : Phase → DbRow → Row
InPhase Shut row a = Refuses NotOpen a
InPhase (Open db) row a = row db a
InPhase Fresh row a = FirstFails a ⊎ (FirstRefused a ⊎ FirstOpened row a)

-- a command that needs a database; the first one of them opens it
abbrev pub Needs : DbRow → Row
Needs row a = InPhase a.old.phase (Whole row) a

-- the bytes of an argument, or its refusal
abbrev pub WithBytes : Result (List ℕ) TypeError → (List ℕ → Row) → Row
WithBytes (Ok bytes) row a = row bytes a
WithBytes (Err e) row a = Replies (Typed e) a ⊎ Starves a

abbrev pub WithKey : List (List ℕ) → (List ℕ → Row) → Row
WithKey words row a = WithBytes (typed_bytes a.old.key_form words) row a ⊎ Starves a

abbrev pub WithContent : List (List ℕ) → (List ℕ → Row) → Row
WithContent words row a = WithBytes (typed_bytes a.old.content_form words) row a ⊎ Starves a

-- key and content; the refusal of the key comes first
abbrev pub WithPair : (key content : List (List ℕ)) → (List ℕ → List ℕ → Row) → Row
WithPair key content row a = WithKey key (λ k. WithContent content (row k)) a

-- ---- asking

abbrev pub count_row : State → List Pair → Ending
count_row s pairs = done s (line (decimal (length pairs)))

abbrev pub found : State → Option (List ℕ) → Ending
found s None = refused s ItemNotFound
found s (Some content) = shown s s (content_text s content)

abbrev pub fetch_row : List ℕ → State → List Pair → Ending
fetch_row key s pairs = found s (value_of pairs key)

-- a record is printed, and its key is then the one last printed
abbrev pub printed : State → Option Pair → Ending
printed s None = refused s ItemNotFound
printed s (Some p) = shown s (record s { last = Some p.0 }) (pair_text s p)

abbrev pub head_of : List Pair → Option Pair
head_of [] = None
head_of (p ∷ ps) = Some p

-- the record behind that of a key
abbrev pub pair_after : Text → List Pair → Option Pair
pair_after key [] = None
pair_after key (p ∷ ps) = if bytes_eq p.0 key then head_of ps else pair_after key ps

-- the first record
abbrev pub first_row : State → List Pair → Ending
first_row s pairs = printed s (head_of pairs)

-- the record after a key; no key is before any record
abbrev pub next_row : Option (List ℕ) → State → List Pair → Ending
next_row None s pairs = refused s ItemNotFound
next_row (Some key) s pairs = printed s (pair_after key pairs)

-- a line before what comes, or the refusal of a record
abbrev pub line_before : State → Result Text TypeError → Ending → Ending
line_before s (Ok text) e = record e { text = line text ++ e.text }
line_before s (Err error) e = typed s error

-- the lines of all records, up to the first one that is refused
unfoldable pub list_row : State → List Pair → Ending
list_row s [] = done s []
list_row s (p ∷ ps) = line_before s (pair_text s p) (list_row s ps)

-- where memory is wanted, the lines of the first records stand
pub record ListStarves (pairs : List Pair) (a : Answer) : Type 0 where
  pub reply : a.reply ≡ Refused OutOfMemory
  pub session : a.new ≡ a.old
  pub content : a.after ≡ a.before
  pub count : ℕ
  pub lines : list_row a.old (take count pairs) ≡ done a.old a.text

-- where the vault fails, a front of the text stands
pub record ListBreaks (pairs : List Pair) (a : Answer) : Type 0 where
  pub reply : a.reply ≡ Refused VaultFault
  pub rose : VaultRose a
  pub text : IsFront a.text (list_row a.old pairs).text
  pub session : a.new ≡ a.old
  pub content : a.after ≡ a.before

abbrev pub Lists : DbRow
Lists db a = Live a.before db (λ x. Prints (list_row a.old (records x.bytes)) a ⊎ (ListBreaks (records x.bytes) a ⊎ ListStarves (records x.bytes) a))

-- ---- changing

abbrev pub stores_due : How → (key content file : List ℕ) → Option DbError
stores_due how key content file = store_due (records file) (file_header file).elems (file_header file).next_block how key content

abbrev pub Stores : How → (key content : List ℕ) → DbRow
Stores how key content = Changes (stores_due how key content) (λ map. insert map key content)

abbrev pub deletes_due : (key file : List ℕ) → Option DbError
deletes_due key file = delete_due (records file) (file_header file).next_block key

abbrev pub Deletes : List ℕ → DbRow
Deletes key = Changes (deletes_due key) (λ map. remove map key)

-- one step of a list of commands: from a session, counts and a content to others
abbrev pub part_of : State → Faults → Content → Reply → State → Faults → Content → Answer
part_of s k c r n j d = record { old = s; before = c; counted = k; reading = None; reply = r; text = []; new = n; after = d; counts = j }

-- a step that was answered Done, where others come behind it
pub record Goes (row : Row) (s : State) (k : Faults) (c : Content) (t : State) (j : Faults) (d : Content) : Type 0 where
  pub step : row (part_of s k c Done t j d)
  pub later : NeverFall k j

-- steps one after another, up to the first answer that isn't Done
unfoldable pub Steps : (Pair → Row) → List Pair → State → Faults → Content → Reply → State → Faults → Content → Type 0
Steps row [] s k c r n j d = (r ≡ Done) × (n ≡ s) × (d ≡ c) × NeverFall k j
Steps row (p ∷ ps) s k c r n j d =
    ((r ≢ Done) × row p (part_of s k c r n j d) × NeverFall k j)
    ⊎ ((t : State) × ((l : Faults) × ((mid : Content) × Goes (row p) s k c t l mid × Steps row ps t l mid r n j d)))

-- after the last step the line is printed, and after another answer nothing
abbrev pub FillEnds : Reply → Text → Row
FillEnds Done text a = ((a.reply ≡ Done) × (a.text ≡ text)) ⊎ ((a.reply ≡ SinkFault) × OutRose a × IsFront a.text text)
FillEnds r text a = (a.reply ≡ r) × (a.text ≡ [])

-- a pair is stored
abbrev pub StoreStep : Pair → DbRow
StoreStep p = Stores Replace p.0 p.1

pub record FillsFrom (start n : ℕ) (db : Db) (x : File) (a : Answer) : Type 0 where
  pub reply : Reply
  pub last : Faults
  pub later : NeverFall last a.counts
  pub steps : Steps (λ p. StoreStep p db) (fill_pairs start n) a.old a.counted a.before reply a.new last a.after
  pub ends : FillEnds reply (fill_text (pair_map (records x.bytes)) start n) a

abbrev pub Fills : (start n : ℕ) → DbRow
Fills start n db a = Live a.before db (λ x. FillsFrom start n db x a)

-- ---- without a database

-- an open database, a broken one too, keeps so many buckets from now on
abbrev pub sized : ℕ → Phase → Phase
sized n Fresh = Fresh
sized n (Open db) = Open (record db { cache = n })
sized n Shut = Shut

abbrev pub with_setting : State → Setting → State
with_setting s (variables.BlockSize n) = record s { settings = record s.settings { block = n } }
with_setting s (variables.CacheSize n) = record s { settings = record s.settings { cache = n }; phase = sized n s.phase }
with_setting s (variables.Delim1 delim) = record s { settings = record s.settings { delim = delim } }
with_setting s (variables.Format format) = record s { settings = record s.settings { format = format } }
with_setting s (variables.Opening opening) = record s { settings = record s.settings { opening = opening } }

abbrev pub set_row : Option Setting → State → Ending
set_row None s = done s (variables_text s.settings)
set_row (Some setting) s = done (with_setting s setting) []

abbrev pub version_row : State → Ending
version_row s = done s version_text

-- an open database is closed
abbrev pub close_row : State → Ending
close_row s = done (shut s) []

abbrev pub reply_of : Result Db DbError → Reply
reply_of (Ok db) = Done
reply_of (Err e) = Refused e

abbrev pub opened_as : State → Result Db DbError → State
opened_as s (Ok db) = at_phase s (Open db)
opened_as s (Err e) = s

-- closing makes the file durable only where a database is open to write and not broken
abbrev pub Syncs : Phase → Type 0
Syncs Fresh = ⊥
Syncs (Open db) = (db.broken ≡ false) × (db.access ≡ Writer)
Syncs Shut = ⊥

-- the vault failed where an open database is closed
pub record CloseFails (a : Answer) : Type 0 where
  pub syncs : Syncs a.old.phase
  pub reply : a.reply ≡ Refused VaultFault
  pub rose : VaultRose a
  pub text : a.text ≡ []
  pub session : a.new ≡ shut a.old
  pub content : a.after ≡ a.before

abbrev pub Closes : Row
Closes a = Ends (close_row a.old) a ⊎ CloseFails a

-- the vault failed in closing or opening
pub record OpenFails (name : Option Text) (a : Answer) : Type 0 where
  pub reply : a.reply ≡ Refused VaultFault
  pub rose : VaultRose a
  pub text : a.text ≡ []
  pub session : a.new ≡ shut (naming name a.old)
  pub spoils : Spoils (naming name a.old).settings a.before a.after

-- an open database is closed, and then another one is opened; refused or not, the name is then the one last used
pub record OpensNamed (name : Option Text) (a : Answer) : Type 0 where
  pub result : Result Db DbError
  pub opens : Opens (naming name a.old).settings a.before result a.after
  pub reply : a.reply ≡ reply_of result
  pub text : a.text ≡ []
  pub session : a.new ≡ opened_as (shut (naming name a.old)) result

abbrev pub Reopens : Option Text → Row
Reopens name a = OpensNamed name a ⊎ OpenFails name a
