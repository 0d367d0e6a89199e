-- Refusals of a file are neither a fault of the vault nor want of memory.
use Rattle.std.proofs.Common.{◌≡◌, ℕ, zero, suc, Bool, true, false, ◌||◌, not, List, [], ◌∷◌, Option, Some, None, refl}
use Rattle.gd_base.specs.declared.errors.DbError.{DbError}
use Rattle.gd_base.specs.declared.errors.DbError.TheVariants.{Absent, BlockSize, ShortFile, BadMagic, ByteSwapped, WrongOffset, BadHeader, BadDirEntry, BadBucket, BadHashTable, BadHashEntry, BadAvail, NeedRecovery, ReaderCant, ItemNotFound, CannotReplace, DirOverflow, TooLarge, FileFull, Exists, InUse, NotNumsync, AlreadyAtomic, SameName, InEpoch, NotOpen, VaultFault, ClockFault, OutOfMemory, ClockStood}
use Rattle.gd_format.specs.First.{first_below, first_that_holds, or_else, unless}
use Rattle.std.specs.List.{AllByRecursion}
use Rattle.gd_format.specs.HeaderFault.{header_fault_of, header_of, header_tests}
use Rattle.gd_format.specs.declared.Header.{Header}
use Rattle.std.specs.Prelude.{Result, Ok, Err, IfOk, IfErr}
use Rattle.gd_vault.specs.Content.{File, Content}
use Rattle.gd_vault.specs.Views.{View, IsAt, content_of}
use Rattle.gd_format.specs.File.{is_full_at, is_reached, reach_fault, file_fault, front_of}
use Rattle.gd_readable.specs.Asks.{is_of_file, is_of_sound, is_of_readable, is_of_bucket, IsAnswer, Counts, Tells, Refuses, RefusesFile, IsCause, error_of, bytes_in, kept_of}
use Rattle.gd_base.specs.Causes.{Rose}
use Rattle.gd_readable.specs.declared.reading.Stopped.{Stopped}
use Rattle.gd_readable.specs.declared.reading.Stopped.TheVariants.{Fault, NoMemory}
use Rattle.gd_readable.proofs.Asks.{bytes_told}

unless_kind : (b : Bool) (e : DbError) → is_of_readable e ≡ true → (d : DbError) → unless b e ≡ Some d → is_of_readable d ≡ true
unless_kind true e h d is = absurd cc
unless_kind false e h d is = let same : e ≡ d = cc in rw same at h

or_kind : (a b : Option DbError) → ((d : DbError) → a ≡ Some d → is_of_readable d ≡ true) → ((d : DbError) → b ≡ Some d → is_of_readable d ≡ true) → (d : DbError) → or_else a b ≡ Some d → is_of_readable d ≡ true
or_kind None b h k d is = k d is
or_kind (Some e) b h k d is = h d is

below_kind : (n : ℕ) (p : ℕ → Option DbError) → ((k : ℕ) (d : DbError) → p k ≡ Some d → is_of_readable d ≡ true) → (d : DbError) → first_below n p ≡ Some d → is_of_readable d ≡ true
below_kind zero p h d is = absurd cc
below_kind (suc n) p h d is = or_kind (first_below n p) (p n) (below_kind n p h) (h n) d is

pub reach_kind : (block : List ℕ) (elems at : ℕ) (d : DbError) → first_below elems (reach_fault block elems at) ≡ Some d → is_of_readable d ≡ true
unfolding reach_fault
reach_kind block elems at d is = below_kind elems (reach_fault block elems at) (λ k e. unless_kind (not (is_full_at block k) || is_reached block elems k) (BadHashTable at) refl e) d is

tests_kind : (ts : List (Bool × DbError)) → AllByRecursion (λ t. is_of_readable t.1 ≡ true) ts → (d : DbError) → first_that_holds ts ≡ Some d → is_of_readable d ≡ true
tests_kind [] h d is = absurd cc
tests_kind ((true, e) ∷ ts) h d is = let same : e ≡ d = cc in rw same at h.0
tests_kind ((false, e) ∷ ts) h d is = tests_kind ts h.1 d is

pub header_kind : (bytes : List ℕ) (len : ℕ) (d : DbError) → header_fault_of bytes len ≡ Some d → is_of_readable d ≡ true
unfolding header_fault_of
header_kind bytes len d is = tests_kind (header_tests bytes len) (refl, (refl, (refl, (refl, (refl, (refl, (refl, (refl, (refl, (refl, (refl, tt))))))))))) d is

-- what is told of a file's bytes, where the content is told
told_at : (v : View) (f : ℕ) (P : List ℕ → Type 0) → Tells (bytes_in (kept_of v) f) P → (c : Content) (x : File) → content_of v.told ≡ Some c → c.files f ≡ Some x → P x.bytes
told_at v f P h c x told is = h x.bytes (bytes_told v f c x told is)

-- a file that is not readable is not sound, and both speak of the file alone
pub sound_kind : (e : DbError) → is_of_readable e ≡ true → is_of_sound e ≡ true
sound_kind Absent kind = kind
sound_kind BlockSize kind = kind
sound_kind ShortFile kind = kind
sound_kind BadMagic kind = kind
sound_kind ByteSwapped kind = kind
sound_kind WrongOffset kind = kind
sound_kind BadHeader kind = kind
sound_kind (BadDirEntry i) kind = kind
sound_kind (BadBucket a) kind = kind
sound_kind (BadHashTable a) kind = kind
sound_kind (BadHashEntry a s) kind = kind
sound_kind (BadAvail a) kind = refl
sound_kind NeedRecovery kind = refl
sound_kind ReaderCant kind = kind
sound_kind ItemNotFound kind = kind
sound_kind CannotReplace kind = kind
sound_kind DirOverflow kind = kind
sound_kind TooLarge kind = kind
sound_kind FileFull kind = kind
sound_kind (Exists w) kind = kind
sound_kind InUse kind = kind
sound_kind NotNumsync kind = kind
sound_kind AlreadyAtomic kind = kind
sound_kind SameName kind = kind
sound_kind InEpoch kind = kind
sound_kind NotOpen kind = kind
sound_kind VaultFault kind = kind
sound_kind ClockFault kind = kind
sound_kind OutOfMemory kind = kind
sound_kind (ClockStood o n) kind = kind

pub file_kind : (e : DbError) → is_of_sound e ≡ true → is_of_file e ≡ true
file_kind Absent kind = absurd cc
file_kind BlockSize kind = refl
file_kind ShortFile kind = refl
file_kind BadMagic kind = refl
file_kind ByteSwapped kind = refl
file_kind WrongOffset kind = refl
file_kind BadHeader kind = refl
file_kind (BadDirEntry i) kind = refl
file_kind (BadBucket a) kind = refl
file_kind (BadHashTable a) kind = refl
file_kind (BadHashEntry a s) kind = refl
file_kind (BadAvail a) kind = refl
file_kind NeedRecovery kind = refl
file_kind ReaderCant kind = refl
file_kind ItemNotFound kind = refl
file_kind CannotReplace kind = refl
file_kind DirOverflow kind = refl
file_kind TooLarge kind = refl
file_kind FileFull kind = refl
file_kind (Exists w) kind = refl
file_kind InUse kind = refl
file_kind NotNumsync kind = refl
file_kind AlreadyAtomic kind = refl
file_kind SameName kind = refl
file_kind InEpoch kind = refl
file_kind NotOpen kind = refl
file_kind VaultFault kind = absurd cc
file_kind ClockFault kind = refl
file_kind OutOfMemory kind = absurd cc
file_kind (ClockStood o n) kind = refl

pub refuses : (e : DbError) (fault refusal : Type 0) → is_of_file e ≡ true → refusal → Refuses e fault refusal
refuses Absent fault refusal kind h = h
refuses BlockSize fault refusal kind h = h
refuses ShortFile fault refusal kind h = h
refuses BadMagic fault refusal kind h = h
refuses ByteSwapped fault refusal kind h = h
refuses WrongOffset fault refusal kind h = h
refuses BadHeader fault refusal kind h = h
refuses (BadDirEntry i) fault refusal kind h = h
refuses (BadBucket a) fault refusal kind h = h
refuses (BadHashTable a) fault refusal kind h = h
refuses (BadHashEntry a s) fault refusal kind h = h
refuses (BadAvail a) fault refusal kind h = h
refuses NeedRecovery fault refusal kind h = h
refuses ReaderCant fault refusal kind h = h
refuses ItemNotFound fault refusal kind h = h
refuses CannotReplace fault refusal kind h = h
refuses DirOverflow fault refusal kind h = h
refuses TooLarge fault refusal kind h = h
refuses FileFull fault refusal kind h = h
refuses (Exists w) fault refusal kind h = h
refuses InUse fault refusal kind h = h
refuses NotNumsync fault refusal kind h = h
refuses AlreadyAtomic fault refusal kind h = h
refuses SameName fault refusal kind h = h
refuses InEpoch fault refusal kind h = h
refuses NotOpen fault refusal kind h = h
refuses VaultFault fault refusal kind h = absurd cc
refuses ClockFault fault refusal kind h = h
refuses OutOfMemory fault refusal kind h = absurd cc
refuses (ClockStood o n) fault refusal kind h = h

pub refuses_map : (e : DbError) (a b c d : Type 0) → (a → c) → (b → d) → Refuses e a b → Refuses e c d
refuses_map Absent a b c d f g h = g h
refuses_map BlockSize a b c d f g h = g h
refuses_map ShortFile a b c d f g h = g h
refuses_map BadMagic a b c d f g h = g h
refuses_map ByteSwapped a b c d f g h = g h
refuses_map WrongOffset a b c d f g h = g h
refuses_map BadHeader a b c d f g h = g h
refuses_map (BadDirEntry i) a b c d f g h = g h
refuses_map (BadBucket x) a b c d f g h = g h
refuses_map (BadHashTable x) a b c d f g h = g h
refuses_map (BadHashEntry x s) a b c d f g h = g h
refuses_map (BadAvail x) a b c d f g h = g h
refuses_map NeedRecovery a b c d f g h = g h
refuses_map ReaderCant a b c d f g h = g h
refuses_map ItemNotFound a b c d f g h = g h
refuses_map CannotReplace a b c d f g h = g h
refuses_map DirOverflow a b c d f g h = g h
refuses_map TooLarge a b c d f g h = g h
refuses_map FileFull a b c d f g h = g h
refuses_map (Exists w) a b c d f g h = g h
refuses_map InUse a b c d f g h = g h
refuses_map NotNumsync a b c d f g h = g h
refuses_map AlreadyAtomic a b c d f g h = g h
refuses_map SameName a b c d f g h = g h
refuses_map InEpoch a b c d f g h = g h
refuses_map NotOpen a b c d f g h = g h
refuses_map VaultFault a b c d f g h = f h
refuses_map ClockFault a b c d f g h = g h
refuses_map OutOfMemory a b c d f g h = tt
refuses_map (ClockStood o n) a b c d f g h = g h

pub refuses_stopped : (s : Stopped) (before now : ℕ) (refusal : Type 0) → IsCause s before now → Refuses (error_of s) (Rose before now) refusal
refuses_stopped Fault before now refusal h = h
refuses_stopped NoMemory before now refusal h = tt

pub refuses_file : (r : Result Header DbError) (f : ℕ) (u v : View) → IfErr r (λ e. is_of_readable e ≡ true) → IfErr r (λ e. Tells (bytes_in (kept_of u) f) (λ file. file_fault file ≡ Some e)) → IfErr r (λ e. RefusesFile e f u v)
refuses_file (Ok h) f u v kind told = tt
refuses_file (Err e) f u v kind told = refuses e _ _ (file_kind e (sound_kind e kind)) (told_at u f (λ file. file_fault file ≡ Some e) told)

pub reads_file : (r : Result Header DbError) (f : ℕ) (u : View) → IfOk r (λ h. Tells (bytes_in (kept_of u) f) (λ file. (file_fault file ≡ None) × (h ≡ header_of (front_of file)))) → IfOk r (λ h. IsAt u (λ c. (x : File) → c.files f ≡ Some x → (file_fault x.bytes ≡ None) × (h ≡ header_of (front_of x.bytes))))
reads_file (Ok h) f u told = λ c is x at. told x.bytes (bytes_told u f c x is at)
reads_file (Err e) f u told = tt

-- a refusal of the file leaves the count
pub counts_kind : (e : DbError) (before now : ℕ) → is_of_sound e ≡ true → now ≡ before → Counts e before now
counts_kind Absent before now kind same = same
counts_kind BlockSize before now kind same = same
counts_kind ShortFile before now kind same = same
counts_kind BadMagic before now kind same = same
counts_kind ByteSwapped before now kind same = same
counts_kind WrongOffset before now kind same = same
counts_kind BadHeader before now kind same = same
counts_kind (BadDirEntry i) before now kind same = same
counts_kind (BadBucket a) before now kind same = same
counts_kind (BadHashTable a) before now kind same = same
counts_kind (BadHashEntry a s) before now kind same = same
counts_kind (BadAvail a) before now kind same = same
counts_kind NeedRecovery before now kind same = same
counts_kind ReaderCant before now kind same = same
counts_kind ItemNotFound before now kind same = same
counts_kind CannotReplace before now kind same = same
counts_kind DirOverflow before now kind same = same
counts_kind TooLarge before now kind same = same
counts_kind FileFull before now kind same = same
counts_kind (Exists w) before now kind same = same
counts_kind InUse before now kind same = same
counts_kind NotNumsync before now kind same = same
counts_kind AlreadyAtomic before now kind same = same
counts_kind SameName before now kind same = same
counts_kind InEpoch before now kind same = same
counts_kind NotOpen before now kind same = same
counts_kind VaultFault before now kind same = absurd cc
counts_kind ClockFault before now kind same = same
counts_kind OutOfMemory before now kind same = same
counts_kind (ClockStood o n) before now kind same = same

-- a count that stood before a call
pub counts_from : (e : DbError) (a b c : ℕ) → Counts e b c → b ≡ a → Counts e a c
counts_from e a b c counts same = rw (← same) counts

pub counts_stopped : (s : Stopped) (before now : ℕ) → IsCause s before now → Counts (error_of s) before now
counts_stopped Fault before now h = h
counts_stopped NoMemory before now h = h

pub kind_stopped : (s : Stopped) (p : DbError → Bool) → IsAnswer p (error_of s)
kind_stopped Fault p = tt
kind_stopped NoMemory p = tt

pub kind_readable : (r : Result Header DbError) → IfErr r (λ e. is_of_readable e ≡ true) → IfErr r (λ e. IsAnswer is_of_readable e)
kind_readable (Ok h) kind = tt
kind_readable (Err e) kind = refuses e _ _ (file_kind e (sound_kind e kind)) kind

pub counts_readable : (r : Result Header DbError) (before now : ℕ) → IfErr r (λ e. is_of_readable e ≡ true) → now ≡ before → IfErr r (λ e. Counts e before now)
counts_readable (Ok h) before now kind same = tt
counts_readable (Err e) before now kind same = counts_kind e before now (sound_kind e kind) same

-- what a check of a readable file that goes on answers
pub answer_kind : (e : DbError) → is_of_sound e ≡ true → IsAnswer is_of_sound e
answer_kind e kind = refuses e _ _ (file_kind e kind) kind

pub sound_answer : (e : DbError) → IsAnswer is_of_readable e → IsAnswer is_of_sound e
sound_answer e h = refuses_map e _ _ _ _ (λ x. x) (sound_kind e) h
