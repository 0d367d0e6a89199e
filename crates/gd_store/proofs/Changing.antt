-- Facts of calls that change.
use Rattle.std.proofs.Common.{◌≡◌, ◌≢◌, ◌⊎◌, ⊎_elim, ℕ, zero, suc, ◌+◌, ◌^◌, ◌<◌, ◌≤◌, Bool, true, false, ◌||◌, List, length, get_or, Option, Some, None, refl, sym, ap, subst, ◌∙◌, arith}
use Rattle.std.specs.Prelude.{is_some, Result, Ok, Err, IfErr, OnErr, OnOk}
use Rattle.std.specs.FinMap.{remove}
use Rattle.std.proofs.lemmas.Bool.{leb-true}
use Rattle.std.proofs.lemmas.Slice.Eq.{bytes_eq-Decides}
use Rattle.gd_base.specs.Causes.{Rose}
use Rattle.gd_base.specs.declared.errors.DbError.{DbError}
use Rattle.gd_base.specs.declared.errors.DbError.TheVariants.{Absent, BlockSize, ShortFile, BadMagic, ByteSwapped, WrongOffset, BadHeader, BadDirEntry, BadBucket, BadHashTable, BadHashEntry, BadAvail, NeedRecovery, ReaderCant, ItemNotFound, CannotReplace, DirOverflow, TooLarge, FileFull, Exists, InUse, NotNumsync, AlreadyAtomic, SameName, InEpoch, NotOpen, VaultFault, ClockFault, OutOfMemory, ClockStood}
use Rattle.gd_format.specs.declared.Header.{Header}
use Rattle.gd_format.specs.declared.Slot.{Slot}
use Rattle.gd_format.specs.declared.Slot.TheVariants.{Empty, Full}
use Rattle.gd_format.specs.Bucket.{Bucket}
use Rattle.gd_format.specs.Field.{bytes_at}
use Rattle.gd_format.specs.File.{records}
use Rattle.gd_format.specs.Headers.{IsHeader}
use Rattle.gd_format.proofs.Pieces.{length-bytes_at}
use Rattle.gd_layout.specs.Fits.{FitsHeader}
use Rattle.gd_file_laws.proofs.Lists.{bool_cases}
use Rattle.gd_map_laws.specs.Find.{is_slot_of}
use Rattle.gd_map_laws.specs.Maps.{PairMap, pair_map}
use Rattle.gd_lookup.specs.Finding.{IsKeySlot, IsKeyAbsent}
use Rattle.gd_open.specs.Reading.{is_of_read, RefusesRead}
use Rattle.gd_lookup.specs.Reading.{LiesIn, value_in}
use Rattle.gd_vault.specs.Content.{File, Content}
use Rattle.gd_vault.specs.Frame.{Within}
use Rattle.gd_vault.specs.Views.{View, HasFile, IsAt, OnlyAsks, content_of}
use Rattle.gd_readable.specs.Asks.{Counts}
use Rattle.gd_readable.proofs.Refusals.{counts_from, refuses_map}
use Rattle.gd_update.specs.Calls.{CanChange, Changes}
use Rattle.gd_open.specs.Files.{FileBecomes}
use Rattle.gd_update.specs.KeepSound.{IsNext}
use Rattle.gd_update.specs.Open.{IsHere, slot_key, slot_size}
use Rattle.gd_update.specs.Open as change
use Rattle.gd_update.proofs.Files as files
use Rattle.gd_open.proofs.Files.{still_there as still_in}
use Rattle.gd_update.proofs.Chains.{one_file}
use Rattle.gd_update.specs.Growth.{IsWider}
use Rattle.gd_update.specs.GrowthRefusals.{is_growth_error}
use Rattle.gd_space.specs.Effect.{TellsNone}
use Rattle.gd_store.specs.declared.access.Access.{Access}
use Rattle.gd_store.specs.declared.access.Access.TheVariants.{Writer}
use Rattle.gd_store.specs.declared.access.How.{How}
use Rattle.gd_store.specs.declared.access.How.TheVariants.{Insert, Replace}
use Rattle.gd_store.specs.Changed.{IsChanged, Becomes, is_room_error}
use Rattle.gd_store.specs.Located.{IsFoundIn}
use Rattle.gd_store.specs.Opened.{Opened, IsOpenOn, IsRightFor, Fits, OnFile, SameButCached}
use Rattle.gd_store.proofs.Asking.{same_cached}
use Rattle.gd_store.specs.Replies.{delete_due, far_due, is_fault, is_fault_of, is_full_error, is_too_far, is_not_found, is_of_asking, is_of_change, key_due, pair_size, value_of, RefusedBy, RefusedDeleting, RefusedStoring, StoreCause}

-- ---- the slot of a key

pub slot_key_is : (file key : List ℕ) (slot : Slot) → is_slot_of file key slot ≡ true → slot_key file slot ≡ key
slot_key_is file key Empty own = absurd cc
slot_key_is file key (Full hash start at k v) own = (bytes_eq-Decides (bytes_at file at k) key).0 own

piece_size : (file : List ℕ) (at n : ℕ) → (0 < n → at + n ≤ length file) → length (bytes_at file at n) ≡ n
piece_size file at zero inside = refl
piece_size file at (suc n) inside = length-bytes_at file at (suc n) (inside (omega arith))

full_size : (file key : List ℕ) (slot : Slot) → is_slot_of file key slot ≡ true → LiesIn (length file) slot → length key + length (value_in file slot) ≡ slot_size slot
full_size file key Empty own inside = absurd cc
full_size file key (Full hash start at k v) own inside =
    let is : bytes_at file at k ≡ key = (bytes_eq-Decides (bytes_at file at k) key).0 own in
    let a = piece_size file at k (λ some. let i = inside (omega (arith, some)) in omega (arith, i)) in
    let b = piece_size file (at + k) v (λ some. let i = inside (omega (arith, some)) in omega (arith, i)) in
    let e : length key ≡ length (bytes_at file at k) = ap length (sym is) in
    omega (arith, a, b, e)

-- the size of the pair of a key that has a slot
pub pair_has : (file key : List ℕ) (slot : Slot) → IsKeySlot file key slot → pair_size key (value_of (records file) key) ≡ slot_size slot
pair_has file key slot is = ap (pair_size key) is.value ∙ full_size file key slot is.own is.inside

-- what is due of a deletion where the key has a slot
pub present_due : (file key : List ℕ) (slot : Slot) (next : ℕ) → IsKeySlot file key slot → delete_due (records file) next key ≡ far_due next (slot_size slot)
present_due file key slot next is =
    let some : is_some (value_of (records file) key) ≡ true = ap is_some is.value in
    rw some (ap (far_due next) (pair_has file key slot is))

pub absent_due : (file key : List ℕ) (slots : List Slot) (next : ℕ) → IsKeyAbsent file key slots → delete_due (records file) next key ≡ Some ItemNotFound
absent_due file key slots next is = let none : is_some (value_of (records file) key) ≡ false = ap is_some is.value in rw none refl

pub near_due : (next size : ℕ) → is_too_far next size ≡ false → far_due next size ≡ None
near_due next size e = rw e refl

pub too_far_due : (next size : ℕ) → is_too_far next size ≡ true → far_due next size ≡ Some FileFull
too_far_due next size e = rw e refl

-- ---- an open file

pub may_change : (s : Opened) (file : List ℕ) → IsOpenOn s file → s.access ≡ Writer → change.IsOpen file s.header s.table
may_change s file o writer =
    let r = subst (λ (a : Access). IsRightFor a s.header s.table file) writer o.right in
    record { sound = r.0; header_is = o.header; table_is = r.1 }

pub is_here : (file : List ℕ) (h : Header) (key : List ℕ) (at : ℕ) (bucket : Bucket) (p : Option ℕ) → IsFoundIn file h key at bucket p → IsHere file h at bucket key
is_here file h key at bucket p found = record { place_is = found.address; bucket_is = found.bucket }

pub told_before : (u v : View) (c : Content) → OnlyAsks u v → content_of v.told ≡ Some c → content_of u.told ≡ Some c
told_before u v c asks told = ap content_of (sym asks.told) ∙ told

pub still_there : (u v : View) (f : ℕ) → OnlyAsks u v → HasFile u f → HasFile v f
still_there u v f asks there = λ c told. there c (told_before u v c asks told)

pub found_at : (v : View) (f : ℕ) (h : Header) (key : List ℕ) (at : ℕ) (bucket : Bucket) (p q : Option ℕ) → p ≡ q → OnFile v f (λ file. IsFoundIn file h key at bucket p) → OnFile v f (λ file. IsFoundIn file h key at bucket q)
found_at v f h key at bucket p q same found = λ c x told there. subst (λ (r : Option ℕ). IsFoundIn x.bytes h key at bucket r) same (found c x told there)

pub has_file_as : (v : View) (s t : Opened) → t ≡ s → HasFile v s.file → HasFile v t.file
has_file_as v s t same has = subst (λ (o : Opened). HasFile v o.file) (sym same) has

-- the slot of a key that was found may be removed
can_remove : (u v : View) (s : Opened) (key : List ℕ) (at : ℕ) (bucket : Bucket) (p : ℕ) → Fits u s → s.broken ≡ false → s.access ≡ Writer → OnlyAsks u v
    → OnFile u s.file (λ file. IsFoundIn file s.header key at bucket (Some p))
    → CanChange v s.file s.header s.table at bucket (λ x. slot_key x (get_or bucket.slots p Empty))
can_remove u v s key at bucket p fits whole writer asks found = λ c x told there.
    let before = told_before u v c asks told in
    let f = found c x before there in
    let same : slot_key x.bytes (get_or bucket.slots p Empty) ≡ key = slot_key_is x.bytes key (get_or bucket.slots p Empty) f.place.own in
    (may_change s x.bytes (fits whole c x before there) writer, subst (λ (k : List ℕ). IsHere x.bytes s.header at bucket k) (sym same) (is_here x.bytes s.header key at bucket (Some p) f))

pub may_remove : (u v : View) (s t : Opened) (key : List ℕ) (at : ℕ) (bucket : Bucket) (q : Option ℕ) (p : ℕ) → t ≡ s → q ≡ Some p → Fits u s → s.broken ≡ false → s.access ≡ Writer → OnlyAsks u v
    → OnFile u s.file (λ file. IsFoundIn file s.header key at bucket q)
    → CanChange v t.file t.header t.table at bucket (λ x. slot_key x (get_or bucket.slots p Empty))
may_remove u v s t key at bucket q p same is fits whole writer asks found =
    subst (λ (o : Opened). CanChange v o.file o.header o.table at bucket (λ x. slot_key x (get_or bucket.slots p Empty))) (sym same)
    (can_remove u v s key at bucket p fits whole writer asks (found_at u s.file s.header key at bucket q (Some p) is found))

-- the next file is the database's
pub changed : (s' : Opened) (old new : List ℕ) (at : ℕ) (bucket' : Bucket) (key : List ℕ) (map : PairMap) (more : ℕ) → s'.access ≡ Writer → IsNext old new s'.header s'.table at bucket' key map more → IsChanged s' map more old new
changed s' old new at bucket' key map more writer next = record {
  is_open = record {
    header = next.still_open.header_is;
    right = subst (λ (a : Access). IsRightFor a s'.header s'.table new) (sym writer) (next.still_open.sound, next.still_open.table_is);
  };
  map_is = next.map_is;
  lost = next.lost;
}

pub removed : (u v w : View) (s s' t : Opened) (key : List ℕ) (at : ℕ) (bucket bucket' : Bucket) (q : Option ℕ) (p : ℕ) → t ≡ s → q ≡ Some p → OnlyAsks u v → s'.access ≡ t.access → s.access ≡ Writer
    → OnFile u s.file (λ file. IsFoundIn file s.header key at bucket q)
    → Changes v w t.file s'.header s'.table at bucket' (λ x. slot_key x (get_or bucket.slots p Empty)) (λ x. remove (pair_map (records x)) (slot_key x (get_or bucket.slots p Empty))) 32
    → Becomes u w s.file s' (λ file. remove (pair_map (records file)) key) (λ _. 32)
removed u v w s s' t key at bucket bucket' q p same_store is asks access writer found changes = λ c x told there.
    let now : content_of v.told ≡ Some c = ap content_of asks.told ∙ told in
    let f = found_at u s.file s.header key at bucket q (Some p) is found c x told there in
    let same : slot_key x.bytes (get_or bucket.slots p Empty) ≡ key = slot_key_is x.bytes key (get_or bucket.slots p Empty) f.place.own in
    let file_is : t.file ≡ s.file = ap (λ (o : Opened). o.file) same_store in
    let n = changes c x now (ap c.files file_is ∙ there) in
    let mine : s'.access ≡ Writer = access ∙ ap (λ (o : Opened). o.access) same_store ∙ writer in
    record {
      content = n.content;
      file = n.file;
      told = n.told;
      there = ap n.content.files (sym file_is) ∙ n.there;
      holds = changed s' x.bytes n.file.bytes at bucket' key (remove (pair_map (records x.bytes)) key) 32 mine
          (subst (λ (k : List ℕ). IsNext x.bytes n.file.bytes s'.header s'.table at bucket' k (remove (pair_map (records x.bytes)) k) 32) same n.holds);
    }

-- ---- what is there afterwards

-- what was made is there at the next call
pub goes_there : {mine : ℕ → Type 0} {named : List ℕ → Type 0} (u v : View) (f : ℕ) (R : List ℕ → List ℕ → Type 0) → Within mine named u v → HasFile u f → FileBecomes u v f R
    → (d : Content) (y : File) → content_of v.told ≡ Some d → d.files f ≡ Some y → (x : List ℕ) × R x y.bytes
goes_there u v f R frame has goes d y told there =
    let old = files.told_first u v d frame told in
    let x = has old.0 old.1 in
    let n = goes old.0 x.0 old.1 x.1 in
    let same : n.file ≡ y = one_file v f n.content d n.file y n.told n.there told there in
    (x.0.bytes, subst (λ (z : File). R x.0.bytes z.bytes) same n.holds)

-- whether it is broken says nothing of the file
open_as : (s : Opened) (b : Bool) (file : List ℕ) → IsOpenOn s file → IsOpenOn (record s { broken = b }) file
open_as s b file o = record { header = o.header; right = o.right }

pub becomes_as : (u w : View) (f : ℕ) (s t : Opened) (b : Bool) (map : List ℕ → PairMap) (more : List ℕ → ℕ) → t ≡ s → Becomes u w f s map more → Becomes u w f (record t { broken = b }) map more
becomes_as u w f s t b map more same becomes = λ c x told there.
    let n = becomes c x told there in
    record {
      content = n.content;
      file = n.file;
      told = n.told;
      there = n.there;
      holds = subst (λ (o : Opened). IsChanged (record o { broken = b }) (map x.bytes) (more x.bytes) x.bytes n.file.bytes) (sym same) (record { is_open = open_as s b n.file.bytes n.holds.is_open; map_is = n.holds.map_is; lost = n.holds.lost });
    }

not_fault : (e : DbError) → is_fault_of e ≡ false → e ≢ VaultFault
not_fault e calm same = let loud : is_fault_of e ≡ true = rw same refl in absurd (cc (loud, calm))

fits_now : {T : Type 0} {mine : ℕ → Type 0} {named : List ℕ → Type 0} (r : Result T DbError) (u w : View) (s s1 : Opened) (map : List ℕ → PairMap) (more : List ℕ → ℕ)
    → Within mine named u w → HasFile u s.file → Fits u s → s.broken ≡ false → is_fault r ≡ false → OnOk r (Becomes u w s.file s1 map more) → IfErr r (λ e. e ≢ VaultFault → IsAt u (λ _. (s1 ≡ s) × OnlyAsks u w))
    → OnFile w s.file (IsOpenOn s1)
fits_now (Ok t) u w s s1 map more frame has fits whole calm becomes kept = λ d y told there. (goes_there u w s.file (λ x z. IsChanged s1 (map x) (more x) x z) frame has becomes d y told there).1.is_open
fits_now (Err e) u w s s1 map more frame has fits whole calm becomes kept = λ d y told there.
    let old = files.told_first u w d frame told in
    let k = kept (not_fault e calm) old.0 old.1 in
    subst (λ (o : Opened). IsOpenOn o y.bytes) (sym k.0) (fits whole d y (told_before u w d k.1 told) there)

-- an answer that is no fault leaves a database that is that of its file
pub fits_after : {T : Type 0} {mine : ℕ → Type 0} {named : List ℕ → Type 0} (r : Result T DbError) (u w : View) (s s1 t : Opened) (b : Bool) (map : List ℕ → PairMap) (more : List ℕ → ℕ)
    → Within mine named u w → HasFile u s.file → Fits u s → s.broken ≡ false → is_fault r ≡ false → OnOk r (Becomes u w s.file s1 map more) → IfErr r (λ e. e ≢ VaultFault → IsAt u (λ _. (s1 ≡ s) × OnlyAsks u w))
    → s1.file ≡ s.file → t ≡ s1 → OnFile w t.file (IsOpenOn (record t { broken = b }))
fits_after r u w s s1 t b map more frame has fits whole calm becomes kept same_file same = λ d y told there.
    let file_is : t.file ≡ s.file = ap (λ (o : Opened). o.file) same ∙ same_file in
    subst (λ (o : Opened). IsOpenOn (record o { broken = b }) y.bytes) (sym same) (open_as s1 b y.bytes (fits_now r u w s s1 map more frame has fits whole calm becomes kept d y told (ap d.files (sym file_is) ∙ there)))

fault_is : (e : DbError) → is_fault_of e ≡ true → e ≡ VaultFault
fault_is Absent h = absurd cc
fault_is BlockSize h = absurd cc
fault_is ShortFile h = absurd cc
fault_is BadMagic h = absurd cc
fault_is ByteSwapped h = absurd cc
fault_is WrongOffset h = absurd cc
fault_is BadHeader h = absurd cc
fault_is (BadDirEntry i) h = absurd cc
fault_is (BadBucket a) h = absurd cc
fault_is (BadHashTable a) h = absurd cc
fault_is (BadHashEntry a s) h = absurd cc
fault_is (BadAvail a) h = absurd cc
fault_is NeedRecovery h = absurd cc
fault_is ReaderCant h = absurd cc
fault_is ItemNotFound h = absurd cc
fault_is CannotReplace h = absurd cc
fault_is DirOverflow h = absurd cc
fault_is TooLarge h = absurd cc
fault_is FileFull h = absurd cc
fault_is (Exists w) h = absurd cc
fault_is InUse h = absurd cc
fault_is NotNumsync h = absurd cc
fault_is AlreadyAtomic h = absurd cc
fault_is SameName h = absurd cc
fault_is InEpoch h = absurd cc
fault_is NotOpen h = absurd cc
fault_is VaultFault h = refl
fault_is ClockFault h = absurd cc
fault_is OutOfMemory h = absurd cc
fault_is (ClockStood o n) h = absurd cc

-- an error counts as a fault of the vault, or not at all
pub counts_of : (e : DbError) (a b : ℕ) → (e ≡ VaultFault → Rose a b) → (e ≢ VaultFault → b ≡ a) → Counts e a b
counts_of Absent a b rose stays = stays (λ is. cc)
counts_of BlockSize a b rose stays = stays (λ is. cc)
counts_of ShortFile a b rose stays = stays (λ is. cc)
counts_of BadMagic a b rose stays = stays (λ is. cc)
counts_of ByteSwapped a b rose stays = stays (λ is. cc)
counts_of WrongOffset a b rose stays = stays (λ is. cc)
counts_of BadHeader a b rose stays = stays (λ is. cc)
counts_of (BadDirEntry i) a b rose stays = stays (λ is. cc)
counts_of (BadBucket k) a b rose stays = stays (λ is. cc)
counts_of (BadHashTable k) a b rose stays = stays (λ is. cc)
counts_of (BadHashEntry k s) a b rose stays = stays (λ is. cc)
counts_of (BadAvail k) a b rose stays = stays (λ is. cc)
counts_of NeedRecovery a b rose stays = stays (λ is. cc)
counts_of ReaderCant a b rose stays = stays (λ is. cc)
counts_of ItemNotFound a b rose stays = stays (λ is. cc)
counts_of CannotReplace a b rose stays = stays (λ is. cc)
counts_of DirOverflow a b rose stays = stays (λ is. cc)
counts_of TooLarge a b rose stays = stays (λ is. cc)
counts_of FileFull a b rose stays = stays (λ is. cc)
counts_of (Exists w) a b rose stays = stays (λ is. cc)
counts_of InUse a b rose stays = stays (λ is. cc)
counts_of NotNumsync a b rose stays = stays (λ is. cc)
counts_of AlreadyAtomic a b rose stays = stays (λ is. cc)
counts_of SameName a b rose stays = stays (λ is. cc)
counts_of InEpoch a b rose stays = stays (λ is. cc)
counts_of NotOpen a b rose stays = stays (λ is. cc)
counts_of VaultFault a b rose stays = rose refl
counts_of ClockFault a b rose stays = stays (λ is. cc)
counts_of OutOfMemory a b rose stays = stays (λ is. cc)
counts_of (ClockStood o n) a b rose stays = stays (λ is. cc)

-- so of the last call of several, before which the count stood
pub counts_last : {T : Type 0} (r : Result T DbError) (a b c : ℕ) → b ≡ a → IfErr r (λ e. e ≡ VaultFault → Rose b c) → IfErr r (λ e. e ≢ VaultFault → c ≡ b) → IfErr r (λ e. Counts e a c)
counts_last (Ok t) a b c same rose stays = tt
counts_last (Err e) a b c same rose stays = counts_from e a b c (counts_of e b c rose stays) same

pub counts_fault : {T : Type 0} (r : Result T DbError) (a b c : ℕ) → b ≡ a → IfErr r (λ e. e ≡ VaultFault) → OnErr r (Rose b c) → IfErr r (λ e. Counts e a c)
counts_fault (Ok t) a b c same is rose = tt
counts_fault (Err e) a b c same is rose = counts_from e a b c (rw is rose) same

-- a refused call leaves the database as it was, and not broken
pub kept_as : {T : Type 0} (r : Result T DbError) (u w : View) (s s1 t : Opened) (b : Bool) → t ≡ s1 → b ≡ is_fault r → s.broken ≡ false
    → IfErr r (λ e. e ≢ VaultFault → IsAt u (λ _. (s1 ≡ s) × OnlyAsks u w)) → IfErr r (λ e. e ≢ VaultFault → IsAt u (λ _. (record t { broken = b } ≡ s) × OnlyAsks u w))
kept_as (Ok t) u w s s1 o b same is whole kept = tt
kept_as (Err e) u w s s1 o b same is whole kept = λ other k told.
    let h = kept other k told in
    let calm : is_fault_of e ≡ false = bool_cases (is_fault_of e) (λ t. absurd (other (fault_is e t))) (λ f. f) in
    let now : b ≡ s.broken = is ∙ calm ∙ sym whole in
    (ap (λ (x : Opened). record x { broken = b }) (same ∙ h.0) ∙ ap (λ (y : Bool). record s { broken = y }) now, h.1)

pub there_after : {mine : ℕ → Type 0} {named : List ℕ → Type 0} (u w : View) (f g : ℕ) → Within mine named u w → HasFile u f → g ≡ f → HasFile w g
there_after u w f g frame has same = subst (λ (k : ℕ). HasFile w k) (sym same) (still_in f frame has)

-- ---- answers

pub if_err_map : {T : Type 0} (r : Result T DbError) (P Q : DbError → Type 0) → ((e : DbError) → P e → Q e) → IfErr r P → IfErr r Q
if_err_map (Ok t) P Q f a = tt
if_err_map (Err e) P Q f a = f e a

pub on_ok_map : {T E : Type 0} (r : Result T E) (A B : Type 0) → (A → B) → OnOk r A → OnOk r B
on_ok_map (Ok t) A B f a = f a
on_ok_map (Err e) A B f a = tt

pub on_ok_always : {T E : Type 0} (r : Result T E) (A : Type 0) → A → OnOk r A
on_ok_always (Ok t) A a = a
on_ok_always (Err e) A a = tt

-- what is due of a deletion, where the content is told
pub absent_told : (v : View) (f : ℕ) (h : Header) (key : List ℕ) (at : ℕ) (bucket : Bucket) (q : Option ℕ) (next : ℕ) → q ≡ None → OnFile v f (λ file. IsFoundIn file h key at bucket q) → OnFile v f (λ file. delete_due (records file) next key ≡ Some ItemNotFound)
absent_told v f h key at bucket q next is found = λ c x told there. absent_due x.bytes key bucket.slots next (found_at v f h key at bucket q None is found c x told there).place

pub present_told : (v : View) (f : ℕ) (h : Header) (key : List ℕ) (at : ℕ) (bucket : Bucket) (q : Option ℕ) (p next : ℕ) → q ≡ Some p → OnFile v f (λ file. IsFoundIn file h key at bucket q)
    → OnFile v f (λ file. delete_due (records file) next key ≡ far_due next (slot_size (get_or bucket.slots p Empty)))
present_told v f h key at bucket q p next is found = λ c x told there. present_due x.bytes key (get_or bucket.slots p Empty) next (found_at v f h key at bucket q (Some p) is found c x told there).place

-- ---- the header

pub grown_header : (h h' : Header) → IsHeader h → h' ≡ record h { next_block = h'.next_block } → h'.next_block ≤ 2 ^ 46 → IsHeader h'
grown_header h h' is same le =
    let grown : IsHeader (record h { next_block = h'.next_block }) = record { block = is.block; bits = is.bits; dir = is.dir; elems = is.elems; next_block = le; least = is.least; most = is.most } in
    subst (λ (k : Header). IsHeader k) (sym same) grown

pub grown_fields : (h h' : Header) → FitsHeader h → h' ≡ record h { next_block = h'.next_block } → h'.next_block ≤ 2 ^ 46 → FitsHeader h'
grown_fields h h' is same le =
    let grown : FitsHeader (record h { next_block = h'.next_block }) = record { format = is.format; block = is.block; dir = is.dir; bits = is.bits; elems = is.elems; next_block = omega (arith, le); avail_size = is.avail_size; words = is.words } in
    subst (λ (k : Header). FitsHeader k) (sym same) grown

-- ---- refusals

or_left : (a b : Bool) → a ≡ true → (a || b) ≡ true
or_left true b h = refl
or_left false b h = absurd cc

read_by : (e : DbError) (f : ℕ) (u v : View) (due : List ℕ → Option DbError) → RefusesRead e u v → RefusedBy e f u v due
read_by e f u v due r = refuses_map e (Rose u.faults v.faults) (content_of u.told ≡ None) (Rose u.faults v.faults) (OnFile u f (λ file. due file ≡ Some e)) (λ h. h) (λ none c x told there. absurd cc) r.cause

-- why a read was refused is why a change was
pub read_deleting : (e : DbError) (f : ℕ) (u v : View) (due : List ℕ → Option DbError) → RefusesRead e u v → RefusedDeleting e f u v due
read_deleting e f u v due r = record {
  kind = or_left (is_of_asking e) (is_full_error e) (or_left (is_of_read e) (is_not_found e) r.kind);
  cause = read_by e f u v due r;
}

pub read_storing : (e : DbError) (f : ℕ) (u v : View) (due : List ℕ → Option DbError) → RefusesRead e u v → RefusedStoring e f u v due
read_storing e f u v due r = record { kind = or_left (is_of_read e) (is_of_change e) r.kind; cause = read_by e f u v due r }

pub fault_deleting : (e : DbError) (f : ℕ) (u v : View) (due : List ℕ → Option DbError) → e ≡ VaultFault → Rose u.faults v.faults → RefusedDeleting e f u v due
fault_deleting e f u v due is rose = subst (λ (d : DbError). RefusedDeleting d f u v due) (sym is) (record { kind = refl; cause = rose })

pub fault_storing : (e : DbError) (f : ℕ) (u v : View) (due : List ℕ → Option DbError) → e ≡ VaultFault → Rose u.faults v.faults → RefusedStoring e f u v due
fault_storing e f u v due is rose = subst (λ (d : DbError). RefusedStoring d f u v due) (sym is) (record { kind = refl; cause = rose })

-- ---- what a refusal tells of the arguments

free_cause : (kinds : DbError → Bool) (e : DbError) (how : How) (next size : ℕ) → kinds TooLarge ≡ false → kinds FileFull ≡ false → kinds CannotReplace ≡ false → kinds e ≡ true → StoreCause e how next size
free_cause kinds e how next size large full there is = record {
  large = λ same. (let no : kinds TooLarge ≡ true = subst (λ (d : DbError). kinds d ≡ true) same is in absurd (cc (no, large)));
  full = λ same. (let no : kinds FileFull ≡ true = subst (λ (d : DbError). kinds d ≡ true) same is in absurd (cc (no, full)));
  there = λ same. (let no : kinds CannotReplace ≡ true = subst (λ (d : DbError). kinds d ≡ true) same is in absurd (cc (no, there)));
}

-- an error of reads or of growth tells nothing of them
pub read_cause : (e : DbError) (how : How) (next size : ℕ) → is_of_read e ≡ true → StoreCause e how next size
read_cause e how next size is = free_cause is_of_read e how next size refl refl refl is

pub room_cause : (e : DbError) (how : How) (next size : ℕ) → is_room_error e ≡ true → StoreCause e how next size
room_cause e how next size is = free_cause is_room_error e how next size refl refl refl is

pub put_kind : (e : DbError) (v : View) → (e ≡ VaultFault) ⊎ ((a : ℕ) × (e ≡ BadAvail a) × TellsNone v) → is_growth_error e ≡ true
put_kind e v why = ⊎_elim (λ (h : e ≡ VaultFault). ap is_growth_error h) (λ (h : (a : ℕ) × (e ≡ BadAvail a) × TellsNone v). ap is_growth_error h.1) why

pub growth_cause : (e : DbError) (how : How) (next size : ℕ) → is_growth_error e ≡ true → StoreCause e how next size
growth_cause e how next size is = free_cause is_growth_error e how next size refl refl refl is

pub put_cause : (e : DbError) (v : View) (how : How) (next size : ℕ) → (e ≡ VaultFault) ⊎ ((a : ℕ) × (e ≡ BadAvail a) × TellsNone v) → StoreCause e how next size
put_cause e v how next size why = growth_cause e how next size (put_kind e v why)

pub key_cause : (how : How) (p : Option ℕ) (crowded : Bool) (e : DbError) (next size : ℕ) → key_due how p crowded ≡ Some e → StoreCause e how next size
key_cause Insert (Some p) crowded e next size is = let same : CannotReplace ≡ e = cc in subst (λ (d : DbError). StoreCause d Insert next size) same (record { large = λ h. absurd cc; full = λ h. absurd cc; there = λ h. refl })
key_cause Replace (Some p) crowded e next size is = absurd cc
key_cause Insert None true e next size is = let same : DirOverflow ≡ e = cc in subst (λ (d : DbError). StoreCause d Insert next size) same (record { large = λ h. absurd cc; full = λ h. absurd cc; there = λ h. absurd cc })
key_cause Insert None false e next size is = absurd cc
key_cause Replace None true e next size is = let same : DirOverflow ≡ e = cc in subst (λ (d : DbError). StoreCause d Replace next size) same (record { large = λ h. absurd cc; full = λ h. absurd cc; there = λ h. absurd cc })
key_cause Replace None false e next size is = absurd cc

pub far_cause : (how : How) (next size : ℕ) → is_too_far next size ≡ true → StoreCause FileFull how next size
far_cause how next size far = record { large = λ h. absurd cc; full = λ h. far; there = λ h. absurd cc }

pub large_cause : (how : How) (next size : ℕ) → 2 ^ 30 < size → StoreCause TooLarge how next size
large_cause how next size large = record { large = λ h. large; full = λ h. absurd cc; there = λ h. absurd cc }

pub recovery_cause : (how : How) (next size : ℕ) → StoreCause NeedRecovery how next size
recovery_cause how next size = record { large = λ h. absurd cc; full = λ h. absurd cc; there = λ h. absurd cc }

pub reader_cause : (how : How) (next size : ℕ) → StoreCause ReaderCant how next size
reader_cause how next size = record { large = λ h. absurd cc; full = λ h. absurd cc; there = λ h. absurd cc }

-- a pair of a bucket's slot is that small
pub far_bound : (next size : ℕ) → size < 2 ^ 32 → is_too_far next size ≡ true → 2 ^ 46 < next + 2 ^ 32 + 2 ^ 29
far_bound next size small far = let far_is = leb-true (2 ^ 46 + 1) (next + size + 2 ^ 29) far in omega (arith, small, far_is)

-- ---- refusals before the first write

memory_alone : (e : DbError) → is_room_error e ≡ true → is_growth_error e ≡ false → e ≡ OutOfMemory
memory_alone Absent h k = absurd cc
memory_alone BlockSize h k = absurd cc
memory_alone ShortFile h k = absurd cc
memory_alone BadMagic h k = absurd cc
memory_alone ByteSwapped h k = absurd cc
memory_alone WrongOffset h k = absurd cc
memory_alone BadHeader h k = absurd cc
memory_alone (BadDirEntry i) h k = absurd cc
memory_alone (BadBucket a) h k = absurd cc
memory_alone (BadHashTable a) h k = absurd cc
memory_alone (BadHashEntry a s) h k = absurd cc
memory_alone (BadAvail a) h k = absurd cc
memory_alone NeedRecovery h k = absurd cc
memory_alone ReaderCant h k = absurd cc
memory_alone ItemNotFound h k = absurd cc
memory_alone CannotReplace h k = absurd cc
memory_alone DirOverflow h k = absurd cc
memory_alone TooLarge h k = absurd cc
memory_alone FileFull h k = absurd cc
memory_alone (Exists w) h k = absurd cc
memory_alone InUse h k = absurd cc
memory_alone NotNumsync h k = absurd cc
memory_alone AlreadyAtomic h k = absurd cc
memory_alone SameName h k = absurd cc
memory_alone InEpoch h k = absurd cc
memory_alone NotOpen h k = absurd cc
memory_alone VaultFault h k = absurd cc
memory_alone ClockFault h k = absurd cc
memory_alone OutOfMemory h k = refl
memory_alone (ClockStood o n) h k = absurd cc

-- an error that isn't one of growth came before the first write
pub room_early : (e : DbError) (A : Type 0) → is_room_error e ≡ true → (e ≡ OutOfMemory → A) → is_growth_error e ≡ false → A
room_early e A room memory calm = memory (memory_alone e room calm)

pub put_early : (e : DbError) (v : View) (A : Type 0) → (e ≡ VaultFault) ⊎ ((a : ℕ) × (e ≡ BadAvail a) × TellsNone v) → is_growth_error e ≡ false → A
put_early e v A why calm = let loud = put_kind e v why in absurd (cc (loud, calm))

-- whether it is broken says nothing else
early_broken : (e : DbError) → is_growth_error e ≡ false → is_fault_of e ≡ false
early_broken Absent h = refl
early_broken BlockSize h = refl
early_broken ShortFile h = refl
early_broken BadMagic h = refl
early_broken ByteSwapped h = refl
early_broken WrongOffset h = refl
early_broken BadHeader h = refl
early_broken (BadDirEntry i) h = refl
early_broken (BadBucket a) h = refl
early_broken (BadHashTable a) h = refl
early_broken (BadHashEntry a s) h = refl
early_broken (BadAvail a) h = refl
early_broken NeedRecovery h = refl
early_broken ReaderCant h = refl
early_broken ItemNotFound h = refl
early_broken CannotReplace h = refl
early_broken DirOverflow h = refl
early_broken TooLarge h = refl
early_broken FileFull h = refl
early_broken (Exists w) h = refl
early_broken InUse h = refl
early_broken NotNumsync h = refl
early_broken AlreadyAtomic h = refl
early_broken SameName h = refl
early_broken InEpoch h = refl
early_broken NotOpen h = refl
early_broken VaultFault h = absurd cc
early_broken ClockFault h = refl
early_broken OutOfMemory h = refl
early_broken (ClockStood o n) h = refl

pub early_as : {T : Type 0} (r : Result T DbError) (u w : View) (s s1 t : Opened) (b : Bool) → t ≡ s1 → b ≡ is_fault r → s.broken ≡ false
    → IfErr r (λ e. is_growth_error e ≡ false → (s1 ≡ s) × OnlyAsks u w) → IfErr r (λ e. is_growth_error e ≡ false → SameButCached s (record t { broken = b }) × OnlyAsks u w)
early_as (Ok x) u w s s1 t b same is whole early = tt
early_as (Err e) u w s s1 t b same is whole early = λ calm.
    let h = early calm in
    let now : b ≡ s.broken = is ∙ early_broken e calm ∙ sym whole in
    (same_cached s (record t { broken = b }) (ap (λ (x : Opened). record x { broken = b }) (same ∙ h.0) ∙ ap (λ (y : Bool). record s { broken = y }) now), h.1)

-- the same but for whether it is broken, in words of what is shown
pub kept_cached : {T : Type 0} (r : Result T DbError) (u w : View) (s t : Opened) → IfErr r (λ e. e ≢ VaultFault → IsAt u (λ _. (t ≡ s) × OnlyAsks u w)) → IfErr r (λ e. e ≢ VaultFault → IsAt u (λ _. SameButCached s t × OnlyAsks u w))
kept_cached (Ok x) u w s t kept = tt
kept_cached (Err e) u w s t kept = λ other k told. let h = kept other k told in (same_cached s t h.0, h.1)

pub kept_now : {T : Type 0} (r : Result T DbError) (u w : View) (s s1 t : Opened) (b : Bool) → t ≡ s1 → b ≡ is_fault r → s.broken ≡ false
    → IfErr r (λ e. e ≢ VaultFault → (s1 ≡ s) × OnlyAsks u w) → IfErr r (λ e. e ≢ VaultFault → SameButCached s (record t { broken = b }) × OnlyAsks u w)
kept_now (Ok x) u w s s1 t b same is whole kept = tt
kept_now (Err e) u w s s1 t b same is whole kept = λ other.
    let h = kept other in
    let calm : is_fault_of e ≡ false = bool_cases (is_fault_of e) (λ loud. absurd (other (fault_is e loud))) (λ f. f) in
    let now : b ≡ s.broken = is ∙ calm ∙ sym whole in
    (same_cached s (record t { broken = b }) (ap (λ (x : Opened). record x { broken = b }) (same ∙ h.0) ∙ ap (λ (y : Bool). record s { broken = y }) now), h.1)

-- it is broken afterwards where it was, or where the answer is a fault
pub breaks_as : (b old loud : Bool) → old ≡ false → b ≡ loud → b ≡ (old || loud)
breaks_as b old loud whole is = rw whole is

pub breaks_not : (old : Bool) → old ≡ (old || false)
breaks_not true = refl
breaks_not false = refl

-- the header after a put, and after room was made before it
pub wider_put : (h h1 h2 : Header) → IsWider h h1 → h2 ≡ record h1 { next_block = h2.next_block } → IsWider h h2
wider_put h h1 h2 one two =
    let dir : h1.dir ≡ h2.dir = sym (ap (λ (k : Header). k.dir) two) in
    let bits : h1.dir_bits ≡ h2.dir_bits = sym (ap (λ (k : Header). k.dir_bits) two) in
    two
    ∙ ap (λ (k : Header). record k { next_block = h2.next_block }) one
    ∙ ap (λ (d : ℕ). record h { dir = d; dir_bits = h1.dir_bits; next_block = h2.next_block }) dir
    ∙ ap (λ (b : ℕ). record h { dir = h2.dir; dir_bits = b; next_block = h2.next_block }) bits

pub wider_end : (h h' : Header) → h' ≡ record h { next_block = h'.next_block } → IsWider h h'
wider_end h h' is = wider_put h h h' refl is
