-- Facts of a store: what stands against it, and the room that is made.
use Rattle.std.proofs.Common.{◌≡◌, ℕ, ◌+◌, ◌^◌, ◌<◌, ◌≤◌, suc, Bool, true, false, List, length, get_or, Option, Some, None, refl, sym, ap, subst, ◌∙◌, arith}
use Rattle.std.specs.Prelude.{◌==◌, is_some, nat_lt, pos}
use Rattle.std.specs.FinMap.{get, insert}
use Rattle.std.proofs.lemmas.Bool.{leb-true, le-leb, lt-leb}
use Rattle.std.proofs.lemmas.Bool.Decides.{Decides-eqb}
use Rattle.std.proofs.lemmas.Nat.{mod_below, pow_pos}
use Rattle.gd_base.specs.declared.errors.DbError.{DbError}
use Rattle.gd_base.specs.declared.errors.DbError.TheVariants.{CannotReplace, DirOverflow, FileFull}
use Rattle.gd_format.specs.declared.Header.{Header}
use Rattle.gd_format.specs.declared.Slot.TheVariants.{Empty}
use Rattle.gd_format.specs.Avail.{Avail}
use Rattle.gd_format.specs.Bucket.{Bucket}
use Rattle.gd_format.specs.First.{or_else}
use Rattle.gd_format.specs.File.{file_fault, front_of, records}
use Rattle.gd_format.specs.Hash.{hash_of}
use Rattle.gd_format.specs.HeaderFault.{header_of, natural}
use Rattle.gd_format.specs.Slots.{count, is_full}
use Rattle.gd_format.specs.Sound.{IsSound, sound_fault, space_fault}
use Rattle.gd_format.proofs.Firsts.{or_else-none}
use Rattle.gd_file_laws.specs.Parts.{file_header}
use Rattle.gd_file_laws.proofs.Lists.{bool_cases}
use Rattle.gd_map_laws.specs.Lookup.{index_of, lookup, slot_records, value_at}
use Rattle.gd_map_laws.specs.Maps.{PairMap, pair_map}
use Rattle.gd_map_laws.specs.Overflow.{is_close, is_near}
use Rattle.gd_map_laws.proofs.Find.{absent_by_count}
use Rattle.gd_map_laws.proofs.Lookup.{index_below, lookup_exact}
use Rattle.gd_map_laws.proofs.Maps.{by_lookup}
use Rattle.gd_map_laws.proofs.Overflow.{overflow_law}
use Rattle.gd_readable.specs.Asks.{Counts}
use Rattle.gd_lookup.specs.Finding.{key_slots}
use Rattle.gd_open.specs.Files as asking
use Rattle.gd_open.proofs.Blocks.{open_header, entry_is}
use Rattle.gd_vault.specs.Content.{File}
use Rattle.gd_vault.specs.Frame.{Within}
use Rattle.gd_vault.specs.Views.{View, HasFile, IsAt, OnlyAsks, content_of}
use Rattle.gd_update.specs.Calls.{CanChange, Changes}
use Rattle.gd_open.specs.Files.{FileBecomes}
use Rattle.gd_update.specs.Open as change
use Rattle.gd_update.proofs.Gone.{open_value}
use Rattle.gd_update.specs.Held.{IsBucketOf, HasBucket}
use Rattle.gd_update.specs.Growth.{IsRoomMade}
use Rattle.gd_store.specs.declared.access.Access.TheVariants.{Writer}
use Rattle.gd_store.specs.declared.access.How.{How}
use Rattle.gd_store.specs.declared.access.How.TheVariants.{Insert, Replace}
use Rattle.gd_store.specs.Changed.{IsReady, Becomes, has_slot, ready_loss, store_loss}
use Rattle.gd_store.specs.Located as located
use Rattle.gd_store.specs.Located.{IsFoundIn}
use Rattle.gd_store.specs.Opened.{Opened, IsOpenOn, Fits, OnFile}
use Rattle.gd_store.specs.Replies.{far_due, is_too_far, key_due, overflows, pair_due, value_of, RefusedStoring}
use Rattle.gd_store.proofs.Changing.{changed, goes_there, is_here, may_change, near_due, slot_key_is, told_before, too_far_due}

-- ---- what stands against a store

same_bools : (a b : Bool) → (a ≡ true → b ≡ true) → (b ≡ true → a ≡ true) → a ≡ b
same_bools true b f g = sym (f refl)
same_bools false true f g = g refl
same_bools false false f g = refl

due_by : {A B : Type 0} (how : How) (a : Option A) (b : Option B) (x y : Bool) → is_some a ≡ is_some b → (b ≡ None → x ≡ y) → key_due how a x ≡ key_due how b y
due_by Insert (Some p) (Some q) x y e f = refl
due_by Replace (Some p) (Some q) x y e f = refl
due_by Insert None None x y e f = rw (f refl) refl
due_by Replace None None x y e f = rw (f refl) refl
due_by how (Some p) None x y e f = absurd cc
due_by how None (Some q) x y e f = absurd cc

pub place_tells : (file key : List ℕ) (bucket : Bucket) (p : Option ℕ) → located.IsPlaceOf file key bucket p → is_some p ≡ is_some (value_of (records file) key)
place_tells file key bucket (Some p) is = sym (ap is_some is.value)
place_tells file key bucket None is = sym (ap is_some is.value)

none_tells : (file key : List ℕ) (bucket : Bucket) (p : Option ℕ) → located.IsPlaceOf file key bucket p → p ≡ None → value_of (records file) key ≡ None
none_tells file key bucket (Some p) is e = absurd cc
none_tells file key bucket None is e = is.value

due_refused : (how : How) (a : Option ℕ) (x : Bool) (e : DbError) (f : ℕ) (u w : View) (due : List ℕ → Option DbError) → key_due how a x ≡ Some e → OnFile u f (λ file. due file ≡ Some e) → RefusedStoring e f u w due
due_refused Insert (Some p) x e f u w due is told = let same : CannotReplace ≡ e = cc in subst (λ (d : DbError). RefusedStoring d f u w due) same (record { kind = refl; cause = λ k y at there. told k y at there ∙ ap Some (sym same) })
due_refused Replace (Some p) x e f u w due is told = absurd cc
due_refused Insert None true e f u w due is told = let same : DirOverflow ≡ e = cc in subst (λ (d : DbError). RefusedStoring d f u w due) same (record { kind = refl; cause = λ k y at there. told k y at there ∙ ap Some (sym same) })
due_refused Insert None false e f u w due is told = absurd cc
due_refused Replace None true e f u w due is told = let same : DirOverflow ≡ e = cc in subst (λ (d : DbError). RefusedStoring d f u w due) same (record { kind = refl; cause = λ k y at there. told k y at there ∙ ap Some (sym same) })
due_refused Replace None false e f u w due is told = absurd cc

-- what is due by the key counts as no fault
pub due_counts : (how : How) (a : Option ℕ) (x : Bool) (e : DbError) (before now : ℕ) → key_due how a x ≡ Some e → now ≡ before → Counts e before now
due_counts Insert (Some p) x e before now is same = let why : CannotReplace ≡ e = cc in subst (λ (d : DbError). Counts d before now) why same
due_counts Replace (Some p) x e before now is same = absurd cc
due_counts Insert None true e before now is same = let why : DirOverflow ≡ e = cc in subst (λ (d : DbError). Counts d before now) why same
due_counts Insert None false e before now is same = absurd cc
due_counts Replace None true e before now is same = let why : DirOverflow ≡ e = cc in subst (λ (d : DbError). Counts d before now) why same
due_counts Replace None false e before now is same = absurd cc

pub none_of : {A : Type 0} (o : Option A) → is_some o ≡ false → o ≡ None
none_of None e = refl
none_of (Some a) e = absurd cc

module _ (file : List ℕ) (h : Header) (key : List ℕ) (at : ℕ) (bucket : Bucket) (p : Option ℕ) (header : h ≡ header_of (front_of file)) (found : IsFoundIn file h key at bucket p) (elems : length bucket.slots ≡ h.elems) where
  elems_is : h.elems ≡ (file_header file).elems
  elems_is = ap (λ (k : Header). k.elems) header

  -- all slots are close exactly where as many other keys are near
  crowd : value_of (records file) key ≡ None → (count (is_close (hash_of key)) bucket.slots == length bucket.slots) ≡ overflows (records file) h.elems key
  crowd absent =
      let law = overflow_law file found.slots.readable key (sym (by_lookup (records file) key) ∙ absent) in
      let slots = ap (count (is_close (hash_of key))) found.slots.slots_are in
      same_bools (count (is_close (hash_of key)) bucket.slots == length bucket.slots) (overflows (records file) h.elems key)
      (λ t.
      let e : count (is_close (hash_of key)) bucket.slots ≡ length bucket.slots = (Decides-eqb (count (is_close (hash_of key)) bucket.slots) (length bucket.slots)).0 t in
      let most = law.1 (sym slots ∙ e ∙ elems ∙ elems_is) in
      le-leb h.elems (count (is_near key) (records file)) (omega (arith, most, elems_is)))
      (λ t.
      let most = leb-true h.elems (count (is_near key) (records file)) t in
      let all = law.0 (omega (arith, most, elems_is)) in
      (Decides-eqb (count (is_close (hash_of key)) bucket.slots) (length bucket.slots)).1 (slots ∙ all ∙ sym elems_is ∙ sym elems))

  pub key_refusal : (how : How) → key_due how p (count (is_close (hash_of key)) bucket.slots == length bucket.slots) ≡ key_due how (value_of (records file) key) (overflows (records file) h.elems key)
  key_refusal how = due_by how p (value_of (records file) key) _ _ (place_tells file key bucket p found.place) crowd

  -- what is due of the pair, by what was seen of the bucket
  pub pair_refusal : (how : How) (next : ℕ) (value : List ℕ)
      → or_else (key_due how p (count (is_close (hash_of key)) bucket.slots == length bucket.slots)) (far_due next (length key + length value)) ≡ pair_due (records file) h.elems next how key value
  pair_refusal how next value = ap (λ (d : Option DbError). or_else d (far_due next (length key + length value))) (key_refusal how)

  -- where the key is absent and the bucket full, it has no slot
  pub no_slot : p ≡ None → count is_full bucket.slots ≡ length bucket.slots → has_slot file key ≡ false
  no_slot none full =
      let absent = ap is_some (none_tells file key bucket p found.place none) in
      let slots = ap (count is_full) found.slots.slots_are in
      let few : nat_lt (count is_full (key_slots file key)) (file_header file).elems ≡ false = lt-leb (suc (count is_full (key_slots file key))) (file_header file).elems (omega (arith, slots, full, elems, elems_is)) in
      rw (absent, few) refl

-- ---- room

readable_of : (file : List ℕ) → IsSound file → file_fault file ≡ None
unfolding sound_fault
readable_of file sound = (or_else-none (file_fault file) (space_fault file (header_of (front_of file))) sound).0

-- the bucket that was found is that of the hash
pub has_bucket : (file : List ℕ) (h : Header) (key : List ℕ) (at : ℕ) (bucket : Bucket) (p : Option ℕ) → h ≡ header_of (front_of file) → IsFoundIn file h key at bucket p → IsBucketOf file h (hash_of key) at bucket
unfolding index_of
has_bucket file h key at bucket p header found =
    let o : asking.IsOpen file h = record { readable = found.slots.readable; header = header } in
    let lt = index_below h key (open_header file h o).bits in
    record { entry = (entry_is file h o (index_of h key) lt).0 ∙ ap pos (sym found.address); block = sym found.bucket }

here_of : (file : List ℕ) (h : Header) (key : List ℕ) (at : ℕ) (bucket : Bucket) → IsBucketOf file h (hash_of key) at bucket → change.IsHere file h at bucket key
unfolding index_of
here_of file h key at bucket is = record { place_is = sym (ap natural is.entry); bucket_is = sym is.block }

absent_here : (file : List ℕ) (h : Header) (table : Avail) (at : ℕ) (bucket : Bucket) (key : List ℕ) → change.IsOpen file h table → change.IsHere file h at bucket key → get (pair_map (records file)) key ≡ None → lookup key (slot_records file bucket.slots) ≡ None
absent_here file h table at bucket key open_ here none =
    let value : value_at file h key ≡ lookup key (records file) = ap (λ (k : Header). value_at file k key) open_.header_is ∙ sym (lookup_exact file (readable_of file open_.sound) key) in
    sym (open_value file h table at bucket key open_ here) ∙ value ∙ sym (by_lookup (records file) key) ∙ none

place_before : (file key : List ℕ) (bucket : Bucket) (p : Option ℕ) → located.IsPlaceOf file key bucket p → change.IsPlaceOf file bucket.slots key p
place_before file key bucket (Some p) is = slot_key_is file key (get_or bucket.slots p Empty) is.own
place_before file key bucket None is = (absent_by_count file bucket.slots key).0 is.none

-- nothing has to be done
pub ready_now : (s : Opened) (file key : List ℕ) (at : ℕ) (bucket : Bucket) (p : Option ℕ) → IsOpenOn s file → s.access ≡ Writer → IsFoundIn file s.header key at bucket p → IsReady file file s.header s.table at bucket key p
ready_now s file key at bucket p opened writer found = record {
  still_open = may_change s file opened writer;
  here = is_here file s.header key at bucket p found;
  place_is = place_before file key bucket p found.place;
  map = refl;
  lost = omega arith;
}

-- the bucket was split
pub ready_split : (old new : List ℕ) (h h' : Header) (table' : Avail) (key : List ℕ) (at at' : ℕ) (bucket bucket' : Bucket) (p : Option ℕ) → h ≡ header_of (front_of old) → IsFoundIn old h key at bucket p → length bucket.slots ≡ h.elems
    → p ≡ None → count is_full bucket.slots ≡ length bucket.slots → IsRoomMade old new h' table' (hash_of key) at' bucket' → IsReady old new h' table' at' bucket' key p
ready_split old new h h' table' key at at' bucket bucket' p header found elems none full made =
    let here = here_of new h' key at' bucket' made.here in
    let absent : get (pair_map (records new)) key ≡ None = ap (λ (m : PairMap). get m key) made.map ∙ none_tells old key bucket p found.place none in
    let lacks : has_slot old key ≡ false = no_slot old h key at bucket p header found elems none full in
    let loss : ready_loss old key ≡ 4032 = rw lacks refl in
    record {
      still_open = made.still_open;
      here = here;
      place_is = subst (λ (q : Option ℕ). change.IsPlaceOf new bucket'.slots key q) (sym none) (absent_here new h' table' at' bucket' key made.still_open here absent);
      map = made.map;
      lost = let l = made.lost in omega (arith, l, loss);
    }

-- ---- over a vault

losses : (file key : List ℕ) → ready_loss file key + 64 ≤ store_loss file key
losses file key = bool_cases (has_slot file key) (λ t. rw t (omega arith)) (λ f. rw f (omega arith))

-- the pair was put
pub stored : (u v w : View) (f : ℕ) (s' : Opened) (h1 : Header) (table1 : Avail) (key value : List ℕ) (at : ℕ) (bucket bucket' : Bucket) (p : Option ℕ) → s'.access ≡ Writer
    → FileBecomes u v f (λ x y. IsReady x y h1 table1 at bucket key p)
    → Changes v w f s'.header s'.table at bucket' (λ x. key) (λ x. insert (pair_map (records x)) key value) 64
    → Becomes u w f s' (λ file. insert (pair_map (records file)) key value) (λ file. store_loss file key)
stored u v w f s' h1 table1 key value at bucket bucket' p writer ready changes = λ c x told there.
    let r = ready c x told there in
    let n = changes r.content r.file r.told r.there in
    let done = changed s' r.file.bytes n.file.bytes at bucket' key (insert (pair_map (records r.file.bytes)) key value) 64 writer n.holds in
    let a = r.holds.lost in
    let b = n.holds.lost in
    let l = losses x.bytes key in
    record {
      content = n.content;
      file = n.file;
      told = n.told;
      there = n.there;
      holds = record {
        is_open = done.is_open;
        map_is = done.map_is ∙ ap (λ (m : PairMap). insert m key value) r.holds.map;
        lost = omega (arith, a, b, l);
      };
    }

-- ---- what a store's calls need

pub hash_below : (key : List ℕ) → hash_of key < 2 ^ 31
unfolding hash_of
hash_below key = mod_below _ (2 ^ 31) (pow_pos 31)

pub open_for : (u : View) (s t : Opened) → t ≡ s → IsAt u (λ k. (x : File) → k.files s.file ≡ Some x → change.IsOpen x.bytes s.header s.table) → IsAt u (λ k. (x : File) → k.files t.file ≡ Some x → change.IsOpen x.bytes t.header t.table)
open_for u s t same h = subst (λ (o : Opened). IsAt u (λ k. (x : File) → k.files o.file ≡ Some x → change.IsOpen x.bytes o.header o.table)) (sym same) h

pub bucket_for : (u : View) (s t : Opened) (hash at : ℕ) (bucket : Bucket) → t ≡ s → HasBucket u s.file s.header hash at bucket → HasBucket u t.file t.header hash at bucket
bucket_for u s t hash at bucket same h = subst (λ (o : Opened). HasBucket u o.file o.header hash at bucket) (sym same) h

pub becomes_for : (u w : View) (f g : ℕ) (R : List ℕ → List ℕ → Type 0) → g ≡ f → FileBecomes u w g R → FileBecomes u w f R
becomes_for u w f g R same h = subst (λ (k : ℕ). FileBecomes u w k R) same h

pub room_open : (u : View) (s : Opened) → Fits u s → s.broken ≡ false → s.access ≡ Writer → IsAt u (λ k. (x : File) → k.files s.file ≡ Some x → change.IsOpen x.bytes s.header s.table)
room_open u s fits whole writer k told x there = may_change s x.bytes (fits whole k x told there) writer

-- where a key was found, in an open database
pub record IsFound (u : View) (s : Opened) (key : List ℕ) (hash at : ℕ) (bucket : Bucket) (p : Option ℕ) : Type 0 where
  pub fits : Fits u s
  pub whole : s.broken ≡ false
  pub hash_is : hash ≡ hash_of key
  pub elems : length bucket.slots ≡ s.header.elems
  pub found : OnFile u s.file (λ file. IsFoundIn file s.header key at bucket p)

module _ (u : View) (s : Opened) (key : List ℕ) (hash at : ℕ) (bucket : Bucket) (p : Option ℕ) (f : IsFound u s key hash at bucket p) where
  pub room_bucket : HasBucket u s.file s.header hash at bucket
  room_bucket k x told there = subst (λ (n : ℕ). IsBucketOf x.bytes s.header n at bucket) (sym f.hash_is) (has_bucket x.bytes s.header key at bucket p (f.fits f.whole k x told there).header (f.found k x told there))

  pub ready_after : (w : View) (h' : Header) (table' : Avail) (at' : ℕ) (bucket' : Bucket) (p' : Option ℕ) → p ≡ None → p' ≡ p → count is_full bucket.slots ≡ length bucket.slots
      → FileBecomes u w s.file (λ xs ys. IsRoomMade xs ys h' table' hash at' bucket') → FileBecomes u w s.file (λ xs ys. IsReady xs ys h' table' at' bucket' key p')
  ready_after w h' table' at' bucket' p' none same full turns k x told there =
      let t = turns k x told there in
      let made = subst (λ (n : ℕ). IsRoomMade x.bytes t.file.bytes h' table' n at' bucket') f.hash_is t.holds in
      let r = ready_split x.bytes t.file.bytes s.header h' table' key at at' bucket bucket' p (f.fits f.whole k x told there).header (f.found k x told there) f.elems none full made in
      record { content = t.content; file = t.file; told = t.told; there = t.there; holds = subst (λ (q : Option ℕ). IsReady x.bytes t.file.bytes h' table' at' bucket' key q) (sym same) r }

  pub slot_lacks : p ≡ None → count is_full bucket.slots ≡ length bucket.slots → OnFile u s.file (λ file. has_slot file key ≡ false)
  slot_lacks none full k x told there = no_slot x.bytes s.header key at bucket p (f.fits f.whole k x told there).header (f.found k x told there) f.elems none full

  pub ready_here : s.access ≡ Writer → FileBecomes u u s.file (λ xs ys. IsReady xs ys s.header s.table at bucket key p)
  ready_here writer k x told there = record { content = k; file = x; told = told; there = there; holds = ready_now s x.bytes key at bucket p (f.fits f.whole k x told there) writer (f.found k x told there) }

  -- what is due, by what was seen
  pub due_told : (how : How) (next : ℕ) (value : List ℕ)
      → OnFile u s.file (λ file. or_else (key_due how p (count (is_close hash) bucket.slots == length bucket.slots)) (far_due next (length key + length value)) ≡ pair_due (records file) s.header.elems next how key value)
  due_told how next value k x told there =
      ap (λ (n : ℕ). or_else (key_due how p (count (is_close n) bucket.slots == length bucket.slots)) (far_due next (length key + length value))) f.hash_is
      ∙ pair_refusal x.bytes s.header key at bucket p (f.fits f.whole k x told there).header (f.found k x told there) f.elems how next value

  key_refused : (how : How) (next : ℕ) (value : List ℕ) (e : DbError) → key_due how p (count (is_close hash) bucket.slots == length bucket.slots) ≡ Some e → OnFile u s.file (λ file. pair_due (records file) s.header.elems next how key value ≡ Some e)
  key_refused how next value e is k x told there = sym (due_told how next value k x told there) ∙ ap (λ (d : Option DbError). or_else d (far_due next (length key + length value))) is

  far_refused : (how : How) (next : ℕ) (value : List ℕ) → key_due how p (count (is_close hash) bucket.slots == length bucket.slots) ≡ None → is_too_far next (length key + length value) ≡ true
      → OnFile u s.file (λ file. pair_due (records file) s.header.elems next how key value ≡ Some FileFull)
  far_refused how next value is far k x told there = sym (due_told how next value k x told there) ∙ ap (λ (d : Option DbError). or_else d (far_due next (length key + length value))) is ∙ too_far_due next (length key + length value) far

  pub none_due_told : (how : How) (next : ℕ) (value : List ℕ) → key_due how p (count (is_close hash) bucket.slots == length bucket.slots) ≡ None → is_too_far next (length key + length value) ≡ false
      → OnFile u s.file (λ file. pair_due (records file) s.header.elems next how key value ≡ None)
  none_due_told how next value is near k x told there = sym (due_told how next value k x told there) ∙ ap (λ (d : Option DbError). or_else d (far_due next (length key + length value))) is ∙ near_due next (length key + length value) near

  pub key_refusal_told : (w : View) (how : How) (next : ℕ) (value : List ℕ) (e : DbError) → key_due how p (count (is_close hash) bucket.slots == length bucket.slots) ≡ Some e
      → RefusedStoring e s.file u w (λ file. pair_due (records file) s.header.elems next how key value)
  key_refusal_told w how next value e is = due_refused how p (count (is_close hash) bucket.slots == length bucket.slots) e s.file u w (λ file. pair_due (records file) s.header.elems next how key value) is (key_refused how next value e is)

  pub far_refusal_told : (w : View) (how : How) (next : ℕ) (value : List ℕ) → key_due how p (count (is_close hash) bucket.slots == length bucket.slots) ≡ None → is_too_far next (length key + length value) ≡ true
      → RefusedStoring FileFull s.file u w (λ file. pair_due (records file) s.header.elems next how key value)
  far_refusal_told w how next value is far = record { kind = refl; cause = far_refused how next value is far }

-- ---- over calls that ask

pub fits_asked : (u v : View) (s t : Opened) → t ≡ s → OnlyAsks u v → Fits u s → Fits v t
fits_asked u v s t same asks fits = subst (λ (o : Opened). Fits v o) (sym same) (λ whole k x told there. fits whole k x (told_before u v k asks told) there)

pub found_asked : (u v : View) (s t : Opened) (key : List ℕ) (at : ℕ) (bucket : Bucket) (p : Option ℕ) → t ≡ s → OnlyAsks u v → OnFile u s.file (λ file. IsFoundIn file s.header key at bucket p) → OnFile v t.file (λ file. IsFoundIn file t.header key at bucket p)
found_asked u v s t key at bucket p same asks found = subst (λ (o : Opened). OnFile v o.file (λ file. IsFoundIn file o.header key at bucket p)) (sym same) (λ k x told there. found k x (told_before u v k asks told) there)

-- what was made ready may be changed
pub can_put : {mine : ℕ → Type 0} {named : List ℕ → Type 0} (v w : View) (f : ℕ) (s t : Opened) (key : List ℕ) (at : ℕ) (bucket : Bucket) (p : Option ℕ) → Within mine named v w → HasFile v f → t ≡ s → s.file ≡ f
    → FileBecomes v w f (λ xs ys. IsReady xs ys s.header s.table at bucket key p) → CanChange w t.file t.header t.table at bucket (λ x. key)
can_put v w f s t key at bucket p frame has same file_is goes =
    subst (λ (o : Opened). CanChange w o.file o.header o.table at bucket (λ x. key)) (sym same)
    (λ d y told there.
    let r = goes_there v w f (λ xs ys. IsReady xs ys s.header s.table at bucket key p) frame has goes d y told (ap d.files (sym file_is) ∙ there) in
    (r.1.still_open, r.1.here))

pub put_place : {mine : ℕ → Type 0} {named : List ℕ → Type 0} (v w : View) (f g : ℕ) (h : Header) (table : Avail) (key : List ℕ) (at : ℕ) (bucket : Bucket) (p : Option ℕ) → Within mine named v w → HasFile v f → g ≡ f
    → FileBecomes v w f (λ xs ys. IsReady xs ys h table at bucket key p) → IsAt w (λ d. (y : File) → d.files g ≡ Some y → change.IsPlaceOf y.bytes bucket.slots key p)
put_place v w f g h table key at bucket p frame has same goes d told y there = (goes_there v w f (λ xs ys. IsReady xs ys h table at bucket key p) frame has goes d y told (ap d.files (sym same) ∙ there)).1.place_is

-- after a look-up, room and a put
pub stored_after : (u v w x : View) (f f1 f2 : ℕ) (s' : Opened) (h1 : Header) (table1 : Avail) (key value : List ℕ) (at : ℕ) (bucket bucket' : Bucket) (p : Option ℕ) → f1 ≡ f → f2 ≡ f → OnlyAsks u v → s'.access ≡ Writer
    → FileBecomes v w f1 (λ xs ys. IsReady xs ys h1 table1 at bucket key p)
    → Changes w x f2 s'.header s'.table at bucket' (λ y. key) (λ y. insert (pair_map (records y)) key value) 64
    → Becomes u x f s' (λ file. insert (pair_map (records file)) key value) (λ file. store_loss file key)
stored_after u v w x f f1 f2 s' h1 table1 key value at bucket bucket' p first second asks writer ready changes =
    stored u w x f s' h1 table1 key value at bucket bucket' p writer
    (λ k y told there. subst (λ (n : ℕ). FileBecomes v w n (λ xs ys. IsReady xs ys h1 table1 at bucket key p)) first ready k y (ap content_of asks.told ∙ told) there)
    (subst (λ (n : ℕ). Changes w x n s'.header s'.table at bucket' (λ y. key) (λ y. insert (pair_map (records y)) key value) 64) second changes)
