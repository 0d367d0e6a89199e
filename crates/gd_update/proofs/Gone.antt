-- The slot that goes, in an open file.
use Rattle.std.proofs.Common.{◌≡◌, ℕ, ◌+◌, ◌-◌, ◌/◌, ◌<◌, ◌≤◌, ◌^◌, true, false, ◌||◌, List, [], ◌∷◌, length, get_or, Option, Some, None, refl, sym, ap, subst, ◌∙◌, inl, inr, arith}
use Rattle.std.specs.Prelude.{IfSome, IfNone, nat_le, ◌==◌}
use Rattle.std.proofs.lemmas.Bool.{cases_lt, leb-true}
use Rattle.gd_format.specs.declared.Header.{Header}
use Rattle.gd_format.specs.declared.Extent.{Extent}
use Rattle.gd_format.specs.declared.Slot.{Slot}
use Rattle.gd_format.specs.declared.Slot.TheVariants.{Empty, Full}
use Rattle.gd_format.specs.Avail.{Avail, avail_at}
use Rattle.gd_format.specs.Bucket.{Bucket, slots_at}
use Rattle.gd_format.specs.Covers.{cover, has_byte}
use Rattle.gd_format.specs.Field.{bytes_at}
use Rattle.gd_format.specs.File.{front_of, entry_at, block_of, run_at}
use Rattle.gd_format.specs.FreeSide.{FreeLists, StackBlock, free_extents}
use Rattle.gd_format.specs.Hash.{hash_of}
use Rattle.gd_format.specs.HeaderFault.{header_of}
use Rattle.gd_format.specs.Slots.{SameSlots, is_full, hash_in}
use Rattle.gd_format.specs.Sound.{extent, table_of, most_of}
use Rattle.gd_format.proofs.Firsts.{and-true}
use Rattle.gd_map_laws.specs.Lookup.{index_of, lookup, slot_records, value_at}
use Rattle.gd_map_laws.specs.Slots.{AreSlotsRight, is_bad, is_good, is_place_in, is_slot_key}
use Rattle.gd_map_laws.specs.Space.{one_if}
use Rattle.gd_map_laws.specs.Update.{pairs_of}
use Rattle.gd_map_laws.proofs.Find.{present, fields_of_key, count_zero_at}
use Rattle.gd_map_laws.proofs.Slots.{of_bucket, not_false}
use Rattle.gd_map_laws.proofs.Stays.{has_in, within_ends}
use Rattle.gd_bucket.proofs.Holes.{full_in}
use Rattle.gd_space.specs.Calls.{free_lists}
use Rattle.gd_space.specs.Effect.{Moves}
use Rattle.gd_space.proofs.Changes.{stays_apart}
use Rattle.gd_update.specs.Open.{IsOpen, IsHere, IsPlaceOf, MayGoBack, slot_extents, slot_key, slot_size}
use Rattle.gd_update.specs.KeepSound.{HasBlocks}
use Rattle.gd_update.proofs.Bases as base

-- the header of an open file is the one that it reads as
abbrev own : List ℕ → Header
own file = header_of (front_of file)

own_table : (file : List ℕ) (h : Header) (table : Avail) → IsOpen file h table → table ≡ avail_at (table_of file (own file)) (most_of (own file))
own_table file h table open_ = subst (λ (k : Header). table ≡ avail_at (table_of file k) (most_of k)) open_.header_is open_.table_is

own_here : (file : List ℕ) (h : Header) (table : Avail) (at : ℕ) (bucket : Bucket) (key : List ℕ) → IsOpen file h table → IsHere file h at bucket key → IsHere file (own file) at bucket key
own_here file h table at bucket key open_ here = subst (λ (k : Header). IsHere file k at bucket key) open_.header_is here

-- its free side
pub open_blocks : (file : List ℕ) (h : Header) (table : Avail) (at : ℕ) (bucket : Bucket) (key : List ℕ) → IsOpen file h table → IsHere file h at bucket key → (blocks : List StackBlock) × HasBlocks file h table blocks bucket
open_blocks file h table at bucket key open_ here =
    let b = base.has_blocks file table at bucket key open_.sound (own_table file h table open_) (own_here file h table at bucket key open_ here) in
    (b.0, subst (λ (k : Header). HasBlocks file k table b.0 bucket) (sym open_.header_is) b.1)

-- the bucket ends in time
pub open_place : (file : List ℕ) (h : Header) (table : Avail) (at : ℕ) (bucket : Bucket) (key : List ℕ) → IsOpen file h table → IsHere file h at bucket key → at ≤ h.next_block
open_place file h table at bucket key open_ here =
    let mine = own_here file h table at bucket key open_ here in
    let f = base.file file table at bucket key open_.sound (own_table file h table open_) mine in
    let below = base.in_range file table at bucket key open_.sound (own_table file h table open_) mine in
    let ends = within_ends (entry_at file (own file) (index_of (own file) key)) (length file - (own file).block) (f.parts.dir.in_file (index_of (own file) key) below) in
    let short = f.short in
    let place = mine.place_is in
    let next = ap (λ (k : Header). k.next_block) open_.header_is in
    omega (arith, ends, short, place, next)

-- its slots are right
pub open_slots : (file : List ℕ) (h : Header) (table : Avail) (at : ℕ) (bucket : Bucket) (key : List ℕ) → IsOpen file h table → IsHere file h at bucket key
    → AreSlotsRight file bucket.bits (index_of (own file) key / run_at file (own file) (index_of (own file) key)) h.elems bucket.slots
open_slots file h table at bucket key open_ here =
    let mine = own_here file h table at bucket key open_ here in
    let t = own_table file h table open_ in
    let f = base.file file table at bucket key open_.sound t mine in
    let below = base.in_range file table at bucket key open_.sound t mine in
    let right = of_bucket file (own file) (block_of file (own file) (index_of (own file) key)) (index_of (own file) key / run_at file (own file) (index_of (own file) key)) (f.parts.buckets (index_of (own file) key) below) in
    let bits = base.bits_here file table at bucket key open_.sound t mine in
    let slots = base.slots_here file table at bucket key open_.sound t mine in
    let top : ℕ = index_of (own file) key / run_at file (own file) (index_of (own file) key) in
    let one : AreSlotsRight file bucket.bits (index_of (own file) key / run_at file (own file) (index_of (own file) key)) (own file).elems (slots_at (block_of file (own file) (index_of (own file) key)) (own file).elems) = subst (λ (b : ℕ). AreSlotsRight file b (index_of (own file) key / run_at file (own file) (index_of (own file) key)) (own file).elems (slots_at (block_of file (own file) (index_of (own file) key)) (own file).elems)) bits right in
    let two : AreSlotsRight file bucket.bits (index_of (own file) key / run_at file (own file) (index_of (own file) key)) (own file).elems bucket.slots = subst (λ (xs : List Slot). AreSlotsRight file bucket.bits (index_of (own file) key / run_at file (own file) (index_of (own file) key)) (own file).elems xs) slots one in
    subst (λ (k : Header). AreSlotsRight file bucket.bits (index_of (own file) key / run_at file (own file) (index_of (own file) key)) k.elems bucket.slots) (sym open_.header_is) two

pub open_value : (file : List ℕ) (h : Header) (table : Avail) (at : ℕ) (bucket : Bucket) (key : List ℕ) → IsOpen file h table → IsHere file h at bucket key → value_at file h key ≡ lookup key (slot_records file bucket.slots)
unfolding value_at
open_value file h table at bucket key open_ here =
    let mine = own_here file h table at bucket key open_ here in
    let slots = base.slots_here file table at bucket key open_.sound (own_table file h table open_) mine in
    ap (λ (k : Header). lookup key (slot_records file (slots_at (block_of file k (index_of k key)) k.elems))) open_.header_is ∙ ap (λ (xs : List Slot). lookup key (slot_records file xs)) slots

-- what is known of the slot that goes
pub record GoneIs (file : List ℕ) (h : Header) (key : List ℕ) (gone : Slot) : Type 0 where
  pub gone_is : slot_records file (gone ∷ []) ≡ pairs_of key (value_at file h key)
  pub hash_is : is_full gone ≡ true → hash_of key ≡ hash_in gone
  pub size : slot_size gone ≤ 2 ^ 30

good_size : (file : List ℕ) (bits top hash : ℕ) (start : List ℕ) (at k v : ℕ) → is_good file bits top (Full hash start at k v) ≡ true → k + v ≤ 2 ^ 30
unfolding is_place_in
good_size file bits top hash start at k v good =
    let place = (and-true (is_place_in (length file) at (k + v)) (is_slot_key bits top hash start (bytes_at file at k)) good).0 in
    leb-true (k + v) (2 ^ 30) (and-true (nat_le (k + v) (2 ^ 30)) (k + v == 0 || nat_le (at + (k + v)) (length file)) place).0

slot_gone : (file : List ℕ) (h : Header) (key : List ℕ) (bits top elems : ℕ) (slots : List Slot) (p : ℕ) (gone : Slot) → AreSlotsRight file bits top elems slots → value_at file h key ≡ lookup key (slot_records file slots)
    → p < length slots → get_or slots p Empty ≡ gone → is_full gone ≡ true → slot_key file gone ≡ key → GoneIs file h key gone
slot_gone file h key bits top elems slots p Empty right value lt is full same = absurd (let no : false ≡ true = full in cc)
slot_gone file h key bits top elems slots p (Full hash start at k v) right value lt is full same =
    let there = present file bits top elems slots key p hash start at k v right lt is same in
    let fields = fields_of_key file bits top elems slots key p hash start at k v right lt is same in
    let bad = count_zero_at (is_bad file bits top) slots Empty p right.good lt in
    let good : is_good file bits top (Full hash start at k v) ≡ true = not_false (is_good file bits top (Full hash start at k v)) (sym (ap (is_bad file bits top) is) ∙ bad) in
    record {
      gone_is = rw (same, value ∙ there) refl;
      hash_is = λ f. sym fields.hash_is;
      size = good_size file bits top hash start at k v good;
    }

pub gone_of : (file : List ℕ) (h : Header) (table : Avail) (at : ℕ) (bucket : Bucket) (key : List ℕ) (place : Option ℕ) (gone : Slot) → IsOpen file h table → IsHere file h at bucket key
    → IfSome place (λ p. is_full (get_or bucket.slots p Empty) ≡ true) → IfSome place (λ p. gone ≡ get_or bucket.slots p Empty) → IfNone place (gone ≡ Empty) → IsPlaceOf file bucket.slots key place → GoneIs file h key gone
gone_of file h table at bucket key (Some p) gone open_ here full is none same =
    let right = open_slots file h table at bucket key open_ here in
    let value = open_value file h table at bucket key open_ here in
    subst (λ (s : Slot). GoneIs file h key s) (sym is) (slot_gone file h key bucket.bits _ h.elems bucket.slots p (get_or bucket.slots p Empty) right value (full_in bucket.slots p full) refl full same)
gone_of file h table at bucket key None gone open_ here full is none same =
    let value = open_value file h table at bucket key open_ here in
    let absent : value_at file h key ≡ None = value ∙ same in
    subst (λ (s : Slot). GoneIs file h key s) (sym none) (record { gone_is = rw absent refl; hash_is = λ f. absurd (let no : false ≡ true = f in cc); size = omega arith })

-- ---- giving it back

one_here : (at n b : ℕ) → at ≤ b → b < at + n → cover (extent at n ∷ []) b ≡ 1
one_here at n b low high = let e = has_in at n b low high in rw e refl

may_from : (block next : ℕ) (free : List Extent) (gone : Slot) → 0 < block → slot_size gone ≤ 2 ^ 30 → ((b : ℕ) → one_if (has_byte (extent 0 block) b) + cover (slot_extents gone) b ≤ 1) → ((b : ℕ) → cover free b + cover (slot_extents gone) b ≤ 1)
    → ((b : ℕ) → 0 < cover (slot_extents gone) b → b < next) → MayGoBack next free gone
may_from block next free Empty some small head once below = tt
may_from block next free (Full hash start at k v) some small head once below = λ bytes.
    let last = below (at + (k + v - 1)) (let o = one_here at (k + v) (at + (k + v - 1)) (omega arith) (omega (arith, bytes)) in omega (arith, o)) in
    record {
      start = λ s.
          elim (cases_lt 0 at) [
            | inl low ↦ low
            | inr zero_ ↦
                let z : at ≡ 0 = omega (arith, zero_) in
                let one = one_here at (k + v) 0 (omega (arith, z)) (omega (arith, z, s)) in
                let two : one_if (has_byte (extent 0 block) 0) ≡ 1 = (let e = has_in 0 block 0 (omega arith) (omega (arith, some)) in rw e refl) in
                let h = head 0 in
                absurd (omega (arith, one, two, h))
          ];
      fits = omega (arith, small);
      ends = omega (arith, last, bytes);
      once = once;
    }

pub may_back : (file : List ℕ) (h : Header) (table : Avail) (at : ℕ) (bucket : Bucket) (key : List ℕ) (blocks : List StackBlock) (gone : Slot) (rest : List Slot) (next1 : ℕ) (s1 : FreeLists) (taken : List Extent) (lost : ℕ) → IsOpen file h table → IsHere file h at bucket key
    → HasBlocks file h table blocks bucket → SameSlots bucket.slots (gone ∷ rest) → Moves (free_extents (free_lists table.extents blocks bucket.free)) (free_extents s1) h.next_block next1 [] taken lost → slot_size gone ≤ 2 ^ 30 → MayGoBack next1 (free_extents s1) gone
may_back file h table at bucket key blocks gone rest next1 s1 taken lost open_ here has before moves small =
    let mine = own_here file h table at bucket key open_ here in
    let t = own_table file h table open_ in
    let own_has = subst (λ (k : Header). HasBlocks file k table blocks bucket) open_.header_is has in
    let apart = base.apart file table at bucket key open_.sound t mine blocks own_has gone rest before in
    let own_moves : Moves (free_extents (free_lists table.extents blocks bucket.free)) (free_extents s1) (own file).next_block next1 [] taken lost = subst (λ (k : Header). Moves (free_extents (free_lists table.extents blocks bucket.free)) (free_extents s1) k.next_block next1 [] taken lost) open_.header_is moves in
    let after = stays_apart (base.used file table at bucket key open_.sound t mine blocks own_has gone rest before) (free_extents (free_lists table.extents blocks bucket.free)) (free_extents s1) [] taken (own file).next_block next1 lost own_moves apart in
    let some = base.block_some file table at bucket key open_.sound t mine in
    may_from (own file).block next1 (free_extents s1) gone (omega (arith, some)) small
    (λ b. (let o = after.once b in omega (arith, o)))
    (λ b. (let o = after.once b in omega (arith, o)))
    (λ b has_. after.below b (omega (arith, has_)))
