-- The file before a change, and its bucket.
use Rattle.std.proofs.Common.{◌≡◌, ℕ, ◌+◌, ◌<◌, ◌≤◌, List, [], ◌∷◌, ◌++◌, length, refl, sym, ap, subst, ◌∙◌, arith}
use Rattle.gd_format.specs.declared.Header.{Header}
use Rattle.gd_format.specs.declared.Extent.{Extent}
use Rattle.gd_format.specs.declared.Slot.{Slot}
use Rattle.gd_format.specs.declared.Slot.TheVariants.{Empty, Full}
use Rattle.gd_format.specs.Avail.{Avail, avail_at, extents_at}
use Rattle.gd_format.specs.Bucket.{Bucket, bucket_at, slots_at}
use Rattle.gd_format.specs.Covers.{cover, size_sum, has_byte}
use Rattle.gd_format.specs.Field.{bytes_at}
use Rattle.gd_format.specs.File.{front_of, entries_of, block_of, bits_at}
use Rattle.gd_format.specs.FreeSide.{FreeLists, StackBlock, IsFreeSide, free_extents, stack_extents}
use Rattle.gd_format.specs.HeaderFault.{header_of}
use Rattle.gd_format.specs.Slots.{count, SameSlots}
use Rattle.gd_format.specs.Sound.{IsSound, extent, table_of, top_of, most_of}
use Rattle.gd_file_laws.proofs.Headers.{header_in}
use Rattle.gd_file_laws.proofs.Points.{sound_parts}
use Rattle.gd_map_laws.specs.Lookup.{index_of}
use Rattle.gd_map_laws.specs.Space.{one_if, slot_has, block_has, free_of, free_in, all_cover}
use Rattle.gd_map_laws.specs.Frame.{touched_of}
use Rattle.gd_map_laws.specs.Change.{place_of, IsSoundFile}
use Rattle.gd_map_laws.specs.Sounds.{pool_of, lists_of}
use Rattle.gd_map_laws.specs.Sums.{slot_sizes, free_size}
use Rattle.gd_map_laws.proofs.Lookup.{index_below}
use Rattle.gd_map_laws.proofs.Sounds.{sound_blocks, has_side}
use Rattle.gd_map_laws.proofs.Stays.{touched-le, bucket_in_all}
use Rattle.gd_map_laws.proofs.WholeSplit.{file_is}
use Rattle.gd_space.proofs.Stacks.{avail-extents, avail-next}
use Rattle.gd_format.proofs.Covers.{cover-append, size_sum-append}
use Rattle.gd_space.proofs.Tooks.{cover-side, size_sum-side}
use Rattle.gd_space.specs.Calls.{free_lists}
use Rattle.gd_space.specs.SpaceLaws.{IsApart}
use Rattle.gd_update.specs.Open.{IsHere, slot_extents}
use Rattle.gd_update.specs.KeepSound.{HasBlocks}

-- ---- slots

pub gone_cover : (gone : Slot) (b : ℕ) → count (slot_has b) (gone ∷ []) ≡ cover (slot_extents gone) b
gone_cover Empty b = refl
gone_cover (Full hash start at k v) b = refl

pub gone_sum : (gone : Slot) → slot_sizes (gone ∷ []) ≡ size_sum (slot_extents gone)
gone_sum Empty = refl
gone_sum (Full hash start at k v) = refl

-- ---- the bucket of an entry by its block

pub block_here : (file : List ℕ) (h : Header) (i at : ℕ) → at ≡ place_of file h i → bytes_at file at h.block ≡ block_of file h i
unfolding block_of
block_here file h i at is = ap (λ (k : ℕ). bytes_at file k h.block) is

pub free-block : (block : List ℕ) (elems : ℕ) (bucket : Bucket) → bucket_at block elems ≡ bucket → free_in block ≡ bucket.free
unfolding bucket_at
free-block block elems bucket is = ap (λ (b : Bucket). b.free) is

pub slots-block : (block : List ℕ) (elems : ℕ) (bucket : Bucket) → bucket_at block elems ≡ bucket → slots_at block elems ≡ bucket.slots
unfolding bucket_at
slots-block block elems bucket is = ap (λ (b : Bucket). b.slots) is

pub bits-block : (block : List ℕ) (elems : ℕ) (bucket : Bucket) → bucket_at block elems ≡ bucket → bits_at block ≡ bucket.bits
unfolding bucket_at
bits-block block elems bucket is = ap (λ (b : Bucket). b.bits) is

pub free-is : (file : List ℕ) (h : Header) (i : ℕ) → free_of file h i ≡ free_in (block_of file h i)
unfolding free_of
free-is file h i = refl

pub avail-room : (block : List ℕ) (most : ℕ) → (avail_at block most).room ≡ most
unfolding avail_at
avail-room block most = refl

-- ---- an open file

module _ (old : List ℕ) (table : Avail) (at : ℕ) (bucket : Bucket) (key : List ℕ) (sound : IsSound old)
    (table_is : table ≡ avail_at (table_of old (header_of (front_of old))) (most_of (header_of (front_of old)))) (here : IsHere old (header_of (front_of old)) at bucket key) where
  abbrev h : Header
  h = header_of (front_of old)

  abbrev i : ℕ
  i = index_of h key

  pub file : IsSoundFile old h h.next_block (pool_of old h)
  file = file_is old sound

  pub in_range : i < entries_of h
  in_range = index_below h key file.bits

  pub read_is : bucket_at (block_of old h i) h.elems ≡ bucket
  read_is = ap (λ (b : List ℕ). bucket_at b h.elems) (sym (block_here old h i at here.place_is)) ∙ sym here.bucket_is

  pub free_here : free_of old h i ≡ bucket.free
  free_here = free-is old h i ∙ free-block (block_of old h i) h.elems bucket read_is

  pub slots_here : slots_at (block_of old h i) h.elems ≡ bucket.slots
  slots_here = slots-block (block_of old h i) h.elems bucket read_is

  pub bits_here : bits_at (block_of old h i) ≡ bucket.bits
  bits_here = bits-block (block_of old h i) h.elems bucket read_is

  pub extents_here : extents_at (table_of old h) ≡ table.extents
  extents_here = sym (avail-extents (table_of old h) (most_of h)) ∙ sym (ap (λ (t : Avail). t.extents) table_is)

  pub top_here : top_of old h ≡ table.next_block
  top_here = sym (avail-next (table_of old h) (most_of h)) ∙ sym (ap (λ (t : Avail). t.next_block) table_is)

  -- the blocks of its stack
  pub has_blocks : (blocks : List StackBlock) × HasBlocks old h table blocks bucket
  has_blocks =
      let b = sound_blocks old sound in
      let blocks = b.0 in
      let side : IsFreeSide old h (top_of old h) (lists_of old h blocks (free_of old h i)) = has_side old h blocks b.1 i in_range in
      let one : IsFreeSide old h table.next_block (lists_of old h blocks (free_of old h i)) = subst (λ (t : ℕ). IsFreeSide old h t (lists_of old h blocks (free_of old h i))) top_here side in
      let two : IsFreeSide old h table.next_block (free_lists table.extents blocks (free_of old h i)) = subst (λ (es : List Extent). IsFreeSide old h table.next_block (free_lists es blocks (free_of old h i))) extents_here one in (
        blocks,
        record {
          pool = b.2 ∙ ap (λ (es : List Extent). es ++ stack_extents blocks) extents_here;
          side = subst (λ (es : List Extent). IsFreeSide old h table.next_block (free_lists table.extents blocks es)) free_here two;
        },
      )

  pub block_some : 512 ≤ h.block
  block_some = (header_in (front_of old) (length old) (sound_parts old sound).header).least

  module _ (blocks : List StackBlock) (has : HasBlocks old h table blocks bucket) (gone : Slot) (rest : List Slot) (before : SameSlots bucket.slots (gone ∷ rest)) where
    abbrev s : FreeLists
    s = free_lists table.extents blocks bucket.free

    pub before_here : SameSlots (slots_at (block_of old h i) h.elems) (gone ∷ rest)
    before_here = rw slots_here before

    pub cover_free : (b : ℕ) → cover (free_extents s) b ≡ cover (pool_of old h) b + cover (free_of old h i) b
    cover_free b =
        let e = ap (λ (es : List Extent). cover es b) has.pool in
        let f = ap (λ (es : List Extent). cover es b) free_here in
        let c = cover-side s b in
        let g = cover-append table.extents (stack_extents blocks) b in
        omega (arith, e, f, c, g)

    pub sum_free : size_sum (free_extents s) ≡ free_size old h i
    sum_free =
        let e = ap size_sum has.pool in
        let f = ap size_sum free_here in
        let c = size_sum-side s in
        let g = size_sum-append table.extents (stack_extents blocks) in
        omega (arith, e, f, c, g)

    -- the blocks of header and bucket, and the record that goes
    abbrev pub used : ℕ → ℕ
    used b = one_if (has_byte (extent 0 h.block) b) + one_if (block_has old h i b) + cover (slot_extents gone) b

    touched_is : (b : ℕ) → touched_of old h i (pool_of old h) (gone ∷ []) b ≡ used b + cover (free_extents s) b
    unfolding touched_of
    touched_is b = let c = cover_free b in let g = gone_cover gone b in omega (arith, c, g)

    once_at : (b : ℕ) → (used b + cover (free_extents s) b ≤ 1) × (0 < used b + cover (free_extents s) b → b < h.next_block)
    unfolding all_cover
    once_at b =
        let o = file.space.once b in
        let l = file.space.below b in
        let t = touched-le old h i h.next_block (pool_of old h) (gone ∷ []) rest in_range file.space before_here b in
        let u = bucket_in_all old h i h.next_block (pool_of old h) (gone ∷ []) rest in_range file.space before_here b in
        let e = touched_is b in
        (omega (arith, o, t, u, e), λ some. l (omega (arith, t, u, e, some)))

    pub apart : IsApart used (free_extents s) [] h.next_block
    apart = record { once = λ b. (let o = (once_at b).0 in omega (arith, o)); below = λ b some. (once_at b).1 (omega (arith, some)) }
