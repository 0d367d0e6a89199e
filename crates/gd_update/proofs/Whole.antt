-- The steps of a change over a whole sound file.
use Rattle.std.proofs.Common.{◌≡◌, ◌≢◌, ℕ, ◌+◌, ◌-◌, ◌/◌, ◌<◌, ◌≤◌, ◌^◌, true, List, [], ◌∷◌, ◌++◌, length, None, refl, sym, ap, subst, ◌∙◌, inl, inr, arith}
use Rattle.std.proofs.lemmas.Bool.{cases_lt}
use Rattle.gd_format.specs.declared.Header.{Header}
use Rattle.gd_format.specs.declared.Extent.{Extent}
use Rattle.gd_format.specs.declared.Slot.{Slot}
use Rattle.gd_format.specs.Avail.{Avail, avail_at, count_at, extents_at, next_at}
use Rattle.gd_format.specs.Bucket.{Bucket, bucket_at, slots_at, is_bucket}
use Rattle.gd_format.specs.Covers.{cover, size_sum, has_byte}
use Rattle.gd_format.specs.Field.{bytes_at}
use Rattle.gd_format.specs.File.{front_of, entries_of, entry_at, block_of, is_count_right}
use Rattle.gd_format.specs.FreeSide.{FreeLists, StackBlock, IsFreeSide, free_extents, stack_extents}
use Rattle.gd_format.specs.HeaderFault.{header_of, header_fault_of, natural, is_within}
use Rattle.gd_format.specs.Slots.{count, SameSlots, AreReached}
use Rattle.gd_format.specs.Sound.{IsSound, extent, table_of, top_of, most_of, lost_total}
use Rattle.gd_format.proofs.Covers.{cover-append, size_sum-append}
use Rattle.gd_layout.specs.Fits.{IsHeaderOf}
use Rattle.gd_layout.proofs.HeaderFields as fields
use Rattle.gd_file_laws.specs.Frame as parts
use Rattle.gd_file_laws.proofs.Points.{sound_parts}
use Rattle.gd_format.specs.Hash.{hash_of}
use Rattle.gd_map_laws.specs.Lookup.{index_of, slot_records, value_at}
use Rattle.gd_map_laws.specs.Space.{one_if, slot_has, block_has, free_of, free_in}
use Rattle.gd_map_laws.specs.Space as laws
use Rattle.gd_map_laws.specs.Frame.{KeepsBut, Stays}
use Rattle.gd_map_laws.specs.Fronts.{FrontRead}
use Rattle.gd_map_laws.specs.Update.{IsSameShape, pairs_of}
use Rattle.gd_map_laws.specs.Change.{place_of, IsSoundFile, BucketMade, SpaceMade, ChangeMade}
use Rattle.gd_map_laws.specs.Sounds.{pool_of, lists_of}
use Rattle.gd_map_laws.specs.Sums.{slot_sizes, free_size}
use Rattle.gd_map_laws.specs.Whole.{ChangeWritten}
use Rattle.gd_map_laws.specs.Writes.{LastWrites, WritesRead}
use Rattle.gd_map_laws.proofs.Stays.{keeps_join, has_in, write_keeps}
use Rattle.gd_map_laws.proofs.Change.{ends_by, still}
use Rattle.gd_map_laws.proofs.FileUpdate.{entry_shape, block_shape}
use Rattle.gd_map_laws.proofs.Find.{grown-add, grown_is_extent}
use Rattle.gd_map_laws.proofs.Fronts.{front_read}
use Rattle.gd_map_laws.proofs.Side.{side_kept}
use Rattle.gd_map_laws.proofs.Sounds.{stack_pool}
use Rattle.gd_map_laws.proofs.Sums.{lost_changes}
use Rattle.gd_map_laws.proofs.Writes.{writes_read}
use Rattle.gd_space.specs.Calls.{free_lists}
use Rattle.gd_space.specs.Effect.{Keeps, Moves}
use Rattle.gd_space.specs.Effect as effect
use Rattle.gd_space.specs.SpaceLaws.{IsApart}
use Rattle.gd_space.proofs.Changes.{stays_apart, cover-grown_low}
use Rattle.gd_space.proofs.Stacks.{avail-extents, avail-next}
use Rattle.gd_space.proofs.Tooks.{cover-side, size_sum-side}
use Rattle.gd_update.specs.Open.{IsOpen, IsHere, slot_extents}
use Rattle.gd_update.specs.Writes.{RecordPut, GivenBack, BlocksPut}
use Rattle.gd_update.specs.KeepSound.{HasBlocks, OnlyGrew}
use Rattle.gd_update.proofs.Bases.{gone_cover, gone_sum, avail-room, free-block, slots-block, bits-block, free-is, block_here, file, in_range, bits_here, before_here, cover_free, sum_free, apart, block_some}
use Rattle.gd_update.proofs.Puts.{same_written}

-- the steps, with the slots that go, come and stay
pub record IsWhole (old mid back new : List ℕ) (h h1 h' : Header) (table table' : Avail) (top1 : ℕ) (s1 : FreeLists) (blocks blocks' : List StackBlock) (at : ℕ) (bucket bucket' : Bucket) (gone : Slot) (come rest : List Slot) (key : List ℕ) (place : ℕ) (pair : List ℕ) (lost : ℕ) : Type 0 where
  pub sound : IsSound old
  pub table_is : table ≡ avail_at (table_of old h) (most_of h)
  pub here : IsHere old h at bucket key
  pub has : HasBlocks old h table blocks bucket
  pub grew : OnlyGrew h h'
  pub put : RecordPut old mid h h1 table.next_block top1 (free_lists table.extents blocks bucket.free) s1 place pair lost
  pub given : GivenBack mid back h1 h' top1 table'.next_block s1 (free_lists table'.extents blocks' bucket'.free) gone
  pub last : BlocksPut back new h' table' at bucket'
  pub bits : bucket'.bits ≡ bucket.bits
  pub before_is : SameSlots bucket.slots (gone ∷ rest)
  pub after_is : SameSlots bucket'.slots (come ++ rest)
  pub reached : AreReached bucket'.slots h.elems
  pub gone_is : slot_records old (gone ∷ []) ≡ pairs_of key (value_at old h key)
  pub come_has : (b : ℕ) → count (slot_has b) come ≡ cover (extent place (length pair) ∷ []) b
  pub come_size : slot_sizes come ≡ length pair

module _ (old mid back new : List ℕ) (h1 h' : Header) (table table' : Avail) (top1 : ℕ) (s1 : FreeLists) (blocks blocks' : List StackBlock) (at : ℕ) (bucket bucket' : Bucket) (gone : Slot) (come rest : List Slot) (key : List ℕ) (place : ℕ) (pair : List ℕ) (lost : ℕ)
    (w : IsWhole old mid back new (header_of (front_of old)) h1 h' table table' top1 s1 blocks blocks' at bucket bucket' gone come rest key place pair lost) where
  abbrev h : Header
  h = header_of (front_of old)

  abbrev i : ℕ
  i = index_of h key

  abbrev pool : List Extent
  pool = pool_of old h

  abbrev n : ℕ
  n = length pair

  abbrev s0 : FreeLists
  s0 = free_lists table.extents blocks bucket.free

  abbrev s3 : FreeLists
  s3 = free_lists table'.extents blocks' bucket'.free

  old_file : IsSoundFile old h h.next_block pool
  old_file = file old table at bucket key w.sound w.table_is w.here

  below : i < entries_of h
  below = in_range old table at bucket key w.sound w.table_is w.here

  before : SameSlots (slots_at (block_of old h i) h.elems) (gone ∷ rest)
  before = before_here old table at bucket key w.sound w.table_is w.here blocks w.has gone rest w.before_is

  free_before : (b : ℕ) → cover (free_extents s0) b ≡ cover pool b + cover (free_of old h i) b
  free_before = cover_free old table at bucket key w.sound w.table_is w.here blocks w.has gone rest w.before_is

  abbrev taken : List Extent
  taken = extent place (length pair) ∷ []

  abbrev blocks_have : ℕ → ℕ
  blocks_have b = one_if (has_byte (extent 0 h.block) b) + one_if (block_has old h i b)

  apart0 : IsApart (λ b. blocks_have b + cover (slot_extents gone) b) (free_extents s0) [] h.next_block
  apart0 = apart old table at bucket key w.sound w.table_is w.here blocks w.has gone rest w.before_is

  apart1 : IsApart (λ b. blocks_have b + cover (slot_extents gone) b) (free_extents s1) taken h1.next_block
  apart1 = stays_apart (λ b. blocks_have b + cover (slot_extents gone) b) (free_extents s0) (free_extents s1) [] taken h.next_block h1.next_block lost w.put.moves apart0

  apart_given : IsApart blocks_have (free_extents s1) (slot_extents gone) h1.next_block
  apart_given = record {
    once = λ b. (let o = apart1.once b in omega (arith, o));
    below = λ b some. apart1.below b (omega (arith, some));
  }

  apart2 : IsApart blocks_have (free_extents s3) [] h'.next_block
  apart2 = stays_apart blocks_have (free_extents s1) (free_extents s3) (slot_extents gone) [] h1.next_block h'.next_block 32 w.given.moves apart_given

  -- ---- before the last writes

  keeps_back : KeepsBut (cover (free_extents s1)) mid back
  keeps_back = record { longer = w.given.keeps.longer; bytes = w.given.keeps.bytes }

  keeps_mid : KeepsBut (λ b. cover pool b + cover (free_of old h i) b + count (slot_has b) (gone ∷ [])) old back
  keeps_mid =
      keeps_join (cover (free_extents s0)) (cover (free_extents s1)) (λ b. cover pool b + cover (free_of old h i) b + count (slot_has b) (gone ∷ [])) old mid back
      (λ x lt z.
      let f = free_before x in
      let none : cover (free_extents s0) x ≡ 0 = omega (arith, f, z) in
      let m = w.put.moves.bytes x in
      let short = old_file.short in
      let g = cover-grown_low h.next_block h1.next_block x (omega (arith, lt, short)) in
      (none, omega (arith, m, g, none)))
      w.put.keeps keeps_back

  one_cover : (b : ℕ) → place ≤ b → b < place + length pair → cover taken b ≡ 1
  one_cover b low high = let e = has_in place (length pair) b low high in rw e refl

  reads_back : bytes_at back place (length pair) ≡ pair
  reads_back =
      elim (cases_lt 0 (length pair)) [
        | inl some ↦
            let ends = ends_by mid place pair w.put.reads some in
            w.given.keeps.bytes place (length pair) ends (λ b low high. (let o = apart1.once b in let one = one_cover b low high in omega (arith, o, one))) ∙ w.put.reads
        | inr none ↦ let z : length pair ≡ 0 = omega (arith, none) in let e : bytes_at back place (length pair) ≡ bytes_at mid place (length pair) = rw z refl in e ∙ w.put.reads
      ]

  grows_first : h.next_block ≤ h1.next_block
  grows_first = w.put.moves.grows

  grows_then : h1.next_block ≤ h'.next_block
  grows_then = w.given.moves.grows

  growths : (b : ℕ) → cover (effect.grown h.next_block h1.next_block) b + cover (effect.grown h1.next_block h'.next_block) b ≡ laws.grown h.next_block h'.next_block b
  growths b =
      let one = grown_is_extent h.next_block h1.next_block b grows_first in
      let two = grown_is_extent h1.next_block h'.next_block b grows_then in
      let sum = grown-add h.next_block h1.next_block h'.next_block b grows_first grows_then in
      omega (arith, one, two, sum)

  has_is : (b : ℕ) → one_if (has_byte (extent place (length pair)) b) ≡ cover taken b
  has_is b = omega arith

  free_back : (b : ℕ) → one_if (has_byte (extent place (length pair)) b) ≤ cover pool b + cover (free_of old h i) b + count (slot_has b) (gone ∷ []) + laws.grown h.next_block h'.next_block b
  free_back b =
      let m = w.put.moves.bytes b in
      let f = free_before b in
      let g = growths b in
      let e = has_is b in
      omega (arith, m, f, g, e)

  block_same : h'.block ≡ h.block
  block_same = ap (λ (k : Header). k.block) w.grew.header_is

  elems_same : h'.elems ≡ h.elems
  elems_same = ap (λ (k : Header). k.elems) w.grew.header_is

  last_writes : LastWrites old back h i h.next_block h'.next_block pool (gone ∷ []) rest w.last.block w.last.front place pair
  last_writes =
      let one = w.last.block_size in
      let two = w.last.front_size in
      record {
        sound = old_file;
        below = below;
        before = before;
        keeps = keeps_mid;
        block_size = one ∙ block_same;
        front_size = two ∙ block_same;
        reads = reads_back;
        free = free_back;
      }

  new_is : new ≡ parts.written (parts.written back (place_of old h i) w.last.block) 0 w.last.front
  new_is =
      w.last.is ∙ same_written _ 0 w.last.front ∙ ap (λ (z : List ℕ). parts.written z 0 w.last.front) (same_written back at w.last.block)
      ∙ ap (λ (k : ℕ). parts.written (parts.written back k w.last.block) 0 w.last.front) w.here.place_is

  reads : WritesRead old back new h i pool (gone ∷ []) w.last.block w.last.front place pair
  reads = subst (λ (z : List ℕ). WritesRead old back z h i pool (gone ∷ []) w.last.block w.last.front place pair) (sym new_is) (writes_read old back h i h.next_block h'.next_block pool (gone ∷ []) rest w.last.block w.last.front place pair last_writes)

  pub pair_new : bytes_at new place (length pair) ≡ pair
  pair_new = reads.pair_reads

  -- ---- the new header and its table

  front : FrontRead new w.last.front h'
  front =
      let least = block_some old table at bucket key w.sound w.table_is w.here in
      front_read new w.last.front h' (omega (arith, least, block_same)) (ap (bytes_at new 0) block_same ∙ reads.front_reads)

  pub header_new : header_of (front_of new) ≡ h'
  header_new = ap header_of front.front_is ∙ w.last.header_is.reads

  table_new : avail_at (table_of new h') table'.room ≡ table'
  table_new = ap (λ (z : List ℕ). avail_at z table'.room) front.table_is ∙ w.last.header_is.table_is

  pub extents_new : extents_at (table_of new h') ≡ table'.extents
  extents_new = sym (avail-extents (table_of new h') table'.room) ∙ ap (λ (t : Avail). t.extents) table_new

  top_new : next_at (table_of new h') ≡ table'.next_block
  top_new = sym (avail-next (table_of new h') table'.room) ∙ ap (λ (t : Avail). t.next_block) table_new

  header_old : IsHeaderOf h (length old)
  header_old = fields.header_is (front_of old) (length old) (sound_parts old w.sound).header

  longer : length old ≤ length new
  longer = reads.keeps.longer

  header_right : IsHeaderOf h' (length new)
  header_right =
      let o = header_old in
      let fits = o.block in
      let dir = o.dir in
      subst (λ (k : Header). IsHeaderOf k (length new)) (sym w.grew.header_is)
      (record {
        header = record { block = o.header.block; bits = o.header.bits; dir = o.header.dir; elems = o.header.elems; next_block = w.grew.below; least = o.header.least; most = o.header.most };
        magic = o.magic;
        block = omega (arith, fits, longer);
        dir = omega (arith, dir, longer);
      })

  fault_new : header_fault_of (front_of new) (length new) ≡ None
  fault_new = ap (λ (z : List ℕ). header_fault_of z (length new)) front.front_is ∙ w.last.header_is.fault (length new) header_right

  shape : IsSameShape h h'
  shape = record {
    block = block_same;
    dir = ap (λ (k : Header). k.dir) w.grew.header_is;
    bits = ap (λ (k : Header). k.dir_bits) w.grew.header_is;
    elems = elems_same;
  }

  -- ---- the new bucket

  block_reads_as : bucket_at w.last.block h.elems ≡ bucket'
  block_reads_as = ap (bucket_at w.last.block) (sym elems_same) ∙ w.last.bucket_is.reads

  bucket_made : BucketMade old h i (bytes_at new (place_of old h i) h.block) (gone ∷ []) come rest
  bucket_made =
      let slots = slots-block w.last.block h.elems bucket' block_reads_as in
      subst (λ (z : List ℕ). BucketMade old h i z (gone ∷ []) come rest) (sym reads.block_reads)
      (record {
        fields = ap (is_bucket w.last.block) (sym elems_same) ∙ w.last.bucket_is.right;
        number = ap (is_count_right w.last.block) (sym elems_same) ∙ w.last.bucket_is.count;
        bits = bits-block w.last.block h.elems bucket' block_reads_as ∙ w.bits ∙ sym (bits_here old table at bucket key w.sound w.table_is w.here);
        before = before;
        after = rw slots w.after_is;
        reached = rw slots w.reached;
      })

  free_new : free_in (bytes_at new (place_of old h i) h.block) ≡ bucket'.free
  free_new = ap free_in reads.block_reads ∙ free-block w.last.block h.elems bucket' block_reads_as

  -- ---- the space

  abbrev pool' : List Extent
  pool' = table'.extents ++ stack_extents blocks'

  cover_after : (b : ℕ) → cover (free_extents s3) b ≡ cover pool' b + cover (free_in (bytes_at new (place_of old h i) h.block)) b
  cover_after b =
      let c = cover-side s3 b in
      let d = cover-append table'.extents (stack_extents blocks') b in
      let e = ap (λ (es : List Extent). cover es b) free_new in
      omega (arith, c, d, e)

  space_made : SpaceMade old new h i (gone ∷ []) come h.next_block h'.next_block pool pool'
  space_made = record {
    grows = (let a = grows_first in let b = grows_then in omega (arith, a, b));
    short = (let size = reads.size in let short = w.given.side.short in omega (arith, size, short));
    moves = λ b. (
        let m = w.put.moves.bytes b in
        let k = w.given.moves.bytes b in
        let f = free_before b in
        let a = cover_after b in
        let g = growths b in
        let c = w.come_has b in
        let e = gone_cover gone b in
        omega (arith, m, k, f, a, g, c, e));
  }

  change_made : ChangeMade old new h key h.next_block h'.next_block pool pool' (gone ∷ []) come rest
  change_made = record { keeps = reads.keeps; bucket = bucket_made; space = space_made; gone_is = w.gone_is }

  -- ---- the new free side

  last_keeps : KeepsBut blocks_have back new
  last_keeps =
      let size = w.last.block_size ∙ block_same in
      let front_size = w.last.front_size ∙ block_same in
      subst (λ (z : List ℕ). KeepsBut blocks_have back z) (sym new_is)
      (keeps_join (λ b. one_if (has_byte (extent (place_of old h i) (length w.last.block)) b)) (λ b. one_if (has_byte (extent 0 (length w.last.front)) b)) blocks_have back (parts.written back (place_of old h i) w.last.block) (parts.written (parts.written back (place_of old h i) w.last.block) 0 w.last.front)
      (λ x lt z. (
        (let e = ap (λ (k : ℕ). one_if (has_byte (extent (place_of old h i) k) x)) size in omega (arith, z, e)),
        (let e = ap (λ (k : ℕ). one_if (has_byte (extent 0 k) x)) front_size in omega (arith, z, e)),
      ))
      (write_keeps back (place_of old h i) w.last.block) (write_keeps (parts.written back (place_of old h i) w.last.block) 0 w.last.front))

  side_lists : IsFreeSide new h' table'.next_block s3
  side_lists =
      side_kept blocks_have back new h' table'.next_block s3 last_keeps
      (λ b some. let o = apart2.once b in omega (arith, o, some))
      (let size = reads.size in let short = w.given.side.short in omega (arith, size, short)) w.given.side

  pub side_new : IsFreeSide new h' (top_of new h') (lists_of new h' blocks' (free_in (bytes_at new (place_of old h i) h.block)))
  side_new =
      let one : IsFreeSide new h' (top_of new h') s3 = subst (λ (t : ℕ). IsFreeSide new h' t s3) (sym top_new) side_lists in
      let two : IsFreeSide new h' (top_of new h') (lists_of new h' blocks' bucket'.free) = subst (λ (es : List Extent). IsFreeSide new h' (top_of new h') (free_lists es blocks' bucket'.free)) (sym extents_new) one in
      subst (λ (es : List Extent). IsFreeSide new h' (top_of new h') (lists_of new h' blocks' es)) (sym free_new) two

  number_new : is_within (count_at (table_of new h')) 0 h'.avail_size ≡ true
  number_new = ap (λ (z : List ℕ). is_within (count_at z) 0 h'.avail_size) front.table_is ∙ w.last.header_is.number

  pub change_written : ChangeWritten old new key blocks' (gone ∷ []) come rest
  change_written =
      let made : ChangeMade old new h key h.next_block h'.next_block pool (extents_at (table_of new h') ++ stack_extents blocks') (gone ∷ []) come rest =
      subst (λ (es : List Extent). ChangeMade old new h key h.next_block h'.next_block pool (es ++ stack_extents blocks') (gone ∷ []) come rest) (sym extents_new) change_made in
      record {
        header = fault_new;
        shape = subst (λ (k : Header). IsSameShape h k) (sym header_new) shape;
        made = subst (λ (k : Header). ChangeMade old new h key h.next_block k.next_block pool (extents_at (table_of new k) ++ stack_extents blocks') (gone ∷ []) come rest) (sym header_new) made;
        number = subst (λ (k : Header). is_within (count_at (table_of new k)) 0 k.avail_size ≡ true) (sym header_new) number_new;
        side = subst (λ (k : Header). IsFreeSide new k (top_of new k) (lists_of new k blocks' (free_in (bytes_at new (place_of old h i) h.block)))) (sym header_new) side_new;
      }

  -- ---- afterwards

  stays : Stays old new h i rest
  stays = still old new h key h.next_block h'.next_block pool pool' (gone ∷ []) come rest old_file change_made

  pub entry_new : (j : ℕ) → j < entries_of h → entry_at new h' j ≡ entry_at old h j
  entry_new j lt = entry_shape new h h' shape j ∙ stays.entries j lt

  index_same : index_of h' key ≡ i
  unfolding index_of
  index_same = ap (λ (k : ℕ). hash_of key / 2 ^ (31 - k)) shape.bits

  range_same : (j : ℕ) → j < entries_of h' → j < entries_of h
  range_same j lt = let e = ap (λ (k : ℕ). 2 ^ k) shape.bits in omega (arith, lt, e)

  pub entries_stay : (j : ℕ) → j < entries_of h' → entry_at new h' j ≡ entry_at old h' j
  entries_stay j lt = entry_new j (range_same j lt) ∙ sym (entry_shape old h h' shape j)

  pub others_stay : (j : ℕ) → j < entries_of h' → entry_at old h' j ≢ entry_at old h' (index_of h' key) → block_of new h' j ≡ block_of old h' j
  others_stay j lt ne =
      let here_is : entry_at old h' (index_of h' key) ≡ entry_at old h i = ap (entry_at old h') index_same ∙ entry_shape old h h' shape i in
      let other : entry_at old h j ≢ entry_at old h i = λ e. ne (entry_shape old h h' shape j ∙ e ∙ sym here_is) in
      let still_is = (stays.others j (range_same j lt) other).block in
      block_shape new h h' shape j ∙ still_is ∙ sym (block_shape old h h' shape j)

  pub here_new : IsHere new h' at bucket' key
  here_new = record {
    place_is = w.here.place_is ∙ sym (ap natural (ap (entry_at new h') index_same ∙ entry_new i below));
    bucket_is =
        sym (ap (λ (k : ℕ). bucket_at (bytes_at new at k) h'.elems) block_same
        ∙ ap (λ (k : ℕ). bucket_at (bytes_at new k h.block) h'.elems) w.here.place_is
        ∙ ap (λ (z : List ℕ). bucket_at z h'.elems) reads.block_reads ∙ w.last.bucket_is.reads);
  }

  most_same : most_of h' ≡ most_of h
  most_same = ap (λ (k : ℕ). (k - 56) / 16) block_same

  pub open_new : table'.room ≡ table.room → IsSound new → IsOpen new h' table'
  open_new room sound_new =
      let old_room : table.room ≡ most_of h = ap (λ (t : Avail). t.room) w.table_is ∙ avail-room (table_of old h) (most_of h) in
      record {
        sound = sound_new;
        header_is = sym header_new;
        table_is = sym table_new ∙ ap (avail_at (table_of new h')) (room ∙ old_room ∙ sym most_same);
      }

  free_size_new : free_size new h' i ≡ size_sum (free_extents s3)
  free_size_new =
      let once : (b : ℕ) → cover (stack_extents blocks') b ≤ 1 = λ b. (let o = apart2.once b in let c = cover-side s3 b in omega (arith, o, c)) in
      let p = stack_pool new h' blocks' side_new.stack once ∙ ap (λ (es : List Extent). es ++ stack_extents blocks') extents_new in
      let f : free_of new h' i ≡ bucket'.free =
      free-is new h' i ∙ ap free_in (sym (block_here new h' i (place_of old h i) (sym (ap natural (entry_new i below)))) ∙ ap (bytes_at new (place_of old h i)) block_same) ∙ free_new in
      let x = ap size_sum p in
      let y = ap size_sum f in
      let z = size_sum-side s3 in
      let v = size_sum-append table'.extents (stack_extents blocks') in
      omega (arith, x, y, z, v)

  pub lost_new : IsSound new → lost_total new ≤ lost_total old + (lost + 32)
  lost_new sound_new =
      lost_changes old new key blocks' (gone ∷ []) come rest w.sound change_written (lost + 32) sound_new
      (subst (λ (k : Header). free_size old h i + slot_sizes (gone ∷ []) + (k.next_block - h.next_block) ≤ free_size new k i + slot_sizes come + (lost + 32)) (sym header_new)
      (let a = w.put.moves.most in
      let b = w.given.moves.most in
      let c = sum_free old table at bucket key w.sound w.table_is w.here blocks w.has gone rest w.before_is in
      let d = free_size_new in
      let e = gone_sum gone in
      let f = w.come_size in
      let p = grows_first in
      let q = grows_then in
      omega (arith, a, b, c, d, e, f, p, q)))
