-- How a chain of splits begins and ends: sound files, and held ones.
use Rattle.std.proofs.Common.{◌≡◌, ℕ, ◌+◌, ◌-◌, ◌*◌, ◌^◌, ◌<◌, ◌≤◌, true, List, [], ◌∷◌, ◌++◌, length, None, refl, sym, ap, subst, ◌∙◌, arith}
use Rattle.std.specs.Prelude.{ℤ, ◌/◌}
use Rattle.std.specs.List.{All, AllByRecursion}
use Rattle.std.proofs.lemmas.List.Elements.{All-from_recursion}
use Rattle.std.proofs.lemmas.List.{append-nil}
use Rattle.std.proofs.lemmas.Nat.{pow_pos}
use Rattle.gd_format.specs.declared.Extent.{Extent}
use Rattle.gd_format.specs.declared.Header.{Header}
use Rattle.gd_format.specs.Field.{bytes_at, i64_at, u64_at}
use Rattle.gd_format.specs.HeaderFault.{natural, is_native, header_of, header_fault_of}
use Rattle.gd_format.specs.Avail.{Avail, avail_at, extents_at, next_at, is_avail}
use Rattle.gd_format.specs.Headers.{IsHeader}
use Rattle.gd_format.proofs.Covers.{all-left}
use Rattle.gd_layout.specs.Fits.{FitsExtent, IsHeaderOf}
use Rattle.gd_update.specs.Settles.{IsSettled}
use Rattle.gd_format.specs.Bucket.{slots_at}
use Rattle.gd_format.specs.File.{front_of, bits_at, entry_at, entries_of, run_at, block_of, is_first}
use Rattle.gd_format.specs.Sound.{IsSound, extent, extents, extents_held, table_of, top_of, most_of, total, lost_total}
use Rattle.gd_format.specs.Covers.{has_byte, cover}
use Rattle.gd_format.specs.FreeSide.{StackBlock, IsBelow, IsStack, IsFreeSide, free_extents, stack_extents}
use Rattle.gd_file_laws.specs.Cover.{extents_in}
use Rattle.gd_file_laws.specs.Frame.{written}
use Rattle.gd_file_laws.proofs.Headers.{header_in}
use Rattle.gd_map_laws.specs.Lookup.{lookup, slot_records, index_of, value_at}
use Rattle.gd_map_laws.specs.Update.{IsRecordKept}
use Rattle.gd_map_laws.specs.Space.{one_if, free_in, free_of, bucket_cover, all_cover, IsSpaceRight}
use Rattle.gd_map_laws.specs.Frame.{KeepsBut}
use Rattle.gd_map_laws.specs.Change.{IsSoundFile}
use Rattle.gd_map_laws.specs.Sounds.{IsSoundBy, pool_of}
use Rattle.gd_map_laws.specs.Beside.{BesideChange}
use Rattle.gd_map_laws.proofs.Stays.{has_in, bucket_in_all, within_ends, block_counts, slots_count, slots_kept, write_keeps}
use Rattle.gd_map_laws.proofs.Change.{keeps_weaker}
use Rattle.gd_map_laws.proofs.Space.{sum_same, first_same}
use Rattle.gd_map_laws.proofs.Slots.{of_bucket}
use Rattle.gd_map_laws.proofs.Update.{kept_records}
use Rattle.gd_map_laws.proofs.Lookup.{index_below}
use Rattle.gd_map_laws.proofs.Side.{side_kept}
use Rattle.gd_map_laws.proofs.Beside.{parts_new, space_new}
use Rattle.gd_map_laws.proofs.Sounds.{sound_blocks, has_side, makes_sound, cover_is, below_is_right}
use Rattle.gd_map_laws.proofs.Sounds as sounds
use Rattle.gd_map_laws.proofs.Sums.{total_is}
use Rattle.gd_map_laws.proofs.Fronts.{front_read}
use Rattle.gd_map_laws.proofs.Put.{written_reads, written_size}
use Rattle.gd_space.specs.Calls.{free_lists}
use Rattle.gd_map_laws.specs.Sums.{sum_below}
use Rattle.gd_map_laws.proofs.Sums.{sum_even, cover_sum}
use Rattle.gd_update.specs.Held.{IsHeld, lost_in}
use Rattle.gd_update.specs.SplitLaws.{TellsHead, IsWhole}
use Rattle.gd_update.proofs.Pools.{below_bucket, side_without}

-- what is lost of a sound file, by its free extents
pub lost_by : (file : List ℕ) (h : Header) (pool : List Extent) → header_of (front_of file) ≡ h → pool_of file h ≡ pool → IsSpaceRight file h h.next_block pool → lost_total file ≡ lost_in file h pool
unfolding lost_total extents
lost_by file h pool is pools right =
    let covers : (b : ℕ) → cover (extents_in (extents_held file h)) b ≡ all_cover file h pool b = λ b. cover_is file h b ∙ ap (λ (l : List Extent). all_cover file h l b) pools in
    let sums : sum_below (all_cover file h pool) h.next_block ≡ total (extents_held file h) =
    sum_even (all_cover file h pool) (cover (extents_in (extents_held file h))) h.next_block (λ b. sym (covers b))
    ∙ cover_sum (extents_in (extents_held file h)) h.next_block (λ b some. right.below b (let c = covers b in omega (arith, c, some)))
    ∙ sym (total_is (extents_held file h)) in
    ap (λ (x : Header). x.next_block - total (extents_held file x)) is ∙ ap (λ (n : ℕ). h.next_block - n) (sym sums)

-- a sound file is held by its own header
pub sound_is_held : (file : List ℕ) → IsSound file
    → (blocks : List StackBlock) × IsHeld file (header_of (front_of file)) (top_of file (header_of (front_of file))) (free_lists (extents_at (table_of file (header_of (front_of file)))) blocks [])
    × (lost_in file (header_of (front_of file)) (free_extents (free_lists (extents_at (table_of file (header_of (front_of file)))) blocks [])) ≡ lost_total file)
sound_is_held file sound =
    let b = sound_blocks file sound in
    let nil = append-nil (extents_at (table_of file (header_of (front_of file))) ++ stack_extents b.0) in
    let file_is = subst (λ (p : List Extent). IsSoundFile file (header_of (front_of file)) (header_of (front_of file)).next_block p) (sym nil) b.1.file_is in
    let zero_in : 0 < entries_of (header_of (front_of file)) = pow_pos (header_of (front_of file)).dir_bits in (
      b.0,
      record {
        file_is = file_is;
        side = side_without file (header_of (front_of file)) (top_of file (header_of (front_of file))) _ (has_side file (header_of (front_of file)) b.0 b.1 0 zero_in);
        free = λ i li. below_bucket (header_of (front_of file)).next_block _ (has_side file (header_of (front_of file)) b.0 b.1 i li).below;
      },
      sym (lost_by file (header_of (front_of file)) _ refl (b.2 ∙ sym nil) file_is.space),
    )

module _ (file front : List ℕ) (h : Header) (top : ℕ) (table : List Extent) (blocks : List StackBlock) (large : 80 ≤ h.block) (held : IsHeld file h top (free_lists table blocks [])) (tells : TellsHead front (length (written file 0 front)) h top table) where
  abbrev new : List ℕ
  new = written file 0 front

  abbrev pool : List Extent
  pool = free_extents (free_lists table blocks [])

  head : ℕ → ℕ
  head b = one_if (has_byte (extent 0 h.block) b)

  file_is : IsSoundFile file h h.next_block (free_extents (free_lists table blocks []))
  file_is = held.file_is

  head_keeps : KeepsBut head file new
  unfolding head
  head_keeps = keeps_weaker (λ b. one_if (has_byte (extent 0 (length front)) b)) (λ b. one_if (has_byte (extent 0 h.block) b)) file new
      (λ x lt z. ap (λ (n : ℕ). one_if (has_byte (extent 0 n) x)) tells.size ∙ z) (write_keeps file 0 front)

  size_is : length new ≡ length file
  size_is = let w = written_size file 0 front in let fits = file_is.parts.dir.block_fits in let s = tells.size in omega (arith, w, fits, s)

  beside : BesideChange file new h h.next_block h.next_block (free_extents (free_lists table blocks [])) (free_extents (free_lists table blocks []))
  unfolding head
  beside = record {
    keeps = keeps_weaker head _ file new (λ x lt z. omega (arith, z)) head_keeps;
    grows = omega arith;
    moves = λ b. omega arith;
  }

  head_free : (b : ℕ) → head b ≡ 1 → all_cover file h pool b ≡ 1
  unfolding all_cover head
  head_free b one_ = let o = file_is.space.once b in omega (arith, o, one_)

  bucket_free : (j : ℕ) → j < entries_of h → (b : ℕ) → 0 < bucket_cover file h b j → head b ≡ 0
  unfolding all_cover head
  bucket_free j lj b some =
      let o = file_is.space.once b in
      let sum = bucket_in_all file h j h.next_block pool [] (slots_at (block_of file h j) h.elems) lj file_is.space (λ p e. refl) b in
      omega (arith, o, sum, some)

  entries : (j : ℕ) → j < entries_of h → entry_at new h j ≡ entry_at file h j
  unfolding entry_at i64_at u64_at all_cover head
  entries j lj =
      let d = file_is.dir in
      let same =
      head_keeps.bytes (h.dir + 8 * j) 8 (omega (arith, d, lj))
      (λ b low high.
      let o = file_is.space.once b in
      let has : one_if (has_byte (extent h.dir (8 * entries_of h)) b) ≡ 1 = rw (has_in h.dir (8 * entries_of h) b (omega (arith, low)) (omega (arith, high, lj))) refl in
      omega (arith, o, has)) in
      rw same refl

  blocks_same : (j : ℕ) → j < entries_of h → block_of new h j ≡ block_of file h j
  unfolding block_of
  blocks_same j lj =
      let ends = within_ends (entry_at file h j) (length file - h.block) (file_is.parts.dir.in_file j lj) in
      let fits = file_is.parts.dir.block_fits in
      ap (λ (z : ℤ). bytes_at new (natural z) h.block) (entries j lj)
      ∙ head_keeps.bytes (natural (entry_at file h j)) h.block (omega (arith, ends, fits))
      (λ b low high. bucket_free j lj b (block_counts file h j h.next_block pool [] (slots_at (block_of file h j) h.elems) lj file_is.space (λ p e. refl) b j (has_in (natural (entry_at file h j)) h.block b low high)))

  records_same : (j : ℕ) → j < entries_of h → AllByRecursion (IsRecordKept file new) (slots_at (block_of file h j) h.elems)
  records_same j lj =
      slots_kept head file new head_keeps (bits_at (block_of file h j)) (j / run_at file h j) (slots_at (block_of file h j) h.elems)
      (of_bucket file h (block_of file h j) (j / run_at file h j) (file_is.parts.buckets j lj)).good
      (λ b some. bucket_free j lj b (slots_count file h j h.next_block pool [] (slots_at (block_of file h j) h.elems) lj file_is.space (λ p e. refl) b j some))

  values : (key : List ℕ) → value_at new h key ≡ value_at file h key
  unfolding value_at
  values key =
      let lj = index_below h key file_is.bits in
      ap (λ (x : List ℕ). lookup key (slot_records new (slots_at x h.elems))) (blocks_same (index_of h key) lj)
      ∙ ap (lookup key) (kept_records file new (slots_at (block_of file h (index_of h key)) h.elems) (records_same (index_of h key) lj))

  covers_same : (b j : ℕ) → j < entries_of h → bucket_cover new h b j ≡ bucket_cover file h b j
  unfolding bucket_cover free_of
  covers_same b j lj = rw (entries j lj, blocks_same j lj) refl

  all_same : (b : ℕ) → all_cover new h pool b ≡ all_cover file h pool b
  unfolding all_cover
  all_same b =
      let s = sum_same (is_first new h) (is_first file h) (bucket_cover new h b) (bucket_cover file h b) (entries_of h) (first_same file new h entries) (λ j lj p. covers_same b j lj) in
      omega (arith, s)

  reads : bytes_at new 0 h.block ≡ front
  reads = ap (bytes_at new 0) (sym tells.size) ∙ written_reads file 0 front

  front_is : front_of new ≡ front_of front
  front_is = (front_read new front h large reads).front_is

  table_is : table_of new h ≡ table_of front h
  table_is = (front_read new front h large reads).table_is

  header_is : header_of (front_of new) ≡ h
  header_is = ap header_of front_is ∙ tells.header

  no_fault : header_fault_of (front_of new) (length new) ≡ None
  no_fault = ap (λ (x : List ℕ). header_fault_of x (length new)) front_is ∙ tells.fault

  table_new : extents_at (table_of new h) ≡ table
  table_new = ap extents_at table_is ∙ tells.extents

  next_low : h.next_block ≤ 2 ^ 46
  next_low = let n = (header_in (front_of new) (length new) no_fault).next in let e = ap (λ (x : Header). x.next_block) header_is in omega (arith, n, e)

  side_new : IsFreeSide new h top (free_lists table blocks [])
  unfolding all_cover head
  side_new =
      side_kept head file new h top (free_lists table blocks []) head_keeps
      (λ b some. let o = file_is.space.once b in omega (arith, o, some))
      (let s = size_is in let f = file_is.short in omega (arith, s, f)) held.side

  pools_are : pool ≡ extents_at (table_of new h) ++ stack_extents blocks
  pools_are = append-nil (table ++ stack_extents blocks) ∙ ap (λ (l : List Extent). l ++ stack_extents blocks) (sym table_new)

  space_is : IsSpaceRight new h h.next_block pool
  space_is = space_new file new h h.next_block h.next_block pool pool file_is beside

  free_by : (i : ℕ) → i < entries_of h → free_in (bytes_at new (natural (entry_at new h i)) h.block) ≡ free_of file h i
  unfolding free_of block_of
  free_by i li = ap free_in (blocks_same i li)

  sound_by : IsSoundBy new h blocks
  sound_by =
      let d = file_is.dir in
      let s = size_is in
      let f = file_is.short in
      let n = next_low in
      record {
        header = no_fault;
        header_is = header_is;
        file_is = subst (λ (p : List Extent). IsSoundFile new h h.next_block p) pools_are (record { bits = file_is.bits; dir = omega (arith, d, s); short = omega (arith, s, f); parts = parts_new file new h h.next_block h.next_block pool pool file_is beside; space = space_is });
        table = ap (λ (x : List ℕ). is_avail x h.avail_size) table_is ∙ tells.right;
        stack = subst (λ (t : ℕ). IsStack new (most_of h) t blocks) (sym tells.top_is ∙ ap next_at (sym table_is)) side_new.stack;
        free = λ i li. below_is_right new h (natural (entry_at new h i)) h.next_block (omega (arith, n)) (rw (free_by i li) (held.free i li));
      }

  pub whole : IsWhole file new h top (free_lists table blocks [])
  whole =
      let lost = lost_by new h pool header_is (sounds.pool_is new h blocks sound_by ∙ sym pools_are) space_is in
      record {
        sound = makes_sound new h blocks sound_by;
        header = header_is;
        map = values;
        lost = lost ∙ ap (λ (n : ℕ). h.next_block - n) (sum_even (all_cover new h pool) (all_cover file h pool) h.next_block all_same);
      }

-- what the header's block tells once it is written
pub settled : (file front : List ℕ) (h : Header) (table : Avail) (blocks : List StackBlock) → IsHeader h → is_native h.magic ≡ true → length table.extents ≤ h.avail_size → 512 ≤ h.block → IsHeld file h table.next_block (free_lists table.extents blocks []) → length front ≡ h.block
    → header_of (front_of front) ≡ h → ((len : ℕ) → IsHeaderOf h len → header_fault_of (front_of front) len ≡ None) → avail_at (table_of front h) table.room ≡ table
    → (All FitsExtent table.extents → (most : ℕ) → length table.extents ≤ most → is_avail (table_of front h) most ≡ true)
    → IsSettled file (written file 0 front) h table blocks
unfolding avail_at
settled file front h table blocks header native few large held size front_is fault reads right =
    let w = written_size file 0 front in
    let d = held.file_is.dir in
    let b = held.file_is.parts.dir.block_fits in
    let of_file : IsHeaderOf h (length (written file 0 front)) = record { header = header; magic = native; block = omega (arith, w, b); dir = omega (arith, w, d) } in
    let low = header.next_block in
    let fit : AllByRecursion FitsExtent table.extents = fit_below h.next_block table.extents (omega (arith, low)) (all-left (IsBelow h.next_block) table.extents (stack_extents blocks) (all-left (IsBelow h.next_block) (table.extents ++ stack_extents blocks) [] held.side.below)) in
    let tells : TellsHead front (length (written file 0 front)) h table.next_block table.extents = record {
      size = size;
      header = front_is;
      fault = fault (length (written file 0 front)) of_file;
      extents = ap (λ (a : Avail). a.extents) reads;
      top_is = ap (λ (a : Avail). a.next_block) reads;
      right = right (All-from_recursion FitsExtent table.extents fit) h.avail_size few;
    } in
    record {
      whole = whole file front h table.next_block table.extents blocks (omega (arith, large)) held tells;
      table_is = ap (λ (x : List ℕ). avail_at x table.room) (table_is file front h table.next_block table.extents blocks (omega (arith, large)) held tells) ∙ reads;
    }
  where
    fit_below : (next : ℕ) (es : List Extent) → next ≤ 2 ^ 46 → AllByRecursion (IsBelow next) es → AllByRecursion FitsExtent es
    fit_below next [] le below = below
    fit_below next (e ∷ es) le below =
        let ends = below.0.ends in
        (record { some = below.0.some; size = below.0.fits; at = omega (arith, ends, le) }, fit_below next es le below.1)
