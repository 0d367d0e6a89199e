-- How a chain of splits begins, goes on and ends.
use Rattle.std.proofs.Common.{◌≡◌, ℕ, ◌+◌, ◌-◌, ◌*◌, ◌^◌, ◌<◌, ◌≤◌, List, [], length, refl, sym, ap, subst, ◌∙◌, arith}
use Rattle.std.specs.Prelude.{ℤ, ◌/◌}
use Rattle.std.proofs.lemmas.Nat.{shr-shr}
use Rattle.gd_format.specs.declared.Header.{Header}
use Rattle.gd_format.specs.Field.{bytes_at, i64_at, u64_at}
use Rattle.gd_format.specs.HeaderFault.{natural, header_of}
use Rattle.gd_format.specs.Avail.{Avail, avail_at}
use Rattle.gd_format.specs.Bucket.{Bucket, bucket_at, slots_at}
use Rattle.gd_format.specs.File.{front_of, bits_at, entry_at, entries_of, block_of, run_at}
use Rattle.gd_format.specs.FreeSide.{FreeLists, StackBlock, free_extents}
use Rattle.gd_format.specs.Slots.{count, is_full}
use Rattle.gd_format.specs.Sound.{IsSound, extent, most_of, table_of}
use Rattle.gd_format.specs.Covers.{has_byte}
use Rattle.gd_file_laws.specs.Parts.{file_header}
use Rattle.gd_file_laws.specs.Frame.{written}
use Rattle.gd_file_laws.proofs.Made.{bits_within}
use Rattle.gd_map_laws.specs.Frame.{KeepsBut}
use Rattle.gd_map_laws.specs.Lookup.{value_at}
use Rattle.gd_map_laws.specs.Overflow.{is_close}
use Rattle.gd_map_laws.specs.Space.{one_if, all_cover}
use Rattle.gd_map_laws.proofs.Overflow.{full_has_bits}
use Rattle.gd_map_laws.proofs.Slots.{of_bucket}
use Rattle.gd_map_laws.proofs.Stays.{has_in, bucket_in_all, block_counts, within_ends, write_keeps}
use Rattle.gd_space.specs.Calls.{free_lists}
use Rattle.gd_update.specs.Held.{IsHeld, IsBucketOf, index_at}
use Rattle.gd_update.specs.Steps.{IsStep}
use Rattle.gd_update.proofs.Ends.{same_lookups}
use Rattle.gd_update.proofs.Settled.{sound_is_held}
use Rattle.gd_update.proofs.SplitParts.{bits_read, slots_read, index_in}
use Rattle.gd_update.specs.Open.{IsOpen}
use Rattle.gd_update.specs.Growth.{IsGrown, IsClosed, IsRoomMade}
use Rattle.gd_update.specs.GrowthLaws.{HasBits}

-- ---- how it begins

begins : (file : List ℕ) (hash at : ℕ) (bucket : Bucket) → IsSound file → IsBucketOf file (file_header file) hash at bucket
    → IsGrown file file (file_header file) (avail_at (table_of file (file_header file)) (most_of (file_header file))) hash at bucket
unfolding avail_at
begins file hash at bucket sound here =
    let s = sound_is_held file sound in
    record {
      blocks = s.0;
      held = s.1;
      here = here;
      map = λ key. refl;
      lost = let e = s.2 in omega (arith, e);
    }

pub growth_begins : (file : List ℕ) (h : Header) (table : Avail) (hash at : ℕ) (bucket : Bucket) → IsOpen file h table → IsBucketOf file h hash at bucket → IsGrown file file h table hash at bucket
growth_begins file h table hash at bucket opened here =
    subst (λ (t : Avail). IsGrown file file h t hash at bucket) (sym opened.table_is)
    (subst (λ (k : Header). IsGrown file file k (avail_at (table_of file k) (most_of k)) hash at bucket) (sym opened.header_is)
    (begins file hash at bucket opened.sound (subst (λ (k : Header). IsBucketOf file k hash at bucket) opened.header_is here)))

-- ---- how it goes on

pub growth_goes_on :
    (old mid new : List ℕ) (h h' : Header) (table table' : Avail) (hash at at' : ℕ) (bucket bucket' : Bucket) (blocks' : List StackBlock)
    → (g : IsGrown old mid h table hash at bucket) → IsStep mid new h h' table'.next_block (free_lists table.extents g.blocks []) (free_lists table'.extents blocks' []) 96
    → IsBucketOf new h' hash at' bucket' → bucket'.bits ≡ bucket.bits + 1 → IsGrown old new h' table' hash at' bucket'
growth_goes_on old mid new h h' table table' hash at at' bucket bucket' blocks' g step here more =
    record {
      blocks = blocks';
      held = step.held;
      here = here;
      map = λ key. step.map key ∙ g.map key;
      lost = let l = g.lost in let m = step.lost in omega (arith, l, m, more);
    }

-- ---- the bucket of a hash in a held file

module _ (file : List ℕ) (h : Header) (top : ℕ) (s : FreeLists) (hash at : ℕ) (bucket : Bucket) (held : IsHeld file h top s) (small : hash < 2 ^ 31) (here : IsBucketOf file h hash at bucket) where
  inside : index_at h hash < entries_of h
  inside = index_in h hash held.file_is.bits small

  block_is : bucket_at (block_of file h (index_at h hash)) h.elems ≡ bucket
  unfolding block_of
  block_is = ap (λ (z : ℤ). bucket_at (bytes_at file (natural z) h.block) h.elems) here.entry ∙ here.block

  bits_is : bits_at (block_of file h (index_at h hash)) ≡ bucket.bits
  bits_is = bits_read (block_of file h (index_at h hash)) h.elems bucket block_is

  pub bits_below : bucket.bits ≤ h.dir_bits
  bits_below = let w = bits_within file h held.file_is.parts (index_at h hash) inside in let e = bits_is in omega (arith, w, e)

  top_is : hash / 2 ^ (31 - bits_at (block_of file h (index_at h hash))) ≡ index_at h hash / run_at file h (index_at h hash)
  unfolding run_at
  top_is =
      let le = bits_within file h held.file_is.parts (index_at h hash) inside in
      let few = held.file_is.bits in
      let whole : 31 - h.dir_bits + (h.dir_bits - bits_at (block_of file h (index_at h hash))) ≡ 31 - bits_at (block_of file h (index_at h hash)) = omega (arith, le, few) in
      sym (shr-shr hash (31 - h.dir_bits) (h.dir_bits - bits_at (block_of file h (index_at h hash))) ∙ ap (λ (x : ℕ). hash / 2 ^ x) whole)

  pub has_spare : count is_full bucket.slots ≡ h.elems → count (is_close hash) bucket.slots < h.elems → HasBits h bucket.bits
  has_spare full few =
      let right = of_bucket file h (block_of file h (index_at h hash)) (index_at h hash / run_at file h (index_at h hash)) (held.file_is.parts.buckets (index_at h hash) inside) in
      let e = slots_read (block_of file h (index_at h hash)) h.elems bucket block_is in
      let w = bits_below in
      let b = bits_is in
      let m = held.file_is.bits in
      let less = full_has_bits file (bits_at (block_of file h (index_at h hash))) (index_at h hash / run_at file h (index_at h hash)) hash h.elems (slots_at (block_of file h (index_at h hash)) h.elems)
      (omega (arith, w, b, m)) right.good top_is (rw e full) (rw e few) in
      record { within = w; spare = omega (arith, less, b) }

  -- what is written in the header's block leaves it
  module _ (front : List ℕ) (size : length front ≡ h.block) where
    keeps : KeepsBut (λ b. one_if (has_byte (extent 0 (length front)) b)) file (written file 0 front)
    keeps = write_keeps file 0 front

    apart_dir : (b : ℕ) → h.dir ≤ b → b < h.dir + 8 * entries_of h → one_if (has_byte (extent 0 (length front)) b) ≡ 0
    unfolding all_cover
    apart_dir b low high =
        let o = held.file_is.space.once b in
        let dir : one_if (has_byte (extent h.dir (8 * entries_of h)) b) ≡ 1 = rw (has_in h.dir (8 * entries_of h) b low high) refl in
        rw size (omega (arith, o, dir))

    entry_stays : entry_at (written file 0 front) h (index_at h hash) ≡ entry_at file h (index_at h hash)
    unfolding entry_at i64_at u64_at
    entry_stays =
        let d = held.file_is.dir in
        let i = inside in
        let same = keeps.bytes (h.dir + 8 * index_at h hash) 8 (omega (arith, d, i)) (λ b low high. apart_dir b (omega (arith, low)) (omega (arith, high, i))) in
        rw same refl

    block_stays : bytes_at (written file 0 front) at h.block ≡ bytes_at file at h.block
    unfolding all_cover
    block_stays =
        let i = inside in
        let e = here.entry in
        let at_is : natural (entry_at file h (index_at h hash)) ≡ at = ap natural e in
        let ends = within_ends (entry_at file h (index_at h hash)) (length file - h.block) (held.file_is.parts.dir.in_file (index_at h hash) i) in
        let fits = held.file_is.parts.dir.block_fits in
        keeps.bytes at h.block (omega (arith, ends, fits, at_is))
        (λ b low high.
        let o = held.file_is.space.once b in
        let in_all = bucket_in_all file h (index_at h hash) h.next_block (free_extents s) [] (slots_at (block_of file h (index_at h hash)) h.elems) i held.file_is.space (λ p f. refl) b in
        let some = block_counts file h (index_at h hash) h.next_block (free_extents s) [] (slots_at (block_of file h (index_at h hash)) h.elems) i held.file_is.space (λ p f. refl) b (index_at h hash)
        (has_in (natural (entry_at file h (index_at h hash))) h.block b (omega (arith, low, at_is)) (omega (arith, high, at_is))) in
        rw size (omega (arith, o, in_all, some)))

    pub bucket_stays : IsBucketOf (written file 0 front) h hash at bucket
    bucket_stays = record { entry = entry_stays ∙ here.entry; block = ap (λ (x : List ℕ). bucket_at x h.elems) block_stays ∙ here.block }

-- ---- how it ends

pub growth_ends :
    (old mid new : List ℕ) (h : Header) (table : Avail) (hash at : ℕ) (bucket : Bucket) → IsSound old → hash < 2 ^ 31 → table.room ≡ most_of h
    → (g : IsGrown old mid h table hash at bucket) → IsClosed mid new h table g.blocks → IsRoomMade old new h table hash at bucket
growth_ends old mid new h table hash at bucket sound small room g last =
    let s = free_lists table.extents g.blocks [] in
    let header = last.settled.whole.header in
    let few = bits_below mid h table.next_block s hash at bucket g.held small g.here in
    let most = g.held.file_is.bits in
    let map : (key : List ℕ) → value_at new (header_of (front_of new)) key ≡ value_at old (header_of (front_of old)) key = λ key. ap (λ (k : Header). value_at new k key) header ∙ last.settled.whole.map key ∙ g.map key in
    record {
      still_open = record {
        sound = last.settled.whole.sound;
        header_is = sym header;
        table_is = sym (ap (λ (n : ℕ). avail_at (table_of new h) n) (sym room) ∙ last.settled.table_is);
      };
      here = rw last.is (bucket_stays mid h table.next_block s hash at bucket g.held small g.here last.front last.size);
      map = same_lookups old new sound last.settled.whole.sound map;
      lost = let e = last.settled.whole.lost in let l = g.lost in omega (arith, e, l, few, most);
    }
