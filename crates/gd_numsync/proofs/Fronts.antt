-- What stands behind the header's block counts the same bytes after that block was written.
use Rattle.std.proofs.Common.{◌≡◌, ℕ, ◌+◌, ◌-◌, ◌*◌, ◌<◌, List, [], length, refl, ap, ◌∙◌, arith}
use Rattle.std.specs.Prelude.{ℤ}
use Rattle.gd_format.specs.declared.Extent.{Extent}
use Rattle.gd_format.specs.declared.Header.{Header}
use Rattle.gd_format.specs.Field.{bytes_at, i64_at, u64_at}
use Rattle.gd_format.specs.HeaderFault.{natural, header_of}
use Rattle.gd_format.specs.Bucket.{slots_at}
use Rattle.gd_format.specs.File.{front_of, entry_at, entries_of, block_of, is_first}
use Rattle.gd_format.specs.Sound.{IsSound, extent, extents, lost_total}
use Rattle.gd_format.specs.Covers.{has_byte}
use Rattle.gd_map_laws.specs.Space.{one_if, free_of, bucket_cover, all_cover}
use Rattle.gd_map_laws.specs.Frame.{KeepsBut}
use Rattle.gd_map_laws.specs.Change.{IsSoundFile}
use Rattle.gd_map_laws.specs.Sounds.{pool_of}
use Rattle.gd_map_laws.specs.Sums.{sum_below}
use Rattle.gd_map_laws.specs.Update.{IsSameShape}
use Rattle.gd_map_laws.proofs.Stays.{has_in, bucket_in_all, within_ends, block_counts}
use Rattle.gd_map_laws.proofs.Space.{sum_same, first_same}
use Rattle.gd_map_laws.proofs.Change.{all_shape}
use Rattle.gd_map_laws.proofs.Sounds.{cover_is}
use Rattle.gd_map_laws.proofs.Sums.{sum_even, held_sum, space_of}

module _ (file new : List ℕ) (h : Header) (next : ℕ) (pool : List Extent) (file_is : IsSoundFile file h next pool) (keeps : KeepsBut (λ b. one_if (has_byte (extent 0 h.block) b)) file new) where
  bucket_free : (j : ℕ) → j < entries_of h → (b : ℕ) → 0 < bucket_cover file h b j → one_if (has_byte (extent 0 h.block) b) ≡ 0
  unfolding all_cover
  bucket_free j lj b some =
      let o = file_is.space.once b in
      let sum = bucket_in_all file h j next pool [] (slots_at (block_of file h j) h.elems) lj file_is.space (λ p e. refl) b in
      omega (arith, o, sum, some)

  entries : (j : ℕ) → j < entries_of h → entry_at new h j ≡ entry_at file h j
  unfolding entry_at i64_at u64_at all_cover
  entries j lj =
      let d = file_is.dir in
      let same =
      keeps.bytes (h.dir + 8 * j) 8 (omega (arith, d, lj))
      (λ b low high.
      let o = file_is.space.once b in
      let has : one_if (has_byte (extent h.dir (8 * entries_of h)) b) ≡ 1 = rw (has_in h.dir (8 * entries_of h) b (omega (arith, low)) (omega (arith, high, lj))) refl in
      omega (arith, o, has)) in
      rw same refl

  blocks_same : (j : ℕ) → j < entries_of h → block_of new h j ≡ block_of file h j
  unfolding block_of
  blocks_same j lj =
      let ends = within_ends (entry_at file h j) (length file - h.block) (file_is.parts.dir.in_file j lj) in
      let fits = file_is.parts.dir.block_fits in
      ap (λ (z : ℤ). bytes_at new (natural z) h.block) (entries j lj)
      ∙ keeps.bytes (natural (entry_at file h j)) h.block (omega (arith, ends, fits))
      (λ b low high. bucket_free j lj b (block_counts file h j next pool [] (slots_at (block_of file h j) h.elems) lj file_is.space (λ p e. refl) b j (has_in (natural (entry_at file h j)) h.block b low high)))

  covers_same : (b j : ℕ) → j < entries_of h → bucket_cover new h b j ≡ bucket_cover file h b j
  unfolding bucket_cover free_of
  covers_same b j lj = rw (entries j lj, blocks_same j lj) refl

  pub all_same : (b : ℕ) → all_cover new h pool b ≡ all_cover file h pool b
  unfolding all_cover
  all_same b =
      let s = sum_same (is_first new h) (is_first file h) (bucket_cover new h b) (bucket_cover file h b) (entries_of h) (first_same file new h entries) (λ j lj p. covers_same b j lj) in
      omega (arith, s)

-- what is lost of a sound file, by the bytes that its extents have
pub lost_is : (file : List ℕ) (h : Header) (pool : List Extent) → IsSound file → header_of (front_of file) ≡ h → pool_of file h ≡ pool → lost_total file ≡ h.next_block - sum_below (all_cover file h pool) h.next_block
unfolding lost_total extents
lost_is file h pool sound is pools =
    let whole = held_sum file (header_of (front_of file)) (header_of (front_of file)).next_block (pool_of file (header_of (front_of file))) (space_of file sound) (λ b. cover_is file (header_of (front_of file)) b) (header_of (front_of file)).next_block (omega arith) in
    ap (λ (n : ℕ). (header_of (front_of file)).next_block - n) (rw whole refl)
    ∙ ap (λ (k : Header). k.next_block - sum_below (all_cover file k (pool_of file k)) k.next_block) is
    ∙ ap (λ (l : List Extent). h.next_block - sum_below (all_cover file h l) h.next_block) pools

-- the same bytes are counted, so as many are lost
pub lost_same : (file new : List ℕ) (h h' : Header) (pool : List Extent) → IsSound file → IsSound new → header_of (front_of file) ≡ h → header_of (front_of new) ≡ h' → pool_of file h ≡ pool → pool_of new h' ≡ pool → IsSameShape h h' → h'.next_block ≡ h.next_block → ((b : ℕ) → all_cover new h pool b ≡ all_cover file h pool b) → lost_total new ≡ lost_total file
lost_same file new h h' pool sound now is is_new pools pools_new shape next same =
    let even : sum_below (all_cover new h' pool) h.next_block ≡ sum_below (all_cover file h pool) h.next_block =
    sum_even (all_cover new h' pool) (all_cover file h pool) h.next_block (λ b. all_shape new h h' shape pool b ∙ same b) in
    lost_is new h' pool now is_new pools_new
    ∙ ap (λ (n : ℕ). n - sum_below (all_cover new h' pool) n) next
    ∙ ap (λ (n : ℕ). h.next_block - n) even
    ∙ (let l = lost_is file h pool sound is pools in rw l refl)
