-- What a patched file reads as.
use Rattle.std.proofs.Common.{◌≡◌, ℕ, ◌+◌, ◌<◌, ◌≤◌, List, length, sym, ap, subst, ◌∙◌, arith}
use Rattle.std.specs.Prelude.{ℤ, pos}
use Rattle.gd_format.specs.declared.Header.{Header}
use Rattle.gd_format.specs.declared.RawAvail.{RawAvail}
use Rattle.gd_format.specs.Field.{bytes_at}
use Rattle.gd_format.specs.HeaderFault.{natural, header_of}
use Rattle.gd_format.specs.Bucket.{Bucket, bucket_at, slots_at}
use Rattle.gd_format.specs.Avail.{Avail, avail_at, count_at, extents_at, next_at}
use Rattle.gd_format.specs.File.{front_of, entry_at, block_of}
use Rattle.gd_format.specs.Sound.{extent, table_of, top_of}
use Rattle.gd_format.specs.Covers.{has_byte}
use Rattle.gd_file_laws.specs.Frame.{written}
use Rattle.gd_map_laws.specs.Space.{one_if, free_in, free_of}
use Rattle.gd_map_laws.specs.Frame.{KeepsBut}
use Rattle.gd_map_laws.proofs.Fronts.{front_read}
use Rattle.gd_map_laws.proofs.Put.{written_reads, written_size, written_stays}
use Rattle.gd_map_laws.proofs.Stays.{keeps_join, write_keeps}
use Rattle.gd_space_laws.specs.Patched.{patched, AreSpelled}

-- the bytes of the header's block and of the bucket's block
unfoldable pub two_blocks : Header → ℕ → ℕ → ℕ
two_blocks h at b = one_if (has_byte (extent 0 h.block) b) + one_if (has_byte (extent at h.block) b)

outside : (at n b : ℕ) → b < at → one_if (has_byte (extent at n) b) ≡ 0
outside at n b lt = grind arith

past : (n b : ℕ) → n ≤ b → one_if (has_byte (extent 0 n) b) ≡ 0
past n b le = grind arith

module _ (file : List ℕ) (h : Header) (table : Avail) (at : ℕ) (bucket : Bucket) (block front : List ℕ) (spelled : AreSpelled h table bucket block front) (least : 512 ≤ h.block) (behind : h.block ≤ at) (inside : at + h.block ≤ length file) where
  abbrev p : List ℕ
  p = patched file at block front

  with_block : List ℕ
  with_block = written file at block

  length-with : length (written file at block) ≡ length file
  length-with = let s = written_size file at block in let n = spelled.block_size in omega (arith, s, n, inside)

  pub length-patched : length p ≡ length file
  unfolding patched
  length-patched =
      let s = written_size (written file at block) 0 front in
      let n = spelled.front_size in
      let w = length-with in
      omega (arith, s, n, w, inside, behind)

  block_keeps : KeepsBut (λ b. one_if (has_byte (extent at h.block) b)) file (written file at block)
  block_keeps = subst (λ (n : ℕ). KeepsBut (λ b. one_if (has_byte (extent at n) b)) file (written file at block)) spelled.block_size (write_keeps file at block)

  front_keeps : KeepsBut (λ b. one_if (has_byte (extent 0 h.block) b)) (written file at block) p
  unfolding patched
  front_keeps = subst (λ (n : ℕ). KeepsBut (λ b. one_if (has_byte (extent 0 n) b)) (written file at block) (written (written file at block) 0 front)) spelled.front_size (write_keeps (written file at block) 0 front)

  -- all other bytes stay
  pub keeps : KeepsBut (two_blocks h at) file p
  unfolding two_blocks
  keeps =
      keeps_join (λ b. one_if (has_byte (extent at h.block) b)) (λ b. one_if (has_byte (extent 0 h.block) b)) (λ b. one_if (has_byte (extent 0 h.block) b) + one_if (has_byte (extent at h.block) b)) file (written file at block) p
      (λ x lt z. (omega (arith, z), omega (arith, z))) block_keeps front_keeps

  pub keeps_back : KeepsBut (two_blocks h at) p file
  keeps_back =
      let long = length-patched in
      record { longer = omega (arith, long); bytes = λ a n fits free. sym (keeps.bytes a n (omega (arith, long, fits)) free) }

  front_reads : bytes_at p 0 h.block ≡ front
  unfolding patched
  front_reads = ap (λ (n : ℕ). bytes_at (written (written file at block) 0 front) 0 n) (sym spelled.front_size) ∙ written_reads (written file at block) 0 front

  pub block_reads : bytes_at p at h.block ≡ block
  block_reads =
      ap (λ (n : ℕ). bytes_at p at n) (sym spelled.block_size)
      ∙ written_stays (λ b. one_if (has_byte (extent 0 h.block) b)) file p at block front_keeps (λ b low high. past h.block b (omega (arith, low, behind)))

  pub front_is : front_of p ≡ front_of front
  front_is = (front_read p front h (omega (arith, least)) front_reads).front_is

  table_is : table_of p h ≡ table_of front h
  table_is = (front_read p front h (omega (arith, least)) front_reads).table_is

  pub header_is : header_of (front_of p) ≡ h
  header_is = ap header_of front_is ∙ spelled.header

  pub table_holds : extents_at (table_of p h) ≡ table.extents
  unfolding avail_at
  table_holds = ap extents_at table_is ∙ ap (λ (a : Avail). a.extents) spelled.holds

  pub top_is : top_of p h ≡ table.next_block
  unfolding avail_at
  top_is = ap next_at table_is ∙ ap (λ (a : Avail). a.next_block) spelled.holds

  pub count_is : count_at (table_of p h) ≡ pos (length table.extents)
  count_is = ap count_at table_is ∙ ap (λ (r : RawAvail). r.count) spelled.head

  pub free_reads : free_in (bytes_at p at h.block) ≡ bucket.free
  unfolding bucket_at
  free_reads = ap free_in block_reads ∙ ap (λ (k : Bucket). k.free) spelled.reads

  slots_read : slots_at (bytes_at p at h.block) h.elems ≡ bucket.slots
  unfolding bucket_at
  slots_read = ap (λ (xs : List ℕ). slots_at xs h.elems) block_reads ∙ ap (λ (k : Bucket). k.slots) spelled.reads

  -- the bucket by its entry
  module _ (i : ℕ) (place : entry_at p h i ≡ pos at) where
    pub free_is : free_of p h i ≡ bucket.free
    unfolding free_of block_of
    free_is = ap (λ (z : ℤ). free_in (bytes_at p (natural z) h.block)) place ∙ free_reads

    pub slots_are : slots_at (block_of p h i) h.elems ≡ bucket.slots
    unfolding block_of
    slots_are = ap (λ (z : ℤ). slots_at (bytes_at p (natural z) h.block) h.elems) place ∙ slots_read
