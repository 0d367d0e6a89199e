-- A new file by its three blocks.
use Rattle.std.proofs.Common.{◌≡◌, ℕ, ◌+◌, ◌-◌, ◌*◌, ◌^◌, ◌<◌, ◌≤◌, List, [], ◌∷◌, ◌++◌, length, take, None, refl, sym, ap, subst, ◌∙◌, arith, length-append, append_assoc}
use Rattle.std.proofs.lemmas.Bool.Decides.{nat_tests}
use Rattle.std.proofs.lemmas.List.{take_all, take-take, take-append-le}
use Rattle.std.specs.Prelude.{pos}
use Rattle.std.specs.Int.{w64, cast_signed}
use Rattle.gd_base.specs.declared.errors.Format.{Format}
use Rattle.gd_base.specs.declared.errors.Format.TheVariants.{Standard, Numsync}
use Rattle.gd_format.specs.declared.Header.{Header}
use Rattle.gd_format.specs.Field.{number_of, bytes_at, i64_at, u64_at}
use Rattle.gd_format.specs.HeaderFault.{header_fault_of, table_place}
use Rattle.gd_format.specs.Avail.{avail_at}
use Rattle.gd_format.specs.File.{front_of, entry_at}
use Rattle.gd_format.specs.Sound.{extent, place_of, table_of, is_free_right}
use Rattle.gd_format.specs.Covers.{has_byte, cover}
use Rattle.gd_layout.proofs.PutHeaders.{IsWritten, written-front, header_reads, no_fault}
use Rattle.gd_file_laws.specs.Parts.{file_header}
use Rattle.gd_file_laws.proofs.Frame.{bytes_at-front, bytes_at-back}
use Rattle.gd_map_laws.specs.Space.{one_if}
use Rattle.gd_map_laws.specs.NewFile.{new_cover, IsNewFile}
use Rattle.gd_map_laws.proofs.NewFile.{new_sound}
use Rattle.gd_create.specs.NewFile.{IsNewBlock, new_header, header_bytes, dir_bytes, bucket_bytes, new_file}
use Rattle.gd_create.specs.Laws.{IsNew}
use Rattle.gd_create.proofs.Powers.{bounds, is_header_of, fits}
use Rattle.gd_create.proofs.Headers.{IsNoTable, header_block, no_table}
use Rattle.gd_create.proofs.TwoBlocks.{length-dir, dir_entry, length-bucket, no_slots, no_bits, right, number, free, free_right, bucket_reads}

-- the four blocks
abbrev cover_at : ℕ → ℕ → ℕ
cover_at block b = one_if (has_byte (extent 0 block) b) + one_if (has_byte (extent block block) b) + one_if (has_byte (extent (2 * block) block) b) + cover (extent (3 * block) block ∷ []) b

cover_once : (block b : ℕ) → cover_at block b ≤ 1
cover_once block b = grind (arith, nat_tests)

cover_below : (block b : ℕ) → 0 < cover_at block b → b < 4 * block
cover_below block b some = grind (arith, nat_tests, some)

place_small : (format : Format) (block bits : ℕ) → place_of (new_header format block bits) ≤ 72
unfolding new_header
place_small Standard block bits = omega arith
place_small Numsync block bits = omega arith

block_is : (format : Format) (block bits : ℕ) → (new_header format block bits).block ≡ block
unfolding new_header
block_is format block bits = refl

pub length-header : (format : Format) (block bits : ℕ) → IsNewBlock block bits → length (header_bytes format block bits) ≡ block
unfolding new_header
length-header format block bits is = (header_block block bits is format).size

module _ (format : Format) (block bits : ℕ) (is : IsNewBlock block bits) where
  abbrev h : Header
  h = new_header format block bits

  abbrev head : List ℕ
  head = header_bytes format block bits

  abbrev dir : List ℕ
  dir = dir_bytes block bits

  abbrev bucket : List ℕ
  bucket = bucket_bytes block

  abbrev file : List ℕ
  file = new_file format block bits

  least : 512 ≤ block
  least = (bounds block bits is).least

  most : block ≤ 1048576
  most = (bounds block bits is).most

  length-head : length head ≡ block
  length-head = length-header format block bits is

  length-bucket_ : length bucket ≡ block
  length-bucket_ = length-bucket block least most

  parts : file ≡ head ++ dir ++ bucket
  unfolding new_file
  parts = refl

  length-two : length (head ++ dir) ≡ 2 * block
  length-two = let a = length-head in let b = length-dir block bits is in length-append head dir ∙ omega (arith, a, b)

  pub length-new : length file ≡ 3 * block
  length-new = let a = length-two in let b = length-bucket_ in ap (λ (zs : List ℕ). length zs) parts ∙ length-append (head ++ dir) bucket ∙ omega (arith, a, b)

  -- ---- the header

  written : IsWritten (front_of file) h
  written =
      let long = length-head in
      let low = least in
      let front : take 80 (front_of file) ≡ take 80 head = take-take 80 80 file (omega arith) ∙ ap (take 80) (parts ∙ append_assoc head dir bucket) ∙ take-append-le 80 head (dir ++ bucket) (omega (arith, long, low)) in
      written-front (front_of file) head 80 h (omega arith) front (header_block block bits is format).written

  pub header_is : file_header file ≡ h
  header_is = header_reads (front_of file) h written (fits format block bits is)

  no_header_fault : header_fault_of (front_of file) (length file) ≡ None
  no_header_fault = no_fault (front_of file) h written (length file) (is_header_of format block bits is (length file) (let l = length-new in omega (arith, l)))

  table_is : table_of file h ≡ bytes_at head (table_place h.magic) (h.block - table_place h.magic)
  unfolding table_of
  table_is =
      let long = length-head in
      let low = least in
      let few = place_small format block bits in
      let same = block_is format block bits in
      ap (λ (zs : List ℕ). bytes_at zs (place_of h) (h.block - place_of h)) (parts ∙ append_assoc head dir bucket)
      ∙ bytes_at-front head (dir ++ bucket) (place_of h) (h.block - place_of h) (omega (arith, long, low, few, same))

  no_table_in : IsNoTable (table_of file h)
  no_table_in = subst IsNoTable (sym (table_is ∙ (header_block block bits is format).table)) (no_table h.avail_size (table_place h.magic) h.block)

  avail_is : (most : ℕ) → avail_at (table_of file h) most ≡ record { extents = []; next_block = 0; room = most }
  unfolding avail_at
  avail_is n = let none = no_table_in.none in let top = no_table_in.top in rw (none, top) refl

  -- ---- the directory and the bucket

  entry : (i : ℕ) → i < 2 ^ bits → i64_at file (block + 8 * i) ≡ pos (2 * block)
  unfolding i64_at u64_at
  entry i lt =
      let long = length-two in
      let one = length-head in
      let wide = is.size in
      let end : 8 * (i + 1) ≤ 8 * 2 ^ bits = grind arith in
      let two = length-dir block bits is in
      let bytes : bytes_at file (block + 8 * i) 8 ≡ bytes_at dir (8 * i) 8 =
      ap (λ (zs : List ℕ). bytes_at zs (block + 8 * i) 8) parts ∙ bytes_at-front (head ++ dir) bucket (block + 8 * i) 8 (omega (arith, long, wide, end)) ∙ bytes_at-back head dir (block + 8 * i) (8 * i) 8 (omega (arith, one)) in
      ap (λ (zs : List ℕ). cast_signed w64 (number_of zs)) bytes ∙ dir_entry block bits i is lt

  pub bucket_is : bytes_at file (2 * block) block ≡ bucket
  bucket_is =
      let long = length-two in
      let size = length-bucket_ in
      ap (λ (zs : List ℕ). bytes_at zs (2 * block) block) parts ∙ bytes_at-back (head ++ dir) bucket (2 * block) 0 block (omega (arith, long)) ∙ take_all block bucket (omega (arith, size))

  by : IsNewFile file (2 * block)
  unfolding new_header new_cover entry_at is_free_right
  by =
      let long = length-new in
      let cover_is : (b : ℕ) → new_cover file (2 * block) b ≡ cover_at block b = λ b.
      rw header_is
      (let at = bucket_is in let gap = free block least most in let wide = is.size in rw (at, gap, ← wide) refl) in
      record {
        header = no_header_fault;
        short = rw header_is (omega (arith, long));
        entries = rw header_is (λ i lt. entry i lt);
        in_file = rw header_is (omega (arith, long));
        fields = rw (header_is, bucket_is) (right block least most);
        number = rw (header_is, bucket_is) (number block least most);
        bits = rw (header_is, bucket_is) (no_bits block least most);
        empty = rw (header_is, bucket_is) (no_slots block least most);
        free = rw (header_is, bucket_is) (free_right block least most);
        table = rw header_is (no_table_in.right h.avail_size);
        table_empty = rw header_is no_table_in.none;
        no_stack = rw header_is no_table_in.top;
        once = λ b. rw (cover_is b) (cover_once block b);
        below = λ b some. rw header_is (cover_below block b (rw (cover_is b) at some));
      }

  pub is_new : IsNew file h
  unfolding new_header entry_at
  is_new =
      let s = new_sound file (2 * block) by in
      let long = length-new in
      record {
        header = header_is;
        sound = s.0;
        records = s.1;
        size = long;
        next = omega (arith, long);
        entries = λ i lt. entry i lt;
        table = avail_is;
        bucket = rw bucket_is (bucket_reads block least most);
        parts = by;
      }
