-- What the header's block of a new file reads as.
use Rattle.std.proofs.Common.{◌≡◌, ℕ, ◌+◌, ◌-◌, ◌*◌, ◌^◌, ◌<◌, ◌≤◌, true, false, List, [], ◌++◌, length, take, refl, sym, ap, ◌∙◌, arith, length-append}
use Rattle.std.proofs.lemmas.Bool.{le-leb}
use Rattle.std.proofs.lemmas.List.{take_all, length-replicate, replicate-append-replicate}
use Rattle.std.specs.Prelude.{pos}
use Rattle.byteorder.specs.Endian.{little_bytes}
use Rattle.gd_base.specs.declared.errors.Format.{Format}
use Rattle.gd_base.specs.declared.errors.Format.TheVariants.{Standard, Numsync}
use Rattle.gd_format.specs.declared.Header.{Header}
use Rattle.gd_format.specs.Field.{bytes_at, u32_at, u64_at, i32_at, i64_at}
use Rattle.gd_format.specs.HeaderFault.{header_at, dir_size_of, slots_of, table_place, table_room}
use Rattle.gd_format.specs.Avail.{raw_avail_at, next_at, extents_at, is_avail}
use Rattle.gd_format.proofs.Firsts.{both_true}
use Rattle.gd_layout.specs.Writing.{raw_header_from}
use Rattle.gd_layout.proofs.Pieces.{i32_is, i64_is}
use Rattle.gd_layout.proofs.PutHeaders.{IsWritten}
use Rattle.gd_create.specs.NewFile.{IsNewBlock, magic_of, new_header, zeros, fields_bytes, header_bytes}
use Rattle.gd_create.proofs.Numbers.{back_4, back_8}
use Rattle.gd_create.proofs.Powers.{bounds}

-- the fields at the front
module _ (m b d s n k e x : ℕ) (rest : List ℕ) where
  abbrev bytes : List ℕ
  bytes = little_bytes 4 m ++ little_bytes 4 b ++ little_bytes 8 d ++ little_bytes 4 s ++ little_bytes 4 n ++ little_bytes 4 k ++ little_bytes 4 e ++ little_bytes 8 x ++ rest

  fields_read : m < 2 ^ 32 → b < 2 ^ 31 → d < 2 ^ 63 → s < 2 ^ 31 → n < 2 ^ 31 → k < 2 ^ 31 → e < 2 ^ 31 → x < 2 ^ 63
      → header_at bytes ≡ record { magic = m; block = pos b; dir = pos d; dir_size = pos s; dir_bits = pos n; bucket_size = pos k; elems = pos e; next_block = pos x }
  unfolding u32_at u64_at
  fields_read lm lb ld ls ln lk le lx =
      let e0 : u32_at bytes 0 ≡ m = back_4 m lm in
      let e1 : i32_at bytes 4 ≡ pos b = i32_is bytes 4 b (back_4 b (omega arith)) lb in
      let e2 : i64_at bytes 8 ≡ pos d = i64_is bytes 8 d (back_8 d (omega arith)) ld in
      let e3 : i32_at bytes 16 ≡ pos s = i32_is bytes 16 s (back_4 s (omega arith)) ls in
      let e4 : i32_at bytes 20 ≡ pos n = i32_is bytes 20 n (back_4 n (omega arith)) ln in
      let e5 : i32_at bytes 24 ≡ pos k = i32_is bytes 24 k (back_4 k (omega arith)) lk in
      let e6 : i32_at bytes 28 ≡ pos e = i32_is bytes 28 e (back_4 e (omega arith)) le in
      let e7 : i64_at bytes 32 ≡ pos x = i64_is bytes 32 x (back_8 x (omega arith)) lx in
      rw (e0, e1, e2, e3, e4, e5, e6, e7) refl

-- the table: its capacity and zeros
unfoldable pub table_bytes : (capacity place block : ℕ) → List ℕ
table_bytes capacity place block = little_bytes 4 capacity ++ zeros 12 ++ zeros (block - (place + 16))

length-table : (capacity place block : ℕ) → place + 16 ≤ block → length (little_bytes 4 capacity ++ zeros (block - (place + 4))) ≡ block - place
length-table capacity place block le =
    let z = length-replicate {A = ℕ} (block - (place + 4)) 0 in
    let all = length-append (little_bytes 4 capacity) (zeros (block - (place + 4))) in
    omega (arith, all, z, le)

table_is : (capacity place block : ℕ) → place + 16 ≤ block → take (block - place) (little_bytes 4 capacity ++ zeros (block - (place + 4))) ≡ table_bytes capacity place block
unfolding table_bytes
table_is capacity place block le =
    let rest : 12 + (block - (place + 16)) ≡ block - (place + 4) = omega arith in
    let long = length-table capacity place block le in
    take_all (block - place) (little_bytes 4 capacity ++ zeros (block - (place + 4))) (omega (arith, long))
    ∙ ap (λ (zs : List ℕ). little_bytes 4 capacity ++ zs) (ap zeros (sym rest) ∙ sym (replicate-append-replicate 12 (block - (place + 16)) 0))

-- the block of the header
pub record IsHeaderBlock (block : List ℕ) (h : Header) : Type 0 where
  pub written : IsWritten block h
  pub size : length block ≡ h.block
  pub table : bytes_at block (table_place h.magic) (h.block - table_place h.magic) ≡ table_bytes h.avail_size (table_place h.magic) h.block

small : (format : Format) (block : ℕ) → block ≤ 1048576 → table_room (magic_of format) block < 2 ^ 31
small Standard block le = omega arith
small Numsync block le = omega arith

length-fields : (format : Format) (block bits : ℕ) → length (fields_bytes format block bits) ≡ 40
length-fields format block bits = refl

module _ (block bits : ℕ) (is : IsNewBlock block bits) where
  fields_of : (format : Format) (rest : List ℕ) → header_at (fields_bytes format block bits ++ rest) ≡ raw_header_from (new_header format block bits)
  unfolding new_header
  fields_of format rest =
      let b = bounds block bits is in
      let most = b.most in
      let few = is.most in
      let size = is.size in
      fields_read (magic_of format) block block (dir_size_of bits) bits block (slots_of block) (4 * block) rest (magic_small format) (omega (arith, most)) (omega (arith, most)) (omega (arith, most, size)) (omega (arith, few)) (omega (arith, most)) (omega (arith, most)) (omega (arith, most))
    where
      magic_small : (format : Format) → magic_of format < 2 ^ 32
      magic_small Standard = omega arith
      magic_small Numsync = omega arith

  standard : IsHeaderBlock (header_bytes Standard block bits) (new_header Standard block bits)
  unfolding new_header header_bytes u32_at table_bytes
  standard =
      let b = bounds block bits is in
      let most = b.most in
      let least = b.least in
      let capacity : ℕ = table_room (magic_of Standard) block in
      let lt = small Standard block b.most in
      record {
        written = record {
          fields = fields_of Standard (little_bytes 4 (table_room (magic_of Standard) block) ++ zeros (block - 44));
          words = λ numsync. let no : false ≡ true = numsync in absurd cc;
          capacity = i32_is (header_bytes Standard block bits) 40 (table_room (magic_of Standard) block) (back_4 (table_room (magic_of Standard) block) (omega (arith, lt))) lt;
        };
        size = (let z = length-replicate {A = ℕ} (block - 44) 0 in let l = length-append (fields_bytes Standard block bits ++ little_bytes 4 (table_room (magic_of Standard) block)) (zeros (block - 44)) in omega (arith, l, z, least));
        table = table_is (table_room (magic_of Standard) block) 40 block (omega (arith, least));
      }

  numsync : IsHeaderBlock (header_bytes Numsync block bits) (new_header Numsync block bits)
  unfolding new_header header_bytes u32_at table_bytes
  numsync =
      let b = bounds block bits is in
      let most = b.most in
      let least = b.least in
      let lt = small Numsync block b.most in
      record {
        written = record {
          fields = fields_of Numsync (zeros 32 ++ little_bytes 4 (table_room (magic_of Numsync) block) ++ zeros (block - 76));
          words = λ e. record { version = refl; numsync = refl; reserved = refl };
          capacity = i32_is (header_bytes Numsync block bits) 72 (table_room (magic_of Numsync) block) (back_4 (table_room (magic_of Numsync) block) (omega (arith, lt))) lt;
        };
        size = (let z = length-replicate {A = ℕ} (block - 76) 0 in let l = length-append (fields_bytes Numsync block bits ++ zeros 32 ++ little_bytes 4 (table_room (magic_of Numsync) block)) (zeros (block - 76)) in omega (arith, l, z, least));
        table = table_is (table_room (magic_of Numsync) block) 72 block (omega (arith, least));
      }

  pub header_block : (format : Format) → IsHeaderBlock (header_bytes format block bits) (new_header format block bits)
  header_block Standard = standard
  header_block Numsync = numsync

-- ---- the table has no extent, and the stack no block

pub record IsNoTable (table : List ℕ) : Type 0 where
  pub right : (most : ℕ) → is_avail table most ≡ true
  pub none : extents_at table ≡ []
  pub top : next_at table ≡ 0

pub no_table : (capacity place block : ℕ) → IsNoTable (table_bytes capacity place block)
unfolding table_bytes raw_avail_at next_at is_avail i32_at u32_at i64_at u64_at
no_table capacity place block = record { right = λ most. both_true _ _ (le-leb 0 most (omega arith)) refl; none = refl; top = refl }
