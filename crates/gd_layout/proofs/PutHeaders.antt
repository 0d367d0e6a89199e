-- What is read where a header was written.
use Rattle.std.proofs.Common.{◌≡◌, ℕ, ◌+◌, ◌-◌, ◌^◌, ◌≤◌, ◌⊎◌, Bool, true, false, not, ◌&&◌, ◌||◌, cond, List, [], ◌∷◌, length, take, drop, replicate, None, refl, sym, ap, ◌∙◌, inl, inr, arith}
use Rattle.std.proofs.lemmas.Bool.{cases_Bool, le-leb, le-ltb, leb-true}
use Rattle.std.proofs.lemmas.Bool.Decides.{Decides-eqb}
use borrow.Rule.Slice.PartMut.{put_mid}
use Rattle.std.proofs.lemmas.List.{take-take, take_all, take_rest, drop-drop, drop-replicate}
use Rattle.std.specs.Int.{w32, cast_signed}
use Rattle.gd_format.specs.declared.RawAvail.{RawAvail}
use Rattle.gd_format.specs.Avail.{Avail, raw_avail_at}
use Rattle.gd_format.specs.File.{front_of}
use Rattle.std.specs.Prelude.{ℤ, pos, nat_lt, ◌==◌}
use Rattle.gd_format.specs.declared.Header.{Header}
use Rattle.gd_format.specs.First.{first_that_holds}
use Rattle.gd_format.specs.Field.{number_of, u32_at, i32_at, i64_at}
use Rattle.gd_format.specs.HeaderFault.{RawHeader, header_at, header_of, header_fault_of, capacity_at, table_place, table_room, slots_of, is_numsync, is_native, is_swapped, is_narrow, is_block_size, is_dir_in, are_sizes_right, is_table_right, is_within, natural, dir_size_of}
use Rattle.gd_format.specs.Sound.{place_of, table_of}
use Rattle.gd_format.proofs.Firsts.{and-true, and-false, both_true}
use Rattle.gd_layout.specs.Fits.{FitsHeader, IsHeaderOf}
use Rattle.gd_layout.specs.Writing.{HasWords, raw_header_from, raw_avail_from}
use Rattle.gd_layout.proofs.Pieces.{u32_at-front, i32_at-front, i64_at-front, drop-more, put-front, put_rest}

-- ---- what a shared front gives

pub header-front : (xs ys : List ℕ) (m : ℕ) → 40 ≤ m → take m xs ≡ take m ys → header_at xs ≡ header_at ys
header-front xs ys m le f =
    let e1 = u32_at-front 0 m xs ys (omega arith) f in
    let e2 = i32_at-front 4 m xs ys (omega arith) f in
    let e3 = i64_at-front 8 m xs ys (omega arith) f in
    let e4 = i32_at-front 16 m xs ys (omega arith) f in
    let e5 = i32_at-front 20 m xs ys (omega arith) f in
    let e6 = i32_at-front 24 m xs ys (omega arith) f in
    let e7 = i32_at-front 28 m xs ys (omega arith) f in
    let e8 = i64_at-front 32 m xs ys (omega arith) f in
    rw (e1, e2, e3, e4, e5, e6, e7, e8) refl

pub words-front : (xs ys : List ℕ) (m : ℕ) (h : Header) → 72 ≤ m → take m xs ≡ take m ys → HasWords ys h → HasWords xs h
words-front xs ys m h le f w =
    let e1 = u32_at-front 48 m xs ys (omega arith) f in
    let e2 = u32_at-front 52 m xs ys (omega arith) f in
    let e3 = u32_at-front 56 m xs ys (omega arith) f in
    let e4 = u32_at-front 60 m xs ys (omega arith) f in
    let e5 = u32_at-front 64 m xs ys (omega arith) f in
    let e6 = u32_at-front 68 m xs ys (omega arith) f in
    record {
      version = u32_at-front 40 m xs ys (omega arith) f ∙ w.version;
      numsync = u32_at-front 44 m xs ys (omega arith) f ∙ w.numsync;
      reserved = rw (e1, e2, e3, e4, e5, e6) w.reserved;
    }

-- ---- the header that is read

-- the fields that stand in a block
pub record IsWritten (b : List ℕ) (h : Header) : Type 0 where
  pub fields : header_at b ≡ raw_header_from h
  pub words : is_numsync h.magic ≡ true → HasWords b h
  pub capacity : i32_at b (place_of h) ≡ pos h.avail_size

pub written-front : (xs ys : List ℕ) (m : ℕ) (h : Header) → 80 ≤ m → take m xs ≡ take m ys → IsWritten ys h → IsWritten xs h
written-front xs ys m h le f w = record {
  fields = header-front xs ys m (omega arith) f ∙ w.fields;
  words = λ numsync. words-front xs ys m h (omega arith) f (w.words numsync);
  capacity = i32_at-front (place_of h) m xs ys (place_fits (is_numsync h.magic) m le) f ∙ w.capacity;
}
  where
    place_fits : (t : Bool) (m : ℕ) → 80 ≤ m → cond t 72 40 + 4 ≤ m
    place_fits true m le = omega arith
    place_fits false m le = omega arith

module _ (b : List ℕ) (h : Header) (w : IsWritten b h) where
  magic_is : u32_at b 0 ≡ h.magic
  magic_is = ap (λ (r : RawHeader). r.magic) w.fields

  capacity_is : capacity_at b ≡ pos h.avail_size
  capacity_is = ap (λ (m : ℕ). i32_at b (table_place m)) magic_is ∙ w.capacity

  block_is : i32_at b 4 ≡ pos h.block
  block_is = ap (λ (r : RawHeader). r.block) w.fields

  numsync_reads : FitsHeader h → is_numsync h.magic ≡ true → header_of b ≡ h
  unfolding header_of
  numsync_reads fits e =
      let words = w.words e in
      let dir : i64_at b 8 ≡ pos h.dir = ap (λ (r : RawHeader). r.dir) w.fields in
      let bits : i32_at b 20 ≡ pos h.dir_bits = ap (λ (r : RawHeader). r.dir_bits) w.fields in
      let elems : i32_at b 28 ≡ pos h.elems = ap (λ (r : RawHeader). r.elems) w.fields in
      let next : i64_at b 32 ≡ pos h.next_block = ap (λ (r : RawHeader). r.next_block) w.fields in
      rw (capacity_is, magic_is, block_is, dir, bits, elems, next, ← fits.format, e, words.version, words.numsync, words.reserved) refl

  standard_reads : FitsHeader h → is_numsync h.magic ≡ false → header_of b ≡ h
  unfolding header_of
  standard_reads fits e =
      let words = fits.words e in
      let dir : i64_at b 8 ≡ pos h.dir = ap (λ (r : RawHeader). r.dir) w.fields in
      let bits : i32_at b 20 ≡ pos h.dir_bits = ap (λ (r : RawHeader). r.dir_bits) w.fields in
      let elems : i32_at b 28 ≡ pos h.elems = ap (λ (r : RawHeader). r.elems) w.fields in
      let next : i64_at b 32 ≡ pos h.next_block = ap (λ (r : RawHeader). r.next_block) w.fields in
      rw (capacity_is, magic_is, block_is, dir, bits, elems, next, ← fits.format, e, words.0, words.1, words.2) refl

  pub header_reads : FitsHeader h → header_of b ≡ h
  header_reads fits = elim (cases_Bool (is_numsync h.magic)) [ inl e ↦ numsync_reads fits e | inr e ↦ standard_reads fits e ]

-- ---- no fault

or_true : (a b : Bool) → (a || b) ≡ true → (a ≡ true) ⊎ (b ≡ true)
or_true true b h = inl refl
or_true false b h = inr h

native_tests : (m : ℕ) → is_native m ≡ true → (is_swapped m ≡ false) × (is_narrow m ≡ false)
unfolding is_native is_swapped is_narrow
native_tests m h = by (or_true (m == 0x13579ace || m == 0x13579acf) (m == 0x13579ad1) h)
  where
    Goal : Type 0
    Goal = ((m == 0xce9a5713 || m == 0xcf9a5713 || m == 0xd19a5713 || m == 0xcd9a5713 || m == 0xd09a5713) ≡ false) × ((m == 0x13579acd || m == 0x13579ad0) ≡ false)

    one : (k : ℕ) → m == k ≡ true → m ≡ k
    one k e = (Decides-eqb m k).0 e

    by : ((m == 0x13579ace || m == 0x13579acf) ≡ true) ⊎ (m == 0x13579ad1 ≡ true) → Goal
    by (inl a) = elim (or_true (m == 0x13579ace) (m == 0x13579acf) a) [
      | inl e ↦ rw (one 0x13579ace e) (refl, refl)
      | inr e ↦ rw (one 0x13579acf e) (refl, refl)
    ]
    by (inr e) = rw (one 0x13579ad1 e) (refl, refl)

dir_in : (h : Header) (len : ℕ) → IsHeaderOf h len → is_dir_in (raw_header_from h) len ≡ true
unfolding is_dir_in
dir_in h len i =
    let bits = i.header.bits in
    let dir = i.dir in
    both_true _ _
    (both_true _ _ (both_true _ _ (both_true _ _ (le-leb 0 h.dir_bits (omega arith)) (le-leb h.dir_bits 24 bits)) ((Decides-eqb (dir_size_of h.dir_bits) (dir_size_of h.dir_bits)).1 refl)) (le-leb (dir_size_of h.dir_bits) len (omega (arith, dir))))
    (both_true _ _ (le-leb 0 h.dir (omega arith)) (le-leb h.dir (len - dir_size_of h.dir_bits) (omega (arith, dir))))

sizes_right : (h : Header) (len : ℕ) → IsHeaderOf h len → are_sizes_right (raw_header_from h) ≡ true
unfolding are_sizes_right
sizes_right h len i = both_true _ _ ((Decides-eqb h.block h.block).1 refl) ((Decides-eqb h.elems (slots_of h.block)).1 i.header.elems)

least_block : (h : Header) (len : ℕ) → IsHeaderOf h len → 512 ≤ h.block
unfolding is_block_size
least_block h len i = leb-true 512 h.block (and-true _ _ (and-true _ _ i.header.block).0).0

all_pass : {E : Type 0} (a b c d e f g h i j k : E) (t1 t2 t3 t4 t5 t6 t7 t8 t9 t10 t11 : Bool) → t1 ≡ false → t2 ≡ false → t3 ≡ false → t4 ≡ false → t5 ≡ false → t6 ≡ false → t7 ≡ false → t8 ≡ false → t9 ≡ false → t10 ≡ false → t11 ≡ false
    → first_that_holds ((t1, a) ∷ (t2, b) ∷ (t3, c) ∷ (t4, d) ∷ (t5, e) ∷ (t6, f) ∷ (t7, g) ∷ (t8, h) ∷ (t9, i) ∷ (t10, j) ∷ (t11, k) ∷ []) ≡ None
all_pass a b c d e f g h i j k t1 t2 t3 t4 t5 t6 t7 t8 t9 t10 t11 p1 p2 p3 p4 p5 p6 p7 p8 p9 p10 p11 = rw (p1, p2, p3, p4, p5, p6, p7, p8, p9, p10, p11) refl

module _ (b : List ℕ) (h : Header) (w : IsWritten b h) (len : ℕ) (i : IsHeaderOf h len) where
  table_right : is_table_right b ≡ true
  unfolding is_table_right
  table_right =
      let block : natural (i32_at b 4) ≡ h.block = ap (λ (r : RawHeader). natural r.block) w.fields in
      rw (capacity_is b h w, magic_is b h w, block) (both_true _ _ (le-leb 2 h.avail_size i.header.least) (le-leb h.avail_size (table_room h.magic h.block) i.header.most))

  pub no_fault : header_fault_of b len ≡ None
  unfolding header_fault_of
  no_fault =
      let least = least_block h len i in
      let large = i.block in
      let native = native_tests h.magic i.magic in
      let next : is_within (pos h.next_block) 0 (2 ^ 46) ≡ true = both_true _ _ (le-leb 0 h.next_block (omega arith)) (le-leb h.next_block (2 ^ 46) i.header.next_block) in
      all_pass _ _ _ _ _ _ _ _ _ _ _ _ _ _ _ _ _ _ _ _ _ _
      (le-ltb len 40 (omega (arith, least, large)))
      (ap is_swapped (magic_is b h w) ∙ native.0)
      (ap is_narrow (magic_is b h w) ∙ native.1)
      (ap (λ (m : ℕ). not (is_native m)) (magic_is b h w) ∙ ap not i.magic)
      (ap (λ (t : Bool). u32_at b 0 == 0x13579ad1 && t) (le-ltb len 72 (omega (arith, least, large))) ∙ and-false (u32_at b 0 == 0x13579ad1))
      (ap (λ (z : ℤ). not (is_block_size z)) (block_is b h w) ∙ ap not i.header.block)
      (ap (λ (z : ℤ). nat_lt len (natural z)) (block_is b h w) ∙ le-ltb len h.block large)
      (ap (λ (r : RawHeader). not (is_dir_in r len)) w.fields ∙ ap not (dir_in h len i))
      (ap (λ (r : RawHeader). not (are_sizes_right r)) w.fields ∙ ap not (sizes_right h len i))
      (ap (λ (r : RawHeader). not (is_within r.next_block 0 (2 ^ 46))) w.fields ∙ ap not next)
      (ap not table_right)

-- ---- the block that is written: the fields, then the words, then the table from its place on

place_from : (t : Bool) → 40 ≤ cond t 72 40
place_from true = omega arith
place_from false = omega arith

module _ (b1 b2 part : List ℕ) (h : Header) (a : Avail) (fields : header_at b1 ≡ raw_header_from h) (words : is_numsync h.magic ≡ true → HasWords b2 h) (front : take 40 b2 ≡ take 40 b1) (size : length b2 ≡ h.block) (long : length part ≡ h.block - place_of h) (room : place_of h ≤ h.block) (head : raw_avail_at part ≡ raw_avail_from a h.avail_size) where
  abbrev whole : List ℕ
  whole = put_mid (place_of h) (length b2 - place_of h) b2 part

  same_front : take (place_of h) whole ≡ take (place_of h) b2
  same_front = put-front (place_of h) (length b2 - place_of h) b2 part (omega (arith, size, room))

  rest_is : drop (place_of h) whole ≡ part
  rest_is = put_rest (place_of h) (length b2 - place_of h) b2 part (omega (arith, size, room)) refl

  pub table_is : table_of whole h ≡ part
  unfolding table_of
  table_is = ap (take (h.block - place_of h)) rest_is ∙ take_all (h.block - place_of h) part (omega (arith, long))

  words_in : (t : Bool) → is_numsync h.magic ≡ t → t ≡ true → HasWords whole h
  words_in t e yes_ =
      let numsync : is_numsync h.magic ≡ true = e ∙ yes_ in
      let place : place_of h ≡ 72 = ap {B = ℕ} (λ (b : Bool). cond b 72 40) numsync in
      words-front whole b2 (place_of h) h (omega (arith, place)) same_front (words numsync)

  capacity_in : i32_at whole (place_of h) ≡ pos h.avail_size
  unfolding i32_at u32_at raw_avail_at
  capacity_in = ap (λ (xs : List ℕ). cast_signed w32 (number_of (take 4 xs))) rest_is ∙ ap (λ (r : RawAvail). r.size) head

  pub is_written : IsWritten whole h
  is_written = record {
    fields = header-front whole b2 (place_of h) (place_from (is_numsync h.magic)) same_front ∙ header-front b2 b1 40 (omega arith) front ∙ fields;
    words = λ numsync. words_in true numsync refl;
    capacity = capacity_in;
  }

  -- the bytes in which a file's header stands
  pub front_is : 80 ≤ h.block → IsWritten (front_of whole) h
  front_is least = written-front (front_of whole) whole 80 h (omega arith) (take-take 80 80 whole (omega arith)) is_written

  -- what lies beyond the table
  pub beyond_is : (b0 : List ℕ) (m : ℕ) → place_of h + m ≤ h.block → drop m part ≡ drop m (take (length b2 - place_of h) (drop (place_of h) b2)) → drop (place_of h) b2 ≡ drop (place_of h) b1 → drop 40 b1 ≡ drop 40 b0 → b0 ≡ replicate h.block 0
      → drop (place_of h + m) whole ≡ replicate (h.block - (place_of h + m)) 0
  beyond_is b0 m le e back2 back1 zeros =
      sym (drop-drop m (place_of h) whole) ∙ ap (drop m) rest_is ∙ e ∙ ap (drop m) (take_rest b2 (place_of h)) ∙ drop-drop m (place_of h) b2
      ∙ drop-more (place_of h) (place_of h + m) b2 b1 (omega arith) back2 ∙ drop-more 40 (place_of h + m) b1 b0 (later (place_from (is_numsync h.magic))) back1
      ∙ ap (drop (place_of h + m)) zeros ∙ drop-replicate (place_of h + m) h.block 0
    where
      later : 40 ≤ place_of h → 40 ≤ place_of h + m
      later g = omega (arith, g)
