-- A change of one key keeps the file sound and changes the map at its key.
use Rattle.std.proofs.Common.{◌≡◌, ℕ, ◌+◌, ◌-◌, ◌*◌, ◌/◌, ◌^◌, ◌<◌, ◌≤◌, Bool, true, false, ◌&&◌, ◌||◌, leb, ltb, List, [], ◌∷◌, ◌++◌, length, take, drop, Option, Some, None, refl, sym, ap, ◌∙◌, inl, inr, arith, length-append, length-drop}
use Rattle.std.specs.Prelude.{ℤ, nat_le, ◌==◌}
use Rattle.std.proofs.lemmas.Bool.{cases_lt, le-leb}
use Rattle.std.proofs.lemmas.Bool.Decides.{nat_tests, Decides-eqb}
use Rattle.std.proofs.lemmas.List.{take-take, drop-take, drop-drop, take_at, drop_at, length-take}
use Rattle.std.proofs.lemmas.Nat.{shr-shr}
use Rattle.gd_format.specs.declared.Header.{Header}
use Rattle.gd_format.specs.declared.Extent.{Extent}
use Rattle.gd_format.specs.declared.Slot.{Slot}
use Rattle.gd_format.specs.declared.Slot.TheVariants.{Full}
use Rattle.gd_format.specs.Hash.{hash_of}
use Rattle.gd_format.specs.Field.{bytes_at}
use Rattle.gd_format.specs.HeaderFault.{natural}
use Rattle.gd_format.specs.File.{entries_of, run_at, block_of, bits_at, is_first, is_other_entry}
use Rattle.gd_format.proofs.Firsts.{both_true}
use Rattle.gd_format.specs.Sound.{extent}
use Rattle.gd_format.specs.Covers.{has_byte, cover}
use Rattle.gd_file_laws.proofs.Made.{bits_within}
use Rattle.gd_map_laws.specs.Lookup.{index_of}
use Rattle.gd_map_laws.specs.Slots.{is_good, is_place_in, is_slot_key}
use Rattle.gd_map_laws.specs.Update.{IsSameShape, OneKeyChange}
use Rattle.gd_map_laws.specs.Space.{one_if, free_in, free_of, bucket_cover, sum_of, all_cover, grown, IsSpaceRight, SpaceChange}
use Rattle.gd_map_laws.specs.Frame.{KeepsBut, Stays}
use Rattle.gd_map_laws.specs.Change.{place_of, IsSoundFile, ChangeMade, AreComing, KeyChanged, RecordMade, slot_made}
use Rattle.gd_map_laws.proofs.Lookup.{index_below}
use Rattle.gd_map_laws.proofs.Slots.{all_same}
use Rattle.gd_map_laws.proofs.OneKey.{one_key}
use Rattle.gd_map_laws.proofs.Space.{space_changed, sum_same}
use Rattle.gd_map_laws.proofs.FileUpdate.{entry_shape, block_shape}
use Rattle.gd_map_laws.proofs.Stays.{stays}

pub keeps_weaker : (f t : ℕ → ℕ) (a b : List ℕ) → ((x : ℕ) → x < length a → t x ≡ 0 → f x ≡ 0) → KeepsBut f a b → KeepsBut t a b
keeps_weaker f t a b less k = record { longer = k.longer; bytes = λ at n le free. k.bytes at n le (λ x low high. less x (omega arith) (free x low high)) }

pub grown-none : (next next' b : ℕ) → b < next → grown next next' b ≡ 0
grown-none next next' b lt = let e : (leb next b && ltb b next') ≡ false = grind (arith, nat_tests) in rw e refl

or_right : (a b : Bool) → b ≡ true → (a || b) ≡ true
or_right true b e = refl
or_right false b e = e

-- two pieces in a row
pieces : (file : List ℕ) (at : ℕ) (xs ys : List ℕ) → bytes_at file at (length xs + length ys) ≡ xs ++ ys → (bytes_at file at (length xs) ≡ xs) × (bytes_at file (at + length xs) (length ys) ≡ ys)
pieces file at xs ys e = (
  sym (take-take (length xs) (length xs + length ys) (drop at file) (omega arith)) ∙ ap (take (length xs)) e ∙ take_at xs ys (length xs) refl,
  ap (take (length ys)) (sym (drop-drop (length xs) at file)) ∙ sym (drop-take (length xs) (length ys) (drop at file)) ∙ ap (drop (length xs)) e ∙ drop_at xs ys (length xs) refl,
)

pub same_first : (file : List ℕ) (h h' : Header) → IsSameShape h h' → (j : ℕ) → is_first file h' j ≡ is_first file h j
unfolding is_first is_other_entry
same_first file h h' shape j =
    all_same j (is_other_entry file h' j) (is_other_entry file h j) (λ d. rw (entry_shape file h h' shape d, entry_shape file h h' shape j) refl)

-- the space under another header of the same shape
module _ (file : List ℕ) (h h' : Header) (shape : IsSameShape h h') where
  first_shape : (j : ℕ) → is_first file h' j ≡ is_first file h j
  first_shape j = same_first file h h' shape j

  pub bucket_shape : (b j : ℕ) → bucket_cover file h' b j ≡ bucket_cover file h b j
  unfolding bucket_cover free_of
  bucket_shape b j = rw (entry_shape file h h' shape j, block_shape file h h' shape j, shape.block, shape.elems) refl

  pub all_shape : (pool : List Extent) (b : ℕ) → all_cover file h' pool b ≡ all_cover file h pool b
  unfolding all_cover
  all_shape pool b =
      let s = sum_same (is_first file h') (is_first file h) (bucket_cover file h' b) (bucket_cover file h b) (entries_of h) (λ j lt. first_shape j) (λ j lt p. bucket_shape b j) in
      let front = ap (λ (n : ℕ). one_if (has_byte (extent 0 n) b)) shape.block in
      let dir = ap (λ (n : ℕ). one_if (has_byte (extent n (8 * entries_of h')) b)) shape.dir ∙ ap (λ (n : ℕ). one_if (has_byte (extent h.dir (8 * 2 ^ n)) b)) shape.bits in
      let sum = ap (λ (n : ℕ). sum_of (is_first file h') (bucket_cover file h' b) (2 ^ n)) shape.bits ∙ s in
      omega (arith, front, dir, sum)

  pub space_shape : (next : ℕ) (pool : List Extent) → IsSpaceRight file h next pool → IsSpaceRight file h' next pool
  space_shape next pool right =
      record {
        once = λ b. rw (all_shape pool b) (right.once b);
        below = λ b some. right.below b (rw (all_shape pool b) at some);
      }

module _ (old new : List ℕ) (h : Header) (key : List ℕ) (next next' : ℕ) (pool pool' : List Extent) (gone come rest : List Slot) (sound : IsSoundFile old h next pool) (made : ChangeMade old new h key next next' pool pool' gone come rest) where
  pub li : index_of h key < entries_of h
  li = index_below h key sound.bits

  pub still : Stays old new h (index_of h key) rest
  still = stays old new h (index_of h key) next pool gone rest li sound.dir sound.parts sound.space made.bucket.before made.keeps

  block_reads : block_of new h (index_of h key) ≡ bytes_at new (place_of old h (index_of h key)) h.block
  unfolding block_of
  block_reads = ap (λ (z : ℤ). bytes_at new (natural z) h.block) (still.entries (index_of h key) li)

  pub key_top : hash_of key / 2 ^ (31 - bits_at (block_of old h (index_of h key))) ≡ index_of h key / run_at old h (index_of h key)
  unfolding index_of run_at
  key_top =
      let le = bits_within old h sound.parts (index_of h key) li in
      let small = sound.bits in
      let whole : 31 - h.dir_bits + (h.dir_bits - bits_at (block_of old h (index_of h key))) ≡ 31 - bits_at (block_of old h (index_of h key)) = omega arith in
      sym (shr-shr (hash_of key) (31 - h.dir_bits) (h.dir_bits - bits_at (block_of old h (index_of h key))) ∙ ap (λ (x : ℕ). hash_of key / 2 ^ x) whole)

  pub space_change : SpaceChange old new h (index_of h key) gone come rest next next' pool pool'
  unfolding free_of
  space_change =
      record {
        entries = still.entries;
        others = λ j lj ne. (still.others j lj ne).block;
        before_is = made.bucket.before;
        after_is = rw block_reads made.bucket.after;
        grows = made.space.grows;
        moves = λ b. let m = made.space.moves b in let f = ap (λ (x : List ℕ). cover (free_in x) b) block_reads in omega (arith, m, f);
      }

  pub space_now : IsSpaceRight new h next' pool'
  space_now = space_changed old new h (index_of h key) gone come rest next next' pool pool' li sound.space space_change

  module _ (value : Option (List ℕ)) (coming : AreComing old new h key value come) where
    change : OneKeyChange old new h (index_of h key) key value gone come rest
    change =
        record {
          here = refl;
          gone_is = made.gone_is;
          come_is = coming.come_is;
          longer = made.keeps.longer;
          entries = still.entries;
          others = still.others;
          bits = ap bits_at block_reads ∙ made.bucket.bits;
          fields = rw block_reads made.bucket.fields;
          number = rw block_reads made.bucket.number;
          before_is = made.bucket.before;
          after_is = rw block_reads made.bucket.after;
          kept = still.kept;
          good = coming.good;
          reached = rw block_reads made.bucket.reached;
        }

    pub changed : (h' : Header) → IsSameShape h h' → KeyChanged old new h h' key value next' pool'
    changed h' shape =
        let done = one_key old new h (index_of h key) key value gone come rest sound.bits sound.parts li change h' shape in
        record {
          sound = record {
            bits = let b = sound.bits in let e = shape.bits in omega arith;
            dir =
                let d = sound.dir in
                let l = made.keeps.longer in
                let e = shape.dir in
                let f = ap (λ (n : ℕ). 2 ^ n) shape.bits in
                omega (arith, d, l, e, f);
            short = made.space.short;
            parts = done.parts;
            space = space_shape new h h' shape next' pool' space_now;
          };
          map = done.map;
        }

-- ---- the slot of a new record

pub ends_by : (file : List ℕ) (at : ℕ) (xs : List ℕ) → bytes_at file at (length xs) ≡ xs → 0 < length xs → at + length xs ≤ length file
ends_by file at xs e some =
    let n : length (take (length xs) (drop at file)) ≡ length xs = ap length e in
    let m = length-take (length xs) (drop at file) in
    omega (arith, n, m, some, length-drop at file)

module _ (old new : List ℕ) (h : Header) (key value : List ℕ) (next next' : ℕ) (pool pool' : List Extent) (gone rest : List Slot) (hash : ℕ) (start : List ℕ) (at : ℕ) (sound : IsSoundFile old h next pool) (made : ChangeMade old new h key next next' pool pool' gone (slot_made key value hash start at ∷ []) rest) (slot : RecordMade new key value hash start at) where
  two_reads : (bytes_at new at (length key) ≡ key) × (bytes_at new (at + length key) (length value) ≡ value)
  two_reads = pieces new at key value slot.reads

  size_is : length (key ++ value) ≡ length key + length value
  size_is = length-append key value

  place_fits : is_place_in (length new) at (length key + length value) ≡ true
  unfolding is_place_in
  place_fits =
      both_true _ _ (le-leb (length key + length value) (2 ^ 30) slot.size)
      (elim (cases_lt 0 (length key + length value)) [
        | inl some ↦
            let reads : bytes_at new at (length (key ++ value)) ≡ key ++ value = ap (bytes_at new at) size_is ∙ slot.reads in
            let ends = ends_by new at (key ++ value) reads (omega (arith, size_is, some)) in
            or_right (length key + length value == 0) (nat_le (at + (length key + length value)) (length new)) (le-leb (at + (length key + length value)) (length new) (omega (arith, ends, size_is)))
        | inr none ↦
            let z : length key + length value ≡ 0 = omega arith in
            rw z refl
      ])

  slot_good : is_good new (bits_at (block_of old h (index_of h key))) (index_of h key / run_at old h (index_of h key)) (Full hash start at (length key) (length value)) ≡ true
  unfolding is_slot_key
  slot_good =
      let top = key_top old new h key next next' pool pool' gone (slot_made key value hash start at ∷ []) rest sound made in
      both_true _ _ place_fits
      (rw two_reads.0
      (both_true _ _ (both_true _ _ ((Decides-eqb hash (hash_of key)).1 slot.hash_is)
      ((Decides-eqb (hash / 2 ^ (31 - bits_at (block_of old h (index_of h key)))) (index_of h key / run_at old h (index_of h key))).1 (ap (λ (x : ℕ). x / 2 ^ (31 - bits_at (block_of old h (index_of h key)))) slot.hash_is ∙ top))) slot.start_is))

  pub slot_comes : AreComing old new h key (Some value) (slot_made key value hash start at ∷ [])
  slot_comes = record { good = rw slot_good refl; come_is = rw (two_reads.0, two_reads.1) refl }

pub stored : (old new : List ℕ) (h h' : Header) (key value : List ℕ) (next next' : ℕ) (pool pool' : List Extent) (gone rest : List Slot) (hash : ℕ) (start : List ℕ) (at : ℕ) → IsSoundFile old h next pool → IsSameShape h h' → ChangeMade old new h key next next' pool pool' gone (slot_made key value hash start at ∷ []) rest → RecordMade new key value hash start at → KeyChanged old new h h' key (Some value) next' pool'
stored old new h h' key value next next' pool pool' gone rest hash start at sound shape made slot =
    changed old new h key next next' pool pool' gone (slot_made key value hash start at ∷ []) rest sound made (Some value)
    (slot_comes old new h key value next next' pool pool' gone rest hash start at sound made slot) h' shape

pub deleted : (old new : List ℕ) (h h' : Header) (key : List ℕ) (next next' : ℕ) (pool pool' : List Extent) (gone rest : List Slot) → IsSoundFile old h next pool → IsSameShape h h' → ChangeMade old new h key next next' pool pool' gone [] rest → KeyChanged old new h h' key None next' pool'
deleted old new h h' key next next' pool pool' gone rest sound shape made =
    changed old new h key next next' pool pool' gone [] rest sound made None (record { good = refl; come_is = refl }) h' shape
