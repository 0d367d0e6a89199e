-- The last writes of a change of one key.
use Rattle.std.proofs.Common.{◌≡◌, ℕ, ◌+◌, ◌-◌, ◌<◌, ◌≤◌, Bool, true, List, length, refl, sym, ap, ◌∙◌, inl, inr, arith}
use Rattle.std.proofs.lemmas.Bool.{cases_lt}
use Rattle.gd_format.specs.declared.Header.{Header}
use Rattle.gd_format.specs.declared.Extent.{Extent}
use Rattle.gd_format.specs.declared.Slot.{Slot}
use Rattle.gd_format.specs.Field.{bytes_at}
use Rattle.gd_format.specs.File.{entry_at}
use Rattle.gd_format.specs.Slots.{count}
use Rattle.gd_format.specs.Sound.{extent}
use Rattle.gd_format.specs.Covers.{has_byte, cover}
use Rattle.gd_file_laws.specs.Frame.{written}
use Rattle.gd_map_laws.specs.Space.{one_if, slot_has, free_of, block_has, all_cover}
use Rattle.gd_map_laws.specs.Frame.{KeepsBut, touched_of}
use Rattle.gd_map_laws.specs.Change.{place_of}
use Rattle.gd_map_laws.specs.Writes.{LastWrites, WritesRead}
use Rattle.gd_map_laws.proofs.Stays.{keeps_join, has_in, touched-le, bucket_in_all, within_ends, write_keeps}
use Rattle.gd_map_laws.proofs.Put.{written_size, written_stays}
use Rattle.gd_map_laws.proofs.Change.{keeps_weaker, grown-none, ends_by}

module _ (old mid : List ℕ) (h : Header) (i next next' : ℕ) (pool : List Extent) (gone rest : List Slot) (block front : List ℕ) (at : ℕ) (pair : List ℕ) (w : LastWrites old mid h i next next' pool gone rest block front at pair) where
  abbrev with_block : List ℕ
  with_block = written mid (place_of old h i) block

  abbrev new : List ℕ
  new = written with_block 0 front

  once_touched : (b : ℕ) → (touched_of old h i pool gone b ≤ 1) × (0 < touched_of old h i pool gone b → b < next)
  unfolding all_cover
  once_touched b =
      let o = w.sound.space.once b in
      let l = w.sound.space.below b in
      let t = touched-le old h i next pool gone rest w.below w.sound.space w.before b in
      let s = bucket_in_all old h i next pool gone rest w.below w.sound.space w.before b in
      (omega (arith, o, t, s), λ some. l (omega (arith, t, s, some)))

  none_past : (b : ℕ) → next ≤ b → touched_of old h i pool gone b ≡ 0
  none_past b past =
      let o = once_touched b in
      elim (cases_lt 0 (touched_of old h i pool gone b)) [ inl some ↦ let l = o.1 some in absurd (omega (arith, l)) | inr none ↦ omega (arith, none) ]

  pair_free : (b : ℕ) → one_if (has_byte (extent at (length pair)) b) ≡ 1 → (one_if (block_has old h i b) ≡ 0) × (one_if (has_byte (extent 0 h.block) b) ≡ 0)
  unfolding touched_of
  pair_free b taken =
      let m = w.free b in
      let o = once_touched b in
      elim (cases_lt b next) [
        | inl below ↦ let z = grown-none next next' b below in (omega (arith, m, o, z, taken), omega (arith, m, o, z, taken))
        | inr past ↦
            let none : touched_of old h i pool gone b ≡ 0 = none_past b past in
            (omega (arith, none), omega (arith, none))
      ]

  block_apart : (b : ℕ) → one_if (block_has old h i b) ≡ 1 → one_if (has_byte (extent 0 h.block) b) ≡ 0
  unfolding touched_of
  block_apart b has = let o = once_touched b in omega (arith, o, has)

  one_true : (b : Bool) → b ≡ true → one_if b ≡ 1
  one_true b e = rw e refl

  here_is : (b : ℕ) → one_if (has_byte (extent (place_of old h i) (length block)) b) ≡ one_if (block_has old h i b)
  here_is b = ap (λ (n : ℕ). one_if (has_byte (extent (place_of old h i) n) b)) w.block_size

  head_is : (b : ℕ) → one_if (has_byte (extent 0 (length front)) b) ≡ one_if (has_byte (extent 0 h.block) b)
  head_is b = ap (λ (n : ℕ). one_if (has_byte (extent 0 n) b)) w.front_size

  steps_after : KeepsBut (λ b. one_if (has_byte (extent (place_of old h i) (length block)) b) + one_if (has_byte (extent 0 (length front)) b)) mid new
  steps_after = keeps_join _ _ _ mid with_block new (λ x lt z. (omega (arith, z), omega (arith, z))) (write_keeps mid (place_of old h i) block) (write_keeps with_block 0 front)

  keeps_all : KeepsBut (touched_of old h i pool gone) old new
  unfolding touched_of
  keeps_all =
      keeps_weaker _ (touched_of old h i pool gone) old new
      (λ x lt z. let here = here_is x in let head = head_is x in omega (arith, z, here, head))
      (keeps_join
      (λ b. cover pool b + cover (free_of old h i) b + count (slot_has b) gone)
      (λ b. one_if (has_byte (extent (place_of old h i) (length block)) b) + one_if (has_byte (extent 0 (length front)) b))
      (λ b. (cover pool b + cover (free_of old h i) b + count (slot_has b) gone) + (one_if (has_byte (extent (place_of old h i) (length block)) b) + one_if (has_byte (extent 0 (length front)) b)))
      old mid new (λ x lt z. (omega (arith, z), omega (arith, z))) w.keeps steps_after)

  pair_reads : bytes_at new at (length pair) ≡ pair
  pair_reads =
      elim (cases_lt 0 (length pair)) [
        | inl some ↦
            let ends = ends_by mid at pair w.reads some in
            steps_after.bytes at (length pair) ends
            (λ b low high.
            let taken : one_if (has_byte (extent at (length pair)) b) ≡ 1 = one_true _ (has_in at (length pair) b low high) in
            let free = pair_free b taken in
            let here = here_is b in
            let head = head_is b in
            omega (arith, free, here, head))
            ∙ w.reads
        | inr none ↦ let z : length pair ≡ 0 = omega arith in let e : bytes_at new at (length pair) ≡ bytes_at mid at (length pair) = rw z refl in e ∙ w.reads
      ]

  block_reads : bytes_at new (place_of old h i) h.block ≡ block
  block_reads =
      ap (bytes_at new (place_of old h i)) (sym w.block_size)
      ∙ written_stays (λ b. one_if (has_byte (extent 0 (length front)) b)) mid new (place_of old h i) block (write_keeps with_block 0 front)
      (λ b low high.
      let here : one_if (block_has old h i b) ≡ 1 = one_true _ (has_in (place_of old h i) h.block b low (let s = w.block_size in omega (arith, s, high))) in
      let apart = block_apart b here in
      let head = head_is b in
      omega (arith, apart, head))

  front_reads : bytes_at new 0 h.block ≡ front
  front_reads =
      ap (bytes_at new 0) (sym w.front_size)
      ∙ written_stays (λ b. 0) with_block new 0 front (record { longer = omega arith; bytes = λ a n fits free. refl }) (λ b low high. refl)

  size_is : length new ≡ length mid
  size_is =
      let b = written_size mid (place_of old h i) block in
      let c = written_size with_block 0 front in
      let place = within_ends (entry_at old h i) (length old - h.block) (w.sound.parts.dir.in_file i w.below) in
      let fits = w.sound.parts.dir.block_fits in
      let longer = w.keeps.longer in
      let p = w.block_size in
      let q = w.front_size in
      omega (arith, b, c, place, fits, longer, p, q)

  pub writes_read : WritesRead old mid (written (written mid (place_of old h i) block) 0 front) h i pool gone block front at pair
  writes_read = record { keeps = keeps_all; block_reads = block_reads; front_reads = front_reads; pair_reads = pair_reads; size = size_is }
