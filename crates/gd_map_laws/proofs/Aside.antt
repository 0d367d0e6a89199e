-- What stays where the directory is touched too.
use Rattle.std.proofs.Common.{◌≡◌, ◌≢◌, ℕ, ◌+◌, ◌-◌, ◌*◌, ◌<◌, List, ◌++◌, length, refl, arith}
use Rattle.std.specs.Prelude.{◌/◌}
use Rattle.gd_format.specs.declared.Header.{Header}
use Rattle.gd_format.specs.declared.Extent.{Extent}
use Rattle.gd_format.specs.declared.Slot.{Slot}
use Rattle.gd_format.specs.HeaderFault.{natural}
use Rattle.gd_format.specs.Bucket.{slots_at}
use Rattle.gd_format.specs.File.{entry_at, entries_of, block_of, run_at, bits_at}
use Rattle.gd_format.specs.Slots.{count, SameSlots}
use Rattle.gd_format.specs.Sound.{extent}
use Rattle.gd_format.specs.Covers.{has_byte}
use Rattle.gd_file_laws.specs.Parts.{HasParts}
use Rattle.gd_map_laws.specs.Slots.{is_bad}
use Rattle.gd_map_laws.specs.Space.{one_if, slot_has, bucket_cover, all_cover, IsSpaceRight}
use Rattle.gd_map_laws.specs.Frame.{KeepsBut, touched_of, StaysAside}
use Rattle.gd_map_laws.proofs.Lists.{count-append}
use Rattle.gd_map_laws.proofs.Slots.{of_bucket}
use Rattle.gd_map_laws.proofs.Stays.{has_in, slots_kept, touched-le, bucket_in_all, two_in_all, block_counts, slots_count, within_ends}

module _ (old : List ℕ) (h : Header) (i next : ℕ) (pool : List Extent) (gone rest : List Slot) (li : i < entries_of h) (right : IsSpaceRight old h next pool) (before : SameSlots (slots_at (block_of old h i) h.elems) (gone ++ rest)) (b : ℕ) where
  other_free : (j : ℕ) → j < entries_of h → entry_at old h j ≢ entry_at old h i → 0 < bucket_cover old h b j → one_if (has_byte (extent h.dir (8 * entries_of h)) b) + touched_of old h i pool gone b ≡ 0
  unfolding all_cover
  other_free j lj ne some =
      let o = right.once b in
      let t = touched-le old h i next pool gone rest li right before b in
      let s = two_in_all old h i next pool gone rest li right before b j lj ne in
      omega (arith, o, t, s)

  rest_free : 0 < count (slot_has b) rest → one_if (has_byte (extent h.dir (8 * entries_of h)) b) + touched_of old h i pool gone b ≡ 0
  unfolding all_cover
  rest_free some =
      let o = right.once b in
      let t = touched-le old h i next pool gone rest li right before b in
      let s = bucket_in_all old h i next pool gone rest li right before b in
      omega (arith, o, t, s)

pub stays_aside : (old new : List ℕ) (h : Header) (i next : ℕ) (pool : List Extent) (gone rest : List Slot) → i < entries_of h → HasParts old h → IsSpaceRight old h next pool → SameSlots (slots_at (block_of old h i) h.elems) (gone ++ rest) → KeepsBut (λ b. one_if (has_byte (extent h.dir (8 * entries_of h)) b) + touched_of old h i pool gone b) old new → StaysAside old new h i rest
unfolding block_of
stays_aside old new h i next pool gone rest li parts right before keeps =
    let touched = λ (b : ℕ). one_if (has_byte (extent h.dir (8 * entries_of h)) b) + touched_of old h i pool gone b in
    record {
      blocks =
          λ j lj ne.
          let ends = within_ends (entry_at old h j) (length old - h.block) (parts.dir.in_file j lj) in
          let fits = parts.dir.block_fits in
          keeps.bytes (natural (entry_at old h j)) h.block (omega arith)
          (λ b le lt. other_free old h i next pool gone rest li right before b j lj ne (block_counts old h i next pool gone rest li right before b j (has_in (natural (entry_at old h j)) h.block b le lt)));
      records =
          λ j lj ne.
          slots_kept touched old new keeps (bits_at (block_of old h j)) (j / run_at old h j) (slots_at (block_of old h j) h.elems)
          (of_bucket old h (block_of old h j) (j / run_at old h j) (parts.buckets j lj)).good
          (λ b some. other_free old h i next pool gone rest li right before b j lj ne (slots_count old h i next pool gone rest li right before b j some));
      kept =
          slots_kept touched old new keeps (bits_at (block_of old h i)) (i / run_at old h i) rest
          (let g = (of_bucket old h (block_of old h i) (i / run_at old h i) (parts.buckets i li)).good in
          let e = before (is_bad old (bits_at (block_of old h i)) (i / run_at old h i)) refl in
          let f = count-append (is_bad old (bits_at (block_of old h i)) (i / run_at old h i)) gone rest in
          omega (arith, g, e, f))
          (λ b some. rest_free old h i next pool gone rest li right before b some);
    }
