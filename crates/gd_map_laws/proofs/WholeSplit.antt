-- A split and a doubling over a whole sound file.
use Rattle.std.proofs.Common.{◌≡◌, ◌≢◌, ℕ, ◌+◌, ◌*◌, ◌^◌, ◌<◌, ◌≤◌, true, List, ◌++◌, length, refl, sym, ap, subst, ◌∙◌, inl, inr, arith}
use Rattle.std.specs.Prelude.{ℤ, pos, ◌/◌}
use Rattle.std.proofs.lemmas.Bool.{cases_eq}
use Rattle.gd_format.specs.declared.Header.{Header}
use Rattle.gd_format.specs.declared.Extent.{Extent}
use Rattle.gd_format.specs.Field.{bytes_at}
use Rattle.gd_format.specs.HeaderFault.{natural, header_of}
use Rattle.gd_format.specs.Avail.{extents_at}
use Rattle.gd_format.specs.File.{front_of, entry_at, entries_of, block_of, records}
use Rattle.gd_format.specs.Sound.{IsSound, table_of, is_free_right}
use Rattle.gd_format.specs.FreeSide.{StackBlock, stack_extents}
use Rattle.gd_file_laws.specs.Parts.{HasParts}
use Rattle.gd_file_laws.proofs.Headers.{header_in}
use Rattle.gd_map_laws.specs.Lookup.{value_at}
use Rattle.gd_map_laws.specs.Update.{IsSameShape}
use Rattle.gd_map_laws.specs.Space.{IsSpaceRight}
use Rattle.gd_map_laws.specs.Change.{IsSoundFile}
use Rattle.gd_map_laws.specs.Sounds.{pool_of}
use Rattle.gd_map_laws.specs.Split.{SplitChange, DoubleChange}
use Rattle.gd_map_laws.specs.SplitSpace.{SplitMoves, DoubleMoves}
use Rattle.gd_map_laws.specs.WholeSplit.{SpaceWritten, IsKept}
use Rattle.gd_map_laws.proofs.Lookup.{lookup_exact}
use Rattle.gd_map_laws.proofs.Maps.{same_maps}
use Rattle.gd_map_laws.proofs.OneKey.{entry_cases}
use Rattle.gd_map_laws.proofs.FileUpdate.{entry_shape, parts_shape, value_shape}
use Rattle.gd_map_laws.proofs.Change.{space_shape}
use Rattle.gd_map_laws.proofs.Sounds.{sound_blocks, makes_sound}
use Rattle.gd_map_laws.proofs.Split.{split_stays}
use Rattle.gd_map_laws.proofs.SplitSpace.{split_space_right}
use Rattle.gd_map_laws.proofs.Double.{double_stays, half_below}
use Rattle.gd_map_laws.proofs.DoubleSpace.{double_space_right}
use Rattle.gd_map_laws.proofs.Whole.{readable_of, same_free}

pub file_is : (old : List ℕ) → IsSound old → IsSoundFile old (header_of (front_of old)) (header_of (front_of old)).next_block (pool_of old (header_of (front_of old)))
file_is old sound = let b = sound_blocks old sound in subst (λ (p : List Extent). IsSoundFile old (header_of (front_of old)) (header_of (front_of old)).next_block p) (sym b.2) b.1.file_is

pub old_free : (old : List ℕ) → IsSound old → (j : ℕ) → j < entries_of (header_of (front_of old)) → is_free_right old (header_of (front_of old)) (natural (entry_at old (header_of (front_of old)) j)) ≡ true
old_free old sound = let b = sound_blocks old sound in b.1.free

pub sound_from : (new : List ℕ) (blocks : List StackBlock) → SpaceWritten new blocks → HasParts new (header_of (front_of new)) → IsSpaceRight new (header_of (front_of new)) (header_of (front_of new)).next_block (extents_at (table_of new (header_of (front_of new))) ++ stack_extents blocks) → ((j : ℕ) → j < entries_of (header_of (front_of new)) → is_free_right new (header_of (front_of new)) (natural (entry_at new (header_of (front_of new)) j)) ≡ true) → IsSound new
sound_from new blocks wrote parts space free =
    let sizes = header_in (front_of new) (length new) wrote.header in
    makes_sound new (header_of (front_of new)) blocks
    (record {
      header = wrote.header;
      header_is = refl;
      file_is = record { bits = sizes.bits; dir = sizes.dir; short = wrote.short; parts = parts; space = space };
      table = wrote.table;
      stack = wrote.stack;
      free = free;
    })

-- a sound file whose look-ups agree
kept_by : (old new : List ℕ) → IsSound old → IsSound new → ((key : List ℕ) → value_at new (header_of (front_of new)) key ≡ value_at old (header_of (front_of old)) key) → IsKept old new
kept_by old new sound now same = (now, same_maps (records old) (records new) (λ k. lookup_exact new (readable_of new now) k ∙ same k ∙ sym (lookup_exact old (readable_of old sound) k)))

module _ (old new : List ℕ) (blocks : List StackBlock) (i at bits half q : ℕ) (sound : IsSound old) (li : i < entries_of (header_of (front_of old))) (wrote : SpaceWritten new blocks) (shape : IsSameShape (header_of (front_of old)) (header_of (front_of new))) (change : SplitChange old new (header_of (front_of old)) i at bits half q) (moves : SplitMoves old new (header_of (front_of old)) i at (header_of (front_of old)).next_block (header_of (front_of new)).next_block (pool_of old (header_of (front_of old))) (extents_at (table_of new (header_of (front_of new))) ++ stack_extents blocks)) (first : is_free_right new (header_of (front_of new)) (natural (entry_at old (header_of (front_of old)) i)) ≡ true) (second : is_free_right new (header_of (front_of new)) at ≡ true) where
  abbrev h : Header
  h = header_of (front_of old)

  abbrev h' : Header
  h' = header_of (front_of new)

  there_right : (j : ℕ) → j < entries_of h → entry_at old h j ≢ entry_at old h i → is_free_right new h' (natural (entry_at old h j)) ≡ true
  unfolding block_of
  there_right j lj ne =
      let e : bytes_at new (natural (entry_at old h j)) h'.block ≡ bytes_at old (natural (entry_at old h j)) h.block = ap (bytes_at new (natural (entry_at old h j))) shape.block ∙ change.others j lj ne in
      same_free old new h h' (natural (entry_at old h j)) e ∙ old_free old sound j lj

  free_split : (j : ℕ) → j < entries_of h' → is_free_right new h' (natural (entry_at new h' j)) ≡ true
  free_split j lt =
      let lj : j < entries_of h = let e = ap (λ (n : ℕ). 2 ^ n) shape.bits in omega (arith, lt, e) in
      let e = entry_shape new h h' shape j in
      elim (cases_eq (j / half) (2 * q + 1)) [
        | inl high ↦ let f : entry_at new h' j ≡ pos at = e ∙ change.high j lj high in ap (λ (z : ℤ). is_free_right new h' (natural z)) f ∙ second
        | inr low ↦
            let f : entry_at new h' j ≡ entry_at old h j = e ∙ change.low j lj low in
            ap (λ (z : ℤ). is_free_right new h' (natural z)) f
            ∙ entry_cases (entry_at old h j) (entry_at old h i) (λ same. ap (λ (z : ℤ). is_free_right new h' (natural z)) same ∙ first) (λ ne. there_right j lj ne)
      ]

  pub split_sound : IsKept old new
  split_sound =
      let file = file_is old sound in
      let stays = split_stays old new h i at bits half q file.bits file.parts li change in
      let space = split_space_right old new h i at bits half q h.next_block h'.next_block (pool_of old h) (extents_at (table_of new h') ++ stack_extents blocks) file.bits file.parts li change file.space moves in
      kept_by old new sound
      (sound_from new blocks wrote (parts_shape new h h' shape stays.parts) (space_shape new h h' shape h'.next_block (extents_at (table_of new h') ++ stack_extents blocks) space) free_split)
      (λ key. value_shape new h h' shape key ∙ stays.map key)

module _ (old new : List ℕ) (blocks : List StackBlock) (sound : IsSound old) (wrote : SpaceWritten new blocks) (change : DoubleChange old new (header_of (front_of old)) (header_of (front_of new))) (moves : DoubleMoves (header_of (front_of old)) (header_of (front_of new)) (header_of (front_of old)).next_block (header_of (front_of new)).next_block (pool_of old (header_of (front_of old))) (extents_at (table_of new (header_of (front_of new))) ++ stack_extents blocks)) where
  bits_new : (header_of (front_of new)).dir_bits ≤ 24
  bits_new = (header_in (front_of new) (length new) wrote.header).bits

  free_double : (j : ℕ) → j < entries_of (header_of (front_of new)) → is_free_right new (header_of (front_of new)) (natural (entry_at new (header_of (front_of new)) j)) ≡ true
  unfolding block_of
  free_double j lt =
      let file = file_is old sound in
      let lj = half_below old new (header_of (front_of old)) (header_of (front_of new)) bits_new file.parts change j lt in
      let place = natural (entry_at old (header_of (front_of old)) (j / 2)) in
      let e : bytes_at new (natural (entry_at old (header_of (front_of old)) (j / 2))) (header_of (front_of new)).block ≡ bytes_at old (natural (entry_at old (header_of (front_of old)) (j / 2))) (header_of (front_of old)).block =
      ap (bytes_at new (natural (entry_at old (header_of (front_of old)) (j / 2)))) change.block ∙ change.blocks (j / 2) lj in
      ap (λ (z : ℤ). is_free_right new (header_of (front_of new)) (natural z)) (change.entries j lt)
      ∙ same_free old new (header_of (front_of old)) (header_of (front_of new)) (natural (entry_at old (header_of (front_of old)) (j / 2))) e ∙ old_free old sound (j / 2) lj

  pub double_sound : IsKept old new
  double_sound =
      let file = file_is old sound in
      let stays = double_stays old new (header_of (front_of old)) (header_of (front_of new)) bits_new file.parts change in
      let space = double_space_right old new (header_of (front_of old)) (header_of (front_of new)) (header_of (front_of old)).next_block (header_of (front_of new)).next_block (pool_of old (header_of (front_of old))) (extents_at (table_of new (header_of (front_of new))) ++ stack_extents blocks) bits_new file.parts change file.space moves in
      kept_by old new sound (sound_from new blocks wrote stays.parts space free_double) stays.map
