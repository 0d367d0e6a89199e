-- A store and a deletion over a whole sound file.
use Rattle.std.proofs.Common.{◌≡◌, ◌≢◌, ℕ, ◌^◌, ◌<◌, ◌≤◌, true, List, [], ◌∷◌, ◌++◌, length, cond, Option, Some, None, refl, sym, ap, subst, ◌∙◌, arith}
use Rattle.std.specs.Prelude.{ℤ}
use Rattle.std.specs.FinMap.{insert, remove}
use Rattle.std.specs.Str.{bytes_eq}
use Rattle.gd_format.specs.declared.Header.{Header}
use Rattle.gd_format.specs.declared.Extent.{Extent}
use Rattle.gd_format.specs.declared.Slot.{Slot}
use Rattle.gd_format.specs.Field.{bytes_at}
use Rattle.gd_format.specs.HeaderFault.{natural, header_of}
use Rattle.gd_format.specs.Avail.{extents_at, is_avail}
use Rattle.gd_format.specs.File.{IsReadable, front_of, entry_at, entries_of, block_of, records}
use Rattle.gd_format.specs.Sound.{IsSound, table_of, is_free_right}
use Rattle.gd_format.specs.FreeSide.{StackBlock, stack_extents, IsBelow}
use Rattle.gd_file_laws.proofs.Lists.{all_left, all_right}
use Rattle.gd_file_laws.proofs.Headers.{header_in}
use Rattle.gd_file_laws.proofs.Points.{sound_parts}
use Rattle.gd_file_laws.proofs.Made.{made_readable}
use Rattle.gd_map_laws.specs.Lookup.{lookup, index_of}
use Rattle.gd_map_laws.specs.Maps.{pair_map}
use Rattle.gd_map_laws.specs.Space.{free_in}
use Rattle.gd_map_laws.specs.Frame.{Stays}
use Rattle.gd_map_laws.specs.Change.{place_of, IsSoundFile, KeyChanged, RecordMade, slot_made}
use Rattle.gd_map_laws.specs.Sounds.{pool_of, IsSoundBy}
use Rattle.gd_map_laws.specs.Whole.{ChangeWritten}
use Rattle.gd_map_laws.proofs.Lookup.{lookup_exact}
use Rattle.gd_map_laws.proofs.Maps.{map_with, map_without}
use Rattle.gd_map_laws.proofs.OneKey.{entry_cases}
use Rattle.gd_map_laws.proofs.FileUpdate.{entry_shape}
use Rattle.gd_map_laws.proofs.Change.{still, stored, deleted}
use Rattle.gd_map_laws.proofs.Sounds.{sound_blocks, makes_sound, below_is_right, below_is_avail}

pub readable_of : (file : List ℕ) → IsSound file → IsReadable file
readable_of file sound = let s = sound_parts file sound in made_readable file (record { header = s.header; parts = s.parts })

-- a bucket's free extents are right by its block
pub same_free : (old new : List ℕ) (h h' : Header) (at : ℕ) → bytes_at new at h'.block ≡ bytes_at old at h.block → is_free_right new h' at ≡ is_free_right old h at
unfolding is_free_right
same_free old new h h' at e = rw e refl

module _ (old new : List ℕ) (key : List ℕ) (blocks : List StackBlock) (gone come rest : List Slot) (sound : IsSound old) (wrote : ChangeWritten old new key blocks gone come rest) where
  pub file_of : IsSoundFile old (header_of (front_of old)) (header_of (front_of old)).next_block (pool_of old (header_of (front_of old)))
  file_of = let b = sound_blocks old sound in subst (λ (p : List Extent). IsSoundFile old (header_of (front_of old)) (header_of (front_of old)).next_block p) (sym b.2) b.1.file_is

  old_free : (j : ℕ) → j < entries_of (header_of (front_of old)) → is_free_right old (header_of (front_of old)) (natural (entry_at old (header_of (front_of old)) j)) ≡ true
  old_free = let b = sound_blocks old sound in b.1.free

  stays : Stays old new (header_of (front_of old)) (index_of (header_of (front_of old)) key) rest
  stays = still old new (header_of (front_of old)) key (header_of (front_of old)).next_block (header_of (front_of new)).next_block (pool_of old (header_of (front_of old))) (extents_at (table_of new (header_of (front_of new))) ++ stack_extents blocks) gone come rest file_of wrote.made

  next_small : (header_of (front_of new)).next_block ≤ 2 ^ 63
  next_small = let n = (header_in (front_of new) (length new) wrote.header).next in omega (arith, n)

  entry_is : (j : ℕ) → j < entries_of (header_of (front_of old)) → entry_at new (header_of (front_of new)) j ≡ entry_at old (header_of (front_of old)) j
  entry_is j lj = entry_shape new (header_of (front_of old)) (header_of (front_of new)) wrote.shape j ∙ stays.entries j lj

  here_right : is_free_right new (header_of (front_of new)) (place_of old (header_of (front_of old)) (index_of (header_of (front_of old)) key)) ≡ true
  here_right =
      let below = all_right (IsBelow (header_of (front_of new)).next_block) (extents_at (table_of new (header_of (front_of new))) ++ stack_extents blocks) (free_in (bytes_at new (place_of old (header_of (front_of old)) (index_of (header_of (front_of old)) key)) (header_of (front_of old)).block)) wrote.side.below in
      below_is_right new (header_of (front_of new)) (place_of old (header_of (front_of old)) (index_of (header_of (front_of old)) key)) (header_of (front_of new)).next_block next_small (rw wrote.shape.block below)

  there_right : (j : ℕ) → j < entries_of (header_of (front_of old)) → entry_at old (header_of (front_of old)) j ≢ entry_at old (header_of (front_of old)) (index_of (header_of (front_of old)) key) → is_free_right new (header_of (front_of new)) (natural (entry_at old (header_of (front_of old)) j)) ≡ true
  unfolding block_of
  there_right j lj ne =
      let e : bytes_at new (natural (entry_at old (header_of (front_of old)) j)) (header_of (front_of new)).block ≡ bytes_at old (natural (entry_at old (header_of (front_of old)) j)) (header_of (front_of old)).block =
      ap (bytes_at new (natural (entry_at old (header_of (front_of old)) j))) wrote.shape.block
      ∙ ap (λ (z : ℤ). bytes_at new (natural z) (header_of (front_of old)).block) (sym (stays.entries j lj)) ∙ (stays.others j lj ne).block in
      same_free old new (header_of (front_of old)) (header_of (front_of new)) (natural (entry_at old (header_of (front_of old)) j)) e ∙ old_free j lj

  free_right : (j : ℕ) → j < entries_of (header_of (front_of new)) → is_free_right new (header_of (front_of new)) (natural (entry_at new (header_of (front_of new)) j)) ≡ true
  free_right j lt =
      let lj : j < entries_of (header_of (front_of old)) = let e = ap (λ (n : ℕ). 2 ^ n) wrote.shape.bits in omega (arith, lt, e) in
      rw (entry_is j lj)
      (entry_cases (entry_at old (header_of (front_of old)) j) (entry_at old (header_of (front_of old)) (index_of (header_of (front_of old)) key))
      (λ same. rw same here_right)
      (λ ne. there_right j lj ne))

  table_right : is_avail (table_of new (header_of (front_of new))) (header_of (front_of new)).avail_size ≡ true
  table_right =
      let lists = all_left (IsBelow (header_of (front_of new)).next_block) (extents_at (table_of new (header_of (front_of new))) ++ stack_extents blocks) (free_in (bytes_at new (place_of old (header_of (front_of old)) (index_of (header_of (front_of old)) key)) (header_of (front_of old)).block)) wrote.side.below in
      below_is_avail (table_of new (header_of (front_of new))) (header_of (front_of new)).avail_size (header_of (front_of new)).next_block next_small wrote.number
      (all_left (IsBelow (header_of (front_of new)).next_block) (extents_at (table_of new (header_of (front_of new)))) (stack_extents blocks) lists)

  module _ (value : Option (List ℕ)) (done : KeyChanged old new (header_of (front_of old)) (header_of (front_of new)) key value (header_of (front_of new)).next_block (extents_at (table_of new (header_of (front_of new))) ++ stack_extents blocks)) where
    pub sound_by : IsSoundBy new (header_of (front_of new)) blocks
    sound_by = record { header = wrote.header; header_is = refl; file_is = done.sound; table = table_right; stack = wrote.side.stack; free = free_right }

    pub sound_now : IsSound new
    sound_now = makes_sound new (header_of (front_of new)) blocks sound_by

    pub lookups : (k : List ℕ) → lookup k (records new) ≡ cond (bytes_eq key k) value (lookup k (records old))
    lookups k =
        lookup_exact new (readable_of new sound_now) k ∙ done.map k
        ∙ ap (cond (bytes_eq key k) value) (sym (lookup_exact old (readable_of old sound) k))

pub store_sound : (old new : List ℕ) (key value : List ℕ) (blocks : List StackBlock) (gone rest : List Slot) (hash : ℕ) (start : List ℕ) (at : ℕ) → IsSound old → ChangeWritten old new key blocks gone (slot_made key value hash start at ∷ []) rest → RecordMade new key value hash start at → IsSound new × (pair_map (records new) ≡ insert (pair_map (records old)) key value)
store_sound old new key value blocks gone rest hash start at sound wrote record_made =
    let come = slot_made key value hash start at ∷ [] in
    let done =
    stored old new (header_of (front_of old)) (header_of (front_of new)) key value (header_of (front_of old)).next_block (header_of (front_of new)).next_block (pool_of old (header_of (front_of old))) (extents_at (table_of new (header_of (front_of new))) ++ stack_extents blocks) gone rest hash start at
    (file_of old new key blocks gone (slot_made key value hash start at ∷ []) rest sound wrote) wrote.shape wrote.made record_made in (
      sound_now old new key blocks gone (slot_made key value hash start at ∷ []) rest sound wrote (Some value) done,
      map_with (records old) (records new) key value (lookups old new key blocks gone (slot_made key value hash start at ∷ []) rest sound wrote (Some value) done),
    )

pub delete_sound : (old new : List ℕ) (key : List ℕ) (blocks : List StackBlock) (gone rest : List Slot) → IsSound old → ChangeWritten old new key blocks gone [] rest → IsSound new × (pair_map (records new) ≡ remove (pair_map (records old)) key)
delete_sound old new key blocks gone rest sound wrote =
    let done =
    deleted old new (header_of (front_of old)) (header_of (front_of new)) key (header_of (front_of old)).next_block (header_of (front_of new)).next_block (pool_of old (header_of (front_of old))) (extents_at (table_of new (header_of (front_of new))) ++ stack_extents blocks) gone rest
    (file_of old new key blocks gone [] rest sound wrote) wrote.shape wrote.made in (
      sound_now old new key blocks gone [] rest sound wrote None done,
      map_without (records old) (records new) key (lookups old new key blocks gone [] rest sound wrote None done),
    )
