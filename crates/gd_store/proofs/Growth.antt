-- A new pair that finds its room in the file does not make it grow.
use Rattle.std.proofs.Common.{◌≡◌, ℕ, ◌+◌, ◌*◌, ◌≤◌, true, List, [], ◌∷◌, ◌++◌, Option, Some, None, refl, sym, ap, subst, ◌∙◌, arith}
use Rattle.std.specs.Prelude.{is_some, max, nat_le}
use Rattle.std.proofs.lemmas.Bool.{leb-true, le-leb}
use Rattle.gd_format.specs.declared.Extent.{Extent}
use Rattle.gd_format.specs.declared.Header.{Header}
use Rattle.gd_format.specs.Bucket.{Bucket, bucket_at}
use Rattle.gd_format.specs.Field.{bytes_at}
use Rattle.gd_format.specs.File.{block_of, entry_at, front_of}
use Rattle.gd_format.specs.FreeSide.{StackBlock, block_extent}
use Rattle.gd_format.specs.HeaderFault.{dir_size_of, header_of, natural}
use Rattle.gd_file_laws.proofs.Lists.{bool_cases}
use Rattle.gd_map_laws.specs.Lookup.{index_of}
use Rattle.gd_vault.specs.Content.{File}
use Rattle.gd_vault.specs.Views.{View, OnlyAsks, content_of}
use Rattle.gd_space.specs.Calls.{OnTable, growth_of}
use Rattle.gd_space.specs.Effect.{WritesAtMost, is_taken_back, table_after}
use Rattle.gd_space.specs.Sizes.{largest}
use Rattle.gd_space.proofs.Elements.{largest-append}
use Rattle.gd_open.specs.Files.{FileBecomes}
use Rattle.gd_update.specs.Open.{IsHere}
use Rattle.gd_update.proofs.Gone.{open_blocks}
use Rattle.gd_update.proofs.Chains.{one_file}
use Rattle.gd_store.specs.Changed.{FindsRoom, IsReady, has_slot, key_free}
use Rattle.gd_store.specs.Opened.{Opened, OnFile}
use Rattle.gd_store.proofs.Asking.{asks_more}
use Rattle.gd_store.proofs.Rooms.{IsFound, none_of, place_tells}

-- a block that is taken back leaves what the table had
most_kept : (capacity : ℕ) (table : List Extent) (blocks : List StackBlock) → largest table ≤ largest (table_after capacity table blocks)
most_kept capacity table [] = omega arith
most_kept capacity table (b ∷ bs) =
    bool_cases (is_taken_back capacity table (b ∷ bs))
    (λ t. rw t (let l = largest-append (table ++ b.extents) (block_extent b ∷ []) in let m = largest-append table b.extents in grind (arith, l, m)))
    (λ f. rw f (omega arith))

no_growth : (n : ℕ) (h : Header) (table bucket : List Extent) → n ≤ max (largest table) (largest bucket) → growth_of n h table bucket ≡ 0
no_growth n h table bucket le = let e : nat_le n (max (largest table) (largest bucket)) ≡ true = le-leb n (max (largest table) (largest bucket)) le in rw e refl

own_free : (file : List ℕ) (h : Header) (at : ℕ) (bucket : Bucket) (key : List ℕ) → h ≡ header_of (front_of file) → IsHere file h at bucket key → bucket.free ≡ key_free file key
unfolding block_of
own_free file h at bucket key e here =
    ap (λ (b : Bucket). b.free) here.bucket_is
    ∙ ap (λ (a : ℕ). (bucket_at (bytes_at file a h.block) h.elems).free) here.place_is
    ∙ ap (λ (k : Header). (bucket_at (bytes_at file (natural (entry_at file k (index_of k key))) k.block) k.elems).free) e

module _ (u v w : View) (s t r q : Opened) (g : ℕ) (key : List ℕ) (hash at : ℕ) (bucket : Bucket) (p p' : Option ℕ) (at' : ℕ) (bucket' : Bucket) (n next : ℕ) (f : IsFound u s key hash at bucket p) (asks : OnlyAsks u v) (same : t ≡ s) (few : OnFile v t.file (λ file. has_slot file key ≡ true → (r ≡ t) × OnlyAsks v w)) (ready : FileBecomes v w t.file (λ xs ys. IsReady xs ys r.header r.table at' bucket' key p')) (place : p' ≡ p) (file_is : g ≡ s.file) (own : q ≡ r) where
  pub grows_not : (p' ≡ None → OnTable w g q.header q.table.next_block q.table.extents bucket'.free (λ table. next ≡ q.header.next_block + growth_of n q.header table bucket'.free)) → OnFile u s.file (λ file. FindsRoom file s.table key n → next ≡ s.header.next_block)
  grows_not grown k x told there room =
      let none : p ≡ None = none_of p (place_tells x.bytes key bucket p (f.found k x told there).place ∙ ap is_some room.absent) in
      let now : content_of v.told ≡ Some k = ap content_of asks.told ∙ told in
      let at_t : k.files t.file ≡ Some x = ap k.files (ap (λ (o : Opened). o.file) same) ∙ there in
      let kept = few k x now at_t room.slot in
      let qs : q ≡ s = own ∙ kept.0 ∙ same in
      let later : content_of w.told ≡ Some k = ap content_of kept.1.told ∙ now in
      let y = ready k x now at_t in
      let one : y.file ≡ x = one_file w t.file y.content k y.file x y.told y.there later at_t in
      let is : IsReady x.bytes x.bytes r.header r.table at' bucket' key p' = subst (λ (z : File). IsReady x.bytes z.bytes r.header r.table at' bucket' key p') one y.holds in
      let mine : IsReady x.bytes x.bytes q.header q.table at' bucket' key p' = subst (λ (o : Opened). IsReady x.bytes x.bytes o.header o.table at' bucket' key p') (sym own) is in
      let blocks = open_blocks x.bytes q.header q.table at' bucket' key mine.still_open mine.here in
      let e = grown (place ∙ none) k x blocks.0 later (ap k.files file_is ∙ there) blocks.1.side in
      let most = leb-true n (max (largest s.table.extents) (largest (key_free x.bytes key))) room.extent in
      let more = most_kept q.header.avail_size q.table.extents blocks.0 in
      let tables : largest q.table.extents ≡ largest s.table.extents = ap (λ (o : Opened). largest o.table.extents) qs in
      let frees : largest bucket'.free ≡ largest (key_free x.bytes key) = ap largest (own_free x.bytes q.header at' bucket' key mine.still_open.header_is mine.here) in
      let none_grown = no_growth n q.header (table_after q.header.avail_size q.table.extents blocks.0) bucket'.free (grind (arith, most, more, tables, frees)) in
      let nexts : q.header.next_block ≡ s.header.next_block = ap (λ (o : Opened). o.header.next_block) qs in
      omega (arith, e, none_grown, nexts)

-- ---- what a store writes where no bucket is split

pub asks_few : (u v : View) (f most : ℕ) (key : List ℕ) → OnlyAsks u v → OnFile u f (λ file. has_slot file key ≡ true → WritesAtMost most u v)
asks_few u v f most key asks k x told there has = record { bytes = omega (arith, asks.bytes_written); clones = asks.clones }

module _ (u v w : View) (s t r : Opened) (key : List ℕ) (asks : OnlyAsks u v) (same : t ≡ s) (few : OnFile v t.file (λ file. has_slot file key ≡ true → (r ≡ t) × OnlyAsks v w)) where
  waits : OnFile u s.file (λ file. has_slot file key ≡ true → OnlyAsks u w)
  waits k y told there has = asks_more u v w asks (few k y (ap content_of asks.told ∙ told) (ap k.files (ap (λ (o : Opened). o.file) same) ∙ there) has).1

  pub few_none : (most : ℕ) → OnFile u s.file (λ file. has_slot file key ≡ true → WritesAtMost most u w)
  few_none most k y told there has = asks_few u w s.file most key (waits k y told there has) k y told there has

  pub few_put : (x : View) (n block : ℕ) → block ≡ s.header.block → WritesAtMost (n + 3 * block) w x → OnFile u s.file (λ file. has_slot file key ≡ true → WritesAtMost (n + 3 * s.header.block) u x)
  few_put x n block at put k y told there has =
      let all = waits k y told there has in
      subst (λ (b : ℕ). WritesAtMost (n + 3 * b) u x) at (record { bytes = omega (arith, all.bytes_written, put.bytes); clones = put.clones ∙ all.clones })

-- what a store writes where one is split
pub put_writes : (u v w x : View) (n block block' bits bits' : ℕ) → OnlyAsks u v → WritesAtMost (97 * block + 2 * dir_size_of bits) v w → WritesAtMost (n + 3 * block') w x → block' ≡ block → bits' ≡ bits → WritesAtMost (n + 100 * block + 4 * dir_size_of bits') u x
put_writes u v w x n block block' bits bits' asks room put same_block same_bits =
    let dirs : dir_size_of bits' ≡ dir_size_of bits = ap dir_size_of same_bits in
    record { bytes = omega (arith, asks.bytes_written, room.bytes, put.bytes, same_block, dirs); clones = put.clones ∙ room.clones ∙ asks.clones }

pub room_writes : (u v w : View) (n block bits : ℕ) → OnlyAsks u v → WritesAtMost (100 * block + 4 * dir_size_of bits) v w → WritesAtMost (n + 100 * block + 4 * dir_size_of bits) u w
room_writes u v w n block bits asks room = record { bytes = omega (arith, asks.bytes_written, room.bytes); clones = room.clones ∙ asks.clones }
