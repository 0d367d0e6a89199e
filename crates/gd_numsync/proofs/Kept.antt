-- A header's block that is written anew keeps the file.
use Rattle.std.proofs.Common.{◌≡◌, ℕ, ◌-◌, ◌^◌, ◌<◌, ◌≤◌, true, List, [], ◌∷◌, ◌++◌, length, None, refl, sym, ap, subst, ◌∙◌, arith}
use Rattle.std.specs.Prelude.{◌/◌}
use Rattle.std.specs.List.{AllByRecursion}
use Rattle.std.proofs.lemmas.List.{append-nil}
use Rattle.std.proofs.lemmas.List.Elements.{All-from_recursion}
use Rattle.std.proofs.lemmas.Nat.{pow_pos}
use Rattle.gd_format.specs.declared.Extent.{Extent}
use Rattle.gd_format.specs.declared.Header.{Header}
use Rattle.gd_format.specs.Field.{bytes_at}
use Rattle.gd_format.specs.HeaderFault.{is_native, is_within, natural, header_of, header_fault_of}
use Rattle.gd_format.specs.Headers.{IsHeader}
use Rattle.gd_format.specs.Avail.{Avail, avail_at, count_at, extent_at, extents_at, next_at, is_avail}
use Rattle.gd_format.specs.File.{front_of, entries_of, records}
use Rattle.gd_format.specs.Sound.{IsSound, extent, table_of, top_of, most_of, lost_total}
use Rattle.gd_format.specs.Covers.{has_byte, cover}
use Rattle.gd_format.specs.FreeSide.{StackBlock, IsBelow, IsStack, stack_extents}
use Rattle.gd_format.proofs.Firsts.{and-true, length-list_below}
use Rattle.gd_format.proofs.Covers.{all-left, cover-append}
use Rattle.gd_layout.specs.Fits.{FitsExtent, IsHeaderOf}
use Rattle.gd_file_laws.specs.Frame.{written}
use Rattle.gd_layout.proofs.HeaderFields.{header_is}
use Rattle.gd_file_laws.proofs.Headers.{header_in, within}
use Rattle.gd_map_laws.specs.Update.{IsSameShape}
use Rattle.gd_map_laws.specs.Space.{one_if, all_cover, free_of}
use Rattle.gd_map_laws.specs.Frame.{KeepsBut}
use Rattle.gd_map_laws.specs.Change.{IsSoundFile}
use Rattle.gd_map_laws.specs.Sounds.{IsSoundBy, pool_of}
use Rattle.gd_map_laws.specs.Beside.{BesideChange}
use Rattle.gd_map_laws.specs.WholeSplit.{SpaceWritten}
use Rattle.gd_map_laws.proofs.Stays.{write_keeps}
use Rattle.gd_map_laws.proofs.Change.{keeps_weaker}
use Rattle.gd_map_laws.proofs.Side.{side_kept}
use Rattle.gd_map_laws.proofs.Beside.{beside_sound}
use Rattle.gd_map_laws.proofs.Sounds.{sound_blocks, has_side, stack_pool}
use Rattle.gd_numsync.proofs.Fronts.{all_same, lost_same}
use Rattle.gd_map_laws.proofs.Fronts.{front_read}
use Rattle.gd_map_laws.proofs.Put.{written_reads, written_size}
use Rattle.gd_numsync.specs.Laws.{IsLike}
use Rattle.gd_numsync.specs.Numbered.{IsKept, numbered}
use Rattle.gd_numsync.specs.Open.{AreFit, IsOpenOn}
use Rattle.gd_numsync.specs.Spells.{SpellsFront}

fit_below : (next : ℕ) (es : List Extent) → next ≤ 2 ^ 46 → AllByRecursion (IsBelow next) es → AllByRecursion FitsExtent es
fit_below next [] le below = below
fit_below next (e ∷ es) le below =
    let ends = below.0.ends in
    (record { some = below.0.some; size = below.0.fits; at = omega (arith, ends, le) }, fit_below next es le below.1)

module _ (file front : List ℕ) (h' : Header) (sound : IsSound file) (like : IsLike (header_of (front_of file)) h') (size : length front ≡ h'.block) (native : is_native h'.magic ≡ true) (header : IsHeader h') where
  abbrev h : Header
  h = header_of (front_of file)

  abbrev new : List ℕ
  new = written file 0 front

  blocks : List StackBlock
  blocks = (sound_blocks file sound).0

  by : IsSoundBy file h blocks
  unfolding blocks
  by = (sound_blocks file sound).1

  pool_is : pool_of file h ≡ extents_at (table_of file h) ++ stack_extents blocks
  unfolding blocks
  pool_is = (sound_blocks file sound).2

  large : 80 ≤ h'.block
  large = let s = (header_in (front_of file) (length file) by.header).least in let b = like.block in omega (arith, s, b)

  size_is : length new ≡ length file
  size_is = let w = written_size file 0 front in let fits = by.file_is.parts.dir.block_fits in let b = like.block in omega (arith, w, fits, size, b)

  keeps : KeepsBut (λ b. one_if (has_byte (extent 0 h.block) b)) file new
  keeps = keeps_weaker (λ b. one_if (has_byte (extent 0 (length front)) b)) (λ b. one_if (has_byte (extent 0 h.block) b)) file new
      (λ x lt z. ap (λ (n : ℕ). one_if (has_byte (extent 0 n) x)) (size ∙ like.block) ∙ z) (write_keeps file 0 front)

  of_file : IsHeaderOf h' (length new)
  of_file =
      let s = size_is in
      let fits = by.file_is.parts.dir.block_fits in
      let b = like.block in
      let d = by.file_is.dir in
      let at = like.dir in
      let bits = ap (λ (n : ℕ). 2 ^ n) like.bits in
      record { header = header; magic = native; block = omega (arith, s, fits, b); dir = omega (arith, s, d, at, bits) }

  reads : bytes_at new 0 h'.block ≡ front
  reads = ap (bytes_at new 0) (sym size) ∙ written_reads file 0 front

  no_fault : (table : Avail) → SpellsFront h' table front → header_fault_of (front_of new) (length new) ≡ None
  no_fault table spells = ap (λ (x : List ℕ). header_fault_of x (length new)) (front_read new front h' large reads).front_is ∙ spells.fault (length new) of_file

  front_header : (table : Avail) → SpellsFront h' table front → header_of (front_of new) ≡ h'
  front_header table spells = ap header_of (front_read new front h' large reads).front_is ∙ spells.reads

  table_is : table_of new h' ≡ table_of front h'
  table_is = (front_read new front h' large reads).table_is

  most_like : most_of h' ≡ most_of h
  most_like = ap (λ (n : ℕ). (n - 56) / 16) like.block

  shape : IsSameShape h h'
  shape = record { block = like.block; dir = like.dir; bits = like.bits; elems = like.elems }

  free_below : AllByRecursion (IsBelow h.next_block) (extents_at (table_of file h))
  free_below =
      let zero_in : 0 < entries_of h = pow_pos h.dir_bits in
      let side = has_side file h blocks by 0 zero_in in
      all-left (IsBelow h.next_block) (extents_at (table_of file h)) (stack_extents blocks)
      (all-left (IsBelow h.next_block) (extents_at (table_of file h) ++ stack_extents blocks) (free_of file h 0) side.below)

  -- the stack isn't touched
  stack_new : IsStack new (most_of h) (top_of file h) blocks
  unfolding all_cover
  stack_new =
      let zero_in : 0 < entries_of h = pow_pos h.dir_bits in
      let side = has_side file h blocks by 0 zero_in in
      let s = size_is in
      let f = by.file_is.short in
      (side_kept (λ b. one_if (has_byte (extent 0 h.block) b)) file new h (top_of file h) (record { table = extents_at (table_of file h); blocks = blocks; bucket = [] }) keeps
      (λ b some.
      let o = by.file_is.space.once b in
      let a = cover-append (extents_at (table_of file h) ++ stack_extents blocks) [] b in
      omega (arith, o, some, a))
      (omega (arith, s, f))
      (record {
        behind = side.behind;
        short = side.short;
        stack = side.stack;
        below = subst (AllByRecursion (IsBelow h.next_block)) (sym (append-nil (extents_at (table_of file h) ++ stack_extents blocks))) (all-left (IsBelow h.next_block) (extents_at (table_of file h) ++ stack_extents blocks) (free_of file h 0) side.below);
        once =
            λ b.
            let o = side.once b in
            let a = cover-append (extents_at (table_of file h) ++ stack_extents blocks) [] b in
            let c = cover-append (extents_at (table_of file h) ++ stack_extents blocks) (free_of file h 0) b in
            omega (arith, o, a, c);
      })).stack

  module _ (table : Avail) (spells : SpellsFront h' table front) (table_was : table ≡ avail_at (table_of file h) (most_of h)) (few : length table.extents ≤ h'.avail_size) where
    extents_was : table.extents ≡ extents_at (table_of file h)
    unfolding avail_at
    extents_was = ap (λ (a : Avail). a.extents) table_was

    room_was : table.room ≡ most_of h
    unfolding avail_at
    room_was = ap (λ (a : Avail). a.room) table_was

    extents_new : extents_at (table_of new h') ≡ extents_at (table_of file h)
    unfolding avail_at
    extents_new = ap extents_at table_is ∙ ap (λ (a : Avail). a.extents) spells.table_is ∙ extents_was

    top_new : top_of new h' ≡ top_of file h
    unfolding avail_at
    top_new = ap next_at table_is ∙ ap (λ (a : Avail). a.next_block) spells.table_is ∙ ap (λ (a : Avail). a.next_block) table_was

    table_new : table ≡ avail_at (table_of new h') (most_of h')
    table_new = sym (ap (λ (xs : List ℕ). avail_at xs (most_of h')) table_is ∙ ap (avail_at (table_of front h')) (most_like ∙ sym room_was) ∙ spells.table_is)

    right : is_avail (table_of new h') h'.avail_size ≡ true
    right =
        let low = header.next_block in
        let n = like.next_block in
        let fit = fit_below h.next_block (extents_at (table_of file h)) (omega (arith, low, n)) free_below in
        ap (λ (x : List ℕ). is_avail x h'.avail_size) table_is ∙ spells.right (All-from_recursion FitsExtent table.extents (subst (AllByRecursion FitsExtent) (sym extents_was) fit)) h'.avail_size few

    pool_same : extents_at (table_of new h') ++ stack_extents blocks ≡ pool_of file h
    pool_same = ap (λ (l : List Extent). l ++ stack_extents blocks) extents_new ∙ sym pool_is

    wrote : SpaceWritten new blocks
    wrote =
        let s = size_is in
        let f = by.file_is.short in
        let n = like.next_block in
        let e = front_header table spells in
        let next = ap (λ (k : Header). k.next_block) e in
        record {
          header = no_fault table spells;
          short = omega (arith, s, f, n, next);
          table = subst (λ (k : Header). is_avail (table_of new k) k.avail_size ≡ true) (sym e) right;
          stack = subst (λ (k : Header). IsStack new (most_of k) (top_of new k) blocks) (sym e) (subst (λ (t : ℕ). IsStack new (most_of h') t blocks) (sym top_new) (subst (λ (m : ℕ). IsStack new m (top_of file h) blocks) (sym most_like) stack_new));
        }

    beside_by : BesideChange file new h h.next_block h'.next_block (pool_of file h) (extents_at (table_of new h') ++ stack_extents blocks)
    beside_by =
        let n = like.next_block in
        record {
          keeps = keeps_weaker (λ b. one_if (has_byte (extent 0 h.block) b)) _ file new (λ x lt z. omega (arith, z)) keeps;
          grows = omega (arith, n);
          moves = λ b. let e = ap (λ (l : List Extent). cover l b) pool_same in omega (arith, e);
        }

    kept : IsSound new × (records new ≡ records file)
    kept =
        let e = front_header table spells in
        beside_sound file new blocks sound wrote (subst (IsSameShape h) (sym e) shape)
        (subst (λ (k : Header). BesideChange file new h h.next_block k.next_block (pool_of file h) (extents_at (table_of new k) ++ stack_extents blocks)) (sym e) beside_by)

    pools_new : pool_of new h' ≡ pool_of file h
    unfolding all_cover
    pools_new =
        stack_pool new h' blocks (subst (λ (t : ℕ). IsStack new (most_of h') t blocks) (sym top_new) (subst (λ (m : ℕ). IsStack new m (top_of file h) blocks) (sym most_like) stack_new))
        (λ b. let o = by.file_is.space.once b in let a = cover-append (extents_at (table_of file h)) (stack_extents blocks) b in omega (arith, o, a))
        ∙ pool_same

    lost_stays : lost_total new ≡ lost_total file
    lost_stays =
        lost_same file new h h' (pool_of file h) sound kept.0 refl (front_header table spells) refl pools_new shape like.next_block
        (all_same file new h h.next_block (pool_of file h) (subst (IsSoundFile file h h.next_block) (sym pool_is) by.file_is) keeps)

    pub is_kept : IsKept h' table file new
    is_kept = record {
      is_open = record { sound = kept.0; header = sym (front_header table spells); table_is = table_new };
      same = kept.1;
      lost = lost_stays;
    }

pub like_kept : (file front : List ℕ) (h h' : Header) (table : Avail) → IsOpenOn h table file → IsLike h h' → AreFit h' table (length front) → SpellsFront h' table front → IsKept h' table file (written file 0 front)
like_kept file front h h' table o like fit spells =
    is_kept file front h' o.sound (subst (λ (k : Header). IsLike k h') o.header like) fit.block_size fit.native fit.header table spells
    (subst (λ (k : Header). table ≡ avail_at (table_of file k) (most_of k)) o.header o.table_is) fit.table_fits

-- another numsync leaves all that a header without a fault has
renumbered : (h : Header) (n : ℕ) → IsHeader h → IsHeader (numbered h n)
renumbered h n is = record { block = is.block; bits = is.bits; dir = is.dir; elems = is.elems; next_block = is.next_block; least = is.least; most = is.most }

few_of : (table : List ℕ) (most : ℕ) → is_avail table most ≡ true → length (extents_at table) ≤ most
unfolding is_avail
few_of table most right =
    let count = (within (count_at table) 0 most (and-true (is_within (count_at table) 0 most) _ right).0).1 in
    let size = length-list_below (extent_at table) (natural (count_at table)) in
    omega (arith, count, size)

pub number_kept : (file front : List ℕ) (h : Header) (table : Avail) (n : ℕ) → IsOpenOn h table file → SpellsFront (numbered h n) table front → length front ≡ h.block → IsKept (numbered h n) table file (written file 0 front)
unfolding avail_at
number_kept file front h table n o spells size =
    let by = (sound_blocks file o.sound).1 in
    let len = length file in
    let fits : IsHeaderOf h len = subst (λ (k : Header). IsHeaderOf k len) (sym o.header) (header_is (front_of file) len by.header) in
    let few = few_of (table_of file (header_of (front_of file))) (header_of (front_of file)).avail_size by.table in
    let avail = ap (λ (k : Header). k.avail_size) o.header in
    let table_was : table ≡ avail_at (table_of file (header_of (front_of file))) (most_of (header_of (front_of file))) = subst (λ (k : Header). table ≡ avail_at (table_of file k) (most_of k)) o.header o.table_is in
    let count = ap (λ (a : Avail). length a.extents) table_was in
    is_kept file front (numbered h n) o.sound
    (subst (λ (k : Header). IsLike k (numbered h n)) o.header (record { block = refl; dir = refl; bits = refl; elems = refl; next_block = refl }))
    size fits.magic (renumbered h n fits.header) table spells table_was (omega (arith, few, avail, count))
