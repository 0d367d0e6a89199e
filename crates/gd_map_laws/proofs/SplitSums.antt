-- The sums of a split and of a doubling.
use Rattle.std.proofs.Common.{◌≡◌, ℕ, ◌+◌, ◌*◌, ◌<◌, ◌≤◌, List, ◌++◌, length, ap, ◌∙◌, inl, inr, arith}
use Rattle.std.proofs.lemmas.Bool.{cases_lt}
use Rattle.gd_format.specs.declared.Header.{Header}
use Rattle.gd_format.specs.declared.Extent.{Extent}
use Rattle.gd_format.specs.Field.{bytes_at}
use Rattle.gd_format.specs.HeaderFault.{header_of, dir_size_of}
use Rattle.gd_format.specs.Avail.{extents_at}
use Rattle.gd_format.specs.File.{front_of, entries_of}
use Rattle.gd_format.specs.Sound.{IsSound, extent, extents, table_of, total}
use Rattle.gd_format.specs.Covers.{has_byte, cover, size_sum}
use Rattle.gd_format.specs.FreeSide.{StackBlock, stack_extents}
use Rattle.gd_file_laws.proofs.Covers.{cover-append}
use Rattle.gd_file_laws.proofs.Headers.{header_in}
use Rattle.gd_map_laws.specs.Update.{IsSameShape}
use Rattle.gd_map_laws.specs.Space.{one_if, free_in, free_of, all_cover, grown, IsSpaceRight}
use Rattle.gd_map_laws.specs.Change.{place_of, IsSoundFile}
use Rattle.gd_map_laws.specs.Sounds.{pool_of}
use Rattle.gd_map_laws.specs.Sums.{free_size}
use Rattle.gd_map_laws.specs.Split.{SplitChange, DoubleChange}
use Rattle.gd_map_laws.specs.SplitSpace.{SplitMoves, DoubleMoves}
use Rattle.gd_map_laws.specs.WholeSplit.{SpaceWritten}
use Rattle.gd_map_laws.proofs.Space.{grown-some}
use Rattle.gd_map_laws.proofs.Change.{all_shape, space_shape}
use Rattle.gd_map_laws.proofs.Sounds.{cover_is, stack_pool}
use Rattle.gd_map_laws.proofs.WholeSplit.{file_is}
use Rattle.gd_map_laws.specs.Sums.{sum_below}
use Rattle.gd_map_laws.proofs.Sums.{sum_add, sum_even, some_sum, cover_sum, held_sum, parts_in, free_sum, pool_sum}
use Rattle.gd_map_laws.proofs.SplitSpace as splits
use Rattle.gd_map_laws.proofs.DoubleSpace as doubles

-- a byte of what moved lies before the new end
moved_in : (next next' used came b : ℕ) → next ≤ next' → came ≤ used + grown next next' b → (0 < used → b < next) → 0 < came → b < next'
moved_in next next' used came b grows le below some =
    elim (cases_lt 0 used) [
      | inl there ↦ let lt = below there in omega (arith, lt, grows)
      | inr none ↦ let past = grown-some next next' b (omega (arith, le, some, none)) in past.1
    ]

stack_in : (file : List ℕ) (h : Header) (next : ℕ) (blocks : List StackBlock) → IsSpaceRight file h next (extents_at (table_of file h) ++ stack_extents blocks) → (b : ℕ) → cover (stack_extents blocks) b ≤ 1
unfolding all_cover
stack_in file h next blocks right b =
    let o = right.once b in
    let a = cover-append (extents_at (table_of file h)) (stack_extents blocks) b in
    omega (arith, o, a)

-- the sum over a file with the stack as these blocks
new_sum : (new : List ℕ) (blocks : List StackBlock) → SpaceWritten new blocks → IsSpaceRight new (header_of (front_of new)) (header_of (front_of new)).next_block (extents_at (table_of new (header_of (front_of new))) ++ stack_extents blocks) → sum_below (all_cover new (header_of (front_of new)) (extents_at (table_of new (header_of (front_of new))) ++ stack_extents blocks)) (header_of (front_of new)).next_block ≡ total (extents new)
unfolding extents
new_sum new blocks wrote right =
    let pool = stack_pool new (header_of (front_of new)) blocks wrote.stack (stack_in new (header_of (front_of new)) (header_of (front_of new)).next_block blocks right) in
    held_sum new (header_of (front_of new)) (header_of (front_of new)).next_block (extents_at (table_of new (header_of (front_of new))) ++ stack_extents blocks) right
    (λ b. cover_is new (header_of (front_of new)) b ∙ ap (λ (l : List Extent). all_cover new (header_of (front_of new)) l b) pool) (header_of (front_of new)).next_block (omega arith)

pool_size : (new : List ℕ) (blocks : List StackBlock) → SpaceWritten new blocks → IsSpaceRight new (header_of (front_of new)) (header_of (front_of new)).next_block (extents_at (table_of new (header_of (front_of new))) ++ stack_extents blocks) → size_sum (pool_of new (header_of (front_of new))) ≡ size_sum (extents_at (table_of new (header_of (front_of new))) ++ stack_extents blocks)
pool_size new blocks wrote right = ap size_sum (stack_pool new (header_of (front_of new)) blocks wrote.stack (stack_in new (header_of (front_of new)) (header_of (front_of new)).next_block blocks right))

module _ (old new : List ℕ) (blocks : List StackBlock) (i at bits half q : ℕ) (sound : IsSound old) (li : i < entries_of (header_of (front_of old))) (wrote : SpaceWritten new blocks) (shape : IsSameShape (header_of (front_of old)) (header_of (front_of new))) (change : SplitChange old new (header_of (front_of old)) i at bits half q) (moves : SplitMoves old new (header_of (front_of old)) i at (header_of (front_of old)).next_block (header_of (front_of new)).next_block (pool_of old (header_of (front_of old))) (extents_at (table_of new (header_of (front_of new))) ++ stack_extents blocks)) where
  abbrev h : Header
  h = header_of (front_of old)

  abbrev h' : Header
  h' = header_of (front_of new)

  abbrev pool' : List Extent
  pool' = extents_at (table_of new h') ++ stack_extents blocks

  abbrev first : List Extent
  first = free_in (bytes_at new (place_of old h i) h.block)

  abbrev second : List Extent
  second = free_in (bytes_at new at h.block)

  file : IsSoundFile old h h.next_block (pool_of old h)
  file = file_is old sound

  right : IsSpaceRight new h' h'.next_block pool'
  right = space_shape new h h' shape h'.next_block pool' (splits.split_space_right old new h i at bits half q h.next_block h'.next_block (pool_of old h) pool' file.bits file.parts li change file.space moves)

  inside : (came b : ℕ) → came ≤ cover pool' b + cover first b + cover second b + one_if (has_byte (extent at h.block) b) → 0 < came → b < h'.next_block
  inside came b le some =
      let m = moves.moves b in
      moved_in h.next_block h'.next_block (cover (pool_of old h) b + cover (free_of old h i) b) came b moves.grows (omega (arith, le, m))
      (λ used. file.space.below b (let p = parts_in old h i h.next_block (pool_of old h) li file.space b in omega (arith, p, used))) some

  pub split_totals : total (extents new) + free_size old h i ≡ total (extents old) + (size_sum (pool_of new h') + size_sum first + size_sum second + h.block)
  unfolding extents
  split_totals =
      let n = h'.next_block in
      let even = sum_even (λ b. all_cover new h pool' b + cover (free_of old h i) b + cover (pool_of old h) b) (λ b. all_cover old h (pool_of old h) b + one_if (has_byte (extent at h.block) b) + cover first b + cover second b + cover pool' b) h'.next_block
      (λ b. splits.whole old new h i at bits half q file.bits file.parts li change b (pool_of old h) pool') in
      let l1 = sum_add (λ b. all_cover new h pool' b + cover (free_of old h i) b) (cover (pool_of old h)) h'.next_block in
      let l2 = sum_add (all_cover new h pool') (cover (free_of old h i)) h'.next_block in
      let r1 = sum_add (λ b. all_cover old h (pool_of old h) b + one_if (has_byte (extent at h.block) b) + cover first b + cover second b) (cover pool') h'.next_block in
      let r2 = sum_add (λ b. all_cover old h (pool_of old h) b + one_if (has_byte (extent at h.block) b) + cover first b) (cover second) h'.next_block in
      let r3 = sum_add (λ b. all_cover old h (pool_of old h) b + one_if (has_byte (extent at h.block) b)) (cover first) h'.next_block in
      let r4 = sum_add (all_cover old h (pool_of old h)) (λ b. one_if (has_byte (extent at h.block) b)) h'.next_block in
      let shaped = sum_even (all_cover new h' pool') (all_cover new h pool') h'.next_block (λ b. all_shape new h h' shape pool' b) in
      let a = new_sum new blocks wrote right in
      let c = free_sum old h i h.next_block (pool_of old h) li file.space h'.next_block moves.grows in
      let d = pool_sum old h i h.next_block (pool_of old h) li file.space h'.next_block moves.grows in
      let e = held_sum old h h.next_block (pool_of old h) file.space (cover_is old h) h'.next_block moves.grows in
      let f = some_sum at h.block h'.next_block (λ b some. inside (one_if (has_byte (extent at h.block) b)) b (omega arith) some) in
      let g = cover_sum first h'.next_block (λ b some. inside (cover first b) b (omega arith) some) in
      let k = cover_sum second h'.next_block (λ b some. inside (cover second b) b (omega arith) some) in
      let m = cover_sum pool' h'.next_block (λ b some. inside (cover pool' b) b (omega arith) some) in
      let o = pool_size new blocks wrote right in
      omega (arith, even, l1, l2, r1, r2, r3, r4, shaped, a, c, d, e, f, g, k, m, o)

module _ (old new : List ℕ) (blocks : List StackBlock) (sound : IsSound old) (wrote : SpaceWritten new blocks) (change : DoubleChange old new (header_of (front_of old)) (header_of (front_of new))) (moves : DoubleMoves (header_of (front_of old)) (header_of (front_of new)) (header_of (front_of old)).next_block (header_of (front_of new)).next_block (pool_of old (header_of (front_of old))) (extents_at (table_of new (header_of (front_of new))) ++ stack_extents blocks)) where
  abbrev k : Header
  k = header_of (front_of old)

  abbrev k' : Header
  k' = header_of (front_of new)

  abbrev here' : List Extent
  here' = extents_at (table_of new k') ++ stack_extents blocks

  before : IsSoundFile old k k.next_block (pool_of old k)
  before = file_is old sound

  bits_new : k'.dir_bits ≤ 24
  bits_new = (header_in (front_of new) (length new) wrote.header).bits

  after : IsSpaceRight new k' k'.next_block here'
  after = doubles.double_space_right old new k k' k.next_block k'.next_block (pool_of old k) here' bits_new before.parts change before.space moves

  old_in : (b : ℕ) → cover (pool_of old k) b + one_if (has_byte (extent k.dir (8 * entries_of k)) b) ≤ all_cover old k (pool_of old k) b
  unfolding all_cover
  old_in b = omega arith

  old_below : (came b : ℕ) → came ≤ cover (pool_of old k) b + one_if (has_byte (extent k.dir (8 * entries_of k)) b) → 0 < came → b < k'.next_block
  old_below came b le some = let p = old_in b in let l = before.space.below b (omega (arith, p, le, some)) in let g = moves.grows in omega (arith, l, g)

  new_below : (came b : ℕ) → came ≤ cover here' b + one_if (has_byte (extent k'.dir (8 * entries_of k')) b) → 0 < came → b < k'.next_block
  new_below came b le some =
      let m = moves.moves b in
      moved_in k.next_block k'.next_block (cover (pool_of old k) b + one_if (has_byte (extent k.dir (8 * entries_of k)) b)) came b moves.grows (omega (arith, le, m))
      (λ used. before.space.below b (let p = old_in b in omega (arith, p, used))) some

  pub double_totals : total (extents new) + (size_sum (pool_of old k) + dir_size_of k.dir_bits) ≡ total (extents old) + (size_sum (pool_of new k') + dir_size_of k'.dir_bits)
  unfolding extents
  double_totals =
      let even = sum_even (λ b. all_cover new k' here' b + one_if (has_byte (extent k.dir (8 * entries_of k)) b) + cover (pool_of old k) b) (λ b. all_cover old k (pool_of old k) b + one_if (has_byte (extent k'.dir (8 * entries_of k')) b) + cover here' b) k'.next_block
      (λ b. doubles.whole old new k k' bits_new before.parts change b (pool_of old k) here') in
      let l1 = sum_add (λ b. all_cover new k' here' b + one_if (has_byte (extent k.dir (8 * entries_of k)) b)) (cover (pool_of old k)) k'.next_block in
      let l2 = sum_add (all_cover new k' here') (λ b. one_if (has_byte (extent k.dir (8 * entries_of k)) b)) k'.next_block in
      let r1 = sum_add (λ b. all_cover old k (pool_of old k) b + one_if (has_byte (extent k'.dir (8 * entries_of k')) b)) (cover here') k'.next_block in
      let r2 = sum_add (all_cover old k (pool_of old k)) (λ b. one_if (has_byte (extent k'.dir (8 * entries_of k')) b)) k'.next_block in
      let a = new_sum new blocks wrote after in
      let c = some_sum k.dir (8 * entries_of k) k'.next_block (λ b some. old_below (one_if (has_byte (extent k.dir (8 * entries_of k)) b)) b (omega arith) some) in
      let d = cover_sum (pool_of old k) k'.next_block (λ b some. old_below (cover (pool_of old k) b) b (omega arith) some) in
      let e = held_sum old k k.next_block (pool_of old k) before.space (cover_is old k) k'.next_block moves.grows in
      let f = some_sum k'.dir (8 * entries_of k') k'.next_block (λ b some. new_below (one_if (has_byte (extent k'.dir (8 * entries_of k')) b)) b (omega arith) some) in
      let g = cover_sum here' k'.next_block (λ b some. new_below (cover here' b) b (omega arith) some) in
      let o = pool_size new blocks wrote after in
      omega (arith, even, l1, l2, r1, r2, a, c, d, e, f, g, o)
