-- Writes aside of the free side keep it.
use Rattle.std.proofs.Common.{◌≡◌, ℕ, ◌+◌, ◌-◌, ◌*◌, ◌<◌, ◌≤◌, true, not, List, [], ◌∷◌, ◌++◌, length, take, drop, refl, sym, ap, ◌∙◌, arith}
use Rattle.std.specs.Prelude.{nat_le, nat_lt, ◌==◌, ◌&&◌, ◌^◌}
use Rattle.std.proofs.lemmas.Bool.{le-leb, leb-true}
use Rattle.std.proofs.lemmas.List.{take-take, drop-take}
use Rattle.gd_format.specs.declared.Header.{Header}
use Rattle.gd_format.specs.Field.{bytes_at, i32_at, u32_at, number_of}
use Rattle.std.specs.Int.{w32, cast_signed}
use Rattle.gd_format.specs.HeaderFault.{is_within, natural}
use Rattle.gd_format.proofs.Firsts.{and-true, both_true, length-list_below}
use Rattle.gd_format.specs.Covers.{has_byte, cover}
use Rattle.gd_file_laws.proofs.Covers.{cover-append}
use Rattle.gd_map_laws.specs.Space.{one_if}
use Rattle.gd_map_laws.specs.Frame.{KeepsBut}
use Rattle.gd_format.specs.Avail.{count_at, next_at, avail_size, is_avail, extents_at, extent_at, raw_avail_at}
use Rattle.gd_format.specs.Sound.{most_of, is_stack_block, stack_block, stack_size}
use Rattle.gd_format.specs.FreeSide.{StackBlock, IsBlockOf, IsStack, block_extent, stack_extents, FreeLists, free_extents, IsFreeSide}
use Rattle.gd_map_laws.proofs.Stays.{has_in}

longer : (a m n : ℕ) → m ≤ n → nat_le a m ≡ true → nat_le a n ≡ true
longer a m n le e = let l = leb-true a m e in le-leb a n (omega arith)

-- the block of the stack is told by its head and its body
same_block : (old new : List ℕ) (most at : ℕ) → length old ≤ length new → bytes_at new at 16 ≡ bytes_at old at 16 → stack_block new at ≡ stack_block old at → is_stack_block old most at ≡ true → is_stack_block new most at ≡ true
unfolding is_stack_block stack_size
same_block old new most at le head body e =
    let a = and-true _ (is_avail (stack_block old at) most) e in
    let b = and-true _ (nat_le (at + avail_size (natural (count_at (bytes_at old at 16)))) (length old)) a.0 in
    let c = and-true _ (is_within (count_at (bytes_at old at 16)) 0 most) b.0 in
    let d = and-true (not (at == 0) && nat_lt at (2 ^ 63)) (nat_le (at + 16) (length old)) c.0 in
    let count : natural (count_at (bytes_at new at 16)) ≡ natural (count_at (bytes_at old at 16)) = ap (λ (x : List ℕ). natural (count_at x)) head in
    both_true _ _
    (both_true _ _
    (both_true _ _ (both_true _ _ d.0 (longer (at + 16) (length old) (length new) le d.1)) (ap (λ (x : List ℕ). is_within (count_at x) 0 most) head ∙ c.1))
    (ap (λ (x : ℕ). nat_le (at + avail_size x) (length new)) count ∙ longer (at + avail_size (natural (count_at (bytes_at old at 16)))) (length old) (length new) le b.1))
    (ap (λ (x : List ℕ). is_avail x most) body ∙ a.1)

head_count : (file : List ℕ) (at n : ℕ) → count_at (bytes_at file at (avail_size n)) ≡ count_at (bytes_at file at 16)
unfolding raw_avail_at i32_at u32_at
head_count file at n =
    let piece : take 4 (drop 4 (bytes_at file at (16 + 16 * n))) ≡ take 4 (drop 4 (bytes_at file at 16)) = inner (drop at file) (16 + 16 * n) (omega arith) in
    ap (λ (x : List ℕ). cast_signed w32 (number_of x)) piece
  where
    inner : (xs : List ℕ) (m : ℕ) → 16 ≤ m → take 4 (drop 4 (take m xs)) ≡ take 4 (drop 4 (take 16 xs))
    inner xs m le =
        let whole : 4 + (m - 4) ≡ m = omega arith in
        ap (λ (k : ℕ). take 4 (drop 4 (take k xs))) (sym whole) ∙ ap (take 4) (drop-take 4 (m - 4) xs) ∙ take-take 4 (m - 4) (drop 4 xs) (omega arith)
        ∙ sym (ap (take 4) (drop-take 4 12 xs) ∙ take-take 4 12 (drop 4 xs) (omega arith))

module _ (touched : ℕ → ℕ) (old new : List ℕ) (keeps : KeepsBut touched old new) (most : ℕ) where
  -- the count of a block's head is that of the block
  head_of : (at n : ℕ) → bytes_at new at (16 + n) ≡ bytes_at old at (16 + n) → bytes_at new at 16 ≡ bytes_at old at 16
  head_of at n e = sym (take-take 16 (16 + n) (drop at new) (omega arith)) ∙ ap (take 16) e ∙ take-take 16 (16 + n) (drop at old) (omega arith)

  block_kept : (b : StackBlock) → IsBlockOf old most b → ((x : ℕ) → has_byte (block_extent b) x ≡ true → touched x ≡ 0) → IsBlockOf new most b
  unfolding is_stack_block stack_block stack_size next_at
  block_kept b block free =
      let right = block.right in
      let a = and-true _ (is_avail (stack_block old b.at) most) right in
      let fits = leb-true (b.at + avail_size (natural (count_at (bytes_at old b.at 16)))) (length old) (and-true _ (nat_le (b.at + avail_size (natural (count_at (bytes_at old b.at 16)))) (length old)) a.0).1 in
      let number : length b.extents ≡ natural (count_at (stack_block old b.at)) = ap length block.extents ∙ length-list_below (extent_at (stack_block old b.at)) (natural (count_at (stack_block old b.at))) in
      let same_count = head_count old b.at (natural (count_at (bytes_at old b.at 16))) in
      let size : length b.extents ≡ natural (count_at (bytes_at old b.at 16)) = number ∙ ap natural same_count in
      let all : bytes_at new b.at (16 + 16 * natural (count_at (bytes_at old b.at 16))) ≡ bytes_at old b.at (16 + 16 * natural (count_at (bytes_at old b.at 16))) =
      keeps.bytes b.at (16 + 16 * natural (count_at (bytes_at old b.at 16))) fits
      (λ x low high. free x (has_in b.at (avail_size (length b.extents)) x low (omega (arith, high, size)))) in
      let head = head_of b.at (16 * natural (count_at (bytes_at old b.at 16))) all in
      let body : stack_block new b.at ≡ stack_block old b.at = ap (λ (x : List ℕ). bytes_at new b.at (avail_size (natural (count_at x)))) head ∙ all in
      record {
        right = same_block old new most b.at keeps.longer head body right;
        extents = block.extents ∙ ap extents_at (sym body);
        next = block.next ∙ ap next_at (sym head);
      }

  stack_kept : (top : ℕ) (blocks : List StackBlock) → IsStack old most top blocks → ((x : ℕ) → 0 < cover (stack_extents blocks) x → touched x ≡ 0) → IsStack new most top blocks
  stack_kept top [] stack free = stack
  stack_kept top (b ∷ bs) stack free = (
    stack.0,
    block_kept b stack.1 (λ x has. free x (let e = cover-append (block_extent b ∷ b.extents) (stack_extents bs) x in let o : one_if (has_byte (block_extent b) x) ≡ 1 = rw has refl in omega (arith, e, o))),
    stack_kept b.next bs stack.2 (λ x some. free x (let e = cover-append (block_extent b ∷ b.extents) (stack_extents bs) x in omega (arith, e, some))),
  )

pub side_kept : (touched : ℕ → ℕ) (old new : List ℕ) (h : Header) (top : ℕ) (s : FreeLists) → KeepsBut touched old new → ((b : ℕ) → 0 < cover (free_extents s) b → touched b ≡ 0) → length new ≤ h.next_block → IsFreeSide old h top s → IsFreeSide new h top s
side_kept touched old new h top s keeps free short side =
    record {
      short = short;
      stack = stack_kept touched old new keeps (most_of h) top s.blocks side.stack
          (λ x some. free x (let a = cover-append (s.table ++ stack_extents s.blocks) s.bucket x in let b = cover-append s.table (stack_extents s.blocks) x in omega (arith, a, b, some)));
      below = side.below;
      once = side.once;
      behind = side.behind;
    }
