-- What a push has done to a vault.
use Rattle.std.proofs.Common.{◌≡◌, ℕ, ◌+◌, ◌-◌, ◌*◌, ◌<◌, ◌≤◌, ◌≢◌, true, false, List, [], ◌∷◌, ◌++◌, Option, Some, None, length, refl, sym, ap, subst, ◌∙◌, inl, inr, arith}
use Rattle.gd_format.specs.declared.Extent.{Extent}
use Rattle.gd_format.specs.declared.Header.{Header}
use Rattle.gd_vault.specs.Content.{File, Content}
use Rattle.gd_vault.specs.Effects.{written, Changes}
use Rattle.gd_vault.specs.Events.Call.{Write}
use Rattle.gd_vault.specs.Views.{View, content_of}
use Rattle.gd_vault.specs.Changes.{TellsAfter}
use Rattle.gd_vault.proofs.Content.{content_step}
use Rattle.std.specs.List.{AllByRecursion}
use Rattle.std.proofs.lemmas.Bool.{cases_lt}
use Rattle.gd_format.specs.Covers.{cover, size_sum}
use Rattle.gd_format.specs.FreeSide.{StackBlock, FreeLists, IsFreeSide, IsBelow, IsStack, free_extents, stack_extents, block_extent}
use Rattle.gd_format.specs.Avail.{avail_size, extents_at, next_at}
use Rattle.gd_format.specs.Sound.{extent, most_of, stack_block, is_stack_block}
use Rattle.gd_format.specs.Field.{bytes_at}
use Rattle.gd_format.proofs.Firsts.{and-false}
use Rattle.std.specs.Prelude.{nat_lt, nat_le}
use Rattle.std.proofs.lemmas.Bool.Decides.{nat_tests}
use Rattle.gd_space.proofs.Stacks.{is_right}
use Rattle.gd_space.specs.Effect.{Change, Keeps, table_after, blocks_after, is_taken_back, TellsNone}
use Rattle.gd_space.specs.Lists.{Took}
use Rattle.gd_space.specs.SpaceLaws.{IsApart}
use Rattle.gd_format.proofs.Covers.{cover-append, size_sum-append, all-append, all-left, all-right}
use Rattle.gd_space.proofs.Changes.{stays_apart}
use Rattle.gd_space.proofs.Tooks.{took_moves, took_below, cover-side, size_sum-side}
use Rattle.gd_space.specs.Calls.{free_lists, Done, Backed, BackedTo}
use Rattle.gd_space.specs.Spells.{Spells}
use Rattle.gd_space.proofs.Sides.{Pushes, pushed, cover-past}
use Rattle.gd_space.proofs.Pushes.{less_lost, table_below, bucket_below}

pub done_by_push : (old new : View) (f : ℕ) (bs : List ℕ) (h : Header) (capacity next' top : ℕ) (table bucket table' bucket' spare : List Extent) (e : Extent) (taken : List Extent) (lost : ℕ)
    → TellsAfter (Write f e.at bs) true old.told new.told → Spells capacity spare top bs → e.size - avail_size (length spare) ≤ lost
    → ((blocks : List StackBlock) (x : File) → IsFreeSide x.bytes h top (free_lists table blocks bucket) → Pushes h next' (free_lists table blocks bucket) table' bucket' spare e [] taken)
    → Done old new f h (record h { next_block = next' }) top e.at table bucket table' bucket' [] taken lost
done_by_push old new f bs h capacity next' top table bucket table' bucket' spare e taken lost wrote_ spells le pushes c x blocks told there side =
    let step = content_step (Write f e.at bs) true old.told new.told wrote_ c told in
    let change : Changes f (λ (x y : File). y ≡ record x { bytes = written x.bytes e.at bs }) c step.0 = step.2 in
    let y = change.file x there in
    let bytes : y.0.bytes ≡ written x.bytes e.at bs = ap (λ (z : File). z.bytes) y.2 in
    let done = pushed x.bytes bs h capacity next' top (free_lists table blocks bucket) table' bucket' spare e [] taken side (pushes blocks x side) spells in
    record {
      content = step.0;
      file = y.0;
      blocks = record { at = e.at; extents = spare; next = top } ∷ blocks;
      told = step.1;
      there = y.1;
      change = rw bytes (less_lost (e.size - avail_size (length spare)) lost le done);
    }

keeps_refl : (free : List Extent) (file : List ℕ) → Keeps free file file
keeps_refl free file = record { longer = omega arith; bytes = λ at n inside clear. refl }

-- room that was taken with no call of the vault
pub took_change : (file : List ℕ) (h : Header) (next' top at n : ℕ) (s : FreeLists) (table' bucket' : List Extent) → IsFreeSide file h top s → Took h.next_block next' s.table s.bucket table' bucket' at n
    → Change file file h (record h { next_block = next' }) top top s (free_lists table' s.blocks bucket') [] (extent at n ∷ []) 32
took_change file h next' top at n s table' bucket' old t =
    let moves = took_moves h.next_block next' s (free_lists table' s.blocks bucket') at n refl t in
    let grows = t.grows in
    let behind = old.behind in
    let short = old.short in
    let apart : IsApart (λ _. 0) (free_extents s) [] h.next_block = record {
      once = λ b. (let o = old.once b in omega (arith, o));
      below = λ b some. elim (cases_lt b h.next_block) [ inl low ↦ low | inr high ↦ let z = cover-past h.next_block (free_extents s) b old.below high in absurd (omega (arith, some, z)) ];
    } in
    let after = stays_apart (λ _. 0) (free_extents s) (free_extents (free_lists table' s.blocks bucket')) [] (extent at n ∷ []) h.next_block next' 32 moves apart in
    record {
      side = record {
        behind = omega (arith, behind, grows);
        short = omega (arith, short, grows);
        stack = old.stack;
        below = took_below h.next_block next' s (free_lists table' s.blocks bucket') at n refl t old.below;
        once = λ b. (let o = after.once b in omega (arith, o));
      };
      keeps = keeps_refl (free_extents s ++ []) file;
      moves = moves;
    }

pub done_by_room : (v : View) (f : ℕ) (h : Header) (next' top : ℕ) (table bucket table' bucket' : List Extent) (at n : ℕ)
    → (AllByRecursion (IsBelow h.next_block) table → AllByRecursion (IsBelow h.next_block) bucket → Took h.next_block next' table bucket table' bucket' at n)
    → Done v v f h (record h { next_block = next' }) top top table bucket table' bucket' [] (extent at n ∷ []) 32
done_by_room v f h next' top table bucket table' bucket' at n took c x blocks told there side = record {
  content = c;
  file = x;
  blocks = blocks;
  told = told;
  there = there;
  change = took_change x.bytes h next' top at n (free_lists table blocks bucket) table' bucket' side (took (table_below h.next_block (free_lists table blocks bucket) side.below) (bucket_below h.next_block (free_lists table blocks bucket) side.below));
}

-- ---- a block that was taken back

back_cover : (table bucket : List Extent) (b : StackBlock) (blocks : List StackBlock) (x : ℕ) → cover (free_extents (free_lists (table ++ b.extents ++ block_extent b ∷ []) blocks bucket)) x ≡ cover (free_extents (free_lists table (b ∷ blocks) bucket)) x
back_cover table bucket b blocks x =
    let one = cover-side (free_lists (table ++ b.extents ++ block_extent b ∷ []) blocks bucket) x in
    let two = cover-side (free_lists table (b ∷ blocks) bucket) x in
    let p = cover-append (table ++ b.extents) (block_extent b ∷ []) x in
    let q = cover-append table b.extents x in
    let r = cover-append (block_extent b ∷ b.extents) (stack_extents blocks) x in
    omega (arith, one, two, p, q, r)

back_total : (table bucket : List Extent) (b : StackBlock) (blocks : List StackBlock) → size_sum (free_extents (free_lists (table ++ b.extents ++ block_extent b ∷ []) blocks bucket)) ≡ size_sum (free_extents (free_lists table (b ∷ blocks) bucket))
back_total table bucket b blocks =
    let one = size_sum-side (free_lists (table ++ b.extents ++ block_extent b ∷ []) blocks bucket) in
    let two = size_sum-side (free_lists table (b ∷ blocks) bucket) in
    let p = size_sum-append (table ++ b.extents) (block_extent b ∷ []) in
    let q = size_sum-append table b.extents in
    let r = size_sum-append (block_extent b ∷ b.extents) (stack_extents blocks) in
    omega (arith, one, two, p, q, r)

pub back_side : (file : List ℕ) (h : Header) (top : ℕ) (table bucket : List Extent) (b : StackBlock) (blocks : List StackBlock) → IsFreeSide file h top (free_lists table (b ∷ blocks) bucket) → IsFreeSide file h b.next (free_lists (table ++ b.extents ++ block_extent b ∷ []) blocks bucket)
back_side file h top table bucket b blocks s =
    let front = all-left (IsBelow h.next_block) (table ++ stack_extents (b ∷ blocks)) bucket s.below in
    let last = all-right (IsBelow h.next_block) (table ++ stack_extents (b ∷ blocks)) bucket s.below in
    let mine = all-left (IsBelow h.next_block) table (stack_extents (b ∷ blocks)) front in
    let stack = all-right (IsBelow h.next_block) table (stack_extents (b ∷ blocks)) front in
    let own = all-left (IsBelow h.next_block) (block_extent b ∷ b.extents) (stack_extents blocks) stack in
    let rest = all-right (IsBelow h.next_block) (block_extent b ∷ b.extents) (stack_extents blocks) stack in
    record {
      behind = s.behind;
      short = s.short;
      stack = s.stack.2;
      below = all-append (IsBelow h.next_block) (table ++ b.extents ++ block_extent b ∷ [] ++ stack_extents blocks) bucket
          (all-append (IsBelow h.next_block) (table ++ b.extents ++ block_extent b ∷ []) (stack_extents blocks)
          (all-append (IsBelow h.next_block) (table ++ b.extents) (block_extent b ∷ []) (all-append (IsBelow h.next_block) table b.extents mine own.1) (own.0, tt)) rest) last;
      once = λ x. (let o = s.once x in let e = back_cover table bucket b blocks x in omega (arith, o, e));
    }

-- a change after a block was taken back is one from before
pub back_change : (file file' : List ℕ) (h h' : Header) (top top' : ℕ) (table bucket : List Extent) (b : StackBlock) (blocks : List StackBlock) (s' : FreeLists) (given taken : List Extent) (lost : ℕ)
    → Change file file' h h' b.next top' (free_lists (table ++ b.extents ++ block_extent b ∷ []) blocks bucket) s' given taken lost → Change file file' h h' top top' (free_lists table (b ∷ blocks) bucket) s' given taken lost
back_change file file' h h' top top' table bucket b blocks s' given taken lost c =
    let e = back_total table bucket b blocks in
    record {
      side = c.side;
      keeps = record {
        longer = c.keeps.longer;
        bytes = λ at n inside clear. c.keeps.bytes at n inside (λ x low high. (let z = clear x low high in let p = cover-append (free_extents (free_lists table (b ∷ blocks) bucket)) given x in let q = cover-append (free_extents (free_lists (table ++ b.extents ++ block_extent b ∷ []) blocks bucket)) given x in let w = back_cover table bucket b blocks x in omega (arith, z, p, q, w)));
      };
      moves = record {
        grows = c.moves.grows;
        bytes = λ x. (let m = c.moves.bytes x in let w = back_cover table bucket b blocks x in omega (arith, m, w));
        least = let m = c.moves.least in omega (arith, m, e);
        most = let m = c.moves.most in omega (arith, m, e);
      };
    }

-- ---- when a block is taken back

-- a stack whose top is 0 is empty
top_zero : (file : List ℕ) (most : ℕ) (blocks : List StackBlock) → IsStack file most 0 blocks → blocks ≡ []
top_zero file most [] is = refl
top_zero file most (b ∷ bs) is = let start = (is_right file most b.at is.1.right).start in let z = is.0 in absurd (grind (arith, nat_tests, start, z))

pub backed_none : (file : List ℕ) (h : Header) (top : ℕ) (table bucket : List Extent) (blocks : List StackBlock) → table ≡ table_after h.avail_size table blocks → blocks ≡ blocks_after h.avail_size table blocks → IsFreeSide file h top (free_lists table blocks bucket) → BackedTo file h top table table blocks bucket
backed_none file h top table bucket blocks rule kept side = record { rest = blocks; side = side; by_rule = rule; rest_is = kept; covers = λ b. refl; sums = refl }

pub backed_empty : (file : List ℕ) (h : Header) (top : ℕ) (table bucket : List Extent) (blocks : List StackBlock) → top ≡ 0 → IsFreeSide file h top (free_lists table blocks bucket) → BackedTo file h top table table blocks bucket
backed_empty file h top table bucket blocks z side =
    let none : blocks ≡ [] = top_zero file (most_of h) blocks (rw (← z) side.stack) in
    backed_none file h top table bucket blocks (rw none refl) (rw none refl) side

pub backed_full : (file : List ℕ) (h : Header) (top : ℕ) (table bucket : List Extent) (blocks : List StackBlock) → h.avail_size ≤ 2 * length table → IsFreeSide file h top (free_lists table blocks bucket) → BackedTo file h top table table blocks bucket
backed_full file h top table bucket [] le side = backed_none file h top table bucket [] refl refl side
backed_full file h top table bucket (b ∷ bs) le side =
    let f : nat_lt (2 * length table) h.avail_size ≡ false = grind (arith, nat_tests) in
    backed_none file h top table bucket (b ∷ bs) (rw f refl) (rw f refl) side

pub backed_large : (file : List ℕ) (h : Header) (top : ℕ) (table bucket spare : List Extent) (blocks : List StackBlock) → spare ≡ extents_at (stack_block file top) → h.avail_size < length table + length spare + 1 → IsFreeSide file h top (free_lists table blocks bucket) → BackedTo file h top table table blocks bucket
backed_large file h top table bucket spare [] is lt side = backed_none file h top table bucket [] refl refl side
backed_large file h top table bucket spare (b ∷ bs) is lt side =
    let same : spare ≡ b.extents = is ∙ ap (λ (k : ℕ). extents_at (stack_block file k)) (sym side.stack.0) ∙ sym side.stack.1.extents in
    let len = ap (λ (x : List Extent). length x) same in
    let f : nat_le (length table + length b.extents + 1) h.avail_size ≡ false = grind (arith, nat_tests, len, lt) in
    let g : is_taken_back h.avail_size table (b ∷ bs) ≡ false = rw f (and-false (nat_lt (2 * length table) h.avail_size)) in
    backed_none file h top table bucket (b ∷ bs) (rw g refl) (rw g refl) side

pub backed_some : (file : List ℕ) (h : Header) (top : ℕ) (table table' bucket spare : List Extent) (next : ℕ) (blocks : List StackBlock) → top ≢ 0 → spare ≡ extents_at (stack_block file top) → next ≡ next_at (bytes_at file top 16)
    → 2 * length table < h.avail_size → length table + length spare + 1 ≤ h.avail_size → table' ≡ table ++ spare ++ extent top (avail_size (length spare)) ∷ [] → IsFreeSide file h top (free_lists table blocks bucket) → BackedTo file h next table table' blocks bucket
backed_some file h top table table' bucket spare next [] ne is follows half fits items side = absurd (ne side.stack)
backed_some file h top table table' bucket spare next (b ∷ bs) ne is follows half fits items side =
    let same : spare ≡ b.extents = is ∙ ap (λ (k : ℕ). extents_at (stack_block file k)) (sym side.stack.0) ∙ sym side.stack.1.extents in
    let len = ap (λ (x : List Extent). length x) same in
    let after : next ≡ b.next = follows ∙ ap (λ (k : ℕ). next_at (bytes_at file k 16)) (sym side.stack.0) ∙ sym side.stack.1.next in
    let f : nat_lt (2 * length table) h.avail_size ≡ true = grind (arith, nat_tests) in
    let g : nat_le (length table + length b.extents + 1) h.avail_size ≡ true = grind (arith, nat_tests, len, fits) in
    let rule : is_taken_back h.avail_size table (b ∷ bs) ≡ true = rw (f, g) refl in
    let whole : table' ≡ table ++ b.extents ++ block_extent b ∷ [] = items ∙ ap (λ (x : List Extent). table ++ x ++ extent top (avail_size (length x)) ∷ []) same ∙ ap (λ (k : ℕ). table ++ b.extents ++ extent k (avail_size (length b.extents)) ∷ []) (sym side.stack.0) in
    rw (after, whole) (record {
      rest = bs;
      side = back_side file h top table bucket b bs side;
      by_rule = rw rule refl;
      rest_is = rw rule refl;
      covers = back_cover table bucket b bs;
      sums = back_total table bucket b bs;
    })

-- a change from a free side that has the same bytes
pub same_change : (file file' : List ℕ) (h h' : Header) (top top1 top' : ℕ) (s s1 s' : FreeLists) (given taken : List Extent) (lost : ℕ)
    → ((x : ℕ) → cover (free_extents s1) x ≡ cover (free_extents s) x) → size_sum (free_extents s1) ≡ size_sum (free_extents s)
    → Change file file' h h' top1 top' s1 s' given taken lost → Change file file' h h' top top' s s' given taken lost
same_change file file' h h' top top1 top' s s1 s' given taken lost covers e c = record {
  side = c.side;
  keeps = record {
    longer = c.keeps.longer;
    bytes = λ at n inside clear. c.keeps.bytes at n inside (λ x low high. (let z = clear x low high in let p = cover-append (free_extents s) given x in let q = cover-append (free_extents s1) given x in let w = covers x in omega (arith, z, p, q, w)));
  };
  moves = record {
    grows = c.moves.grows;
    bytes = λ x. (let m = c.moves.bytes x in let w = covers x in omega (arith, m, w));
    least = let m = c.moves.least in omega (arith, m, e);
    most = let m = c.moves.most in omega (arith, m, e);
  };
}

pub done_after_back : (v0 v1 v2 : View) (f : ℕ) (h h' : Header) (top top1 top' : ℕ) (table bucket table1 table' bucket' given taken : List Extent) (lost : ℕ) → v1.told ≡ v0.told
    → Backed v0 f h top top1 table table1 → Done v1 v2 f h h' top1 top' table1 bucket table' bucket' given taken lost → Done v0 v2 f h h' top top' table bucket table' bucket' given taken lost
done_after_back v0 v1 v2 f h h' top top1 top' table bucket table1 table' bucket' given taken lost same back done c x blocks told there side =
    let b = back c x blocks bucket told there side in
    let a = done c x b.rest (ap content_of same ∙ told) there b.side in
    record {
      content = a.content;
      file = a.file;
      blocks = a.blocks;
      told = a.told;
      there = a.there;
      change = same_change x.bytes a.file.bytes h h' top top1 top' (free_lists table blocks bucket) (free_lists table1 b.rest bucket) (free_lists table' a.blocks bucket') given taken lost b.covers b.sums a.change;
    }

-- the block at the top of a stack is one
pub top-right : (file : List ℕ) (most top : ℕ) (blocks : List StackBlock) → IsStack file most top blocks → top ≢ 0 → is_stack_block file most top ≡ false → ⊥
top-right file most top [] is some bad = some is
top-right file most top (b ∷ bs) is some bad =
    let right : is_stack_block file most top ≡ true = subst (λ (k : ℕ). is_stack_block file most k ≡ true) is.0 is.1.right in
    absurd (let two : true ≡ false = sym right ∙ bad in cc (two))

none_from : (o : Option Content) → ((c : Content) → o ≡ Some c → ⊥) → o ≡ None
none_from None h = refl
none_from (Some c) h = absurd (h c refl)

-- what a vault that tells its content refutes
pub tells_none : (v : View) → ((c : Content) → content_of v.told ≡ Some c → ⊥) → TellsNone v
tells_none v h = none_from (content_of v.told) h
