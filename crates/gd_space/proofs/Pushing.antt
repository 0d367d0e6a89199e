-- The stack after a call, and when a block is pushed.
use Rattle.std.proofs.Common.{◌≡◌, ◌≢◌, ◌⊎◌, ℕ, ◌-◌, ◌<◌, ◌≤◌, max, Bool, true, false, not, ◌&&◌, List, [], ◌∷◌, length, pos, refl, sym, ap, subst, ◌∙◌, inl, inr, arith}
use Rattle.std.specs.Prelude.{nat_lt, nat_le, ◌==◌}
use Rattle.std.proofs.lemmas.Bool.{cases_lt, le-leb, lt-ltb}
use Rattle.std.proofs.lemmas.Bool.Decides.{nat_tests}
use Rattle.gd_format.specs.declared.Extent.{Extent}
use Rattle.gd_format.specs.declared.Header.{Header}
use Rattle.gd_format.specs.Avail.{avail_size}
use Rattle.std.specs.List.{AllByRecursion}
use Rattle.gd_format.specs.Field.{bytes_at}
use Rattle.gd_format.specs.FreeSide.{StackBlock, IsFreeSide, IsStack}
use Rattle.gd_format.specs.Sound.{most_of}
use Rattle.gd_space.specs.Sizes.{largest}
use Rattle.gd_space.specs.Effect.{whole_blocks, table_after, blocks_after, take_pushes, give_pushes, recut_room, recut_loses, WritesAtMost}
use Rattle.gd_space.specs.Calls.{free_lists, Backed}
use Rattle.gd_space.specs.Spells.{Spells, capacity_at}
use Rattle.gd_space.specs.Stacks.{KeepsBlock, Stacks, Pushed, all_kept}
use Rattle.gd_space.proofs.Dones.{done_by_push}
use Rattle.gd_space.proofs.Sides.{Pushes, pushed, pushed_capacity, pushed_below}
use Rattle.gd_space.proofs.Stacks.{blocks_same}
use Rattle.gd_vault.specs.Content.{File}
use Rattle.gd_vault.specs.Effects.{written, Changes}
use Rattle.gd_vault.specs.Events.Call.{Write}
use Rattle.gd_vault.specs.Views.{View, content_of}
use Rattle.gd_vault.specs.Changes.{TellsAfter}
use Rattle.gd_vault.proofs.Content.{content_step}

stack_by_push : (old new : View) (f : ℕ) (bs : List ℕ) (h : Header) (capacity next' top : ℕ) (table bucket table' bucket' spare : List Extent) (e : Extent) (taken : List Extent)
    → TellsAfter (Write f e.at bs) true old.told new.told → Spells capacity spare top bs
    → ((blocks : List StackBlock) (x : File) → IsFreeSide x.bytes h top (free_lists table blocks bucket) → Pushes h next' (free_lists table blocks bucket) table' bucket' spare e [] taken)
    → Stacks old new f h capacity top e.at table bucket (λ blocks. true) all_kept
stack_by_push old new f bs h capacity next' top table bucket table' bucket' spare e taken wrote_ spells pushes c x blocks told there side =
    let step = content_step (Write f e.at bs) true old.told new.told wrote_ c told in
    let change : Changes f (λ (x y : File). y ≡ record x { bytes = written x.bytes e.at bs }) c step.0 = step.2 in
    let y = change.file x there in
    let bytes : y.0.bytes ≡ written x.bytes e.at bs = ap (λ (z : File). z.bytes) y.2 in
    let here = pushes blocks x side in
    let done = pushed x.bytes bs h capacity next' top (free_lists table blocks bucket) table' bucket' spare e [] taken side here spells in
    record {
      content = step.0;
      file = y.0;
      blocks = record { at = e.at; extents = spare; next = top } ∷ blocks;
      told = step.1;
      there = y.1;
      stack = subst (λ (k : List ℕ). IsStack k (most_of h) e.at (record { at = e.at; extents = spare; next = top } ∷ blocks)) (sym bytes) done.side.stack;
      pushed = (
        refl,
        subst (λ (k : List ℕ). capacity_at (bytes_at k e.at 16) ≡ pos capacity) (sym bytes) (pushed_capacity x.bytes bs h capacity next' top (free_lists table blocks bucket) table' bucket' spare e [] taken side here spells),
      );
      below = subst (λ (k : List ℕ). AllByRecursion (KeepsBlock x.bytes k) blocks) (sym bytes) (pushed_below x.bytes bs h capacity next' top (free_lists table blocks bucket) table' bucket' spare e [] taken side here spells);
    }

-- a block was written, and is pushed
pub by_push : (old new : View) (f : ℕ) (bs : List ℕ) (h : Header) (capacity next' top : ℕ) (table bucket table' bucket' spare : List Extent) (e : Extent) (taken : List Extent) (lost : ℕ)
    → TellsAfter (Write f e.at bs) true old.told new.told → Spells capacity spare top bs → e.size - avail_size (length spare) ≤ lost
    → ((blocks : List StackBlock) (x : File) → IsFreeSide x.bytes h top (free_lists table blocks bucket) → Pushes h next' (free_lists table blocks bucket) table' bucket' spare e [] taken)
    → Pushed old new f h (record h { next_block = next' }) capacity top e.at table bucket table' bucket' [] taken lost
by_push old new f bs h capacity next' top table bucket table' bucket' spare e taken lost wrote_ spells le pushes = record {
  done = done_by_push old new f bs h capacity next' top table bucket table' bucket' spare e taken lost wrote_ spells le pushes;
  stack = stack_by_push old new f bs h capacity next' top table bucket table' bucket' spare e taken wrote_ spells pushes;
}

-- none was pushed
pub none_pushed : (v : View) (f : ℕ) (h : Header) (capacity top : ℕ) (table bucket : List Extent) (pushes : List StackBlock → Bool) → ((blocks : List StackBlock) → pushes blocks ≡ false) → Stacks v v f h capacity top top table bucket pushes all_kept
none_pushed v f h capacity top table bucket pushes none c x blocks told there side = record {
  content = c;
  file = x;
  blocks = blocks;
  told = told;
  there = there;
  stack = side.stack;
  pushed = rw (none blocks) refl;
  below = blocks_same x.bytes blocks;
}

-- the same test
pub pushed_as : (old new : View) (f : ℕ) (h : Header) (capacity top top' : ℕ) (table bucket : List Extent) (p q : List StackBlock → Bool) → ((blocks : List StackBlock) → q blocks ≡ p blocks)
    → Stacks old new f h capacity top top' table bucket p all_kept → Stacks old new f h capacity top top' table bucket q all_kept
pushed_as old new f h capacity top top' table bucket p q same stacks c x blocks told there side =
    let a = stacks c x blocks told there side in
    record {
      content = a.content;
      file = a.file;
      blocks = a.blocks;
      told = a.told;
      there = a.there;
      stack = a.stack;
      pushed = rw (same blocks) a.pushed;
      below = a.below;
    }

-- after a block was taken back
pub pushed_after_back : (v0 v1 v2 : View) (f n : ℕ) (h : Header) (capacity top top1 top' : ℕ) (table bucket table1 : List Extent) → v1.told ≡ v0.told → Backed v0 f h top top1 table table1
    → Stacks v1 v2 f h capacity top1 top' table1 bucket (λ blocks. take_pushes n h table1 bucket) all_kept
    → Stacks v0 v2 f h capacity top top' table bucket (λ blocks. take_pushes n h (table_after h.avail_size table blocks) bucket) (blocks_after h.avail_size table)
pushed_after_back v0 v1 v2 f n h capacity top top1 top' table bucket table1 same back stacks c x blocks told there side =
    let b = back c x blocks bucket told there side in
    let a = stacks c x b.rest (ap content_of same ∙ told) there b.side in
    record {
      content = a.content;
      file = a.file;
      blocks = a.blocks;
      told = a.told;
      there = a.there;
      stack = a.stack;
      pushed = rw (← b.by_rule, ← b.rest_is) a.pushed;
      below = rw (← b.rest_is) a.below;
    }

-- ---- when one is pushed

four_true : (most n whole bucket table capacity : ℕ) → most < n → whole ≢ n → 6 ≤ bucket → capacity ≤ table → (nat_lt most n && not (whole == n) && nat_le 6 bucket && nat_le capacity table) ≡ true
four_true most n whole bucket table capacity more over full all =
    let a = lt-ltb most n more in
    let b : not (whole == n) ≡ true = grind (arith, nat_tests, over) in
    let c = le-leb 6 bucket full in
    let d = le-leb capacity table all in
    rw (a, b, c, d) refl

-- one of the tests fails
second : (a b c : Bool) → b ≡ false → (a && b && c) ≡ false
second true b c h = rw h refl
second false b c h = refl

second_of : (a b c d : Bool) → b ≡ false → (a && b && c && d) ≡ false
second_of true b c d h = rw h refl
second_of false b c d h = refl

third : (a b c d : Bool) → c ≡ false → (a && b && c && d) ≡ false
third true true c d h = rw h refl
third true false c d h = refl
third false b c d h = refl

fourth : (a b c d : Bool) → d ≡ false → (a && b && c && d) ≡ false
fourth true true true d h = h
fourth true true false d h = refl
fourth true false c d h = refl
fourth false b c d h = refl

four_false : (most n whole bucket table capacity : ℕ) → (most < n → whole ≢ n → (bucket < 6) ⊎ (table < capacity)) → (nat_lt most n && not (whole == n) && nat_le 6 bucket && nat_le capacity table) ≡ false
four_false most n whole bucket table capacity h = by_size (cases_lt most n)
  where
    by_room : (bucket < 6) ⊎ (table < capacity) → (nat_lt most n && not (whole == n) && nat_le 6 bucket && nat_le capacity table) ≡ false
    by_room (inl few) = third (nat_lt most n) (not (whole == n)) (nat_le 6 bucket) (nat_le capacity table) (grind (arith, nat_tests, few))
    by_room (inr few) = fourth (nat_lt most n) (not (whole == n)) (nat_le 6 bucket) (nat_le capacity table) (grind (arith, nat_tests, few))

    by_over : (b : Bool) → (whole == n) ≡ b → most < n → (nat_lt most n && not (whole == n) && nat_le 6 bucket && nat_le capacity table) ≡ false
    by_over true is more = second_of (nat_lt most n) (not (whole == n)) (nat_le 6 bucket) (nat_le capacity table) (ap not is)
    by_over false is more = by_room (h more (grind (arith, nat_tests, is)))

    by_size : (most < n) ⊎ (n ≤ most) → (nat_lt most n && not (whole == n) && nat_le 6 bucket && nat_le capacity table) ≡ false
    by_size (inl more) = by_over (whole == n) refl more
    by_size (inr less) = let a : nat_lt most n ≡ false = grind (arith, nat_tests, less) in rw a refl

pub take_pushes_true : (n : ℕ) (h : Header) (table bucket : List Extent) → max (largest table) (largest bucket) < n → whole_blocks n h.block ≢ n → 6 ≤ length bucket → h.avail_size ≤ length table → take_pushes n h table bucket ≡ true
take_pushes_true n h table bucket more over full all = four_true (max (largest table) (largest bucket)) n (whole_blocks n h.block) (length bucket) (length table) h.avail_size more over full all

pub take_pushes_false : (n : ℕ) (h : Header) (table bucket : List Extent) → (max (largest table) (largest bucket) < n → whole_blocks n h.block ≢ n → (length bucket < 6) ⊎ (length table < h.avail_size)) → take_pushes n h table bucket ≡ false
take_pushes_false n h table bucket room = four_false (max (largest table) (largest bucket)) n (whole_blocks n h.block) (length bucket) (length table) h.avail_size room

pub give_small : (e : Extent) (h : Header) (table bucket : List Extent) → e.size ≤ 4 → give_pushes e h table bucket ≡ false
give_small e h table bucket small = let a : nat_lt 4 e.size ≡ false = grind (arith, nat_tests, small) in rw a refl

pub give_few : (e : Extent) (h : Header) (table bucket : List Extent) → length bucket < 6 → give_pushes e h table bucket ≡ false
give_few e h table bucket few = second (nat_lt 4 e.size) (nat_le 6 (length bucket)) (nat_le h.avail_size (length table)) (grind (arith, nat_tests, few))

pub give_full : (e : Extent) (h : Header) (table bucket : List Extent) → 4 < e.size → 6 ≤ length bucket → give_pushes e h table bucket ≡ nat_le h.avail_size (length table)
give_full e h table bucket large full = let a = lt-ltb 4 e.size large in let b = le-leb 6 (length bucket) full in rw (a, b) refl

pub not_full : (capacity length_ : ℕ) → length_ < capacity → nat_le capacity length_ ≡ false
not_full capacity length_ lt = grind (arith, nat_tests, lt)

pub not_over : (capacity length_ : ℕ) → length_ ≤ capacity → nat_lt capacity length_ ≡ false
not_over capacity length_ le = grind (arith, nat_tests, le)

-- what is lost where the capacity is changed
pub recut_loses_is : (capacity : ℕ) (h : Header) (table : List Extent) (wide count : ℕ) → capacity < length table → count ≡ length table - capacity → wide ≡ recut_room capacity h table → wide - avail_size count ≤ recut_loses capacity h table
recut_loses_is capacity h table wide count over count_is wide_is = let a = lt-ltb capacity (length table) over in rw (a, count_is, wide_is) (omega arith)

-- ---- what is written at most

pub writes_more : {u v : View} (few most : ℕ) → few ≤ most → WritesAtMost few u v → WritesAtMost most u v
writes_more few most le w = record { bytes = (let b = w.bytes in omega (arith, b, le)); clones = w.clones }

pub writes_zero : (v : View) (most : ℕ) → WritesAtMost most v v
writes_zero v most = record { bytes = omega arith; clones = refl }
