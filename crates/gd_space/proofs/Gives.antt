-- What a give does.
use Rattle.std.proofs.Common.{◌≡◌, ℕ, ◌+◌, ◌-◌, ◌<◌, ◌≤◌, List, [], ◌∷◌, ◌++◌, refl, inl, inr, arith}
use Rattle.std.proofs.lemmas.Bool.{cases_lt}
use Rattle.std.proofs.lemmas.Bool.Decides.{nat_tests}
use Rattle.std.specs.List.{AllByRecursion}
use Rattle.gd_format.specs.declared.Extent.{Extent}
use Rattle.gd_format.specs.declared.Header.{Header}
use Rattle.gd_format.specs.Covers.{cover, size_sum}
use Rattle.gd_format.specs.FreeSide.{StackBlock, FreeLists, IsFreeSide, IsBelow, free_extents, stack_extents}
use Rattle.gd_format.proofs.Covers.{cover-append, size_sum-append, all-append, all-left, all-right}
use Rattle.gd_space.specs.Effect.{Change, Given, CanBeGiven, Keeps, grown}
use Rattle.gd_space.specs.Calls.{free_lists, Done, Gave}
use Rattle.gd_space.proofs.Tooks.{cover-side, size_sum-side}
use Rattle.gd_space.proofs.Changes.{cover-grown_low, cover-one}
use Rattle.gd_space.proofs.Sides.{cover-past}
use Rattle.gd_space.proofs.Pushes.{less_lost}
use Rattle.gd_vault.specs.Views.{View}

kept : (es : List Extent) (file : List ℕ) → Keeps es file file
kept es file = record { longer = omega arith; bytes = λ at n inside clear. refl }

-- nothing is changed
pub no_change : (file : List ℕ) (h : Header) (top : ℕ) (s : FreeLists) (lost : ℕ) → IsFreeSide file h top s → Change file file h h top top s s [] [] lost
no_change file h top s lost side = record {
  side = side;
  keeps = kept (free_extents s ++ []) file;
  moves = record { grows = omega arith; bytes = λ b. (omega arith); least = omega arith; most = omega arith };
}

pub done_nothing : (v : View) (f : ℕ) (h : Header) (top : ℕ) (table bucket : List Extent) (lost : ℕ) → Done v v f h h top top table bucket table bucket [] [] lost
done_nothing v f h top table bucket lost c x blocks told there side = record {
  content = c;
  file = x;
  blocks = blocks;
  told = told;
  there = there;
  change = no_change x.bytes h top (free_lists table blocks bucket) lost side;
}

-- an extent of few bytes is forgotten
pub gave_nothing : (v : View) (f : ℕ) (h : Header) (top : ℕ) (table bucket : List Extent) (e : Extent) → e.size ≤ 4 → Gave v v f h h top top table bucket table bucket e
gave_nothing v f h top table bucket e small c x blocks told there side = record {
  content = c;
  file = x;
  blocks = blocks;
  told = told;
  there = there;
  given = record {
    keeps = kept (free_extents (free_lists table blocks bucket)) x.bytes;
    moves = record { grows = omega arith; bytes = λ b. (omega arith); least = omega arith; most = omega (arith, small) };
    side = λ can. side;
  };
}

-- the extents of one free side are those of another, and one more
pub record HasMore (s s1 : FreeLists) (e : Extent) : Type 0 where
  pub bytes : (b : ℕ) → cover (free_extents s1) b ≡ cover (free_extents s) b + cover (e ∷ []) b
  pub sum : size_sum (free_extents s1) ≡ size_sum (free_extents s) + e.size
  pub below : (next : ℕ) → IsBelow next e → AllByRecursion (IsBelow next) (free_extents s) → AllByRecursion (IsBelow next) (free_extents s1)

cover_beyond : (e : Extent) (b : ℕ) → e.at + e.size ≤ b → cover (e ∷ []) b ≡ 0
cover_beyond e b h = grind (arith, nat_tests)

pub more_table : (table : List Extent) (blocks : List StackBlock) (bucket : List Extent) (e : Extent) → HasMore (free_lists table blocks bucket) (free_lists (table ++ e ∷ []) blocks bucket) e
more_table table blocks bucket e = record {
  bytes = λ b. (let o = cover-side (free_lists table blocks bucket) b in let n = cover-side (free_lists (table ++ e ∷ []) blocks bucket) b in let a = cover-append table (e ∷ []) b in omega (arith, o, n, a));
  sum = let o = size_sum-side (free_lists table blocks bucket) in let n = size_sum-side (free_lists (table ++ e ∷ []) blocks bucket) in let a = size_sum-append table (e ∷ []) in omega (arith, o, n, a);
  below = λ next new old.
      let front = all-left (IsBelow next) (table ++ stack_extents blocks) bucket old in
      let last = all-right (IsBelow next) (table ++ stack_extents blocks) bucket old in
      let mine = all-left (IsBelow next) table (stack_extents blocks) front in
      let stack = all-right (IsBelow next) table (stack_extents blocks) front in
      all-append (IsBelow next) (table ++ e ∷ [] ++ stack_extents blocks) bucket (all-append (IsBelow next) (table ++ e ∷ []) (stack_extents blocks) (all-append (IsBelow next) table (e ∷ []) mine (new, tt)) stack) last;
}

pub more_bucket : (table : List Extent) (blocks : List StackBlock) (bucket : List Extent) (e : Extent) → HasMore (free_lists table blocks bucket) (free_lists table blocks (bucket ++ e ∷ [])) e
more_bucket table blocks bucket e = record {
  bytes = λ b. (let o = cover-side (free_lists table blocks bucket) b in let n = cover-side (free_lists table blocks (bucket ++ e ∷ [])) b in let a = cover-append bucket (e ∷ []) b in omega (arith, o, n, a));
  sum = let o = size_sum-side (free_lists table blocks bucket) in let n = size_sum-side (free_lists table blocks (bucket ++ e ∷ [])) in let a = size_sum-append bucket (e ∷ []) in omega (arith, o, n, a);
  below = λ next new old.
      let front = all-left (IsBelow next) (table ++ stack_extents blocks) bucket old in
      let last = all-right (IsBelow next) (table ++ stack_extents blocks) bucket old in
      all-append (IsBelow next) (table ++ stack_extents blocks) (bucket ++ e ∷ []) front (all-append (IsBelow next) bucket (e ∷ []) last (new, tt));
}

-- a change may lose more
pub done_lost : (old new : View) (f : ℕ) (h h' : Header) (top top' : ℕ) (table bucket table' bucket' : List Extent) (lost more : ℕ) → lost ≤ more
    → Done old new f h h' top top' table bucket table' bucket' [] [] lost → Done old new f h h' top top' table bucket table' bucket' [] [] more
done_lost old new f h h' top top' table bucket table' bucket' lost more le d c x blocks told there side =
    let a = d c x blocks told there side in
    record { content = a.content; file = a.file; blocks = a.blocks; told = a.told; there = a.there; change = less_lost lost more le a.change }

-- the capacity is no part of the free side
pub done_recut : (old new : View) (f : ℕ) (h h' : Header) (capacity top top' : ℕ) (table bucket table' bucket' : List Extent) (lost : ℕ)
    → Done old new f h h' top top' table bucket table' bucket' [] [] lost → Done old new f h (record h' { avail_size = capacity }) top top' table bucket table' bucket' [] [] lost
done_recut old new f h h' capacity top top' table bucket table' bucket' lost d c x blocks told there side =
    let a = d c x blocks told there side in
    record {
      content = a.content;
      file = a.file;
      blocks = a.blocks;
      told = a.told;
      there = a.there;
      change = record {
        side = record { behind = a.change.side.behind; short = a.change.side.short; stack = a.change.side.stack; below = a.change.side.below; once = a.change.side.once };
        keeps = a.change.keeps;
        moves = a.change.moves;
      };
    }

-- an extent that is put into a list after a change
module _ (file file' : List ℕ) (h h' : Header) (top top' : ℕ) (s s1 s2 : FreeLists) (e : Extent) (old : IsFreeSide file h top s) (a : Change file file' h h' top top' s s1 [] [] 32) (m : HasMore s1 s2 e) (same : s2.blocks ≡ s1.blocks) where
  bytes_after : (b : ℕ) → cover (free_extents s2) b + cover [] b ≤ cover (free_extents s) b + cover (e ∷ []) b + cover (grown h.next_block h'.next_block) b
  bytes_after b = let x = a.moves.bytes b in let y = m.bytes b in omega (arith, x, y)

  once_after : CanBeGiven h.next_block (free_extents s) e → (b : ℕ) → cover (free_extents s2) b ≤ 1
  once_after can b =
      let x = bytes_after b in
      let one = can.once b in
      let grows = a.moves.grows in
      elim (cases_lt b h.next_block) [
        | inl low ↦ let none = cover-grown_low h.next_block h'.next_block b low in omega (arith, x, one, none)
        | inr high ↦
            let ends = can.ends in
            let few = cover-one h.next_block (h'.next_block - h.next_block) b in
            let past = cover-past h.next_block (free_extents s) b old.below high in
            let mine : cover (e ∷ []) b ≡ 0 = cover_beyond e b (omega (arith, ends, high)) in
            omega (arith, x, few, past, mine)
      ]

  side_after : 4 < e.size → CanBeGiven h.next_block (free_extents s) e → IsFreeSide file' h' top' s2
  side_after large can =
      let grows = a.moves.grows in
      let ends = can.ends in
      record {
        behind = a.side.behind;
        short = a.side.short;
        stack = rw same a.side.stack;
        below = m.below h'.next_block (record { start = can.start (omega (arith, large)); some = omega (arith, large); fits = can.fits; ends = omega (arith, grows, ends) }) a.side.below;
        once = once_after can;
      }

  pub given_after : 4 < e.size → Given file file' h h' top top' s s2 e
  given_after large = record {
    keeps = record { longer = a.keeps.longer; bytes = λ at n inside clear. a.keeps.bytes at n inside (λ x low high. (let z = clear x low high in let p = cover-append (free_extents s) [] x in omega (arith, z, p))) };
    moves = record {
      grows = a.moves.grows;
      bytes = bytes_after;
      least = let x = a.moves.least in let y = m.sum in omega (arith, x, y);
      most = let x = a.moves.most in let y = m.sum in omega (arith, x, y);
    };
    side = side_after large;
  }

pub gave_table : (old new : View) (f : ℕ) (h h' : Header) (top top' : ℕ) (table bucket table' bucket' : List Extent) (e : Extent) → 4 < e.size → Done old new f h h' top top' table bucket table' bucket' [] [] 32 → Gave old new f h h' top top' table bucket (table' ++ e ∷ []) bucket' e
gave_table old new f h h' top top' table bucket table' bucket' e large d c x blocks told there side =
    let a = d c x blocks told there side in
    record {
      content = a.content;
      file = a.file;
      blocks = a.blocks;
      told = a.told;
      there = a.there;
      given = given_after x.bytes a.file.bytes h h' top top' (free_lists table blocks bucket) (free_lists table' a.blocks bucket') (free_lists (table' ++ e ∷ []) a.blocks bucket') e side a.change (more_table table' a.blocks bucket' e) refl large;
    }

pub gave_bucket : (v : View) (f : ℕ) (h : Header) (top : ℕ) (table bucket : List Extent) (e : Extent) → 4 < e.size → Gave v v f h h top top table bucket table (bucket ++ e ∷ []) e
gave_bucket v f h top table bucket e large c x blocks told there side = record {
  content = c;
  file = x;
  blocks = blocks;
  told = told;
  there = there;
  given = given_after x.bytes x.bytes h h top top (free_lists table blocks bucket) (free_lists table blocks bucket) (free_lists table blocks (bucket ++ e ∷ [])) e side (no_change x.bytes h top (free_lists table blocks bucket) 32 side) (more_bucket table blocks bucket e) refl large;
}
