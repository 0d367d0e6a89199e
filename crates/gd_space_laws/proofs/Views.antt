-- What a call that was made over a vault that tells its content keeps.
use Rattle.std.proofs.Common.{◌≡◌, ℕ, ◌+◌, ◌^◌, ◌<◌, ◌≤◌, true, List, [], ◌∷◌, ◌++◌, Some, sym, ap, subst, ◌∙◌, inl, inr, arith}
use Rattle.std.proofs.lemmas.Bool.{cases_lt}
use Rattle.std.proofs.lemmas.List.{append-nil}
use Rattle.gd_format.specs.declared.Header.{Header}
use Rattle.gd_format.specs.declared.Extent.{Extent}
use Rattle.gd_format.specs.Bucket.{Bucket}
use Rattle.gd_format.specs.Avail.{Avail}
use Rattle.gd_format.specs.Sound.{extent, extents_held, meets_none}
use Rattle.gd_format.specs.Covers.{has_byte, cover}
use Rattle.gd_format.specs.FreeSide.{StackBlock, stack_extents, FreeLists, free_extents}
use Rattle.gd_file_laws.specs.Cover.{extents_in, AreLarge}
use Rattle.gd_file_laws.proofs.Covers.{cover-append, has_in}
use Rattle.gd_map_laws.specs.Space.{one_if, all_cover, IsSpaceRight}
use Rattle.gd_map_laws.proofs.Sounds.{cover_is}
use Rattle.gd_space.specs.Effect.{Change, Given, CanBeGiven}
use Rattle.gd_space.specs.Calls.{HasFreeSide, Done, Gave, free_lists}
use Rattle.gd_space.proofs.Changes.{cover-one}
use Rattle.gd_space.proofs.Sides.{cover-in}
use Rattle.gd_vault.specs.Content.{File, Content}
use Rattle.gd_vault.specs.Views.{View, content_of}
use Rattle.gd_space_laws.specs.Patched.{patched, IsPatch}
use Rattle.gd_space_laws.specs.PatchedLaws.{HasPatch, IsNext, KeptAfter}
use Rattle.gd_space_laws.proofs.Meets.{none_covered}
use Rattle.gd_space_laws.proofs.Patches.{blocks, side, space, parts, pool_is, least}
use Rattle.gd_space_laws.proofs.Kept.{with_fields, patch_new, kept_new, cover_more}

pub patch_side : (v : View) (f : ℕ) (h : Header) (table : Avail) (i at : ℕ) (bucket : Bucket) → HasPatch v f h table i at bucket → HasFreeSide v f h table.next_block table.extents bucket.free
patch_side v f h table i at bucket has c x told there =
    let q = has c x told there in
    (blocks x.bytes h table i at bucket q.0 q.1 q.2, side x.bytes h table i at bucket q.0 q.1 q.2)

module _ (old new : View) (f : ℕ) (h : Header) (next capacity : ℕ) (table table' : Avail) (i at : ℕ) (bucket bucket' : Bucket) (block front : List ℕ) (c : Content) (x : File) (told : content_of old.told ≡ Some c) (there : c.files f ≡ Some x) (patch : IsPatch x.bytes h table i at bucket block front) (is_next : IsNext h (with_fields h next capacity) next capacity table' bucket bucket') where
  abbrev p : List ℕ
  p = patched x.bytes at block front

  abbrev after : Header
  after = with_fields h next capacity

  abbrev stack : List StackBlock
  stack = blocks x.bytes h table i at bucket block front patch

  abbrev pool : List Extent
  pool = table.extents ++ stack_extents stack

  abbrev lists : FreeLists
  lists = free_lists table.extents stack bucket.free

  -- nothing was given
  right_alone : IsSpaceRight p h h.next_block (pool ++ [])
  right_alone = subst (λ (l : List Extent). IsSpaceRight p h h.next_block l) (sym (append-nil pool)) (space x.bytes h table i at bucket block front patch)

  done_keeps : (taken : List Extent) (lost : ℕ) → AreLarge taken → Done old new f h after table.next_block table'.next_block table.extents bucket.free table'.extents bucket'.free [] taken lost → KeptAfter new f p h after table' i at bucket' [] taken lost
  done_keeps taken lost some done =
      let a = done c x stack told there (side x.bytes h table i at bucket block front patch) in
      record {
        content = a.content;
        file = a.file;
        told = a.told;
        there = a.there;
        patch = λ block' front' spelled. patch_new x.bytes a.file.bytes h next capacity table table' i at bucket bucket' block front block' front' [] taken a.blocks lost patch a.change right_alone is_next.sizes is_next.few is_next.slots spelled;
        kept = λ block' front' spelled. kept_new x.bytes a.file.bytes h next capacity table table' i at bucket bucket' block front block' front' [] taken a.blocks lost patch a.change right_alone is_next.sizes is_next.few is_next.slots spelled some;
      }

  -- an extent was given
  module _ (e : Extent) (small : e.size < 2 ^ 31) (ends : e.at + e.size ≤ h.next_block) (none : meets_none e (extents_held p h) ≡ true) where
    covers : (b : ℕ) → cover (extents_in (extents_held p h)) b ≡ all_cover p h pool b
    covers b = cover_is p h b ∙ ap (λ (l : List Extent). all_cover p h l b) (pool_is x.bytes h table i at bucket block front patch)

    together : (b : ℕ) → all_cover p h pool b + cover (e ∷ []) b ≤ 1
    together b =
        let one = cover-one e.at e.size b in
        let o = (space x.bytes h table i at bucket block front patch).once b in
        let k = covers b in
        elim (cases_lt 0 (cover (e ∷ []) b)) [
          | inl some ↦ let z = none_covered e (extents_held p h) b none some in omega (arith, one, k, z)
          | inr not ↦ omega (arith, o, not)
        ]

    right_given : IsSpaceRight p h h.next_block (pool ++ e ∷ [])
    right_given = record {
      once = λ b. let t = together b in let m = cover_more p h pool (e ∷ []) b in omega (arith, t, m);
      below =
          λ b some.
          let m = cover_more p h pool (e ∷ []) b in
          elim (cases_lt 0 (cover (e ∷ []) b)) [
            | inl here ↦ let q = cover-in e.at e.size b here in omega (arith, q, ends)
            | inr not ↦ (space x.bytes h table i at bucket block front patch).below b (omega (arith, m, some, not))
          ];
    }

    free_part : (b : ℕ) → cover (free_extents lists) b ≤ all_cover p h pool b
    free_part b = let q = parts x.bytes h table i at bucket block front patch b in omega (arith, q)

    behind_start : 0 < e.size → 0 < e.at
    unfolding all_cover
    behind_start some =
        let low = least x.bytes h table i at bucket block front patch in
        elim (cases_lt 0 e.at) [
          | inl ok ↦ ok
          | inr not ↦
              let t = together 0 in
              let one : one_if (has_byte (extent 0 h.block) 0) ≡ 1 = ap one_if (has_in 0 h.block 0 (omega arith) (omega (arith, low))) in
              let here : one_if (has_byte e 0) ≡ 1 = ap one_if (has_in e.at e.size 0 (omega (arith, not)) (omega (arith, some))) in
              absurd (omega (arith, t, one, here))
        ]

    can_be_given : CanBeGiven h.next_block (free_extents lists) e
    can_be_given = record {
      start = behind_start;
      fits = small;
      ends = ends;
      once = λ b. let t = together b in let q = free_part b in omega (arith, t, q);
    }

    change_of : (file' : List ℕ) (top' : ℕ) (s' : FreeLists) → Given x.bytes file' h after table.next_block top' lists s' e → Change x.bytes file' h after table.next_block top' lists s' (e ∷ []) [] 32
    change_of file' top' s' g = record {
      side = g.side can_be_given;
      keeps = record {
        longer = g.keeps.longer;
        bytes = λ a n fits free. g.keeps.bytes a n fits (λ b low high. let z = free b low high in let q = cover-append (free_extents lists) (e ∷ []) b in omega (arith, z, q));
      };
      moves = g.moves;
    }

    gave_keeps : Gave old new f h after table.next_block table'.next_block table.extents bucket.free table'.extents bucket'.free e → KeptAfter new f p h after table' i at bucket' (e ∷ []) [] 32
    gave_keeps gave =
        let a = gave c x stack told there (side x.bytes h table i at bucket block front patch) in
        let change = change_of a.file.bytes table'.next_block (free_lists table'.extents a.blocks bucket'.free) a.given in
        record {
          content = a.content;
          file = a.file;
          told = a.told;
          there = a.there;
          patch = λ block' front' spelled. patch_new x.bytes a.file.bytes h next capacity table table' i at bucket bucket' block front block' front' (e ∷ []) [] a.blocks 32 patch change right_given is_next.sizes is_next.few is_next.slots spelled;
          kept = λ block' front' spelled. kept_new x.bytes a.file.bytes h next capacity table table' i at bucket bucket' block front block' front' (e ∷ []) [] a.blocks 32 patch change right_given is_next.sizes is_next.few is_next.slots spelled tt;
        }

-- for the header that the call left

pub done_kept : (old new : View) (f : ℕ) (h h' : Header) (next capacity : ℕ) (table table' : Avail) (i at : ℕ) (bucket bucket' : Bucket) (block front : List ℕ) (taken : List Extent) (lost : ℕ) (c : Content) (x : File)
    → AreLarge taken → content_of old.told ≡ Some c → c.files f ≡ Some x → IsPatch x.bytes h table i at bucket block front → IsNext h h' next capacity table' bucket bucket'
    → Done old new f h h' table.next_block table'.next_block table.extents bucket.free table'.extents bucket'.free [] taken lost
    → KeptAfter new f (patched x.bytes at block front) h h' table' i at bucket' [] taken lost
done_kept old new f h h' next capacity table table' i at bucket bucket' block front taken lost c x some told there patch is_next done =
    subst
    (λ (g : Header). IsNext h g next capacity table' bucket bucket' → Done old new f h g table.next_block table'.next_block table.extents bucket.free table'.extents bucket'.free [] taken lost → KeptAfter new f (patched x.bytes at block front) h g table' i at bucket' [] taken lost)
    (sym is_next.header)
    (λ (n : IsNext h (with_fields h next capacity) next capacity table' bucket bucket') (d : Done old new f h (with_fields h next capacity) table.next_block table'.next_block table.extents bucket.free table'.extents bucket'.free [] taken lost). done_keeps old new f h next capacity table table' i at bucket bucket' block front c x told there patch n taken lost some d)
    is_next done

pub gave_kept : (old new : View) (f : ℕ) (h h' : Header) (next capacity : ℕ) (table table' : Avail) (i at : ℕ) (bucket bucket' : Bucket) (block front : List ℕ) (e : Extent) (c : Content) (x : File)
    → e.size < 2 ^ 31 → e.at + e.size ≤ h.next_block → meets_none e (extents_held (patched x.bytes at block front) h) ≡ true
    → content_of old.told ≡ Some c → c.files f ≡ Some x → IsPatch x.bytes h table i at bucket block front → IsNext h h' next capacity table' bucket bucket'
    → Gave old new f h h' table.next_block table'.next_block table.extents bucket.free table'.extents bucket'.free e
    → KeptAfter new f (patched x.bytes at block front) h h' table' i at bucket' (e ∷ []) [] 32
gave_kept old new f h h' next capacity table table' i at bucket bucket' block front e c x small ends none told there patch is_next gave =
    subst
    (λ (g : Header). IsNext h g next capacity table' bucket bucket' → Gave old new f h g table.next_block table'.next_block table.extents bucket.free table'.extents bucket'.free e → KeptAfter new f (patched x.bytes at block front) h g table' i at bucket' (e ∷ []) [] 32)
    (sym is_next.header)
    (λ (n : IsNext h (with_fields h next capacity) next capacity table' bucket bucket') (d : Gave old new f h (with_fields h next capacity) table.next_block table'.next_block table.extents bucket.free table'.extents bucket'.free e). gave_keeps old new f h next capacity table table' i at bucket bucket' block front c x told there patch n e small ends none d)
    is_next gave
