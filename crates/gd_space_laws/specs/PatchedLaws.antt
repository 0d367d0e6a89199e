-- What a change of free space keeps of a patched file.
use Rattle.std.specs.Prelude.{◌≡◌, ◌⊎◌, ℕ, ◌+◌, ◌^◌, ◌<◌, ◌≤◌, true, List, [], ◌∷◌, length, Some}
use Rattle.std.specs.List.{AllByRecursion}
use Rattle.gd_format.specs.declared.Header.{Header}
use Rattle.gd_format.specs.declared.Extent.{Extent}
use Rattle.gd_format.specs.Headers.{IsHeader}
use Rattle.gd_format.specs.Bucket.{Bucket}
use Rattle.gd_format.specs.Avail.{Avail}
use Rattle.gd_format.specs.Sound.{extent, extents_held, meets_none, lost_total}
use Rattle.gd_format.specs.Covers.{cover, size_sum}
use Rattle.gd_space.specs.Calls.{HasFreeSide, Done, Gave}
use Rattle.gd_vault.specs.Content.{File, Content}
use Rattle.gd_vault.specs.Views.{View, content_of}
use Rattle.gd_space_laws.specs.Patched.{patched, AreSpelled, IsPatch, free_cover}

-- where the content is told, some bytes of the two blocks make a patch of the file
abbrev pub HasPatch : View → ℕ → Header → Avail → (i at : ℕ) → Bucket → Type 0
HasPatch v f h table i at bucket = (c : Content) (x : File) → content_of v.told ≡ Some c → c.files f ≡ Some x → (block : List ℕ) × (front : List ℕ) × IsPatch x.bytes h table i at bucket block front

abbrev pub PatchHasSide : Type 0
PatchHasSide =
    (v : View) (f : ℕ) (h : Header) (table : Avail) (i at : ℕ) (bucket : Bucket) → HasPatch v f h table i at bucket
    → HasFreeSide v f h table.next_block table.extents bucket.free

-- ---- what a call leaves

-- the header's next_block and capacity change alone, the table has no more extents than its capacity, and the bucket its slots
pub record IsNext (h h' : Header) (next capacity : ℕ) (table' : Avail) (bucket bucket' : Bucket) : Type 0 where
  pub header : h' ≡ record h { next_block = next; avail_size = capacity }
  pub sizes : IsHeader h'
  pub few : length table'.extents ≤ h'.avail_size
  pub slots : bucket'.slots ≡ bucket.slots

-- the file is patched still; no extent meets what was taken; what is free was free before, or given, or lies past the end; and
-- what is lost rises by the bytes that were taken, and by a few more at most, and falls by those that were given
pub record PatchKept (p p' : List ℕ) (h h' : Header) (given taken : List Extent) (few : ℕ) : Type 0 where
  pub meets : AllByRecursion (λ e. meets_none e (extents_held p' h') ≡ true) taken
  pub from : (b : ℕ) → 0 < free_cover p' h' b → (0 < free_cover p h b) ⊎ (0 < cover given b) ⊎ (h.next_block ≤ b)
  pub lost_least : lost_total p + size_sum taken ≤ lost_total p' + size_sum given
  pub lost_most : lost_total p' + size_sum given ≤ lost_total p + size_sum taken + few

-- the file afterwards, whatever bytes the two blocks get that read as the values that the call left
pub record KeptAfter (new : View) (f : ℕ) (p : List ℕ) (h h' : Header) (table' : Avail) (i at : ℕ) (bucket' : Bucket) (given taken : List Extent) (few : ℕ) : Type 0 where
  pub content : Content
  pub file : File
  pub told : content_of new.told ≡ Some content
  pub there : content.files f ≡ Some file
  pub patch : (block front : List ℕ) → AreSpelled h' table' bucket' block front → IsPatch file.bytes h' table' i at bucket' block front
  pub kept : (block front : List ℕ) → AreSpelled h' table' bucket' block front → PatchKept p (patched file.bytes at block front) h h' given taken few

-- ---- the calls

-- n bytes were taken
abbrev pub TakeKeepsPatch : Type 0
TakeKeepsPatch =
    (old new : View) (f : ℕ) (h h' : Header) (next capacity : ℕ) (table table' : Avail) (i at : ℕ) (bucket bucket' : Bucket) (block front : List ℕ) (place n lost : ℕ) (c : Content) (x : File)
    → 0 < n → content_of old.told ≡ Some c → c.files f ≡ Some x → IsPatch x.bytes h table i at bucket block front → IsNext h h' next capacity table' bucket bucket'
    → Done old new f h h' table.next_block table'.next_block table.extents bucket.free table'.extents bucket'.free [] (extent place n ∷ []) lost
    → KeptAfter new f (patched x.bytes at block front) h h' table' i at bucket' [] (extent place n ∷ []) lost

-- the capacity of the table was changed
abbrev pub RecutKeepsPatch : Type 0
RecutKeepsPatch =
    (old new : View) (f : ℕ) (h h' : Header) (next capacity : ℕ) (table table' : Avail) (i at : ℕ) (bucket bucket' : Bucket) (block front : List ℕ) (lost : ℕ) (c : Content) (x : File)
    → content_of old.told ≡ Some c → c.files f ≡ Some x → IsPatch x.bytes h table i at bucket block front → IsNext h h' next capacity table' bucket bucket'
    → Done old new f h h' table.next_block table'.next_block table.extents bucket.free table'.extents bucket'.free [] [] lost
    → KeptAfter new f (patched x.bytes at block front) h h' table' i at bucket' [] [] lost

-- an extent was given that ends in time and meets none
abbrev pub GiveKeepsPatch : Type 0
GiveKeepsPatch =
    (old new : View) (f : ℕ) (h h' : Header) (next capacity : ℕ) (table table' : Avail) (i at : ℕ) (bucket bucket' : Bucket) (block front : List ℕ) (e : Extent) (c : Content) (x : File)
    → e.size < 2 ^ 31 → e.at + e.size ≤ h.next_block → meets_none e (extents_held (patched x.bytes at block front) h) ≡ true
    → content_of old.told ≡ Some c → c.files f ≡ Some x → IsPatch x.bytes h table i at bucket block front → IsNext h h' next capacity table' bucket bucket'
    → Gave old new f h h' table.next_block table'.next_block table.extents bucket.free table'.extents bucket'.free e
    → KeptAfter new f (patched x.bytes at block front) h h' table' i at bucket' (e ∷ []) [] 32
