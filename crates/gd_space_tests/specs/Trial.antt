-- What a row of takes and gives keeps, so that each may follow each.
use Rattle.std.specs.Prelude.{◌≡◌, ℕ, ◌≤◌, List, [], Some, length}
use Rattle.std.specs.List.{AllByRecursion}
use Rattle.gd_format.specs.declared.Header.{Header}
use Rattle.gd_format.specs.declared.Extent.{Extent}
use Rattle.gd_format.specs.Headers.{IsHeader}
use Rattle.gd_format.specs.Bucket.{Bucket}
use Rattle.gd_format.specs.Covers.{cover}
use Rattle.gd_format.specs.FreeSide.{StackBlock, IsBelow, IsFreeSide, free_extents}
use Rattle.gd_layout.specs.Fits.{FitsHeader}
use Rattle.gd_space.specs.Held.{HeldSpace}
use Rattle.gd_space.specs.Calls.{free_lists}
use Rattle.gd_space.specs.SpaceLaws.{IsApart}
use Rattle.gd_vault.specs.Content.{File, Content}
use Rattle.gd_vault.specs.Views.{View, content_of}

-- the content is told, the free side is that of a sound file, and no free extent has a byte that is in use
pub record HasFree (v : View) (f : ℕ) (h : Header) (s : HeldSpace) (bucket : Bucket) (used : List Extent) : Type 0 where
  pub content : Content
  pub file : File
  pub told : content_of v.told ≡ Some content
  pub there : content.files f ≡ Some file
  pub blocks : List StackBlock
  pub side : IsFreeSide file.bytes h s.table.next_block (free_lists s.table.extents blocks bucket.free)
  pub apart : IsApart (cover used) (free_extents (free_lists s.table.extents blocks bucket.free)) [] h.next_block

-- a header of block 512, and what is held of the file
pub record FitsTrial (v : View) (f : ℕ) (h : Header) (s : HeldSpace) (bucket : Bucket) (used : List Extent) : Type 0 where
  pub header : IsHeader h
  pub fields : FitsHeader h
  pub small : h.block ≡ 512
  pub block : s.block ≡ h.block
  pub fits : length s.table.extents ≤ h.avail_size
  pub slots : length bucket.slots ≡ 16
  pub free : HasFree v f h s bucket used
  pub below : AllByRecursion (IsBelow h.next_block) used
