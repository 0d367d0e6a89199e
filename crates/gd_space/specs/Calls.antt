-- What a call of the free space does to a vault that tells its content.
use Rattle.std.specs.Prelude.{◌≡◌, ℕ, max, length, List, Some}
use Rattle.gd_format.specs.declared.Extent.{Extent}
use Rattle.gd_format.specs.declared.Header.{Header}
use Rattle.gd_format.specs.Covers.{cover, size_sum}
use Rattle.gd_format.specs.FreeSide.{FreeLists, StackBlock, IsFreeSide, free_extents}
use Rattle.gd_space.specs.Sizes.{largest}
use Rattle.gd_space.specs.Effect.{Change, Given, table_after, blocks_after, growth}
use Rattle.gd_vault.specs.Content.{File, Content}
use Rattle.gd_vault.specs.Views.{View, content_of}

abbrev pub free_lists : (table : List Extent) (blocks : List StackBlock) (bucket : List Extent) → FreeLists
free_lists table blocks bucket = record { table = table; blocks = blocks; bucket = bucket }

-- where the content is told, the free side is that of a sound file
abbrev pub HasFreeSide : View → ℕ → Header → ℕ → List Extent → List Extent → Type 0
HasFreeSide v f h top table bucket = (c : Content) (x : File) → content_of v.told ≡ Some c → c.files f ≡ Some x → (blocks : List StackBlock) × IsFreeSide x.bytes h top (free_lists table blocks bucket)

-- the file afterwards, with its stack
pub record After (new : View) (f : ℕ) (x : File) (h h' : Header) (top top' : ℕ) (s : FreeLists) (table' bucket' given taken : List Extent) (lost : ℕ) : Type 0 where
  pub content : Content
  pub file : File
  pub blocks : List StackBlock
  pub told : content_of new.told ≡ Some content
  pub there : content.files f ≡ Some file
  pub change : Change x.bytes file.bytes h h' top top' s (free_lists table' blocks bucket') given taken lost

-- where the content is told, the call did this
abbrev pub Done : (old new : View) (f : ℕ) (h h' : Header) (top top' : ℕ) (table bucket table' bucket' given taken : List Extent) (lost : ℕ) → Type 0
Done old new f h h' top top' table bucket table' bucket' given taken lost =
    (c : Content) (x : File) (blocks : List StackBlock) → content_of old.told ≡ Some c → c.files f ≡ Some x → IsFreeSide x.bytes h top (free_lists table blocks bucket)
    → After new f x h h' top top' (free_lists table blocks bucket) table' bucket' given taken lost

-- a file's free side after a block was taken back by the rule, or with nothing changed
pub record BackedTo (file : List ℕ) (h : Header) (top' : ℕ) (table table' : List Extent) (blocks : List StackBlock) (bucket : List Extent) : Type 0 where
  pub rest : List StackBlock
  pub side : IsFreeSide file h top' (free_lists table' rest bucket)
  pub by_rule : table' ≡ table_after h.avail_size table blocks
  pub rest_is : rest ≡ blocks_after h.avail_size table blocks
  pub covers : (b : ℕ) → cover (free_extents (free_lists table' rest bucket)) b ≡ cover (free_extents (free_lists table blocks bucket)) b
  pub sums : size_sum (free_extents (free_lists table' rest bucket)) ≡ size_sum (free_extents (free_lists table blocks bucket))

abbrev pub Backed : View → ℕ → Header → (top top' : ℕ) → (table table' : List Extent) → Type 0
Backed v f h top top' table table' =
    (c : Content) (x : File) (blocks : List StackBlock) (bucket : List Extent) → content_of v.told ≡ Some c → c.files f ≡ Some x → IsFreeSide x.bytes h top (free_lists table blocks bucket)
    → BackedTo x.bytes h top' table table' blocks bucket

-- where the content is told, P holds of the table from which room is taken, which may have a block of the stack taken back
abbrev pub OnTable : View → ℕ → Header → ℕ → List Extent → List Extent → (List Extent → Type 0) → Type 0
OnTable v f h top table bucket P =
    (c : Content) (x : File) (blocks : List StackBlock) → content_of v.told ≡ Some c → c.files f ≡ Some x → IsFreeSide x.bytes h top (free_lists table blocks bucket) → P (table_after h.avail_size table blocks)

-- by how much n bytes make the file grow, with this table and this bucket at hand
abbrev pub growth_of : ℕ → Header → List Extent → List Extent → ℕ
growth_of n h table bucket = growth n h.block h.avail_size (max (largest table) (largest bucket)) (length table) (length bucket)

-- the file after a give, with its stack
pub record AfterGive (new : View) (f : ℕ) (x : File) (h h' : Header) (top top' : ℕ) (s : FreeLists) (table' bucket' : List Extent) (e : Extent) : Type 0 where
  pub content : Content
  pub file : File
  pub blocks : List StackBlock
  pub told : content_of new.told ≡ Some content
  pub there : content.files f ≡ Some file
  pub given : Given x.bytes file.bytes h h' top top' s (free_lists table' blocks bucket') e

-- where the content is told, a give did this
abbrev pub Gave : (old new : View) (f : ℕ) (h h' : Header) (top top' : ℕ) (table bucket table' bucket' : List Extent) (e : Extent) → Type 0
Gave old new f h h' top top' table bucket table' bucket' e =
    (c : Content) (x : File) (blocks : List StackBlock) → content_of old.told ≡ Some c → c.files f ≡ Some x → IsFreeSide x.bytes h top (free_lists table blocks bucket)
    → AfterGive new f x h h' top top' (free_lists table blocks bucket) table' bucket' e
