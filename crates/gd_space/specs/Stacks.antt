-- What a call of the free space does to the stack of blocks.
use Rattle.std.specs.Prelude.{◌≡◌, ℕ, pos, Bool, true, false, List, [], ◌∷◌, length, Some}
use Rattle.std.specs.List.{AllByRecursion}
use Rattle.gd_format.specs.declared.Extent.{Extent}
use Rattle.gd_format.specs.declared.Header.{Header}
use Rattle.gd_format.specs.Field.{bytes_at}
use Rattle.gd_format.specs.Avail.{avail_size}
use Rattle.gd_format.specs.FreeSide.{StackBlock, IsStack, IsFreeSide}
use Rattle.gd_format.specs.Sound.{most_of}
use Rattle.gd_space.specs.Calls.{Done, free_lists}
use Rattle.gd_space.specs.Spells.{capacity_at}
use Rattle.gd_vault.specs.Content.{File, Content}
use Rattle.gd_vault.specs.Views.{View, content_of}

-- the bytes of a block, its size field too, are as before
abbrev pub KeepsBlock : (old new : List ℕ) → StackBlock → Type 0
KeepsBlock old new b = bytes_at new b.at (avail_size (length b.extents)) ≡ bytes_at old b.at (avail_size (length b.extents))

-- the blocks are those that were kept, below one with this capacity in its size field where one was pushed
abbrev pub IsPushed : (file : List ℕ) (capacity : ℕ) → Bool → (kept blocks : List StackBlock) → Type 0
IsPushed file capacity false kept blocks = blocks ≡ kept
IsPushed file capacity true kept [] = ⊥
IsPushed file capacity true kept (b ∷ bs) = (bs ≡ kept) × (capacity_at (bytes_at file b.at 16) ≡ pos capacity)

-- the file afterwards, with its stack
pub record AfterStack (new : View) (f : ℕ) (x : File) (h : Header) (capacity top : ℕ) (pushes : Bool) (kept : List StackBlock) : Type 0 where
  pub content : Content
  pub file : File
  pub blocks : List StackBlock
  pub told : content_of new.told ≡ Some content
  pub there : content.files f ≡ Some file
  pub stack : IsStack file.bytes (most_of h) top blocks
  pub pushed : IsPushed file.bytes capacity pushes kept blocks
  pub below : AllByRecursion (KeepsBlock x.bytes file.bytes) kept

-- where the content is told, these blocks of the stack are kept, and one is pushed where a test says so
abbrev pub Stacks : (old new : View) (f : ℕ) (h : Header) (capacity top top' : ℕ) (table bucket : List Extent) (pushes : List StackBlock → Bool) (kept : List StackBlock → List StackBlock) → Type 0
Stacks old new f h capacity top top' table bucket pushes kept =
    (c : Content) (x : File) (blocks : List StackBlock) → content_of old.told ≡ Some c → c.files f ≡ Some x → IsFreeSide x.bytes h top (free_lists table blocks bucket)
    → AfterStack new f x h capacity top' (pushes blocks) (kept blocks)

-- all blocks are kept
abbrev pub all_kept : List StackBlock → List StackBlock
all_kept blocks = blocks

-- a block was pushed, with what was given and taken
pub record Pushed (old new : View) (f : ℕ) (h h' : Header) (capacity top top' : ℕ) (table bucket table' bucket' given taken : List Extent) (lost : ℕ) : Type 0 where
  pub done : Done old new f h h' top top' table bucket table' bucket' given taken lost
  pub stack : Stacks old new f h capacity top top' table bucket (λ blocks. true) all_kept
