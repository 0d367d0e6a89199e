-- A stack of blocks of free space without a refusal, as a list of blocks.
use Rattle.std.specs.Prelude.{◌≡◌, ◌≢◌, ℕ, ◌<◌, List, [], ◌∷◌, length, map, None}
use Rattle.std.specs.List.{flat_map, AllByRecursion}
use Rattle.gd_format.specs.Sound.{stack_fault, stack_places, stack_held}
use Rattle.gd_format.specs.FreeSide.{StackBlock, IsStack, stack_extents}
use Rattle.gd_file_laws.specs.Cover.{IsOnce, extents_in}

abbrev pub places_in : List StackBlock → List ℕ
places_in blocks = map (λ b. b.at) blocks

abbrev pub AreDistinct : List ℕ → Type 0
AreDistinct [] = Unit {0}
AreDistinct (x ∷ xs) = AllByRecursion (λ y. y ≢ x) xs × AreDistinct xs

-- from the top on the file has these blocks, each at an address of its own
pub record IsWholeStack (file : List ℕ) (most top : ℕ) (blocks : List StackBlock) : Type 0 where
  pub stack : IsStack file most top blocks
  pub distinct : AreDistinct (places_in blocks)

-- it has no refusal, and its places and extents are those of the blocks
pub record StackShown (file : List ℕ) (most top : ℕ) (blocks : List StackBlock) : Type 0 where
  pub fault : stack_fault file most top ≡ None
  pub places : stack_places file top ≡ places_in blocks
  pub extents : extents_in (flat_map (stack_held file) (stack_places file top)) ≡ stack_extents blocks

abbrev pub BlocksMakeStack : Type 0
BlocksMakeStack = (file : List ℕ) (most top : ℕ) (blocks : List StackBlock) → IsWholeStack file most top blocks → StackShown file most top blocks

-- a file without a byte has no place for a block to be looked at
abbrev pub StackHasBlocks : Type 0
StackHasBlocks = (file : List ℕ) (most top : ℕ) → 0 < length file → stack_fault file most top ≡ None → (blocks : List StackBlock) × IsWholeStack file most top blocks

-- blocks whose bytes are apart stand at addresses of their own
abbrev pub ApartAreDistinct : Type 0
ApartAreDistinct = (blocks : List StackBlock) → IsOnce (stack_extents blocks) → AreDistinct (places_in blocks)
