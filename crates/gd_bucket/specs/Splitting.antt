-- A bucket that is divided in two by the next bit of the hash.
use Rattle.std.specs.Prelude.{◌≡◌, ℕ, ◌+◌, [], ◌++◌, length, replicate}
use Rattle.gd_format.specs.Bucket.{Bucket}
use Rattle.gd_format.specs.Slots.{count, AreReached, SameSlots, is_astray}
use Rattle.gd_format.specs.declared.Slot.TheVariants.{Empty}

-- one of the two: with one bit more, and only slots whose next bit is the one of its side
pub record IsHalf (old half : Bucket) (side : ℕ) : Type 0 where
  pub bits : half.bits ≡ old.bits + 1
  pub elems : length half.slots ≡ length old.slots
  pub parted : count (is_astray old.bits side) half.slots ≡ 0
  pub reached : AreReached half.slots (length half.slots)

-- the slots stand in the two, by the next bit of their hashes
pub record AreHalves (old first second : Bucket) : Type 0 where
  pub low : IsHalf old first 0
  pub high : IsHalf old second 1
  pub slots : SameSlots old.slots (first.slots ++ second.slots)

-- a bucket with one bit more and without a full slot
pub record IsEmptyHalf (old half : Bucket) : Type 0 where
  pub bits : half.bits ≡ old.bits + 1
  pub slots : half.slots ≡ replicate (length old.slots) Empty

-- the free extents go to the first
pub record IsSplit (old first second : Bucket) : Type 0 where
  pub halves : AreHalves old first second
  pub free : first.free ≡ old.free
  pub none : second.free ≡ []
