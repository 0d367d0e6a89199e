-- How a chain of splits begins, when it goes on, and how it ends, over the bytes of a file.
use Rattle.std.specs.Prelude.{◌≡◌, ℕ, ◌^◌, ◌<◌, ◌≤◌, List}
use Rattle.gd_format.specs.declared.Header.{Header}
use Rattle.gd_format.specs.Avail.{Avail}
use Rattle.gd_format.specs.Bucket.{Bucket}
use Rattle.gd_format.specs.FreeSide.{FreeLists}
use Rattle.gd_format.specs.Slots.{count, is_full}
use Rattle.gd_format.specs.Sound.{IsSound, most_of}
use Rattle.gd_map_laws.specs.Overflow.{is_close}
use Rattle.gd_update.specs.Held.{IsHeld, IsBucketOf}
use Rattle.gd_update.specs.Open.{IsOpen}
use Rattle.gd_update.specs.Growth.{IsGrown, IsClosed, IsRoomMade}

-- a file that may be changed has nothing done to it yet
abbrev pub GrowthBegins : Type 0
GrowthBegins =
    (file : List ℕ) (h : Header) (table : Avail) (hash at : ℕ) (bucket : Bucket)
    → IsOpen file h table → IsBucketOf file h hash at bucket → IsGrown file file h table hash at bucket

-- the bucket of a hash has no more bits than the directory
-- one that is full, and has a slot whose hash has not the top 24 bits of the hash, has bits to spare
pub record HasBits (h : Header) (bits : ℕ) : Type 0 where
  pub within : bits ≤ h.dir_bits
  pub spare : bits < 24

abbrev pub FullHasSpare : Type 0
FullHasSpare =
    (file : List ℕ) (h : Header) (top : ℕ) (s : FreeLists) (hash at : ℕ) (bucket : Bucket) → IsHeld file h top s → hash < 2 ^ 31 → IsBucketOf file h hash at bucket
    → count is_full bucket.slots ≡ h.elems → count (is_close hash) bucket.slots < h.elems → HasBits h bucket.bits

-- with the header's block written the chain is done
abbrev pub GrowthEnds : Type 0
GrowthEnds =
    (old mid new : List ℕ) (h : Header) (table : Avail) (hash at : ℕ) (bucket : Bucket) → IsSound old → hash < 2 ^ 31 → table.room ≡ most_of h
    → (g : IsGrown old mid h table hash at bucket) → IsClosed mid new h table g.blocks → IsRoomMade old new h table hash at bucket
