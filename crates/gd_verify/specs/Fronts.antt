-- What the bytes of a block are asked.
use Rattle.std.specs.Prelude.{ℕ, Bool, ◌&&◌, nat_le, List, length, take}
use Rattle.gd_format.specs.HeaderFault.{natural, is_within}
use Rattle.gd_format.specs.Bucket.{raw_free_at}
use Rattle.gd_format.specs.Avail.{count_at, avail_size, is_extent_right}

-- is the free extent of a bucket right?
abbrev pub is_free_right_at : List ℕ → ℕ → Bool
is_free_right_at block e = is_extent_right (raw_free_at block e)

-- the bytes that begin a block of the stack, by its count
abbrev pub front_size : List ℕ → ℕ
front_size bytes = avail_size (natural (count_at (take 16 bytes)))

-- bytes from a place on have the head and the extents of a block of the stack
unfoldable pub is_stack_front : List ℕ → ℕ → Bool
is_stack_front bytes most = nat_le 16 (length bytes) && is_within (count_at (take 16 bytes)) 0 most && nat_le (front_size bytes) (length bytes)
