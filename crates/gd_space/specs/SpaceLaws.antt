-- What follows of a change of free space for the rest of a file.
use Rattle.std.specs.Prelude.{◌≡◌, ℕ, ◌+◌, ◌-◌, ◌<◌, ◌≤◌, List, [], ◌∷◌, ◌++◌, length}
use Rattle.gd_format.specs.declared.Extent.{Extent}
use Rattle.gd_format.specs.Field.{bytes_at}
use Rattle.gd_format.specs.Covers.{cover, size_sum}
use Rattle.gd_format.specs.Sound.{extent}
use Rattle.gd_space.specs.Effect.{Moves, Keeps}

-- each byte is in one extent at most of those that a function counts, of free ones and of further ones, and lies before a place
pub record IsApart (used : ℕ → ℕ) (free more : List Extent) (next : ℕ) : Type 0 where
  pub once : (b : ℕ) → used b + cover free b + cover more b ≤ 1
  pub below : (b : ℕ) → 0 < used b + cover free b + cover more b → b < next

-- so it is after a change, for what was taken in the place of what was given
abbrev pub StaysApart : Type 0
StaysApart =
    (used : ℕ → ℕ) (free free' given taken : List Extent) (next next' lost : ℕ)
    → Moves free free' next next' given taken lost → IsApart used free given next → IsApart used free' taken next'

-- what is used keeps its bytes
abbrev pub UsedIsKept : Type 0
UsedIsKept =
    (used : ℕ → ℕ) (free given : List Extent) (next : ℕ) (file file' : List ℕ) (at n : ℕ)
    → IsApart used free given next → Keeps (free ++ given) file file' → at + n ≤ length file → ((b : ℕ) → at ≤ b → b < at + n → 0 < used b) → bytes_at file' at n ≡ bytes_at file at n

-- next_block less all extents
abbrev pub lost_of : ℕ → ℕ → List Extent → ℕ
lost_of next used free = next - (used + size_sum free)

-- a take of n bytes raises what is lost by n to n + 32, while the n bytes are in no extent
abbrev pub TakeLoses : Type 0
TakeLoses =
    (free free' : List Extent) (next next' used at n : ℕ) → Moves free free' next next' [] (extent at n ∷ []) 32 → used + size_sum free ≤ next
    → (lost_of next used free + n ≤ lost_of next' used free') × (lost_of next' used free' ≤ lost_of next used free + n + 32)

-- a give lowers it by the size less 32, where the extent was in no list
abbrev pub GiveGains : Type 0
GiveGains =
    (free free' : List Extent) (next next' used at n : ℕ) → Moves free free' next next' (extent at n ∷ []) [] 32 → used + size_sum free + n ≤ next
    → (lost_of next' used free' + n ≤ lost_of next used free + 32) × (lost_of next used free ≤ lost_of next' used free' + n)
