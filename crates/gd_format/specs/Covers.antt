-- Lists of extents by their bytes: in how many of them a byte is, and how many bytes all of them have.
use Rattle.std.specs.Prelude.{ℕ, ◌+◌, Bool, ◌&&◌, nat_lt, nat_le, List, [], ◌∷◌, if◌then◌else◌}
use Rattle.gd_format.specs.declared.Extent.{Extent}

abbrev pub has_byte : Extent → ℕ → Bool
has_byte e b = nat_le e.at b && nat_lt b (e.at + e.size)

-- how many of the extents have a byte
abbrev pub cover : List Extent → ℕ → ℕ
cover [] b = 0
cover (e ∷ es) b = (if has_byte e b then 1 else 0) + cover es b

-- the sum of their sizes
abbrev pub size_sum : List Extent → ℕ
size_sum [] = 0
size_sum (e ∷ es) = e.size + size_sum es
