-- Sizes of extents.
use Rattle.std.specs.Prelude.{ℕ, List, [], ◌∷◌, max}
use Rattle.gd_format.specs.declared.Extent.{Extent}

-- the size of the largest one, 0 where there is none
abbrev pub largest : List Extent → ℕ
largest [] = 0
largest (e ∷ es) = max e.size (largest es)
