-- Writes aside of the free side of a file.
use Rattle.std.specs.Prelude.{◌≡◌, ℕ, ◌<◌, ◌≤◌, List, length}
use Rattle.gd_format.specs.declared.Header.{Header}
use Rattle.gd_format.specs.Covers.{cover}
use Rattle.gd_format.specs.FreeSide.{FreeLists, free_extents, IsFreeSide}
use Rattle.gd_map_laws.specs.Frame.{KeepsBut}

-- the free side stays where none of its bytes is touched
abbrev pub SideKept : Type 0
SideKept =
    (touched : ℕ → ℕ) (old new : List ℕ) (h : Header) (top : ℕ) (s : FreeLists) → KeepsBut touched old new → ((b : ℕ) → 0 < cover (free_extents s) b → touched b ≡ 0)
    → length new ≤ h.next_block → IsFreeSide old h top s → IsFreeSide new h top s
