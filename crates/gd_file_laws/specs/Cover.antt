-- Extents that meet none of each other, by their bytes.
use Rattle.std.specs.Prelude.{◌≡◌, ℕ, ◌+◌, ◌<◌, ◌≤◌, ◌↔◌, Bool, false, ◌&&◌, ◌==◌, nat_lt, List, [], ◌∷◌, ◌++◌, map, None}
use Rattle.std.specs.List.{AllByRecursion}
use Rattle.gd_format.specs.declared.Extent.{Extent}
use Rattle.gd_format.specs.declared.Held.{Held}
use Rattle.gd_format.specs.Covers.{cover}
use Rattle.gd_format.specs.Sound.{meet_fault}

-- each byte is in one of the extents at most
abbrev pub IsOnce : List Extent → Type 0
IsOnce es = (b : ℕ) → cover es b ≤ 1

abbrev pub extents_in : List Held → List Extent
extents_in ks = map (λ k. k.extent) ks

-- each extent ends at or before a place
abbrev pub EndBy : ℕ → List Extent → Type 0
EndBy next es = AllByRecursion (λ e. e.at + e.size ≤ next) es

-- each extent has a byte
abbrev pub AreLarge : List Extent → Type 0
AreLarge es = AllByRecursion (λ e. 0 < e.size) es

-- does e have no byte, and stand behind the first byte of f and before its end?
abbrev pub is_empty_inside : Extent → Extent → Bool
is_empty_inside e f = e.size == 0 && nat_lt f.at e.at && nat_lt e.at (f.at + f.size)

-- no extent without a byte stands inside of another one
abbrev pub NoneInside : List Extent → Type 0
NoneInside [] = Unit {0}
NoneInside (e ∷ es) = AllByRecursion (λ f. (is_empty_inside e f ≡ false) × (is_empty_inside f e ≡ false)) es × NoneInside es

-- extents end in time and meet none of those before exactly where each byte is in one of them at most; an extent without
-- a byte meets those in which it stands, although it covers nothing
abbrev pub ApartByCover : Type 0
ApartByCover =
    (next : ℕ) (ks : List Held) → (meet_fault next [] ks ≡ None) ↔ (EndBy next (extents_in ks) × IsOnce (extents_in ks) × NoneInside (extents_in ks))

-- where each has a byte, cover tells all
abbrev pub LargeApartByCover : Type 0
LargeApartByCover =
    (next : ℕ) (ks : List Held) → AreLarge (extents_in ks) → (meet_fault next [] ks ≡ None) ↔ (EndBy next (extents_in ks) × IsOnce (extents_in ks))

-- and the end is one of bytes too
abbrev pub EndByCover : Type 0
EndByCover = (next : ℕ) (es : List Extent) → AreLarge es → EndBy next es ↔ ((b : ℕ) → 0 < cover es b → b < next)

abbrev pub CoverAdds : Type 0
CoverAdds = (xs ys : List Extent) (b : ℕ) → cover (xs ++ ys) b ≡ cover xs b + cover ys b
