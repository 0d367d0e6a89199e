-- Extents that meet none of each other.
use Rattle.std.specs.Prelude.{◌≡◌, ◌+◌, ◌^◌, ◌<◌, ◌≤◌, ℕ, Bool, true, false, List, [], ◌∷◌, ◌++◌}
use Rattle.gd_format.specs.declared.Held.{Held}
use Rattle.gd_format.specs.Sound.{meets, meet_fault}

abbrev pub start_of : Held → ℕ
start_of k = k.extent.at

abbrev pub end_of : Held → ℕ
end_of k = k.extent.at + k.extent.size

-- at least one byte, and an end that is a u64
pub record IsPlain (k : Held) : Type 0 where
  pub some : 0 < k.extent.size
  pub fits : end_of k < 2 ^ 64

-- none of a list meets k
abbrev pub AllMiss : Held → List Held → Type 0
AllMiss k [] = Unit {0}
AllMiss k (l ∷ ls) = (meets l.extent k.extent ≡ false) × AllMiss k ls

abbrev pub AreApart : List Held → Type 0
AreApart [] = Unit {0}
AreApart (k ∷ ks) = AllMiss k ks × AreApart ks

-- each ends at or before a place
abbrev pub AllEnd : ℕ → List Held → Type 0
AllEnd place [] = Unit {0}
AllEnd place (k ∷ ks) = (end_of k ≤ place) × AllEnd place ks

-- a list gives the first refusal that all extents give, whatever stands before and behind
pub record MeetsAlike (all listed : List Held) : Type 0 where
  pub same : (next : ℕ) (before after : List Held) → meet_fault next [] ((before ++ listed) ++ after) ≡ meet_fault next [] ((before ++ all) ++ after)

-- a list stands for all extents: where it has enough of them, two meet
pub record StandsFor (all listed : List Held) (enough : Bool) : Type 0 where
  pub alike : MeetsAlike all listed
  pub meet : enough ≡ true → ¬ AreApart listed

-- a list that stood for some extents stands for these too
abbrev pub StandsForMore : (more old new : List Held) (enough_before enough : Bool) → Type 0
StandsForMore more old new enough_before enough = (all : List Held) → StandsFor all old enough_before → StandsFor (all ++ more) new enough
