-- Extents one behind another.
use Rattle.std.proofs.Common.{◌≡◌, ℕ, zero, suc, ◌+◌, ◌-◌, ◌<◌, ◌≤◌, true, false, ◌&&◌, ltb, List, [], ◌∷◌, ◌++◌, length, take, get_or, arith}
use Rattle.std.proofs.lemmas.List.{take_more}
use Rattle.std.proofs.lemmas.Bool.Decides.{nat_tests}
use Rattle.gd_format.specs.declared.Held.{Held}
use Rattle.gd_format.specs.Sound.{meets}
use Rattle.gd_verify.specs.Apart.{AllMiss, AreApart, AllEnd, end_of}

-- what an index beyond a list gives
abbrev pub nowhere : Held
nowhere = record { extent = record { at = 0; size = 0 }; by = 0 }

end_push : (place : ℕ) (ks : List Held) (k : Held) → AllEnd place ks → end_of k ≤ place → AllEnd place (ks ++ k ∷ [])
end_push place [] k h e = (e, tt)
end_push place (l ∷ ls) k h e = (h.0, end_push place ls k h.1 e)

end_mono : (a b : ℕ) (ks : List Held) → a ≤ b → AllEnd a ks → AllEnd b ks
end_mono a b [] le h = tt
end_mono a b (k ∷ ks) le h = (omega (arith, h.0), end_mono a b ks le h.1)

-- one more of a list
pub end_more : (place : ℕ) (ks : List Held) (n : ℕ) (d : Held) → n < length ks → AllEnd place (take n ks) → end_of (get_or ks n d) ≤ place → AllEnd place (take (n + 1) ks)
end_more place ks n d lt h e = rw (take_more ks n d lt) (end_push place (take n ks) (get_or ks n d) h e)

pub ends_past : (place : ℕ) (ks : List Held) (n : ℕ) (d : Held) → n < length ks → place < end_of (get_or ks n d) → ¬ AllEnd place ks
ends_past place [] n d lt past h = omega arith
ends_past place (k ∷ ks) zero d lt past h = omega (arith, h.0)
ends_past place (k ∷ ks) (suc n) d lt past h = ends_past place ks n d (omega arith) past h.1

behind : (a n b m : ℕ) → b + m ≤ a → (ltb a (b + m) && ltb b (a + n)) ≡ false
behind a n b m le = grind (arith, nat_tests)

miss_push : (k : Held) (ls : List Held) (l : Held) → AllMiss k ls → meets l.extent k.extent ≡ false → AllMiss k (ls ++ l ∷ [])
miss_push k [] l h m = (m, tt)
miss_push k (x ∷ xs) l h m = (h.0, miss_push k xs l h.1 m)

apart_push : (ks : List Held) (l : Held) → AreApart ks → AllEnd l.extent.at ks → AreApart (ks ++ l ∷ [])
apart_push [] l h e = (tt, tt)
apart_push (k ∷ ks) l h e =
    (miss_push k ks l h.0 (behind l.extent.at l.extent.size k.extent.at k.extent.size e.0), apart_push ks l h.1 e.1)

pub apart_more : (ks : List Held) (n : ℕ) (d : Held) → n < length ks → AreApart (take n ks) → AllEnd (get_or ks n d).extent.at (take n ks) → AreApart (take (n + 1) ks)
apart_more ks n d lt h e = rw (take_more ks n d lt) (apart_push (take n ks) (get_or ks n d) h e)

-- the ends of those before and of one that begins behind them
pub ends_more : (ks : List Held) (n : ℕ) (d : Held) (end : ℕ) → n < length ks → AllEnd end (take n ks) → end ≤ (get_or ks n d).extent.at → AllEnd (end_of (get_or ks n d)) (take (n + 1) ks)
ends_more ks n d end lt h le = end_more (end_of (get_or ks n d)) ks n d lt (end_mono end (end_of (get_or ks n d)) (take n ks) (omega arith) h) (omega arith)

pub ends_here : (ks : List Held) (n : ℕ) (d : Held) (end : ℕ) → AllEnd end (take n ks) → end ≤ (get_or ks n d).extent.at → AllEnd (get_or ks n d).extent.at (take n ks)
ends_here ks n d end h le = end_mono end (get_or ks n d).extent.at (take n ks) le h

neighbours_miss : (ks : List Held) (n : ℕ) (d : Held) → suc n < length ks → AreApart ks → meets (get_or ks (suc n) d).extent (get_or ks n d).extent ≡ false
neighbours_miss [] n d lt h = absurd (omega arith)
neighbours_miss (k ∷ []) n d lt h = absurd (omega arith)
neighbours_miss (k ∷ l ∷ ls) zero d lt h = h.0.0
neighbours_miss (k ∷ l ∷ ls) (suc n) d lt h = neighbours_miss (l ∷ ls) n d (omega arith) h.1

overlap : (a n b m : ℕ) → a < b + m → b ≤ a → 0 < n → (ltb a (b + m) && ltb b (a + n)) ≡ true
overlap a n b m lt le some = grind (arith, nat_tests)

-- one that begins before the end of the one before it
pub neighbours_meet : (ks : List Held) (n : ℕ) (d : Held) → 0 < n → n < length ks → (get_or ks n d).extent.at < end_of (get_or ks (n - 1) d) → (get_or ks (n - 1) d).extent.at ≤ (get_or ks n d).extent.at → 0 < (get_or ks n d).extent.size → ¬ AreApart ks
neighbours_meet ks n d some lt before up large h =
    let next : suc (n - 1) ≡ n = omega arith in
    let miss : meets (get_or ks n d).extent (get_or ks (n - 1) d).extent ≡ false = rw next at (neighbours_miss ks (n - 1) d (omega arith) h) in
    let meet = overlap (get_or ks n d).extent.at (get_or ks n d).extent.size (get_or ks (n - 1) d).extent.at (get_or ks (n - 1) d).extent.size before up large in
    cc (miss, meet)
