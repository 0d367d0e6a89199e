-- Extents that meet none, by their bytes.
use Rattle.std.proofs.Common.{◌≡◌, ℕ, ◌+◌, ◌<◌, ◌≤◌, true, not, List, [], ◌∷◌, refl, inl, inr, arith}
use Rattle.std.proofs.lemmas.Bool.{cases_lt}
use Rattle.std.proofs.lemmas.Bool.Decides.{nat_tests}
use Rattle.gd_format.specs.declared.Extent.{Extent}
use Rattle.gd_format.specs.declared.Held.{Held}
use Rattle.gd_format.specs.Covers.{has_byte, cover}
use Rattle.gd_format.specs.Sound.{meets, meets_none}
use Rattle.gd_format.proofs.Firsts.{and-true, both_true}
use Rattle.gd_file_laws.specs.Cover.{extents_in, AreLarge}
use Rattle.gd_map_laws.specs.Space.{one_if}

-- bytes of an extent that meets none are in none
no_common : (e f : Extent) (b : ℕ) → not (meets e f) ≡ true → 0 < one_if (has_byte e b) → one_if (has_byte f b) ≡ 0
no_common e f b apart some = grind (arith, nat_tests)

pub none_covered : (e : Extent) (ks : List Held) (b : ℕ) → meets_none e ks ≡ true → 0 < cover (e ∷ []) b → cover (extents_in ks) b ≡ 0
none_covered e [] b none some = refl
none_covered e (k ∷ ks) b none some =
    let both = and-true (not (meets e k.extent)) (meets_none e ks) none in
    let ih = none_covered e ks b both.1 some in
    let here = no_common e k.extent b both.0 (omega (arith, some)) in
    omega (arith, ih, here)

-- and the other way round, for extents that have a byte
apart : (e f : Extent) → 0 < e.size → 0 < f.size → ((b : ℕ) → one_if (has_byte e b) + one_if (has_byte f b) ≤ 1) → not (meets e f) ≡ true
apart e f es fs once =
    elim (cases_lt e.at f.at) [
      | inl below ↦ let o = once f.at in grind (arith, nat_tests, o)
      | inr above ↦ let o = once e.at in grind (arith, nat_tests, o)
    ]

pub meets_no : (e : Extent) (ks : List Held) → 0 < e.size → AreLarge (extents_in ks) → ((b : ℕ) → cover (extents_in ks) b + cover (e ∷ []) b ≤ 1) → meets_none e ks ≡ true
meets_no e [] some large once = refl
meets_no e (k ∷ ks) some large once =
    both_true (not (meets e k.extent)) (meets_none e ks)
    (apart e k.extent some large.0 (λ b. let o = once b in omega (arith, o)))
    (meets_no e ks some large.1 (λ b. let o = once b in omega (arith, o)))
