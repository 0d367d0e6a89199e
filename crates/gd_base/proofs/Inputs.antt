-- What a source in memory gives, and a clock.
use Rattle.std.proofs.Common.{◌≡◌, ◌∙◌, ap, ap₂, sym, ℕ, ◌+◌, ◌-◌, ◌<◌, ◌≤◌, min, List, [], ◌∷◌, ◌++◌, take, drop, length, Some, None, arith, add-one}
use Rattle.std.proofs.lemmas.List.{take_rest, drop_all, drop-drop, take-append-drop}
use Rattle.gd_base.specs.Clocks.{Readings, Gives}
use Rattle.gd_base.specs.Memory.{ClockState, first_readings, reading_at, told_by}

-- a read from a place
pub gives : (bytes slice old new left : List ℕ) (at n : ℕ) → slice ≡ bytes → length new ≡ length old → drop at bytes ≡ left → at ≤ length bytes
    → n ≡ min (length old) (length (take (length slice - at) (drop at slice))) → take n new ≡ take n (take (length slice - at) (drop at slice))
    → (n ≤ length new) × (Some left ≡ Some (take n new ++ drop (at + n) bytes)) × (n ≡ 0 → 0 < length new → Some (drop (at + n) bytes) ≡ Some [])
gives bytes slice old new left at n same len view fits count front =
    let all : take (length slice - at) (drop at slice) ≡ left = take_rest slice at ∙ ap (drop at) same ∙ view in
    let more : drop (at + n) bytes ≡ drop n left = sym (drop-drop n at bytes) ∙ ap (drop n) view in
    let least : n ≡ min (length old) (length left) = count ∙ ap (λ l. min (length old) (length l)) all in (
      omega (arith, least, len),
      ap Some (sym (ap₂ (λ (a : List ℕ) b. a ++ b) (front ∙ ap (take n) all) more ∙ take-append-drop n left)),
      λ none some. ap Some (more ∙ drop_all n left (omega (arith, least, none, some, len))),
    )

one_more : (numbers : List ℕ) (given : ℕ) → first_readings numbers (given + 1) ≡ first_readings numbers given ++ reading_at numbers given ∷ []
one_more numbers given = rw add-one

readings_same : (a b : Readings) → Some a ≡ Some b → a ≡ b
readings_same a b e = cc

-- the reading that came next
pub gives_next : (c : ClockState) (numbers : List ℕ) (given n : ℕ) → numbers ≡ c.numbers → given ≡ c.given + 1 → n ≡ reading_at c.numbers c.given
    → Gives (told_by c) (Some (record { given = first_readings numbers given; next = reading_at numbers given })) n
gives_next c numbers given n same_numbers more is = record {
  told = λ r told.
      let same = readings_same _ r told in
      let next : n ≡ r.next = is ∙ ap (λ (k : Readings). k.next) same in
      let front : first_readings numbers given ≡ r.given ++ n ∷ [] =
      ap₂ first_readings same_numbers more ∙ one_more c.numbers c.given ∙ ap₂ (λ (a : List ℕ) (b : ℕ). a ++ b ∷ []) (ap (λ (k : Readings). k.given) same) (sym is) in
      (next, (reading_at numbers given, ap (λ (l : List ℕ). Some (record { given = l; next = reading_at numbers given })) front));
  untold = λ none. absurd (let wrong : told_by c ≡ None = none in cc);
}
