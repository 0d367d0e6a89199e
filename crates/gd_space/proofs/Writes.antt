-- What a write to a file leaves.
use Rattle.std.proofs.Common.{◌≡◌, ℕ, ◌+◌, ◌-◌, ◌≤◌, max, List, ◌++◌, length, take, drop, replicate, refl, sym, ap, ◌∙◌, inl, inr, arith, length-append, length-drop, append_assoc}
use Rattle.std.proofs.lemmas.Bool.{cases_lt}
use Rattle.std.proofs.lemmas.List.{take-append-le, drop-append-le, take-append-drop, length-take-le, drop_at, drop_all, drop-drop, length-replicate, append-nil}
use Rattle.gd_format.specs.Field.{bytes_at}
use Rattle.gd_space.specs.Ranges.{AreApart}
use Rattle.gd_vault.specs.Effects.{written}

bytes_at-front : (xs ys : List ℕ) (a n : ℕ) → a + n ≤ length xs → bytes_at (xs ++ ys) a n ≡ bytes_at xs a n
bytes_at-front xs ys a n h =
    let dropped = drop-append-le a xs ys (omega arith) in
    let room : n ≤ length (drop a xs) = omega (arith, length-drop a xs) in
    rw dropped (take-append-le n (drop a xs) ys room)

bytes_at-back : (xs ys : List ℕ) (a k n : ℕ) → a ≡ length xs + k → bytes_at (xs ++ ys) a n ≡ bytes_at ys k n
bytes_at-back xs ys a k n e =
    let d : drop a (xs ++ ys) ≡ drop k ys = ap (λ (x : ℕ). drop x (xs ++ ys)) e ∙ sym (drop-drop k (length xs) (xs ++ ys)) ∙ ap (drop k) (drop_at xs ys (length xs) refl) in
    ap (take n) d

-- bytes in place of what stood from a place on, in a file that reaches it
abbrev over : List ℕ → ℕ → List ℕ → List ℕ
over file at bs = take at file ++ bs ++ drop (at + length bs) file

over-apart : (file bs : List ℕ) (at a n : ℕ) → at ≤ length file → AreApart a n at (length bs) → bytes_at (over file at bs) a n ≡ bytes_at file a n
over-apart file bs at a n le (inl below) =
    let front : length (take at file) ≡ at = length-take-le at file le in
    let left : bytes_at ((take at file ++ bs) ++ drop (at + length bs) file) a n ≡ bytes_at (take at file) a n =
    ap (λ (xs : List ℕ). bytes_at xs a n) (append_assoc (take at file) bs (drop (at + length bs) file))
    ∙ bytes_at-front (take at file) (bs ++ drop (at + length bs) file) a n (omega (arith, front)) in
    let right : bytes_at (take at file ++ drop at file) a n ≡ bytes_at (take at file) a n = bytes_at-front (take at file) (drop at file) a n (omega (arith, front)) in
    left ∙ sym right ∙ ap (λ (xs : List ℕ). bytes_at xs a n) (take-append-drop at file)
over-apart file bs at a n le (inr above) =
    let front : length (take at file) ≡ at = length-take-le at file le in
    let both : length (take at file ++ bs) ≡ at + length bs = omega (arith, length-append (take at file) bs, front) in
    let whole : at + length bs + (a - (at + length bs)) ≡ a = omega arith in
    bytes_at-back (take at file ++ bs) (drop (at + length bs) file) a (a - (at + length bs)) n (omega (arith, both))
    ∙ ap (take n) (drop-drop (a - (at + length bs)) (at + length bs) file ∙ ap (λ (x : ℕ). drop x file) whole)

-- the file as far as the place
abbrev pad : List ℕ → ℕ → List ℕ
pad old at = old ++ replicate (at - length old) 0

pad-length : (old : List ℕ) (at : ℕ) → length (pad old at) ≡ max (length old) at
pad-length old at = let a = length-append old (replicate (at - length old) 0) in let b = length-replicate {A = ℕ} (at - length old) 0 in omega (arith, a, b)

pad-drop : (old : List ℕ) (at n : ℕ) → drop (at + n) (pad old at) ≡ drop (at + n) old
pad-drop old at n =
    let p = pad-length old at in
    elim (cases_lt (length old) at) [
      | inl short ↦ drop_all (at + n) (pad old at) (omega (arith, p)) ∙ sym (drop_all (at + n) old (omega arith))
      | inr long ↦
          let none : at - length old ≡ 0 = omega arith in
          ap (λ (k : ℕ). drop (at + n) (old ++ replicate k 0)) none ∙ ap (drop (at + n)) (append-nil old)
    ]

wrote-is : (old bs : List ℕ) (at : ℕ) → written old at bs ≡ over (pad old at) at bs
wrote-is old bs at = ap (λ (xs : List ℕ). take at (pad old at) ++ bs ++ xs) (sym (pad-drop old at (length bs)))

pad-front : (old : List ℕ) (at a n : ℕ) → a + n ≤ length old → bytes_at (pad old at) a n ≡ bytes_at old a n
pad-front old at a n h =
    let dropped = drop-append-le a old (replicate (at - length old) 0) (omega arith) in
    let room : n ≤ length (drop a old) = omega (arith, length-drop a old) in
    rw dropped (take-append-le n (drop a old) (replicate (at - length old) 0) room)

pub wrote-apart : (old bs : List ℕ) (at a n : ℕ) → a + n ≤ length old → AreApart a n at (length bs) → bytes_at (written old at bs) a n ≡ bytes_at old a n
wrote-apart old bs at a n h apart =
    let long : at ≤ length (pad old at) = omega (arith, pad-length old at) in
    rw (wrote-is old bs at) (over-apart (pad old at) bs at a n long apart ∙ pad-front old at a n h)

pub wrote-length : (old bs : List ℕ) (at : ℕ) → length (written old at bs) ≡ max (length old) (at + length bs)
wrote-length old bs at =
    let p = pad-length old at in
    let long : at ≤ length (pad old at) = omega (arith, p) in
    let front : length (take at (pad old at)) ≡ at = length-take-le at (pad old at) long in
    let a = length-append (take at (pad old at) ++ bs) (drop (at + length bs) old) in
    let b = length-append (take at (pad old at)) bs in
    let d = length-drop (at + length bs) old in
    let all : length (written old at bs) ≡ length (take at (pad old at)) + length bs + length (drop (at + length bs) old) = a ∙ ap (λ (k : ℕ). k + length (drop (at + length bs) old)) b in
    omega (arith, front, all, d)

pub wrote-own : (old bs : List ℕ) (at n : ℕ) → n ≤ length bs → bytes_at (written old at bs) at n ≡ take n bs
wrote-own old bs at n le =
    let p = pad-length old at in
    let long : at ≤ length (pad old at) = omega (arith, p) in
    let front : length (take at (pad old at)) ≡ at = length-take-le at (pad old at) long in
    let whole : written old at bs ≡ take at (pad old at) ++ (bs ++ drop (at + length bs) old) = append_assoc (take at (pad old at)) bs (drop (at + length bs) old) in
    let dropped : drop at (written old at bs) ≡ bs ++ drop (at + length bs) old = ap (drop at) whole ∙ drop_at (take at (pad old at)) (bs ++ drop (at + length bs) old) at front in
    ap (take n) dropped ∙ take-append-le n bs (drop (at + length bs) old) le
