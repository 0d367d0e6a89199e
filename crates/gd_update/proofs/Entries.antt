-- Entries of a directory that are written by pieces.
use Rattle.std.proofs.Common.{◌≡◌, ◌⊎◌, ℕ, ◌+◌, ◌-◌, ◌*◌, ◌<◌, ◌≤◌, List, ◌++◌, length, take, drop, refl, sym, ap, ◌∙◌, inl, inr, arith}
use Rattle.std.specs.Prelude.{pos, ◌/◌}
use Rattle.std.proofs.lemmas.Bool.{cases_lt}
use Rattle.std.proofs.lemmas.Bool.Decides.{nat_tests}
use Rattle.std.proofs.lemmas.List.{take-take, drop-take, drop-drop, length-take-le, take-append-le}
use Rattle.gd_format.specs.Field.{bytes_at, number_of, i64_at, u64_at}
use Rattle.std.specs.Int.{w64, cast_signed}
use Rattle.gd_format.specs.Sound.{extent}
use Rattle.gd_format.specs.Covers.{has_byte}
use Rattle.gd_file_laws.specs.Frame.{written}
use Rattle.gd_file_laws.proofs.Lists.{bool_cases}
use Rattle.gd_map_laws.specs.Space.{one_if}
use Rattle.gd_map_laws.proofs.Stays.{has_in, keeps_join, write_keeps}
use Rattle.gd_map_laws.proofs.Put.{written_reads, written_size}
use Rattle.gd_update.specs.Runs.{IsPointed, IsDoubled}

-- a piece of the front of a list
pub part_reads : (xs : List ℕ) (m k n : ℕ) → k + n ≤ m → bytes_at (take m xs) k n ≡ bytes_at xs k n
part_reads xs m k n le =
    let whole : k + (m - k) ≡ m = omega (arith, le) in
    ap (λ (x : ℕ). take n (drop k (take x xs))) (sym whole) ∙ ap (take n) (drop-take k (m - k) xs) ∙ take-take n (m - k) (drop k xs) (omega (arith, le))

pub part_number : (xs : List ℕ) (m k : ℕ) → k + 8 ≤ m → i64_at (take m xs) k ≡ i64_at xs k
unfolding i64_at u64_at
part_number xs m k le = rw (part_reads xs m k 8 le) refl

-- a piece of what was written
inner_reads : (file bs : List ℕ) (at k n : ℕ) → k + n ≤ length bs → bytes_at (written file at bs) (at + k) n ≡ bytes_at bs k n
inner_reads file bs at k n le =
    ap (take n) (sym (drop-drop k at (written file at bs)))
    ∙ sym (part_reads (drop at (written file at bs)) (length bs) k n le)
    ∙ ap (λ (xs : List ℕ). bytes_at xs k n) (written_reads file at bs)

inner_number : (file bs : List ℕ) (at k : ℕ) → k + 8 ≤ length bs → i64_at (written file at bs) (at + k) ≡ i64_at bs k
unfolding i64_at u64_at
inner_number file bs at k le = rw (inner_reads file bs at k 8 le) refl

same_number : (old new : List ℕ) (at : ℕ) → bytes_at new at 8 ≡ bytes_at old at 8 → i64_at new at ≡ i64_at old at
unfolding i64_at u64_at
same_number old new at e = rw e refl

-- extents in one another, and apart
pub inside_none : (a n b m x : ℕ) → a ≤ b → b + m ≤ a + n → one_if (has_byte (extent a n) x) ≡ 0 → one_if (has_byte (extent b m) x) ≡ 0
inside_none a n b m x low high none =
    bool_cases (has_byte (extent b m) x)
    (λ t.
    let l : b ≤ x = grind (arith, nat_tests, t) in
    let h : x < b + m = grind (arith, nat_tests, t) in
    let o : one_if (has_byte (extent a n) x) ≡ 1 = rw (has_in a n x (omega (arith, l, low)) (omega (arith, h, high))) refl in
    absurd (omega (arith, o, none)))
    (λ f. rw f refl)

pub apart_none : (a n x : ℕ) → (x < a) ⊎ (a + n ≤ x) → one_if (has_byte (extent a n) x) ≡ 0
apart_none a n x away =
    bool_cases (has_byte (extent a n) x)
    (λ t.
    let l : a ≤ x = grind (arith, nat_tests, t) in
    let h : x < a + n = grind (arith, nat_tests, t) in
    elim away [ inl low ↦ absurd (omega (arith, l, low)) | inr high ↦ absurd (omega (arith, h, high)) ])
    (λ f. rw f refl)

-- ---- one address

pub pointed_none : (place address : ℕ) (xs : List ℕ) → IsPointed place 0 address xs xs
pointed_none place address xs = record { keeps = record { longer = omega arith; bytes = λ at n fits free. refl }; size = refl; entries = λ j lt. absurd (omega (arith, lt)) }

pub pointed_more : (place done part address : ℕ) (xs ys page : List ℕ) → IsPointed place done address xs ys → 8 * part ≤ length page → ((j : ℕ) → j < part → i64_at page (8 * j) ≡ pos address) → place + 8 * (done + part) ≤ length xs
    → IsPointed place (done + part) address xs (written ys (place + 8 * done) (take (8 * part) page))
pointed_more place done part address xs ys page before room entries inside =
    let size = length-take-le (8 * part) page room in
    let w = written_size ys (place + 8 * done) (take (8 * part) page) in
    let s = before.size in
    record {
      keeps =
          keeps_join (λ b. one_if (has_byte (extent place (8 * done)) b)) (λ b. one_if (has_byte (extent (place + 8 * done) (length (take (8 * part) page))) b)) (λ b. one_if (has_byte (extent place (8 * (done + part))) b)) xs ys _
          (λ x lt z. (inside_none place (8 * (done + part)) place (8 * done) x (omega arith) (omega arith) z, inside_none place (8 * (done + part)) (place + 8 * done) (length (take (8 * part) page)) x (omega arith) (omega (arith, size)) z))
          before.keeps (write_keeps ys (place + 8 * done) (take (8 * part) page));
      size = omega (arith, w, s, size, inside);
      entries =
          λ j lt.
          elim (cases_lt j done) [
            | inl low ↦
                same_number ys (written ys (place + 8 * done) (take (8 * part) page)) (place + 8 * j)
                ((write_keeps ys (place + 8 * done) (take (8 * part) page)).bytes (place + 8 * j) 8 (omega (arith, s, inside, low))
                (λ b l h. apart_none (place + 8 * done) (length (take (8 * part) page)) b (inl (omega (arith, h, low)))))
                ∙ before.entries j low
            | inr high ↦
                let e : place + 8 * done + 8 * (j - done) ≡ place + 8 * j = omega (arith, high) in
                ap (i64_at (written ys (place + 8 * done) (take (8 * part) page))) (sym e)
                ∙ inner_number ys (take (8 * part) page) (place + 8 * done) (8 * (j - done)) (omega (arith, size, lt, high))
                ∙ part_number page (8 * part) (8 * (j - done)) (omega (arith, lt, high))
                ∙ entries (j - done) (omega (arith, lt, high))
          ];
    }

-- ---- each entry twice

pub doubled_none : (from to : ℕ) (xs : List ℕ) → IsDoubled from to 0 xs xs
doubled_none from to xs = record { keeps = record { longer = omega arith; bytes = λ at n fits free. refl }; size = omega arith; reaches = λ some. absurd (omega (arith, some)); entries = λ j lt. absurd (omega (arith, lt)) }

-- the entries that are read are still the old ones
pub source_same : (from to count done : ℕ) (xs ys : List ℕ) → done ≤ count → IsDoubled from to done xs ys → from + 8 * count ≤ length xs → (from + 8 * count ≤ to) ⊎ (to + 16 * count ≤ from) → (k : ℕ) → k < count → i64_at ys (from + 8 * k) ≡ i64_at xs (from + 8 * k)
source_same from to count done xs ys le before inside apart k lt =
    same_number xs ys (from + 8 * k)
    (before.keeps.bytes (from + 8 * k) 8 (omega (arith, inside, lt))
    (λ b l h.
    elim apart [
      | inl low ↦ apart_none to (16 * done) b (inl (omega (arith, low, h, lt)))
      | inr high ↦ apart_none to (16 * done) b (inr (omega (arith, high, l, le)))
    ]))

pub doubled_more : (from to count done part : ℕ) (xs ys page source : List ℕ) → done + part ≤ count → IsDoubled from to done xs ys → from + 8 * count ≤ length xs → (from + 8 * count ≤ to) ⊎ (to + 16 * count ≤ from)
    → 16 * part ≤ length page → ((j : ℕ) → j < 2 * part → i64_at page (8 * j) ≡ i64_at source (8 * (j / 2))) → ((k : ℕ) → k < part → i64_at source (8 * k) ≡ i64_at ys (from + 8 * done + 8 * k))
    → IsDoubled from to (done + part) xs (written ys (to + 16 * done) (take (16 * part) page))
doubled_more from to count done part xs ys page source le before inside apart room entries reads =
    let size = length-take-le (16 * part) page room in
    let w = written_size ys (to + 16 * done) (take (16 * part) page) in
    let s = before.size in
    let reaches = before.reaches in
    record {
      keeps =
          keeps_join (λ b. one_if (has_byte (extent to (16 * done)) b)) (λ b. one_if (has_byte (extent (to + 16 * done) (length (take (16 * part) page))) b)) (λ b. one_if (has_byte (extent to (16 * (done + part))) b)) xs ys _
          (λ x lt z. (inside_none to (16 * (done + part)) to (16 * done) x (omega arith) (omega arith) z, inside_none to (16 * (done + part)) (to + 16 * done) (length (take (16 * part) page)) x (omega arith) (omega (arith, size)) z))
          before.keeps (write_keeps ys (to + 16 * done) (take (16 * part) page));
      size = omega (arith, w, s, size);
      reaches = λ some. omega (arith, w, size);
      entries =
          λ j lt.
          elim (cases_lt j (2 * done)) [
            | inl low ↦
                same_number ys (written ys (to + 16 * done) (take (16 * part) page)) (to + 8 * j)
                ((write_keeps ys (to + 16 * done) (take (16 * part) page)).bytes (to + 8 * j) 8 (let r = reaches (omega (arith, low)) in omega (arith, r, low))
                (λ b l h. apart_none (to + 16 * done) (length (take (16 * part) page)) b (inl (omega (arith, h, low)))))
                ∙ before.entries j low
            | inr high ↦
                let rest : j - 2 * done < 2 * part = omega (arith, lt, high) in
                let half : (j - 2 * done) / 2 < part = omega (arith, rest) in
                let e : to + 16 * done + 8 * (j - 2 * done) ≡ to + 8 * j = omega (arith, high) in
                let f : from + 8 * done + 8 * ((j - 2 * done) / 2) ≡ from + 8 * (j / 2) = omega (arith, high) in
                ap (i64_at (written ys (to + 16 * done) (take (16 * part) page))) (sym e)
                ∙ inner_number ys (take (16 * part) page) (to + 16 * done) (8 * (j - 2 * done)) (omega (arith, size, rest))
                ∙ part_number page (16 * part) (8 * (j - 2 * done)) (omega (arith, rest))
                ∙ entries (j - 2 * done) rest
                ∙ reads ((j - 2 * done) / 2) half
                ∙ ap (i64_at ys) f
                ∙ source_same from to count done xs ys (omega (arith, le)) before inside apart (j / 2) (omega (arith, lt, le))
          ];
    }

-- ---- reading

drop_number : (file : List ℕ) (place k : ℕ) → i64_at (drop place file) k ≡ i64_at file (place + k)
unfolding i64_at u64_at
drop_number file place k = ap (λ (xs : List ℕ). cast_signed w64 (number_of (take 8 xs))) (drop-drop k place file)

-- what was read stands at the front of the buffer
pub read_number : (file buf rest : List ℕ) (place n k : ℕ) → n ≤ length buf → take n buf ≡ take n (drop place file) → k + 8 ≤ n → i64_at (buf ++ rest) k ≡ i64_at file (place + k)
read_number file buf rest place n k fits e le =
    sym (part_number (buf ++ rest) n k le)
    ∙ ap (λ (xs : List ℕ). i64_at xs k) (take-append-le n buf rest fits ∙ e)
    ∙ part_number (drop place file) n k le
    ∙ drop_number file place k
