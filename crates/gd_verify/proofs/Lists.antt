-- Steps over lists of extents.
use Rattle.std.proofs.Common.{◌≡◌, ◌≤◌, ℕ, ◌+◌, ◌-◌, Bool, true, false, cond, List, [], ◌∷◌, ◌++◌, map, take, drop, length, refl, sym, ap, ◌∙◌, append_assoc, arith}
use Rattle.std.specs.Prelude.{ℤ}
use Rattle.std.specs.List.{All, filter, range_with_len}
use Rattle.std.specs.Int.{w32, cast_signed}
use Rattle.std.proofs.lemmas.List.{map-append, append-nil, take-take, drop-take, length-take-le}
use Rattle.std.proofs.lemmas.List.Elements.{All-push, filter-append}
use Rattle.std.proofs.lemmas.List.FromFn.{map-range_with_len_more}
use Rattle.gd_format.specs.declared.Extent.{Extent}
use Rattle.gd_format.specs.declared.Held.{Held}
use Rattle.gd_format.specs.First.{list_below}
use Rattle.gd_format.specs.Field.{number_of, u32_at, i32_at}
use Rattle.gd_format.specs.HeaderFault.{natural}
use Rattle.gd_format.specs.Avail.{raw_avail_at, count_at, avail_size}
use Rattle.gd_format.specs.Sound.{held_by, record_held, takes_place}
use Rattle.gd_format.proofs.Firsts.{list_below_more}
use Rattle.gd_verify.specs.Apart.{IsPlain}
use Rattle.gd_verify.specs.Fronts.{front_size}

-- one more extent of those below n
pub held_more : (by : ℕ) (f : ℕ → Extent) (n : ℕ) (old list : List Held) (k : Held) → list ≡ old ++ map (held_by by) (list_below n f) → k ≡ held_by by (f n) → list ++ k ∷ [] ≡ old ++ map (held_by by) (list_below (n + 1) f)
held_more by f n old list k e is =
    ap (λ (xs : List Held). xs ++ k ∷ []) e ∙ append_assoc old (map (held_by by) (list_below n f)) (k ∷ [])
    ∙ ap (λ (x : Held). old ++ (map (held_by by) (list_below n f) ++ x ∷ [])) is
    ∙ ap (λ (xs : List Held). old ++ xs) (sym (map-append (held_by by) (list_below n f) (f n ∷ [])))
    ∙ ap (λ (xs : List Extent). old ++ map (held_by by) xs) (sym (list_below_more f n))

pub plain_more : (list : List Held) (k : Held) → All IsPlain list → IsPlain k → All IsPlain (list ++ k ∷ [])
plain_more list k h p = All-push IsPlain list k h p

map_id : (xs : List ℕ) → map (λ x. x) xs ≡ xs
map_id [] = refl
map_id (x ∷ xs) = ap (λ (ys : List ℕ). x ∷ ys) (map_id xs)

pub range_more : (n : ℕ) → range_with_len 0 (n + 1) ≡ range_with_len 0 n ++ n ∷ []
range_more n = sym (map_id (range_with_len 0 (n + 1))) ∙ map-range_with_len_more (λ x. x) 0 n n (omega arith) ∙ ap (λ (xs : List ℕ). xs ++ n ∷ []) (map_id (range_with_len 0 n))

-- one more number, which passes or not
pub bool_cases : (b : Bool) {P : Type 0} → (b ≡ true → P) → (b ≡ false → P) → P
bool_cases true p q = p refl
bool_cases false p q = q refl

single : (p : ℕ → Bool) (n : ℕ) → filter p (n ∷ []) ≡ cond (p n) (n ∷ []) []
single p n = bool_cases (p n) (λ yes. rw yes refl) (λ no. rw no refl)

pub passing_more : (p : ℕ → Bool) (n : ℕ) → filter p (range_with_len 0 (n + 1)) ≡ filter p (range_with_len 0 n) ++ cond (p n) (n ∷ []) []
passing_more p n = ap (filter p) (range_more n) ∙ filter-append p (range_with_len 0 n) (n ∷ []) ∙ ap (λ (xs : List ℕ). filter p (range_with_len 0 n) ++ xs) (single p n)

-- one more slot of those below s
pub records_more : (block : List ℕ) (s : ℕ) (old list next : List Held) → list ≡ old ++ map (record_held block) (filter (takes_place block) (range_with_len 0 s)) → (takes_place block s ≡ true → next ≡ list ++ record_held block s ∷ []) → (takes_place block s ≡ false → next ≡ list) → next ≡ old ++ map (record_held block) (filter (takes_place block) (range_with_len 0 (s + 1)))
records_more block s old list next e taken skipped =
    let done = filter (takes_place block) (range_with_len 0 s) in
    let step = passing_more (takes_place block) s in
    bool_cases (takes_place block s)
    (λ yes. taken yes ∙ ap (λ (xs : List Held). xs ++ record_held block s ∷ []) e ∙ append_assoc old (map (record_held block) done) (record_held block s ∷ [])
    ∙ ap (λ (xs : List Held). old ++ xs) (sym (map-append (record_held block) done (s ∷ [])))
    ∙ ap (λ (xs : List ℕ). old ++ map (record_held block) xs) (sym (step ∙ ap (λ (b : Bool). done ++ cond b (s ∷ []) []) yes)))
    (λ no. skipped no ∙ e ∙ ap (λ (xs : List ℕ). old ++ map (record_held block) xs) (sym (step ∙ ap (λ (b : Bool). done ++ cond b (s ∷ []) []) no ∙ append-nil done)))

pub piece : (at k n : ℕ) (xs : List ℕ) → at + k ≤ n → take k (drop at (take n xs)) ≡ take k (drop at xs)
piece at k n xs le =
    let whole : at + (n - at) ≡ n = omega arith in
    let parts = drop-take at (n - at) xs in
    let front : drop at (take n xs) ≡ take (n - at) (drop at xs) = rw whole at parts in
    ap (take k) front ∙ take-take k (n - at) (drop at xs) (omega arith)

-- the count stands in the head
pub count_front : (bytes : List ℕ) (n : ℕ) → 16 ≤ n → count_at (take n bytes) ≡ count_at (take 16 bytes)
unfolding raw_avail_at i32_at u32_at
count_front bytes n le = ap (λ (xs : List ℕ). cast_signed w32 (number_of xs)) (piece 4 4 n bytes (omega arith) ∙ sym (piece 4 4 16 bytes (omega arith)))

-- so the block has its extents
pub front_fits : (bytes : List ℕ) (n : ℕ) → n ≡ front_size bytes → 16 ≤ n → n ≤ length bytes → avail_size (natural (count_at (take n bytes))) ≤ length (take n bytes)
front_fits bytes n e least le =
    let same : avail_size (natural (count_at (take n bytes))) ≡ front_size bytes = ap (λ (z : ℤ). avail_size (natural z)) (count_front bytes n least) in
    let size = length-take-le n bytes le in
    omega (arith, same, size, e)
