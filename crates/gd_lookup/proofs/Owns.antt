-- A candidate of a key, and its bytes in the file.
use Rattle.std.proofs.Common.{◌≡◌, ◌+◌, ◌-◌, ◌<◌, ◌≤◌, ℕ, true, false, List, ◌++◌, length, take, drop, sym, ap, ◌∙◌, arith}
use Rattle.std.specs.Prelude.{◌==◌}
use Rattle.std.specs.Str.{bytes_eq}
use Rattle.std.proofs.lemmas.Bool.Decides.{Decides-eqb}
use Rattle.std.proofs.lemmas.List.{take-take, drop-take, drop-drop}
use Rattle.std.proofs.lemmas.Slice.Eq.{bytes_eq-Decides}
use Rattle.gd_format.specs.declared.Slot.{Slot}
use Rattle.gd_format.specs.declared.Slot.TheVariants.{Full}
use Rattle.gd_format.specs.Field.{bytes_at}
use Rattle.gd_format.proofs.Firsts.{and-true}
use Rattle.gd_format.proofs.Pieces.{bytes_at-add, take-add}
use Rattle.gd_file_laws.proofs.Lists.{bool_cases}
use Rattle.gd_bucket.specs.Probing.{is_candidate}
use Rattle.gd_lookup.specs.Reading.{LiesIn}

pub candidate_size : (hash : ℕ) (key : List ℕ) (h : ℕ) (start : List ℕ) (at k v : ℕ) → is_candidate hash key (Full h start at k v) ≡ true → k ≡ length key
candidate_size hash key h start at k v e = (Decides-eqb k (length key)).0 (and-true (h == hash) _ (and-true _ _ e).0).1

-- the key of a candidate lies in the file
pub key_inside : (hash : ℕ) (key : List ℕ) (slot : Slot) (h : ℕ) (start : List ℕ) (at k v : ℕ) → slot ≡ Full h start at k v → is_candidate hash key slot ≡ true → (len : ℕ) → LiesIn len slot → 0 < length key → at + length key ≤ len
key_inside hash key slot h start at k v is candidate len lies some =
    let here : is_candidate hash key (Full h start at k v) ≡ true = rw is at candidate in
    let size = candidate_size hash key h start at k v here in
    let there : LiesIn len (Full h start at k v) = rw is at lies in
    let all = there (omega (arith, size, some)) in
    omega (arith, size, all)

-- one more piece of a key is read
pub piece_more : (file key : List ℕ) (at done n : ℕ) → bytes_at file at done ≡ take done key → bytes_at file (at + done) n ≡ take n (drop done key) → bytes_at file at (done + n) ≡ take (done + n) key
piece_more file key at done n before here =
    bytes_at-add file at done n ∙ ap (λ (xs : List ℕ). xs ++ bytes_at file (at + done) n) before ∙ ap (λ (xs : List ℕ). take done key ++ xs) here ∙ sym (take-add done n key)

-- the bytes of a piece behind its front
rest_of : (file : List ℕ) (at size n : ℕ) → n ≤ size → drop n (bytes_at file at size) ≡ bytes_at file (at + n) (size - n)
rest_of file at size n le =
    let whole : n + (size - n) ≡ size = omega arith in
    ap (λ (m : ℕ). drop n (take m (drop at file))) (sym whole) ∙ drop-take n (size - n) (drop at file) ∙ ap (take (size - n)) (drop-drop n at file)

not_equal : (xs ys : List ℕ) → (xs ≡ ys → ⊥) → bytes_eq xs ys ≡ false
not_equal xs ys h = bool_cases (bytes_eq xs ys) (λ t. absurd (h ((bytes_eq-Decides xs ys).0 t))) (λ f. f)

-- a piece that differs tells of the whole
pub whole_differs : (file key : List ℕ) (at done n : ℕ) → done + n ≤ length key → bytes_eq (bytes_at file (at + done) n) (take n (drop done key)) ≡ false → bytes_eq (bytes_at file at (length key)) key ≡ false
whole_differs file key at done n le e =
    not_equal (bytes_at file at (length key)) key
    (λ same.
    let part : bytes_at file (at + done) n ≡ take n (drop done key) =
    sym (take-take n (length key - done) (drop (at + done) file) (omega arith)) ∙ ap (take n) (sym (rest_of file at (length key) done (omega arith))) ∙ ap (λ (xs : List ℕ). take n (drop done xs)) same in
    let yes_ = (bytes_eq-Decides (bytes_at file (at + done) n) (take n (drop done key))).1 part in
    absurd (cc (yes_, e)))
