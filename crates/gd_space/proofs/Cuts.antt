-- What is left after a cut.
use Rattle.std.proofs.Common.{◌≡◌, ℕ, ◌+◌, ◌-◌, ◌<◌, List, [], ◌∷◌, ◌++◌, ◌^◌, length, get_or, sym, ap, subst, ◌∙◌, arith}
use Rattle.std.specs.List.{AllByRecursion, remove}
use Rattle.gd_format.specs.declared.Extent.{Extent}
use Rattle.gd_format.specs.Covers.{cover, size_sum}
use Rattle.gd_format.specs.Sound.{extent}
use Rattle.gd_format.specs.FreeSide.{IsBelow}
use Rattle.gd_space.specs.Lists.{Cut, Served, Step, Split}
use Rattle.gd_format.proofs.Covers.{cover-remove, size_sum-remove, cover-append, size_sum-append, all-append, cover-split}
use Rattle.gd_space.proofs.Elements.{all-at, all-remove, lies-in, lies-left, lies-right}

pub cut_whole : (d e : Extent) (next : ℕ) (xs : List Extent) (i n : ℕ) → i < length xs → e ≡ get_or xs i d → e.size ≡ n → AllByRecursion (IsBelow next) xs → Cut next xs (remove xs i) e.at n
cut_whole d e next xs i n h is whole below =
    let same : extent e.at n ≡ get_or xs i d = ap (extent e.at) (sym whole) ∙ is in
    record {
      bytes = λ b. ap (λ (x : Extent). cover (remove xs i) b + cover (x ∷ []) b) same ∙ cover-remove d xs i b h;
      sum = ap (λ (x : ℕ). size_sum (remove xs i) + x) (sym whole ∙ ap (λ (x : Extent). x.size) is) ∙ size_sum-remove d xs i h;
      below = all-remove (IsBelow next) xs i below;
      inside = lies-in d _ xs i h (rw (← same) (record { start = omega arith; ends = omega arith }));
    }

pub cut_part : (d e r : Extent) (next : ℕ) (xs : List Extent) (i n : ℕ) → next < 2 ^ 63 → i < length xs → e ≡ get_or xs i d → 0 < n → n < e.size → r.size ≡ e.size - n → (e.at + n < 2 ^ 63 → r.at ≡ e.at + n) → AllByRecursion (IsBelow next) xs → Cut next xs (remove xs i ++ r ∷ []) e.at n
cut_part d e r next xs i n lt h is some part size where_ below =
    let old : IsBelow next e = rw is (all-at d (IsBelow next) xs i h below) in
    let fits = old.fits in
    let ends = old.ends in
    let there : r.at ≡ e.at + n = where_ (omega arith) in
    record {
      bytes =
          λ b.
          let one = cover-remove d xs i b h in
          let app = cover-append (remove xs i) (r ∷ []) b in
          let whole : n + r.size ≡ e.size = omega arith in
          let two : cover (extent e.at e.size ∷ []) b ≡ cover (extent e.at n ∷ []) b + cover (r ∷ []) b =
          ap (λ (k : ℕ). cover (extent e.at k ∷ []) b) (sym whole) ∙ cover-split e.at n r.size b ∙ ap (λ (k : ℕ). cover (extent e.at n ∷ []) b + cover (extent k r.size ∷ []) b) (sym there) in
          let got : cover (get_or xs i d ∷ []) b ≡ cover (extent e.at e.size ∷ []) b = ap (λ (x : Extent). cover (x ∷ []) b) (sym is) in
          omega (arith, one, two, got, app);
      sum = let s = size_sum-remove d xs i h in let t = size_sum-append (remove xs i) (r ∷ []) in let whole : (get_or xs i d).size ≡ e.size = ap (λ (x : Extent). x.size) (sym is) in omega (arith, s, t, whole);
      below = all-append (IsBelow next) (remove xs i) (r ∷ []) (all-remove (IsBelow next) xs i below) (record { start = omega arith; some = omega arith; fits = omega arith; ends = omega arith }, tt);
      inside = lies-in d _ xs i h (rw (← is) (record { start = omega arith; ends = omega arith }));
    }

pub served_bucket : (next : ℕ) (table bucket bucket' : List Extent) (at n : ℕ) → AllByRecursion (IsBelow next) table → Cut next bucket bucket' at n → Served next table bucket table bucket' at n
served_bucket next table bucket bucket' at n below c = record {
  step = record {
    bytes = λ b. (let e = c.bytes b in omega (arith, e));
    sum = let e = c.sum in omega (arith, e);
    table_below = below;
    bucket_below = c.below;
  };
  inside = lies-right _ table bucket c.inside;
}

pub served_table : (next : ℕ) (table bucket table' : List Extent) (at n : ℕ) → AllByRecursion (IsBelow next) bucket → Cut next table table' at n → Served next table bucket table' bucket at n
served_table next table bucket table' at n below c = record {
  step = record {
    bytes = λ b. (let e = c.bytes b in omega (arith, e));
    sum = let e = c.sum in omega (arith, e);
    table_below = c.below;
    bucket_below = below;
  };
  inside = lies-left _ table bucket c.inside;
}

pub put_bucket : (next : ℕ) (table bucket : List Extent) (e : Extent) → IsBelow next e → AllByRecursion (IsBelow next) table → AllByRecursion (IsBelow next) bucket → Step next table bucket table (bucket ++ e ∷ []) (e ∷ []) []
put_bucket next table bucket e new below bucket_below = record {
  bytes = λ b. (let h = cover-append bucket (e ∷ []) b in omega (arith, h));
  sum = let h = size_sum-append bucket (e ∷ []) in omega (arith, h);
  table_below = below;
  bucket_below = all-append (IsBelow next) bucket (e ∷ []) bucket_below (new, tt);
}

pub put_table : (next : ℕ) (table bucket : List Extent) (e : Extent) → IsBelow next e → AllByRecursion (IsBelow next) table → AllByRecursion (IsBelow next) bucket → Step next table bucket (table ++ e ∷ []) bucket (e ∷ []) []
put_table next table bucket e new below bucket_below = record {
  bytes = λ b. (let h = cover-append table (e ∷ []) b in omega (arith, h));
  sum = let h = size_sum-append table (e ∷ []) in omega (arith, h);
  table_below = all-append (IsBelow next) table (e ∷ []) below (new, tt);
  bucket_below = bucket_below;
}

pub step_bucket : (next : ℕ) (table bucket bucket' : List Extent) (at n : ℕ) → AllByRecursion (IsBelow next) table → Cut next bucket bucket' at n → Step next table bucket table bucket' [] (extent at n ∷ [])
step_bucket next table bucket bucket' at n below c = (served_bucket next table bucket bucket' at n below c).step

pub step_table : (next : ℕ) (table bucket table' : List Extent) (at n : ℕ) → AllByRecursion (IsBelow next) bucket → Cut next table table' at n → Step next table bucket table' bucket [] (extent at n ∷ [])
step_table next table bucket table' at n below c = (served_table next table bucket table' at n below c).step

pub split_none : (next : ℕ) (xs ys : List Extent) → ys ≡ [] → AllByRecursion (IsBelow next) xs → Split next xs xs ys
split_none next xs ys none below =
    subst (λ (y : List Extent). Split next xs xs y) (sym none) (record { bytes = λ b. (omega arith); sum = omega arith; one_below = below; two_below = tt })

-- one more extent moves
pub split_more : (d e : Extent) (next : ℕ) (old xs ys xs' ys' : List Extent) (i : ℕ) → i < length xs → e ≡ get_or xs i d → xs' ≡ remove xs i → ys' ≡ ys ++ e ∷ [] → Split next old xs ys → Split next old xs' ys'
split_more d e next old xs ys xs' ys' i lt is one two s =
    let here : IsBelow next e = rw is (all-at d (IsBelow next) xs i lt s.one_below) in
    subst (λ (x : List Extent). Split next old x ys') (sym one) (subst (λ (y : List Extent). Split next old (remove xs i) y) (sym two)
    (record {
      bytes = λ b. (let o = s.bytes b in let r = cover-remove d xs i b lt in let a = cover-append ys (e ∷ []) b in let g = ap (λ (x : Extent). cover (x ∷ []) b) is in omega (arith, o, r, a, g));
      sum = let o = s.sum in let r = size_sum-remove d xs i lt in let a = size_sum-append ys (e ∷ []) in let g = ap (λ (x : Extent). x.size) is in omega (arith, o, r, a, g);
      one_below = all-remove (IsBelow next) xs i s.one_below;
      two_below = all-append (IsBelow next) ys (e ∷ []) s.two_below (here, tt);
    }))
