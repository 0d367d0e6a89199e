-- What buckets hold, one after another.
use Rattle.std.proofs.Common.{◌≡◌, ℕ, suc, ◌+◌, ◌<◌, Bool, true, false, List, [], ◌∷◌, ◌++◌, length, map, take, drop, drop-cons, get_or, Option, Some, None, refl, sym, ap, ◌∙◌, append_assoc, arith}
use Rattle.std.specs.List.{All, flat_map, filter, range_with_len}
use Rattle.std.proofs.lemmas.List.{take_more, append-nil, take-append-drop}
use Rattle.std.proofs.lemmas.Grind.{flat_map-append}
use Rattle.gd_base.specs.declared.errors.DbError.{DbError}
use Rattle.gd_base.specs.declared.errors.DbError.TheVariants.{BadAvail}
use Rattle.gd_format.specs.declared.Header.{Header}
use Rattle.gd_format.specs.declared.Held.{Held}
use Rattle.gd_format.specs.First.{first_some, all_below, or_else}
use Rattle.gd_format.specs.Field.{bytes_at}
use Rattle.gd_format.specs.HeaderFault.{natural, is_within}
use Rattle.gd_format.specs.Bucket.{counts_at, free_at}
use Rattle.gd_format.specs.Sound.{free_held, held_by, is_free_right, record_held, records_held, takes_place}
use Rattle.gd_verify.specs.Fronts.{is_free_right_at}
use Rattle.gd_verify.specs.Known.{HasBucket, free_fault_at}

-- ---- one bucket

module _ (file block : List ℕ) (h : Header) (a : ℕ) (read : block ≡ bytes_at file a h.block) where
  pub free_is_right : (b : Bool) → HasBucket file h a → (is_within (counts_at block).free 0 6 ≡ true → b ≡ all_below (natural (counts_at block).free) (is_free_right_at block)) → b ≡ is_free_right file h a
  unfolding is_free_right
  free_is_right b has right =
      let within : is_within (counts_at block).free 0 6 ≡ true = rw read has.free in
      right within ∙ ap (λ (xs : List ℕ). all_below (natural (counts_at xs).free) (is_free_right_at xs)) read

  pub records_are : (old new : List Held) → new ≡ old ++ map (record_held block) (filter (takes_place block) (range_with_len 0 h.elems)) → new ≡ old ++ records_held file h a
  unfolding records_held
  records_are old new e = e ∙ ap (λ (xs : List ℕ). old ++ map (record_held xs) (filter (takes_place xs) (range_with_len 0 h.elems))) read

  pub free_are : (old new : List Held) → new ≡ old ++ map (held_by a) (free_at block (natural (counts_at block).free)) → new ≡ old ++ free_held file h a
  unfolding free_held
  free_are old new e = e ∙ ap (λ (xs : List ℕ). old ++ map (held_by a) (free_at xs (natural (counts_at xs).free))) read

-- ---- one bucket after another

first_some_step : (o rest more last : Option DbError) → or_else o rest ≡ None → (rest ≡ None → more ≡ last) → or_else o more ≡ last
first_some_step (Some e) rest more last none f = absurd cc
first_some_step None rest more last none f = f none

split_at : (xs : List ℕ) (i d : ℕ) → i < length xs → xs ≡ take i xs ++ get_or xs i d ∷ drop (i + 1) xs
split_at xs i d lt = let next : i + 1 ≡ suc i = omega arith in sym (take-append-drop i xs) ∙ ap (λ (ys : List ℕ). take i xs ++ ys) (rw next (drop-cons xs i d lt))

first_some-append : (g : ℕ → Option DbError) (xs ys : List ℕ) → first_some (map g xs) ≡ None → first_some (map g (xs ++ ys)) ≡ first_some (map g ys)
first_some-append g [] ys none = refl
first_some-append g (x ∷ xs) ys none = first_some_step (g x) (first_some (map g xs)) (first_some (map g (xs ++ ys))) (first_some (map g ys)) none (first_some-append g xs ys)

module _ (file : List ℕ) (h : Header) (places : List ℕ) (i d : ℕ) (lt : i < length places) where
  pub bucket_at : All (HasBucket file h) places → HasBucket file h (get_or places i d)
  bucket_at all = all i d lt

  pub none_more : first_some (map (free_fault_at file h) (take i places)) ≡ None → is_free_right file h (get_or places i d) ≡ true → first_some (map (free_fault_at file h) (take (i + 1) places)) ≡ None
  none_more none right =
      ap (λ (xs : List ℕ). first_some (map (free_fault_at file h) xs)) (take_more places i d lt)
      ∙ first_some-append (free_fault_at file h) (take i places) (get_or places i d ∷ []) none ∙ rw right refl

  pub found : first_some (map (free_fault_at file h) (take i places)) ≡ None → is_free_right file h (get_or places i d) ≡ false → first_some (map (free_fault_at file h) places) ≡ Some (BadAvail (get_or places i d))
  found none wrong =
      ap (λ (xs : List ℕ). first_some (map (free_fault_at file h) xs)) (split_at places i d lt)
      ∙ first_some-append (free_fault_at file h) (take i places) (get_or places i d ∷ drop (i + 1) places) none ∙ rw wrong refl

  pub flat_more : (g : ℕ → List Held) (old list next : List Held) → list ≡ old ++ flat_map g (take i places) → next ≡ list ++ g (get_or places i d) → next ≡ old ++ flat_map g (take (i + 1) places)
  flat_more g old list next e is =
      is ∙ ap (λ (xs : List Held). xs ++ g (get_or places i d)) e ∙ append_assoc old (flat_map g (take i places)) (g (get_or places i d))
      ∙ ap (λ (xs : List Held). old ++ xs) (sym (ap (flat_map g) (take_more places i d lt) ∙ flat_map-append g (take i places) (get_or places i d ∷ []) ∙ ap (λ (xs : List Held). flat_map g (take i places) ++ xs) (append-nil (g (get_or places i d)))))
