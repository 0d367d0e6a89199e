-- Pages of a source, and what of them waits.
use Rattle.std.proofs.Common.{◌≡◌, ◌∙◌, ap, sym, refl, ℕ, zero, suc, ◌+◌, ◌-◌, ◌≤◌, List, [], ◌∷◌, length, take, drop, ◌++◌, append_assoc, Option, Some, None, arith}
use Rattle.std.specs.Prelude.{option_map}
use Rattle.gd_dump_reading.specs.Told.{NoneEnds, Told, given_if}
use Rattle.gd_dump_reading.specs.declared.items.Item.{Item}
use Rattle.gd_load.specs.Items.{FeedsBy}
use Rattle.std.proofs.lemmas.List.{drop-drop, length-take, length-take-le}

pub take-less : (a b : ℕ) (xs : List ℕ) → a ≤ b → take a (take b xs) ≡ take a xs
take-less zero b xs le = refl
take-less (suc a) zero xs le = absurd (omega (arith, le))
take-less (suc a) (suc b) [] le = refl
take-less (suc a) (suc b) (x ∷ xs) le = ap (λ (t : List ℕ). x ∷ t) (take-less a b xs (omega (arith, le)))

take-nil : (k : ℕ) → take {A = ℕ} k [] ≡ []
take-nil zero = refl
take-nil (suc k) = refl

pub take-few : (k : ℕ) (xs : List ℕ) → k ≡ 0 → take k xs ≡ []
take-few zero xs none = refl
take-few (suc k) xs none = absurd (omega (arith, none))

drop-take : (t n : ℕ) (xs : List ℕ) → drop t (take n xs) ≡ take (n - t) (drop t xs)
drop-take zero n xs = ap (λ k. take k xs) (omega arith)
drop-take (suc t) zero xs = sym (take-few (0 - suc t) (drop (suc t) xs) (omega arith))
drop-take (suc t) (suc n) [] = sym (take-nil (suc n - suc t))
drop-take (suc t) (suc n) (x ∷ xs) = drop-take t n xs ∙ ap (λ k. take k (drop t xs)) (omega arith)

-- what waits behind some bytes of what waited
pub window-drop : (xs : List ℕ) (at end t : ℕ) → take (end - (at + t)) (drop (at + t) xs) ≡ drop t (take (end - at) (drop at xs))
window-drop xs at end t =
    sym (drop-take t (end - at) (drop at xs) ∙ ap (take (end - at - t)) (drop-drop t at xs) ∙ ap (λ k. take k (drop (at + t) xs)) (omega arith))

-- what a page gave, by cases
pub feeds-by : (f h reads : List ℕ → Told) (at end taken : ℕ) (item : Option Item) → (item ≡ None → (at ≡ end) × NoneEnds reads taken) → ((rest : List ℕ) → f rest ≡ given_if item taken (h rest)) → FeedsBy f h reads at end taken item
feeds-by f h reads at end taken None none feeds = (let all = none refl in all.0, let all = none refl in all.1, feeds)
feeds-by f h reads at end taken (Some item) none feeds = feeds

-- what was read into the front of a page waits there
pub taken-front : (n room : ℕ) (page : List ℕ) → n ≤ room → take n (take room page) ≡ take (n - 0) (drop 0 page)
taken-front n room page le = take-less n room page le ∙ ap (λ k. take k page) (omega arith)

pub taken-size : (n room : ℕ) (page : List ℕ) → n ≤ length (take room page) → length (take (n - 0) (drop 0 page)) ≡ n - 0
taken-size n room page le = length-take-le (n - 0) page (omega (arith, le, length-take room page))

pub waits-none : (at end : ℕ) (page : List ℕ) → at ≡ end → take (end - at) (drop at page) ≡ []
waits-none at end page is = take-few (end - at) (drop at page) (omega (arith, is))

pub front-none : (o : Option (List ℕ)) (xs : List ℕ) → xs ≡ [] → o ≡ option_map (λ (rest : List ℕ). xs ++ rest) o
front-none None xs is = refl
front-none (Some rest) xs is = ap (λ (t : List ℕ). Some (t ++ rest)) (sym is)

pub front-then : (a b o : Option (List ℕ)) (xs ys : List ℕ) → a ≡ option_map (λ (rest : List ℕ). xs ++ rest) b → b ≡ option_map (λ (rest : List ℕ). ys ++ rest) o
    → a ≡ option_map (λ (rest : List ℕ). (xs ++ ys) ++ rest) o
front-then a b None xs ys first second = first ∙ ap (option_map (λ (rest : List ℕ). xs ++ rest)) second
front-then a b (Some rest) xs ys first second = first ∙ ap (option_map (λ (rest : List ℕ). xs ++ rest)) second ∙ ap Some (sym (append_assoc xs ys rest))

pub told-some : (f : List ℕ → List ℕ) (o : Option (List ℕ)) (bytes : List ℕ) → option_map f o ≡ Some bytes → (x : List ℕ) × (o ≡ Some x) × (bytes ≡ f x)
told-some f None bytes is = absurd (cc)
told-some f (Some x) bytes is = (x, refl, cc)
