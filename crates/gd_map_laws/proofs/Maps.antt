-- The finite map of a list of pairs, and its look-ups.
use Rattle.std.proofs.Common.{◌≡◌, ℕ, Bool, cond, List, [], ◌∷◌, Some, None, sym, ap, ◌∙◌}
use Rattle.std.specs.Ordering.{nat_cmp}
use Rattle.std.specs.Cmp.Lexicographic.{slice_cmp}
use Rattle.std.specs.FinMap.{FinMap, get, insert, remove, get-insert, get-remove, get-empty, same_map, slice_cmp-IsAntisymmetric, nat_cmp-IsAntisymmetric}
use Rattle.std.specs.Str.{bytes_eq}
use Rattle.std.proofs.lemmas.Cmp.{nat_list_cmp_total}
use Rattle.std.proofs.lemmas.Map.Text.{is_eq-slice_cmp}
use Rattle.std.proofs.lemmas.Slice.Eq.{bytes_eq-Decides}
use Rattle.gd_file_laws.proofs.Lists.{bool_cases}
use Rattle.gd_map_laws.specs.Lookup.{lookup}
use Rattle.gd_map_laws.specs.Maps.{pair_map}

bytes_turned : (xs ys : List ℕ) → bytes_eq xs ys ≡ bytes_eq ys xs
bytes_turned xs ys =
    bool_cases (bytes_eq xs ys)
    (λ t. t ∙ sym ((bytes_eq-Decides ys xs).1 (sym ((bytes_eq-Decides xs ys).0 t))))
    (λ f. bool_cases (bytes_eq ys xs) (λ u. let v = (bytes_eq-Decides xs ys).1 (sym ((bytes_eq-Decides ys xs).0 u)) in absurd (cc (f, v))) (λ g. f ∙ sym g))

pub by_lookup : (pairs : List (List ℕ × List ℕ)) (key : List ℕ) → get (pair_map pairs) key ≡ lookup key pairs
by_lookup [] key = get-empty (slice_cmp nat_cmp) key
by_lookup (p ∷ pairs) key =
    get-insert nat_list_cmp_total (pair_map pairs) p.0 p.1 key
    ∙ ap (λ (b : Bool). cond b (Some p.1) (get (pair_map pairs) key)) (is_eq-slice_cmp key p.0 ∙ bytes_turned key p.0)
    ∙ ap (cond (bytes_eq p.0 key) (Some p.1)) (by_lookup pairs key)

one_map : (m n : FinMap (slice_cmp nat_cmp) (List ℕ)) → ((k : List ℕ) → get m k ≡ get n k) → m ≡ n
one_map m n e = same_map nat_list_cmp_total (slice_cmp-IsAntisymmetric nat_cmp-IsAntisymmetric) m n e

pub same_maps : (old new : List (List ℕ × List ℕ)) → ((k : List ℕ) → lookup k new ≡ lookup k old) → pair_map new ≡ pair_map old
same_maps old new e = one_map (pair_map new) (pair_map old) (λ k. by_lookup new k ∙ e k ∙ sym (by_lookup old k))

pub map_with : (old new : List (List ℕ × List ℕ)) (key value : List ℕ) → ((k : List ℕ) → lookup k new ≡ cond (bytes_eq key k) (Some value) (lookup k old)) → pair_map new ≡ insert (pair_map old) key value
map_with old new key value e =
    one_map (pair_map new) (insert (pair_map old) key value)
    (λ k.
    by_lookup new k ∙ e k ∙ ap (cond (bytes_eq key k) (Some value)) (sym (by_lookup old k))
    ∙ ap (λ (b : Bool). cond b (Some value) (get (pair_map old) k)) (bytes_turned key k ∙ sym (is_eq-slice_cmp k key))
    ∙ sym (get-insert nat_list_cmp_total (pair_map old) key value k))

pub map_without : (old new : List (List ℕ × List ℕ)) (key : List ℕ) → ((k : List ℕ) → lookup k new ≡ cond (bytes_eq key k) None (lookup k old)) → pair_map new ≡ remove (pair_map old) key
map_without old new key e =
    one_map (pair_map new) (remove (pair_map old) key)
    (λ k.
    by_lookup new k ∙ e k ∙ ap (cond (bytes_eq key k) None) (sym (by_lookup old k))
    ∙ ap (λ (b : Bool). cond b None (get (pair_map old) k)) (bytes_turned key k ∙ sym (is_eq-slice_cmp k key))
    ∙ sym (get-remove nat_list_cmp_total (pair_map old) key k))
