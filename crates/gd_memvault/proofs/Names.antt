-- Entries of names.
use Rattle.std.proofs.Common.{◌≡◌, ◌≢◌, ◌⊎◌, inl, inr, ⊎_elim, ◌∙◌, ap, sym, refl, Decides, ℕ, ◌+◌, ◌<◌, Bool, true, false, cond, List, [], ◌∷◌, ◌++◌, take, length, Option, None, get_or}
use Rattle.std.specs.Str.{bytes_eq}
use Rattle.std.proofs.lemmas.Slice.Eq.{bytes_eq-Decides}
use Rattle.std.proofs.lemmas.Bool.Decides.{not_from_Decides}
use Rattle.std.proofs.lemmas.List.{take_more}
use Rattle.gd_memvault.specs.declared.disk.NameEntry.{NameEntry}
use Rattle.gd_memvault.specs.Disk.{id_after, names_of}

after_append : (n : List ℕ) (id : Option ℕ) (xs ys : List NameEntry) → id_after n id (xs ++ ys) ≡ id_after n (id_after n id xs) ys
after_append n id [] ys = refl
after_append n id (x ∷ xs) ys = after_append n (cond (bytes_eq x.name n) x.id id) xs ys

-- one entry more
pub names_push : (n : List ℕ) (xs : List NameEntry) (e : NameEntry) → names_of (xs ++ e ∷ []) n ≡ cond (bytes_eq e.name n) e.id (names_of xs n)
names_push n xs e = after_append n None xs (e ∷ [])

decided_same : (xs ys : List ℕ) (b : Bool) → Decides b (xs ≡ ys) → xs ≡ ys → b ≡ true
decided_same xs ys true d is = refl
decided_same xs ys false d is = absurd (not_from_Decides false d refl is)

decided_other : (xs ys : List ℕ) (b : Bool) → Decides b (xs ≡ ys) → xs ≢ ys → b ≡ false
decided_other xs ys true d not = absurd (not (d.0 refl))
decided_other xs ys false d not = refl

pub names_here : (n : List ℕ) (xs : List NameEntry) (e : NameEntry) → e.name ≡ n → names_of (xs ++ e ∷ []) n ≡ e.id
names_here n xs e is = names_push n xs e ∙ ap (λ b. cond b e.id (names_of xs n)) (decided_same e.name n (bytes_eq e.name n) (bytes_eq-Decides e.name n) is)

pub names_others : (n : List ℕ) (xs : List NameEntry) (e : NameEntry) → e.name ≢ n → names_of (xs ++ e ∷ []) n ≡ names_of xs n
names_others n xs e not = names_push n xs e ∙ ap (λ b. cond b e.id (names_of xs n)) (decided_other e.name n (bytes_eq e.name n) (bytes_eq-Decides e.name n) not)

-- the next entry of a search
pub names_next : (n : List ℕ) (xs : List NameEntry) (i : ℕ) (e : NameEntry) (found : Option ℕ) → i < length xs → e ≡ get_or xs i e → found ≡ names_of (take i xs) n → cond (bytes_eq e.name n) e.id found ≡ names_of (take (i + 1) xs) n
names_next n xs i e found lt is so_far =
    ap (cond (bytes_eq e.name n) e.id) so_far ∙ sym (names_push n (take i xs) e) ∙ ap (λ (x : NameEntry). names_of (take i xs ++ x ∷ []) n) is ∙ sym (ap (λ l. names_of l n) (take_more xs i e lt))

pub differ : (xs ys : List ℕ) (b : Bool) → b ≡ bytes_eq xs ys → b ≡ false → xs ≢ ys
differ xs ys b is unequal same =
    let yes : bytes_eq xs ys ≡ true = decided_same xs ys (bytes_eq xs ys) (bytes_eq-Decides xs ys) same in
    let wrong : true ≡ false = sym yes ∙ sym is ∙ unequal in
    cc

pub decided : (xs ys : List ℕ) (b : Bool) → Decides b (xs ≡ ys) → (xs ≡ ys) ⊎ (xs ≢ ys)
decided xs ys true d = inl (d.0 refl)
decided xs ys false d = inr (not_from_Decides false d refl)

-- a name that was chosen anew stands for what it did before, or for what it does after
pub chosen : (name : List ℕ) (id : Option ℕ) (old new after : List NameEntry) → new ≡ old ++ (record { name = name; id = id }) ∷ [] → id ≡ names_of after name → (n : List ℕ) → (names_of new n ≡ names_of old n) ⊎ (names_of new n ≡ names_of after n)
chosen name id old new after is there n =
    let e : NameEntry = record { name = name; id = id } in
    ⊎_elim
    (λ (same : name ≡ n). inr (ap (λ l. names_of l n) is ∙ names_here n old e same ∙ there ∙ ap (names_of after) same))
    (λ (other : name ≢ n). inl (ap (λ l. names_of l n) is ∙ names_others n old e other))
    (decided name n (bytes_eq name n) (bytes_eq-Decides name n))

-- two choices in a row
pub chosen_twice : (old one two after : List NameEntry) → ((n : List ℕ) → (names_of one n ≡ names_of old n) ⊎ (names_of one n ≡ names_of after n)) → ((n : List ℕ) → (names_of two n ≡ names_of one n) ⊎ (names_of two n ≡ names_of after n)) → (n : List ℕ) → (names_of two n ≡ names_of old n) ⊎ (names_of two n ≡ names_of after n)
chosen_twice old one two after first second n =
    ⊎_elim
    (λ (same : names_of two n ≡ names_of one n). ⊎_elim (λ (s : names_of one n ≡ names_of old n). inl (same ∙ s)) (λ (s : names_of one n ≡ names_of after n). inr (same ∙ s)) (first n))
    (λ (anew : names_of two n ≡ names_of after n). inr anew)
    (second n)
