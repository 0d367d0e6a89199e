-- Bytes that are put behind others, member by member.
use Rattle.std.proofs.Common.{◌≡◌, ◌∙◌, ap, sym, refl, subst, ℕ, ◌+◌, ◌<◌, ◌≤◌, ◌^◌, Bool, true, false, ◌==◌, if◌then◌else◌, List, [], ◌∷◌, ◌++◌, length, get_or, drop, Result, Ok, Err}
use Rattle.std.specs.List.{list_any}
use Rattle.std.proofs.lemmas.List.{append-nil, append_assoc, drop_more, drop_all}
use Rattle.gd_types.specs.Encoding.{Appends, Refuses, before, member_bytes, one_bytes, word_bytes, words_after}
use Rattle.gd_types.specs.Members.{is_made_from, is_text, place_after}
use Rattle.gd_types.specs.Rows.{ZeroEnded}
use Rattle.gd_types.specs.declared.errors.EncodeError.{EncodeError}
use Rattle.gd_types.specs.declared.errors.EncodeError.TheVariants.{Typed, OutOfMemory}
use Rattle.gd_types.specs.declared.errors.TypeError.{TypeError}
use Rattle.gd_types.specs.declared.errors.TypeError.TheVariants.{Text}
use Rattle.gd_types.specs.declared.members.Member.{Member}
use Rattle.gd_types.proofs.Making.{cases_bool, fits-low, made-fits, made-rest, made-text}
use Rattle.std.proofs.Common.{inl, inr}

abbrev Bytes : Type 0
Bytes = Result (List ℕ) TypeError

same-ok : (xs ys : List ℕ) → ◌≡◌ {A = Bytes} (Ok xs) (Ok ys) → xs ≡ ys
same-ok xs ys h = cc

refused : (e : EncodeError) (xs ys : List ℕ) → Refuses e (Ok xs) → Refuses e (Ok ys)
refused (Typed e) xs ys h = cc
refused OutOfMemory xs ys h = h

-- bytes behind bytes that were put
pub appends-after : (r : Result (Unit {0}) EncodeError) (old middle new xs ys : List ℕ) → middle ≡ old ++ xs → Appends middle new r (Ok ys) → Appends old new r (Ok (xs ++ ys))
appends-after (Ok x) old middle new xs ys first (bytes, is, put) =
    (xs ++ ys, refl, put ∙ ap (λ t. t ++ bytes) first ∙ append_assoc old xs bytes ∙ ap (λ t. old ++ (xs ++ t)) (sym (same-ok ys bytes is)))
appends-after (Err e) old middle new xs ys first h = refused e ys (xs ++ ys) h

-- a text and the NUL that ends it
pub appends-zero : (r : Result (Unit {0}) EncodeError) (old middle new word : List ℕ) → list_any (λ b. b == 0) word ≡ false
    → ((bytes : List ℕ) × ◌≡◌ {A = Bytes} (Ok word) (Ok bytes) × (middle ≡ old ++ bytes)) → Appends middle new r (Ok (0 ∷ [])) → Appends old new r (word_bytes ZeroEnded word)
appends-zero r old middle new word none first h =
    let put = first.2 ∙ ap (λ t. old ++ t) (sym (same-ok word first.0 first.1)) in
    subst (λ (b : Bool). Appends old new r (if b then Err Text else Ok (word ++ 0 ∷ []))) (sym none) (appends-after r old middle new word (0 ∷ []) put h)

before-twice : (xs ys : List ℕ) (r : Result (List ℕ) TypeError) → before (Ok xs) (before (Ok ys) r) ≡ before (Ok (xs ++ ys)) r
before-twice xs ys (Ok zs) = ap Ok (sym (append_assoc xs ys zs))
before-twice xs ys (Err e) = refl

pub before-nothing : (r : Result (List ℕ) TypeError) → r ≡ before (Ok []) r
before-nothing (Ok xs) = refl
before-nothing (Err e) = refl

-- what is left to encode, behind what was encoded
pub record Encoded (members : List Member) (words : List (List ℕ)) (out : List ℕ) (at index : ℕ) (left : List (List ℕ)) : Type 0 where
  pub low : at ≤ 2 ^ 48
  pub made : is_made_from at (drop index members) ≡ true
  pub rest : member_bytes 0 members words ≡ before (Ok out) (member_bytes at (drop index members) left)

pub made-next : (at : ℕ) (m : Member) (ms : List Member) → is_made_from at (m ∷ ms) ≡ true → is_made_from (place_after at m) ms ≡ true
made-next at m ms h = elim (cases_bool (is_text m)) [
  | inl text ↦ ap (is_made_from (place_after at m)) (made-text at m ms text h)
  | inr plain ↦ made-rest at m ms plain h
]

module _ (members : List Member) (words : List (List ℕ)) (out : List ℕ) (at index : ℕ) (left : List (List ℕ)) (d : Member)
    (so_far : Encoded members words out at index left) (inside : index < length members) where
  split : drop index members ≡ get_or members index d ∷ drop (index + 1) members
  split = drop_more members index d inside

  next : is_made_from at (get_or members index d ∷ drop (index + 1) members) ≡ true
  next = ap (is_made_from at) (sym split) ∙ so_far.made

  pub encoded-more : (new bytes : List ℕ) (now : ℕ) (rest : List (List ℕ)) → one_bytes at (get_or members index d) left ≡ Ok bytes → new ≡ out ++ bytes
      → now ≡ place_after at (get_or members index d) → rest ≡ words_after (get_or members index d) left → Encoded members words new now (index + 1) rest
  encoded-more new bytes now rest one put place words_left =
      let m = get_or members index d in
      let tail = member_bytes (place_after at m) (drop (index + 1) members) (words_after m left) in
      rw (put, place, words_left) (record {
        low = fits-low at m (made-fits at m (drop (index + 1) members) next);
        made = made-next at m (drop (index + 1) members) next;
        rest = so_far.rest ∙ ap (λ (ms : List Member). before (Ok out) (member_bytes at ms left)) split
            ∙ ap (λ (r : Result (List ℕ) TypeError). before (Ok out) (before r tail)) one ∙ before-twice out bytes tail;
      })

  pub encoded-error : (e : EncodeError) → Refuses e (one_bytes at (get_or members index d) left) → Refuses e (member_bytes 0 members words)
  encoded-error OutOfMemory h = h
  encoded-error (Typed e) h =
      let m = get_or members index d in
      let tail = member_bytes (place_after at m) (drop (index + 1) members) (words_after m left) in
      so_far.rest ∙ ap (λ (ms : List Member). before (Ok out) (member_bytes at ms left)) split ∙ ap (λ (r : Result (List ℕ) TypeError). before (Ok out) (before r tail)) h

pub encoded-all : (members : List Member) (words : List (List ℕ)) (out : List ℕ) (at index : ℕ) (left : List (List ℕ)) → Encoded members words out at index left → length members ≤ index
    → member_bytes 0 members words ≡ Ok out
encoded-all members words out at index left so_far all =
    so_far.rest ∙ ap (λ (ms : List Member). before (Ok out) (member_bytes at ms left)) (drop_all index members all) ∙ ap Ok (append-nil out)
