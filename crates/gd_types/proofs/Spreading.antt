-- Texts that are put one after another.
use Rattle.std.proofs.Common.{◌≡◌, ◌∙◌, ap, sym, refl, subst, ℕ, ◌+◌, ◌<◌, ◌≤◌, ◌==◌, ◌^◌, ◌&&◌, nat_le, not, Bool, true, false, if◌then◌else◌, List, [], ◌∷◌, ◌++◌, length, get_or, take, drop, Some, None, arith}
use Rattle.std.specs.List.{flat_map}
use Rattle.std.proofs.lemmas.List.{append-nil, append_assoc, drop_all, drop_more, take_more, take-append-drop}
use Rattle.std.proofs.lemmas.Bool.Decides.{nat_tests}
use Rattle.gd_types.specs.Decoding.{kind_text, member_text, zero_fault}
use Rattle.gd_types.specs.Members.{fits_at, goes_on, is_made_from, is_row, is_within, place_after, placed, reached, reached_from}
use Rattle.gd_types.specs.Rows.{kind_of}
use Rattle.gd_types.specs.declared.members.Member.{Member}
use Rattle.gd_types.specs.declared.members.Member.TheVariants.{Row, Float, Double, Off, Pad}
use Rattle.gd_types.proofs.Appending.{made-next}
use Rattle.gd_types.proofs.Making.{and-left, and-right, fits-low, made-fits}
use Rattle.gd_types.specs.Printing.{joined, lead_of, printed, printed_byte, spread}
use Rattle.gd_types.specs.declared.errors.TypeError.TheVariants.{Trailing}

pub flat-append : {X : Type 0} (f : X → List ℕ) (xs ys : List X) → flat_map f (xs ++ ys) ≡ flat_map f xs ++ flat_map f ys
flat-append f [] ys = refl
flat-append f (x ∷ xs) ys = ap (λ t. f x ++ t) (flat-append f xs ys) ∙ sym (append_assoc (f x) (flat_map f xs) (flat_map f ys))

-- the first bytes, one more, and those behind it
pub printed-split : (bytes : List ℕ) (i : ℕ) → i < length bytes → printed bytes ≡ printed (take i bytes) ++ (printed_byte (get_or bytes i 0) ++ printed (drop (i + 1) bytes))
printed-split bytes i inside =
    ap printed (sym (take-append-drop i bytes)) ∙ flat-append printed_byte (take i bytes) (drop i bytes)
    ∙ ap (λ (t : List ℕ). printed (take i bytes) ++ printed t) (drop_more bytes i 0 inside)

pub printed-more : (bytes : List ℕ) (i : ℕ) → i < length bytes → printed (take i bytes) ++ printed_byte (get_or bytes i 0) ≡ printed (take (i + 1) bytes)
printed-more bytes i inside =
    sym (ap printed (take_more bytes i 0 inside) ∙ flat-append printed_byte (take i bytes) (get_or bytes i 0 ∷ [])
    ∙ ap (λ t. printed (take i bytes) ++ t) (append-nil (printed_byte (get_or bytes i 0))))

-- the first NUL
zero-here : (b : ℕ) (bytes : List ℕ) → b ≡ 0 → zero_fault (b ∷ bytes) ≡ (if length bytes == 0 then None else Some Trailing)
zero-here b bytes h = rw h refl

pub zero-found : (bytes : List ℕ) (i : ℕ) → i < length bytes → zero_fault bytes ≡ zero_fault (drop i bytes) → get_or bytes i 0 ≡ 0
    → zero_fault bytes ≡ (if length (drop (i + 1) bytes) == 0 then None else Some Trailing)
zero-found bytes i inside so_far zero =
    so_far ∙ ap zero_fault (drop_more bytes i 0 inside) ∙ zero-here (get_or bytes i 0) (drop (i + 1) bytes) zero

-- one value, with what stands before it
pub one-value : (lead text : List ℕ) → lead ++ text ≡ flat_map (λ t. lead ++ t) (text ∷ [])
one-value lead text = sym (append-nil (lead ++ text))

-- the texts of one member, and of those behind it
pub spread-member : (first : Bool) (delim : List ℕ) (bytes : List ℕ) (m : Member) (at : ℕ) (texts : List (List ℕ))
    → spread first delim (member_text bytes (m, at) ++ texts) ≡ flat_map (λ t. lead_of first delim ++ t) (member_text bytes (m, at)) ++ spread (first && not (is_row m)) delim texts
spread-member true delim bytes (Row row) at texts = ap (λ t. t ++ flat_map (λ (u : List ℕ). delim ++ u) texts) (sym (append-nil (kind_text (kind_of row) (drop at bytes))))
spread-member false delim bytes (Row row) at texts =
    let text = kind_text (kind_of row) (drop at bytes) in
    ap (λ t. t ++ flat_map (λ (u : List ℕ). delim ++ u) texts) (sym (append-nil (delim ++ text)))
spread-member true delim bytes Float at texts = refl
spread-member true delim bytes Double at texts = refl
spread-member true delim bytes (Off place) at texts = refl
spread-member true delim bytes (Pad count) at texts = refl
spread-member false delim bytes Float at texts = refl
spread-member false delim bytes Double at texts = refl
spread-member false delim bytes (Off place) at texts = refl
spread-member false delim bytes (Pad count) at texts = refl

pub text-at : (lead bytes : List ℕ) (m : Member) (row at : ℕ) (value : List ℕ) → m ≡ Row row → value ≡ kind_text (kind_of row) (drop at bytes)
    → lead ++ value ≡ flat_map (λ t. lead ++ t) (member_text bytes (m, at))
text-at lead bytes m row at value is same =
    rw is (ap (λ t. lead ++ t) same ∙ one-value lead (kind_text (kind_of row) (drop at bytes)))

-- the places do not fall
pub fits-up : (at : ℕ) (m : Member) → fits_at at m ≡ true → at ≤ place_after at m
fits-up at (Row row) h = omega arith
fits-up at Float h = omega arith
fits-up at Double h = omega arith
fits-up at (Off place) h =
    let goes = and-right (is_within (Off place)) (goes_on at (Off place)) (and-left (is_within (Off place) && goes_on at (Off place)) (nat_le place (2 ^ 48)) h) in
    grind (arith, nat_tests)
fits-up at (Pad count) h = omega arith

pub reached-up : (at : ℕ) (ms : List Member) → is_made_from at ms ≡ true → at ≤ reached_from at ms
reached-up at [] h = omega arith
reached-up at (m ∷ ms) h =
    let here = fits-up at m (made-fits at m ms h) in
    let rest = reached-up (place_after at m) ms (made-next at m ms h) in
    omega (arith, here, rest)

-- what is left to print, behind what was printed
pub record Printed (members : List Member) (bytes delim : List ℕ) (at index : ℕ) (first : Bool) (front : List ℕ) : Type 0 where
  pub low : at ≤ 2 ^ 48
  pub made : is_made_from at (drop index members) ≡ true
  pub long : reached_from at (drop index members) ≤ length bytes
  pub rest : joined delim (flat_map (member_text bytes) (placed 0 members)) ≡ front ++ spread first delim (flat_map (member_text bytes) (placed at (drop index members)))

pub printed-none : (members : List Member) (bytes delim : List ℕ) → is_made_from 0 members ≡ true → reached members ≤ length bytes → Printed members bytes delim 0 0 true []
printed-none members bytes delim made long = record { low = omega arith; made = made; long = long; rest = refl }

module _ (members : List Member) (bytes delim : List ℕ) (at index : ℕ) (first : Bool) (front : List ℕ) (d : Member)
    (so_far : Printed members bytes delim at index first front) (inside : index < length members) where
  split : drop index members ≡ get_or members index d ∷ drop (index + 1) members
  split = drop_more members index d inside

  next : is_made_from at (get_or members index d ∷ drop (index + 1) members) ≡ true
  next = ap (is_made_from at) (sym split) ∙ so_far.made

  long_next : reached_from (place_after at (get_or members index d)) (drop (index + 1) members) ≤ length bytes
  long_next = subst (λ (ms : List Member). reached_from at ms ≤ length bytes) split so_far.long

  pub printed-here : at ≤ length bytes
  printed-here =
      let up = reached-up at (drop index members) so_far.made in
      let long = so_far.long in
      omega (arith, up, long)

  pub printed-room : place_after at (get_or members index d) ≤ length bytes
  printed-room =
      let up = reached-up (place_after at (get_or members index d)) (drop (index + 1) members) (made-next at (get_or members index d) (drop (index + 1) members) next) in
      omega (arith, up, long_next)

  -- the text of one more member, and what is behind it
  pub printed-split-member : joined delim (flat_map (member_text bytes) (placed 0 members))
      ≡ front ++ (flat_map (λ t. lead_of first delim ++ t) (member_text bytes (get_or members index d, at))
      ++ spread (first && not (is_row (get_or members index d))) delim (flat_map (member_text bytes) (placed (place_after at (get_or members index d)) (drop (index + 1) members))))
  printed-split-member =
      let m = get_or members index d in
      so_far.rest ∙ ap (λ (ms : List Member). front ++ spread first delim (flat_map (member_text bytes) (placed at ms))) split
      ∙ ap (λ t. front ++ t) (spread-member first delim bytes m at (flat_map (member_text bytes) (placed (place_after at m) (drop (index + 1) members))))

  pub printed-next : (now : ℕ) (still : Bool) → now ≡ place_after at (get_or members index d) → still ≡ first && not (is_row (get_or members index d))
      → Printed members bytes delim now (index + 1) still (front ++ flat_map (λ t. lead_of first delim ++ t) (member_text bytes (get_or members index d, at)))
  printed-next now still place flag =
      let m = get_or members index d in
      let text = flat_map (λ (t : List ℕ). lead_of first delim ++ t) (member_text bytes (m, at)) in
      let tail = spread (first && not (is_row m)) delim (flat_map (member_text bytes) (placed (place_after at m) (drop (index + 1) members))) in
      rw (place, flag) (record {
        low = fits-low at m (made-fits at m (drop (index + 1) members) next);
        made = made-next at m (drop (index + 1) members) next;
        long = long_next;
        rest = printed-split-member ∙ sym (append_assoc front text tail);
      })

spread-none : (first : Bool) (delim : List ℕ) → spread first delim [] ≡ []
spread-none true delim = refl
spread-none false delim = refl

pub printed-all : (members : List Member) (bytes delim : List ℕ) (at index : ℕ) (first : Bool) (front : List ℕ) → Printed members bytes delim at index first front
    → length members ≤ index → front ≡ joined delim (flat_map (member_text bytes) (placed 0 members))
printed-all members bytes delim at index first front so_far all =
    sym (so_far.rest ∙ ap (λ (ms : List Member). front ++ spread first delim (flat_map (member_text bytes) (placed at ms))) (drop_all index members all)
    ∙ ap (λ t. front ++ t) (spread-none first delim) ∙ append-nil front)
