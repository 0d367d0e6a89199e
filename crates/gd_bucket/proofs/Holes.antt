-- A bucket while a slot is being removed: one place is open, and slots behind it move there.
use Rattle.std.proofs.Common.{◌≡◌, ℕ, ◌+◌, ◌%◌, ◌<◌, ◌≤◌, true, List, ◌∷◌, length, get_or, set, refl, sym, ap, subst, ◌∙◌, inl, inr, arith}
use Rattle.std.proofs.lemmas.Bool.{cases_lt}
use Rattle.std.proofs.lemmas.List.{get_or_past, get_or-set_same}
use Rattle.std.proofs.Math.Nat.{mod-eq_of_lt}
use Rattle.std.proofs.Math.ListN.{length-set}
use Rattle.std.proofs.lemmas.Nat.{mod_below}
use Rattle.gd_format.specs.declared.Slot.{Slot}
use Rattle.gd_format.specs.declared.Slot.TheVariants.{Empty}
use Rattle.gd_format.specs.Bucket.{Bucket}
use Rattle.gd_format.specs.Slots.{is_full, AreReached, SameSlots}
use Rattle.gd_bucket.specs.Removing.{from_home, MayMove, NoneMoves, moved}
use Rattle.gd_bucket.proofs.Around.{distance-place, place-same}
use Rattle.gd_bucket.proofs.Removes.{AreJoined, opens, closes, moves, length-moved, here}
use Rattle.gd_bucket.proofs.Falls.{total_worth, falls, emptied_same, moved_same}

pub record IsOpen (old now : Bucket) (place open_at : ℕ) : Type 0 where
  pub hole : open_at < length now.slots
  pub elems : length now.slots ≡ length old.slots
  pub empty : get_or now.slots open_at Empty ≡ Empty
  pub others : SameSlots old.slots (get_or old.slots place Empty ∷ now.slots)
  pub joined : AreReached old.slots (length old.slots) → AreJoined (length now.slots) now.slots open_at
  pub rest : now ≡ record old { slots = now.slots }

pub full_in : (slots : List Slot) (s : ℕ) → is_full (get_or slots s Empty) ≡ true → s < length slots
full_in slots s full =
    elim (cases_lt s (length slots)) [
      | inl inside ↦ inside
      | inr past ↦ let e = ap is_full (get_or_past slots s Empty past) in absurd (cc (e, full))
    ]

pub starts : (old now : Bucket) (place : ℕ) → is_full (get_or old.slots place Empty) ≡ true → now ≡ record old { slots = set old.slots place Empty } → IsOpen old now place place
starts old now place full is =
    let inside = full_in old.slots place full in
    let l = length-set old.slots place Empty in
    let whole : IsOpen old (record old { slots = set old.slots place Empty }) place place =
    record {
      hole = omega (arith, inside, l);
      elems = l;
      empty = get_or-set_same old.slots place Empty Empty inside;
      others = emptied_same old.slots place inside;
      joined = λ reached. rw l (opens (length old.slots) old.slots refl place inside reached);
      rest = refl;
    } in
    subst (λ (b : Bucket). IsOpen old b place place) (sym is) whole

module _ (old now next : Bucket) (place hole s : ℕ) (open_now : IsOpen old now place hole) (move : MayMove now.slots hole s) (is : next ≡ record now { slots = moved now.slots hole s }) where
  pub goes_on : IsOpen old next place s
  goes_on =
      let inside = open_now.hole in
      let l = length-moved now.slots hole s inside move in
      let e = open_now.elems in
      let place_in = move.place in
      let whole : IsOpen old (record now { slots = moved now.slots hole s }) place s =
      record {
        hole = omega (arith, place_in, l);
        elems = l ∙ e;
        empty = here now.slots hole s inside move;
        others = λ p none. let a = open_now.others p none in let b = moved_same now.slots hole s inside open_now.empty move p none in omega (arith, a, b);
        joined = λ reached. rw l (moves now.slots hole s inside move (open_now.joined reached));
        rest = ap (λ (b : Bucket). record b { slots = moved now.slots hole s }) open_now.rest;
      } in
      subst (λ (b : Bucket). IsOpen old b place s) (sym is) whole

  pub comes_down : total_worth (length next.slots) next.slots < total_worth (length now.slots) now.slots
  comes_down =
      let l = length-moved now.slots hole s open_now.hole move in
      let less = falls now.slots hole s open_now.hole open_now.empty move in
      let at_moved : total_worth (length (moved now.slots hole s)) (moved now.slots hole s) < total_worth (length now.slots) now.slots = rw l less in
      subst (λ (b : Bucket). total_worth (length b.slots) b.slots < total_worth (length now.slots) now.slots) (sym is) at_moved

pub finishes : (old now : Bucket) (place hole : ℕ) → IsOpen old now place hole → NoneMoves now.slots hole → AreReached old.slots (length old.slots) → AreReached now.slots (length now.slots)
finishes old now place hole open_now none reached = closes now.slots hole open_now.hole (open_now.joined reached) none

-- the slot that comes t places after the hole may move there
pub may_move : (slots : List Slot) (hole t s : ℕ) → hole < length slots → 0 < t → t < length slots → s ≡ (hole + t) % length slots → is_full (get_or slots ((hole + t) % length slots) Empty) ≡ true → t ≤ from_home slots s → MayMove slots hole s
may_move slots hole t s lh low high is full far =
    let inside = mod_below (hole + t) (length slots) (omega arith) in
    let away = distance-place (length slots) hole t lh high in
    let whole : t ≤ from_home slots ((hole + t) % length slots) → MayMove slots hole ((hole + t) % length slots) =
    λ (f : t ≤ from_home slots ((hole + t) % length slots)).
    record {
      place = inside;
      other =
          λ e.
          let back : (hole + 0) % length slots ≡ hole = ap (λ (x : ℕ). x % length slots) (omega arith) ∙ mod-eq_of_lt lh in
          let same = place-same (length slots) hole t 0 lh high (omega arith) (e ∙ sym back) in
          omega (arith, same, low);
      full = full;
      far = omega (arith, away, f);
    } in
    subst (MayMove slots hole) (sym is) (whole (subst (λ (x : ℕ). t ≤ from_home slots x) is far))
