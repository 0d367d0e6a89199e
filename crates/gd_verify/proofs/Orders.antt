-- All extents in their order.
use Rattle.std.proofs.Common.{◌≡◌, ℕ, ◌+◌, ◌<◌, ◌≤◌, List, [], ◌∷◌, ◌++◌, false, leb, map, take, length, get_or, Option, Some, None, refl, sym, ap, ◌∙◌, append_assoc, arith}
use Rattle.std.specs.List.{All, flat_map}
use Rattle.std.proofs.lemmas.List.{map-append, take_more}
use Rattle.std.proofs.lemmas.List.Elements.{All-append}
use Rattle.std.proofs.lemmas.Nat.{pow_pos}
use Rattle.std.proofs.lemmas.Bool.{le-leb, lt-leb}
use Rattle.gd_base.specs.declared.errors.DbError.{DbError}
use Rattle.gd_base.specs.declared.errors.DbError.TheVariants.{NeedRecovery, BadAvail}
use Rattle.gd_format.specs.declared.Header.{Header}
use Rattle.gd_format.specs.declared.Held.{Held}
use Rattle.gd_format.specs.First.{or_else, unless, first_some}
use Rattle.gd_format.specs.HeaderFault.{dir_size_of}
use Rattle.gd_format.specs.Avail.{is_avail}
use Rattle.gd_format.specs.File.{places_of}
use Rattle.gd_format.specs.Sound.{bucket_held, extents_held, free_fault, free_held, itself, meet_fault, most_of, place_of, records_held, space_fault, stack_fault, stack_held, stack_places, table_held, table_of, top_of}
use Rattle.gd_verify.specs.Apart.{IsPlain, MeetsAlike}
use Rattle.gd_verify.specs.Known.{free_fault_at}
use Rattle.gd_verify.specs.Refused.{all_held, blocks_fault, blocks_held, extents_fault, fixed_held}

pub plain_both : (xs ys : List Held) → All IsPlain xs → All IsPlain ys → All IsPlain (xs ++ ys)
plain_both xs ys h k = All-append IsPlain xs ys h k

pub dir_some : (bits : ℕ) → 0 < dir_size_of bits
dir_some bits = let some = pow_pos bits in omega (arith, some)

pub fixed_more : (h : Header) (places : List ℕ) (i : ℕ) (list next : List Held) → i < length places → list ≡ fixed_held h (take i places) → next ≡ list ++ bucket_held h (get_or places i 0) ∷ [] → next ≡ fixed_held h (take (i + 1) places)
fixed_more h places i list next lt e is =
    is ∙ ap (λ (xs : List Held). xs ++ bucket_held h (get_or places i 0) ∷ []) e
    ∙ ap (λ (xs : List Held). itself 0 h.block ∷ itself h.dir (dir_size_of h.dir_bits) ∷ xs) (sym (ap (map (bucket_held h)) (take_more places i 0 lt) ∙ map-append (bucket_held h) (take i places) (get_or places i 0 ∷ [])))

-- ---- the refusals in their order

regroup : (a b c d e : List Held) → ((a ++ b) ++ (c ++ d)) ++ e ≡ (((a ++ b) ++ c) ++ d) ++ e
regroup a b c d e = ap (λ (xs : List Held). xs ++ e) (sym (append_assoc (a ++ b) c d))

first_of_two : (a b c : Option DbError) (e : DbError) → Some e ≡ or_else a b → Some e ≡ or_else a (or_else b c)
first_of_two (Some d) b c e h = h
first_of_two None (Some d) c e h = h
first_of_two None None c e h = absurd cc

or_none : (a : Option DbError) → or_else a None ≡ a
or_none None = refl
or_none (Some e) = refl

none_of_two : (a b c d : Option DbError) → or_else a b ≡ None → or_else c d ≡ or_else a (or_else b (or_else c (or_else d None)))
none_of_two None None c d h = ap (or_else c) (sym (or_none d))
none_of_two None (Some e) c d h = absurd cc
none_of_two (Some e) b c d h = absurd cc

module _ (file : List ℕ) (h : Header) where
  pub order_free : (space : List Held) (places : List ℕ) (e : DbError) → places ≡ places_of file h → Some e ≡ first_some (map (free_fault_at file h) places) → Some e ≡ extents_fault file h space
  unfolding free_fault
  order_free space places e is fault =
      let here : first_some (map (free_fault_at file h) (places_of file h)) ≡ Some e = rw is at (sym fault) in
      rw here refl

  pub order_meet : (places : List ℕ) (space fixed records free more all : List Held) (r : Option DbError) → places ≡ places_of file h → None ≡ first_some (map (free_fault_at file h) places) → fixed ≡ fixed_held h places → records ≡ fixed ++ flat_map (records_held file h) places → free ≡ flat_map (free_held file h) places → more ≡ records ++ space → all ≡ more ++ free → r ≡ meet_fault h.next_block [] all → r ≡ extents_fault file h space
  unfolding free_fault
  order_meet places space fixed records free more all r is none a b c d e f =
      let here : first_some (map (free_fault_at file h) (places_of file h)) ≡ None = rw is at (sym none) in
      let list : all ≡ all_held file h space =
      e ∙ ap (λ (xs : List Held). xs ++ free) d ∙ ap (λ (xs : List Held). (xs ++ space) ++ free) b
      ∙ ap (λ (xs : List Held). ((xs ++ flat_map (records_held file h) places) ++ space) ++ free) a
      ∙ ap (λ (xs : List Held). ((fixed_held h places ++ flat_map (records_held file h) places) ++ space) ++ xs) c
      ∙ ap (λ (ps : List ℕ). ((fixed_held h ps ++ flat_map (records_held file h) ps) ++ space) ++ flat_map (free_held file h) ps) is in
      f ∙ ap (meet_fault h.next_block []) list ∙ rw here refl

  held_is : extents_held file h ≡ all_held file h (blocks_held file h)
  unfolding extents_held
  held_is = sym (regroup (fixed_held h (places_of file h)) (flat_map (records_held file h) (places_of file h)) (table_held file h) (flat_map (stack_held file) (stack_places file (top_of file h))) (flat_map (free_held file h) (places_of file h)))

  pub need_recovery : h.next_block < length file → space_fault file h ≡ Some NeedRecovery
  unfolding space_fault
  need_recovery lt =
      let short : leb (length file) h.next_block ≡ false = lt-leb (length file) h.next_block lt in
      rw short refl

  pub order_blocks : (e : DbError) → length file ≤ h.next_block → Some e ≡ blocks_fault file h → Some e ≡ space_fault file h
  unfolding space_fault
  order_blocks e le fault =
      let long = le-leb (length file) h.next_block le in
      rw long (first_of_two (unless (is_avail (table_of file h) h.avail_size) (BadAvail (place_of h))) (stack_fault file (most_of h) (top_of file h)) (or_else (free_fault file h) (or_else (meet_fault h.next_block [] (extents_held file h)) None)) e fault)

  pub order_rest : (space : List Held) (r : Option DbError) → length file ≤ h.next_block → None ≡ blocks_fault file h → MeetsAlike (blocks_held file h) space → r ≡ extents_fault file h space → r ≡ space_fault file h
  unfolding space_fault
  order_rest space r le none alike e =
      let long = le-leb (length file) h.next_block le in
      let meet : meet_fault h.next_block [] (all_held file h space) ≡ meet_fault h.next_block [] (extents_held file h) = alike.same h.next_block (fixed_held h (places_of file h) ++ flat_map (records_held file h) (places_of file h)) (flat_map (free_held file h) (places_of file h)) ∙ ap (meet_fault h.next_block []) (sym held_is) in
      e ∙ ap (or_else (free_fault file h)) meet
      ∙ rw long (none_of_two (unless (is_avail (table_of file h) h.avail_size) (BadAvail (place_of h))) (stack_fault file (most_of h) (top_of file h)) (free_fault file h) (meet_fault h.next_block [] (extents_held file h)) (sym none))
