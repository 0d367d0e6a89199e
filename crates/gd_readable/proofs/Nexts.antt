-- One step of a walk: the records that are left, and what is told of the file.
use Rattle.std.proofs.Common.{◌≡◌, ℕ, List, [], ◌∷◌, ◌++◌, length, take, drop, None, Some, Option, refl, ap, ◌∙◌, arith}
use Rattle.std.specs.Prelude.{Result, Ok, Err, IfOk, IfErr, IfSome, IfNone}
use Rattle.std.proofs.Math.Seq.{take-append_seam}
use Rattle.gd_base.specs.Causes.{Rose}
use Rattle.gd_base.specs.declared.errors.DbError.{DbError}
use Rattle.gd_format.specs.declared.Header.{Header}
use Rattle.gd_format.specs.File.{entries_of, is_first, is_full_at}
use Rattle.gd_vault.specs.Content.{File, Content}
use Rattle.gd_vault.specs.Views.{View, HasFile, IsAt, content_of}
use Rattle.gd_readable.specs.Asks.{kept_of, bytes_in, Tells, Refuses, RefusesWalk}
use Rattle.gd_readable.specs.Left.{passing_from, buckets_left, records_left}
use Rattle.gd_readable.specs.Standing.{Standing, StandsIn, left_of}
use Rattle.gd_readable.proofs.Asks.{bytes_told}
use Rattle.gd_readable.proofs.Passing.{no_slots, slots_none, passing_end, buckets_none}
use Rattle.gd_readable.proofs.Refusals.{refuses_map}

-- a buffer that was filled whole
pub refilled : (n : ℕ) (new items : List ℕ) → n ≡ length new → take n (new ++ drop (length new) items) ≡ new
refilled n new items e = ap (λ (k : ℕ). take k (new ++ drop (length new) items)) e ∙ take-append_seam new (drop (length new) items)

module _ (file : List ℕ) (h : Header) (i : ℕ) where
  -- where no slot of the bucket is full any more
  pub left_behind : (block : List ℕ) (s : ℕ) → passing_from (is_full_at block) h.elems s ≡ [] → records_left file h i block s ≡ buckets_left file h i
  left_behind block s e = ap (λ (l : List (List ℕ × List ℕ)). l ++ buckets_left file h i) (slots_none file block h.elems s e)

  pub left_ended : (block : List ℕ) (s : ℕ) → i ≡ entries_of h → s ≡ h.elems → records_left file h i block s ≡ []
  left_ended block s at slot = left_behind block s (passing_end (is_full_at block) h.elems s (omega arith)) ∙ buckets_none file h i (passing_end (is_first file h) (entries_of h) i (omega arith))

  pub left_at_end : (block : List ℕ) → records_left file h i block h.elems ≡ buckets_left file h i
  left_at_end block = ap (λ (l : List (List ℕ × List ℕ)). l ++ buckets_left file h i) (no_slots file block h.elems h.elems (omega arith))

abbrev Pair : Type 0
Pair = List ℕ × List ℕ

untold_of : (o : Option Content) → ((c : Content) → o ≡ Some c → ⊥) → o ≡ None
untold_of None h = refl
untold_of (Some c) h = absurd (h c refl)

module _ (u v : View) (f : ℕ) (w : Standing) (id : f ≡ w.f) (there : HasFile u w.f) (same : IsAt u (λ c. (x : File) → c.files w.f ≡ Some x → StandsIn x.bytes w)) where
  at_file : (q : List ℕ → Type 0) → Tells (bytes_in (kept_of u) f) (λ b. StandsIn b w → q b) → IsAt u (λ c. (x : File) → c.files w.f ≡ Some x → q x.bytes)
  at_file q h c told x is = let here : c.files f ≡ Some x = rw id is in h x.bytes (bytes_told u f c x told here) (same c told x is)

  stands_next : (next : Standing) → Tells (bytes_in (kept_of u) f) (λ b. StandsIn b w → StandsIn b next) → IsAt u (λ c. (x : File) → c.files w.f ≡ Some x → StandsIn x.bytes next)
  stands_next next h = at_file (λ b. StandsIn b next) h

  gives_next : (r : Result (Option Pair) DbError) (next : Standing) → IfOk r (λ o. IfSome o (λ p. Tells (bytes_in (kept_of u) f) (λ b. StandsIn b w → left_of b w ≡ (p.0, p.1) ∷ left_of b next))) → IfOk r (λ o. IfSome o (λ p. IsAt u (λ c. (x : File) → c.files w.f ≡ Some x → left_of x.bytes w ≡ (p.0, p.1) ∷ left_of x.bytes next)))
  gives_next (Err e) next h = tt
  gives_next (Ok None) next h = tt
  gives_next (Ok (Some p)) next h = at_file (λ b. left_of b w ≡ (p.0, p.1) ∷ left_of b next) h

  gives_none : (r : Result (Option Pair) DbError) → IfOk r (λ o. IfNone o (Tells (bytes_in (kept_of u) f) (λ b. StandsIn b w → left_of b w ≡ []))) → IfOk r (λ o. IfNone o (IsAt u (λ c. (x : File) → c.files w.f ≡ Some x → left_of x.bytes w ≡ [])))
  gives_none (Err e) h = tt
  gives_none (Ok None) h = at_file (λ b. left_of b w ≡ []) h
  gives_none (Ok (Some p)) h = tt

  gives_again : (r : Result (Option Pair) DbError) (next : Standing) → IfErr r (λ e. Tells (bytes_in (kept_of u) f) (λ b. StandsIn b w → left_of b next ≡ left_of b w)) → IfErr r (λ e. IsAt u (λ c. (x : File) → c.files w.f ≡ Some x → left_of x.bytes next ≡ left_of x.bytes w))
  gives_again (Err e) next h = at_file (λ b. left_of b next ≡ left_of b w) h
  gives_again (Ok o) next h = tt

  untold : Tells (bytes_in (kept_of u) f) (λ b. ¬ StandsIn b w) → content_of u.told ≡ None
  untold h = untold_of (content_of u.told) (λ c told. let x = there c told in at_file (λ b. ⊥) h c told x.0 x.1)

  refuses_next : (r : Result (Option Pair) DbError) → IfErr r (λ e. Refuses e (Rose u.faults v.faults) (Tells (bytes_in (kept_of u) f) (λ b. ¬ StandsIn b w))) → IfErr r (λ e. RefusesWalk e u v)
  refuses_next (Err e) h = refuses_map e _ _ _ _ (λ x. x) untold h
  refuses_next (Ok o) h = tt

-- the same for a walk that is seen by its fields
module _ (u v : View) (f : ℕ) (w now : Standing) (is : w ≡ now) (id : f ≡ w.f) (there : HasFile u now.f) (same : IsAt u (λ c. (x : File) → c.files now.f ≡ Some x → StandsIn x.bytes now)) where
  there_w : HasFile u w.f
  there_w = rw is there

  same_w : IsAt u (λ c. (x : File) → c.files w.f ≡ Some x → StandsIn x.bytes w)
  same_w = rw is same

  pub walk_stands : (next : Standing) → Tells (bytes_in (kept_of u) f) (λ b. StandsIn b w → StandsIn b next) → IsAt u (λ c. (x : File) → c.files now.f ≡ Some x → StandsIn x.bytes next)
  walk_stands next h = rw (← is) (stands_next u v f w id there_w same_w next h)

  pub walk_gives : (r : Result (Option Pair) DbError) (next : Standing) → IfOk r (λ o. IfSome o (λ p. Tells (bytes_in (kept_of u) f) (λ b. StandsIn b w → left_of b w ≡ (p.0, p.1) ∷ left_of b next))) → IfOk r (λ o. IfSome o (λ p. IsAt u (λ c. (x : File) → c.files now.f ≡ Some x → left_of x.bytes now ≡ (p.0, p.1) ∷ left_of x.bytes next)))
  walk_gives r next h = rw (← is) (gives_next u v f w id there_w same_w r next h)

  pub walk_ends : (r : Result (Option Pair) DbError) → IfOk r (λ o. IfNone o (Tells (bytes_in (kept_of u) f) (λ b. StandsIn b w → left_of b w ≡ []))) → IfOk r (λ o. IfNone o (IsAt u (λ c. (x : File) → c.files now.f ≡ Some x → left_of x.bytes now ≡ [])))
  walk_ends r h = rw (← is) (gives_none u v f w id there_w same_w r h)

  pub walk_again : (r : Result (Option Pair) DbError) (next : Standing) → IfErr r (λ e. Tells (bytes_in (kept_of u) f) (λ b. StandsIn b w → left_of b next ≡ left_of b w)) → IfErr r (λ e. IsAt u (λ c. (x : File) → c.files now.f ≡ Some x → left_of x.bytes next ≡ left_of x.bytes now))
  walk_again r next h = rw (← is) (gives_again u v f w id there_w same_w r next h)

  pub walk_refuses : (r : Result (Option Pair) DbError) → IfErr r (λ e. Refuses e (Rose u.faults v.faults) (Tells (bytes_in (kept_of u) f) (λ b. ¬ StandsIn b w))) → IfErr r (λ e. RefusesWalk e u v)
  walk_refuses r h = refuses_next u v f w id there_w same_w r h
