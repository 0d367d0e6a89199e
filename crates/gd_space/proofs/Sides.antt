-- The free side of a file after a block was pushed.
use Rattle.std.proofs.Common.{◌≡◌, ℕ, ◌+◌, ◌-◌, ◌^◌, ◌<◌, ◌≤◌, List, [], ◌∷◌, ◌++◌, length, pos, refl, ap, ◌∙◌, inl, inr, arith}
use Rattle.std.specs.List.{AllByRecursion}
use Rattle.std.proofs.lemmas.Bool.{cases_lt}
use Rattle.std.proofs.lemmas.Bool.Decides.{nat_tests}
use Rattle.std.proofs.lemmas.List.{take_all}
use Rattle.gd_format.specs.declared.Extent.{Extent}
use Rattle.gd_format.specs.declared.Header.{Header}
use Rattle.gd_format.specs.Field.{bytes_at}
use Rattle.gd_format.specs.Covers.{cover, size_sum}
use Rattle.gd_space.specs.Ranges.{AreApart}
use Rattle.gd_vault.specs.Effects.{written}
use Rattle.gd_format.specs.Sound.{extent, most_of}
use Rattle.gd_format.specs.FreeSide.{IsBelow, FreeLists, free_extents, stack_extents, IsFreeSide, IsStack}
use Rattle.gd_format.specs.Avail.{avail_size}
use Rattle.gd_space.specs.Effect.{grown, Change}
use Rattle.gd_space.specs.Lists.{Step}
use Rattle.gd_space.specs.Spells.{Spells, capacity_at}
use Rattle.gd_space.specs.Stacks.{KeepsBlock}
use Rattle.gd_format.proofs.Covers.{cover-append, size_sum-append, all-append, all-left, all-right}
use Rattle.gd_space.proofs.Tooks.{below-more, cover-side, size_sum-side}
use Rattle.gd_space.proofs.Changes.{cover-grown_low, cover-one}
use Rattle.gd_space.proofs.Writes.{wrote-apart, wrote-length, wrote-own}
use Rattle.gd_space.proofs.Stacks.{apart_by_cover, stack_kept, blocks_kept, new_block}

pub cover-in : (at n x : ℕ) → 0 < cover (extent at n ∷ []) x → (at ≤ x) × (x < at + n)
cover-in at n x h = (grind (arith, nat_tests), grind (arith, nat_tests))

pub cover-part : (at n m x : ℕ) → n ≤ m → cover (extent at n ∷ []) x ≤ cover (extent at m ∷ []) x
cover-part at n m x h = grind (arith, nat_tests)

-- what all extents end before covers nothing from there on
pub cover-past : (next : ℕ) (xs : List Extent) (x : ℕ) → AllByRecursion (IsBelow next) xs → next ≤ x → cover xs x ≡ 0
cover-past next [] x below h = refl
cover-past next (e ∷ es) x below h =
    let ih = cover-past next es x below.1 h in
    let ends = below.0.ends in
    let one : cover (e ∷ []) x ≡ 0 = grind (arith, nat_tests) in
    omega (arith, ih, one)

abbrev pushed_side : FreeLists → List Extent → List Extent → Extent → List Extent → ℕ → FreeLists
pushed_side s table' bucket' e spare top = record { table = table'; blocks = record { at = e.at; extents = spare; next = top } ∷ s.blocks; bucket = bucket' }

-- what a push has done to the lists
pub record Pushes (h : Header) (next' : ℕ) (s : FreeLists) (table' bucket' spare : List Extent) (e : Extent) (given taken : List Extent) : Type 0 where
  pub grows : h.next_block ≤ next'
  pub step : Step next' s.table s.bucket table' bucket' (given ++ grown h.next_block next') (taken ++ e ∷ spare)
  pub start : 0 < e.at
  pub small : e.at < 2 ^ 63
  pub room : avail_size (length spare) ≤ e.size
  pub ends : e.at + e.size ≤ next'
  pub fits : e.size < 2 ^ 31
  pub few : length spare ≤ most_of h
  pub below : AllByRecursion (IsBelow next') spare
  pub given_below : AllByRecursion (IsBelow h.next_block) given
  pub given_once : (b : ℕ) → cover (free_extents s) b + cover given b ≤ 1

module _ (file bs : List ℕ) (h : Header) (capacity next' top : ℕ) (s : FreeLists) (table' bucket' spare : List Extent) (e : Extent) (given taken : List Extent) (old : IsFreeSide file h top s) (p : Pushes h next' s table' bucket' spare e given taken) (spells : Spells capacity spare top bs) where
  -- what there was and what is new has each byte once
  all_once : (x : ℕ) → cover (free_extents s) x + cover given x + cover (grown h.next_block next') x ≤ 1
  all_once x =
      let once = p.given_once x in
      elim (cases_lt x h.next_block) [
        | inl low ↦ let z = cover-grown_low h.next_block next' x low in omega (arith, once, z)
        | inr high ↦
            let one = cover-one h.next_block (next' - h.next_block) x in
            let z = cover-past h.next_block (free_extents s) x old.below high in
            let y = cover-past h.next_block given x p.given_below high in
            omega (arith, one, z, y)
      ]

  -- where the lists' bytes are
  at_byte : (x : ℕ) → cover table' x + cover bucket' x + cover taken x + cover (extent e.at e.size ∷ []) x + cover spare x ≡ cover s.table x + cover s.bucket x + cover given x + cover (grown h.next_block next') x
  at_byte x =
      let b = p.step.bytes x in
      let g = cover-append given (grown h.next_block next') x in
      let t = cover-append taken (e ∷ spare) x in
      omega (arith, b, g, t)

  size : length bs ≡ avail_size (length spare)
  size = spells.size

  part : (x : ℕ) → cover (extent e.at (length bs) ∷ []) x ≤ cover (extent e.at e.size ∷ []) x
  part x = cover-part e.at (length bs) e.size x (let r = p.room in omega (arith, r, size))

  few_bytes : (x : ℕ) → cover (stack_extents s.blocks) x + cover (extent e.at (length bs) ∷ []) x ≤ 1
  few_bytes x = let a = at_byte x in let o = all_once x in let c = cover-side s x in let q = part x in omega (arith, a, o, c, q)

  longer : length file ≤ length (written file e.at bs)
  longer = let l = wrote-length file bs e.at in omega (arith, l)

  apart_same : (a m : ℕ) → a + m ≤ length file → AreApart a m e.at (length bs) → bytes_at (written file e.at bs) a m ≡ bytes_at file a m
  apart_same a m inside apart = wrote-apart file bs e.at a m inside apart

  stack : IsStack (written file e.at bs) (most_of h) e.at (record { at = e.at; extents = spare; next = top } ∷ s.blocks)
  stack =
      let l = wrote-length file bs e.at in
      let whole : bytes_at (written file e.at bs) e.at (length bs) ≡ bs = wrote-own file bs e.at (length bs) (omega arith) ∙ take_all (length bs) bs (omega arith) in
      let head = wrote-own file bs e.at 16 (omega (arith, size)) in (
        refl,
        new_block (written file e.at bs) bs capacity (most_of h) e.at top spare p.start p.small p.few spells whole head (omega (arith, l)),
        stack_kept file (written file e.at bs) (most_of h) e.at (length bs) (omega (arith, size)) longer apart_same top s.blocks few_bytes old.stack,
      )

  pub pushed_capacity : capacity_at (bytes_at (written file e.at bs) e.at 16) ≡ pos capacity
  pushed_capacity = ap capacity_at (wrote-own file bs e.at 16 (omega (arith, size))) ∙ spells.capacity_is

  pub pushed_below : AllByRecursion (KeepsBlock file (written file e.at bs)) s.blocks
  pushed_below = blocks_kept file (written file e.at bs) (most_of h) e.at (length bs) (omega (arith, size)) apart_same top s.blocks few_bytes old.stack

  -- the extents afterwards, by where they stand
  new_cover : (x : ℕ) → cover (free_extents (record { table = table'; blocks = record { at = e.at; extents = spare; next = top } ∷ s.blocks; bucket = bucket' })) x ≡ cover table' x + (cover (extent e.at (avail_size (length spare)) ∷ []) x + cover spare x + cover (stack_extents s.blocks) x) + cover bucket' x
  new_cover x =
      let a = cover-side (record { table = table'; blocks = record { at = e.at; extents = spare; next = top } ∷ s.blocks; bucket = bucket' }) x in
      let b = cover-append (extent e.at (avail_size (length spare)) ∷ spare) (stack_extents s.blocks) x in
      omega (arith, a, b)

  new_total : size_sum (free_extents (record { table = table'; blocks = record { at = e.at; extents = spare; next = top } ∷ s.blocks; bucket = bucket' })) ≡ size_sum table' + (avail_size (length spare) + size_sum spare + size_sum (stack_extents s.blocks)) + size_sum bucket'
  new_total =
      let a = size_sum-side (record { table = table'; blocks = record { at = e.at; extents = spare; next = top } ∷ s.blocks; bucket = bucket' }) in
      let b = size_sum-append (extent e.at (avail_size (length spare)) ∷ spare) (stack_extents s.blocks) in
      omega (arith, a, b)

  own_part : (x : ℕ) → cover (extent e.at (avail_size (length spare)) ∷ []) x ≤ cover (extent e.at e.size ∷ []) x
  own_part x = cover-part e.at (avail_size (length spare)) e.size x p.room

  new_once : (x : ℕ) → cover (free_extents (record { table = table'; blocks = record { at = e.at; extents = spare; next = top } ∷ s.blocks; bucket = bucket' })) x ≤ 1
  new_once x = let n = new_cover x in let q = own_part x in let a = at_byte x in let o = all_once x in let c = cover-side s x in omega (arith, n, q, a, o, c)

  moves_at : (x : ℕ) → cover (free_extents (record { table = table'; blocks = record { at = e.at; extents = spare; next = top } ∷ s.blocks; bucket = bucket' })) x + cover taken x ≤ cover (free_extents s) x + cover given x + cover (grown h.next_block next') x
  moves_at x = let n = new_cover x in let q = own_part x in let a = at_byte x in let c = cover-side s x in omega (arith, n, q, a, c)

  sums : (size_sum (free_extents (record { table = table'; blocks = record { at = e.at; extents = spare; next = top } ∷ s.blocks; bucket = bucket' })) + size_sum taken ≤ size_sum (free_extents s) + size_sum given + (next' - h.next_block)) × (size_sum (free_extents s) + size_sum given + (next' - h.next_block) ≤ size_sum (free_extents (record { table = table'; blocks = record { at = e.at; extents = spare; next = top } ∷ s.blocks; bucket = bucket' })) + size_sum taken + (e.size - avail_size (length spare)))
  sums =
      let n = new_total in
      let c = size_sum-side s in
      let m = p.step.sum in
      let g = size_sum-append given (grown h.next_block next') in
      let t = size_sum-append taken (e ∷ spare) in
      let r = p.room in
      (omega (arith, n, c, m, g, t, r), omega (arith, n, c, m, g, t, r))

  new_below : AllByRecursion (IsBelow next') (free_extents (record { table = table'; blocks = record { at = e.at; extents = spare; next = top } ∷ s.blocks; bucket = bucket' }))
  new_below =
      let front = all-left (IsBelow h.next_block) (s.table ++ stack_extents s.blocks) s.bucket old.below in
      let under = below-more h.next_block next' (stack_extents s.blocks) p.grows (all-right (IsBelow h.next_block) s.table (stack_extents s.blocks) front) in
      let r = p.room in
      let f = p.fits in
      let n = p.ends in
      let block : IsBelow next' (extent e.at (avail_size (length spare))) = record { start = p.start; some = omega arith; fits = omega (arith, r, f); ends = omega (arith, r, n) } in
      let mine : AllByRecursion (IsBelow next') (extent e.at (avail_size (length spare)) ∷ spare) = (block, p.below) in
      all-append (IsBelow next') (table' ++ stack_extents (record { at = e.at; extents = spare; next = top } ∷ s.blocks)) bucket'
      (all-append (IsBelow next') table' (stack_extents (record { at = e.at; extents = spare; next = top } ∷ s.blocks)) p.step.table_below
      (all-append (IsBelow next') (extent e.at (avail_size (length spare)) ∷ spare) (stack_extents s.blocks) mine under)) p.step.bucket_below

  -- a range that meets nothing free and nothing given is apart from the block
  apart_here : (at n : ℕ) → at + n ≤ length file → ((b : ℕ) → at ≤ b → b < at + n → cover (free_extents s ++ given) b ≡ 0) → (x : ℕ) → cover (extent at n ∷ []) x + cover (extent e.at (length bs) ∷ []) x ≤ 1
  apart_here at n inside clear x =
      let q = part x in
      let one = cover-one at n x in
      let two = cover-one e.at (length bs) x in
      elim (cases_lt 0 (cover (extent at n ∷ []) x)) [
        | inr none ↦ omega (arith, none, two)
        | inl some ↦
            let r = cover-in at n x some in
            let low = r.0 in
            let high = r.1 in
            let z = clear x low high in
            let c = cover-append (free_extents s) given x in
            let d = cover-side s x in
            let o = old.short in
            let g = cover-grown_low h.next_block next' x (omega (arith, high, inside, o)) in
            let a = at_byte x in
            omega (arith, z, c, d, g, a, q, one)
      ]

  keeps_at : (at n : ℕ) → at + n ≤ length file → ((b : ℕ) → at ≤ b → b < at + n → cover (free_extents s ++ given) b ≡ 0) → bytes_at (written file e.at bs) at n ≡ bytes_at file at n
  keeps_at at n inside clear =
      elim (cases_lt 0 n) [
        | inl some ↦ apart_same at n inside (apart_by_cover at n e.at (length bs) some (omega (arith, size)) (apart_here at n inside clear))
        | inr none ↦ let zero_ : n ≡ 0 = omega arith in rw zero_ refl
      ]

  pub pushed : Change file (written file e.at bs) h (record h { next_block = next' }) top e.at s (record { table = table'; blocks = record { at = e.at; extents = spare; next = top } ∷ s.blocks; bucket = bucket' }) given taken (e.size - avail_size (length spare))
  pushed = record {
    side = record {
      behind = let a = old.behind in let g = p.grows in omega (arith, a, g);
      short = let l = wrote-length file bs e.at in let o = old.short in let g = p.grows in let r = p.room in let n = p.ends in omega (arith, l, o, g, r, n, size);
      stack = stack;
      below = new_below;
      once = new_once;
    };
    keeps = record { longer = longer; bytes = keeps_at };
    moves = record { grows = p.grows; bytes = moves_at; least = sums.0; most = sums.1 };
  }
