-- What a read of a block of the stack tells.
use Rattle.std.proofs.Common.{◌≡◌, ℕ, ◌-◌, ◌^◌, ◌<◌, ◌≤◌, min, Bool, true, false, List, length, take, drop, refl, sym, ap, ◌∙◌, arith}
use Rattle.std.proofs.lemmas.List.{take-take}
use Rattle.gd_format.specs.Field.{bytes_at}
use Rattle.gd_format.specs.HeaderFault.{natural, is_within}
use Rattle.gd_format.specs.Sound.{is_stack_block, stack_block, stack_size}
use Rattle.gd_format.specs.Avail.{count_at, is_avail, avail_size}
use Rattle.gd_space.proofs.Stacks.{is_right, within-le}

not_true : (b : Bool) → (b ≡ true → ⊥) → b ≡ false
not_true true h = absurd (h refl)
not_true false h = refl

module _ (file part : List ℕ) (at n most : ℕ) (count : n ≡ min (avail_size most) (length file - at)) (read : take n part ≡ take n (drop at file)) where
  pub piece : (m : ℕ) → m ≤ n → take m part ≡ bytes_at file at m
  piece m le = sym (take-take m n part le) ∙ ap (take m) read ∙ take-take m n (drop at file) le

  pub too_short : n < 16 → is_stack_block file most at ≡ false
  too_short h = not_true (is_stack_block file most at) (λ t. (let r = is_right file most at t in let a = r.head_in in absurd (omega (arith, count, h, a))))

  pub wrong_count : 16 ≤ n → is_within (count_at (take 16 part)) 0 most ≡ false → is_stack_block file most at ≡ false
  wrong_count h bad = not_true (is_stack_block file most at) (λ t. (let r = is_right file most at t in let few : is_within (count_at (take 16 part)) 0 most ≡ true = rw (piece 16 h) r.few in absurd (let two : true ≡ false = sym few ∙ bad in cc (two))))

  pub cut_off : 16 ≤ n → n < avail_size (natural (count_at (take 16 part))) → is_stack_block file most at ≡ false
  cut_off h lt = not_true (is_stack_block file most at) (λ t. (let r = is_right file most at t in
      let body = r.body_in in
      let few = within-le (count_at (bytes_at file at 16)) most r.few in
      let same : natural (count_at (take 16 part)) ≡ natural (count_at (bytes_at file at 16)) = ap (λ (x : List ℕ). natural (count_at x)) (piece 16 h) in
      absurd (omega (arith, count, lt, body, few, same))))

  pub body_is : 16 ≤ n → avail_size (natural (count_at (take 16 part))) ≤ n → take (avail_size (natural (count_at (take 16 part)))) part ≡ stack_block file at
  unfolding stack_block stack_size
  body_is h le = piece (avail_size (natural (count_at (take 16 part)))) le ∙ ap (λ (x : List ℕ). bytes_at file at (avail_size (natural (count_at x)))) (piece 16 h)

  pub wrong_body : 16 ≤ n → avail_size (natural (count_at (take 16 part))) ≤ n → is_avail (take (avail_size (natural (count_at (take 16 part)))) part) most ≡ false → is_stack_block file most at ≡ false
  wrong_body h le bad = not_true (is_stack_block file most at) (λ t. (let r = is_right file most at t in let yes_ : is_avail (take (avail_size (natural (count_at (take 16 part)))) part) most ≡ true = rw (body_is h le) r.avail in absurd (let two : true ≡ false = sym yes_ ∙ bad in cc (two))))

-- no block stands past the last address of a file
pub too_far : (file : List ℕ) (most at : ℕ) → 2 ^ 63 ≤ at → is_stack_block file most at ≡ false
too_far file most at h = not_true (is_stack_block file most at) (λ t. (let r = is_right file most at t in let p = r.place in absurd (omega (arith, h, p))))
