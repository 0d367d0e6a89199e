-- A write that succeeds is one that may have been cut short.
use Rattle.std.proofs.Common.{◌≡◌, ◌⊎◌, ℕ, ◌+◌, ◌<◌, ◌≤◌, max, List, length, get_or, arith}
use Rattle.std.proofs.lemmas.Grind.{common_steps}
use Rattle.gd_vault.specs.Effects.{written, Torn}

pub length_written : (old : List ℕ) (at : ℕ) (bytes : List ℕ) → length (written old at bytes) ≡ max (length old) (at + length bytes)
length_written old at bytes = grind (arith, common_steps)

pub written_same : (old : List ℕ) (at : ℕ) (bytes : List ℕ) (k : ℕ) → k < length old → (k < at) ⊎ (at + length bytes ≤ k) → get_or (written old at bytes) k 0 ≡ get_or old k 0
written_same old at bytes k lt h = grind (arith, common_steps)

pub written_torn : (old : List ℕ) (at : ℕ) (bytes : List ℕ) → Torn at (length bytes) old (written old at bytes)
written_torn old at bytes = record {
  same = λ k lt h. written_same old at bytes k lt h;
  no_shorter = omega (arith, length_written old at bytes);
  no_longer = omega (arith, length_written old at bytes);
}
