-- The parts of a bucket that a block is read as.
use Rattle.std.proofs.Common.{◌≡◌, ℕ, List, ap}
use Rattle.gd_format.specs.Bucket.{Bucket, counts_at, slots_at, free_at, bucket_at}
use Rattle.gd_format.specs.HeaderFault.{natural}
use Rattle.gd_format.specs.File.{bits_at}

module _ (block : List ℕ) (elems : ℕ) (bucket : Bucket) where
  pub slots_are : bucket_at block elems ≡ bucket → slots_at block elems ≡ bucket.slots
  unfolding bucket_at
  slots_are e = ap (λ (b : Bucket). b.slots) e

  pub bits_are : bucket_at block elems ≡ bucket → bits_at block ≡ bucket.bits
  unfolding bucket_at
  bits_are e = ap (λ (b : Bucket). b.bits) e

  pub free_are : bucket_at block elems ≡ bucket → free_at block (natural (counts_at block).free) ≡ bucket.free
  unfolding bucket_at
  free_are e = ap (λ (b : Bucket). b.free) e
