-- The block of a bucket that was read.
use Rattle.std.proofs.Common.{◌≡◌, ◌<◌, ℕ, List, ap, ◌∙◌}
use Rattle.gd_format.specs.declared.Header.{Header}
use Rattle.gd_format.specs.Field.{bytes_at}
use Rattle.gd_format.specs.HeaderFault.{natural}
use Rattle.gd_format.specs.File.{entries_of, entry_at, block_of}
use Rattle.gd_lookup.specs.Counting.{IsBlock}

-- at the address of an entry
pub block_read : (file : List ℕ) (h : Header) (at i : ℕ) (buf : List ℕ) → at ≡ natural (entry_at file h i) → buf ≡ bytes_at file at h.block → buf ≡ block_of file h i
unfolding block_of
block_read file h at i buf e read = read ∙ ap (λ (a : ℕ). bytes_at file a h.block) e

pub is_block : (file : List ℕ) (h : Header) (i : ℕ) (buf : List ℕ) → i < entries_of h → buf ≡ block_of file h i → IsBlock file h buf
is_block file h i buf lt e = record { index = i; within = lt; block_is = e }
