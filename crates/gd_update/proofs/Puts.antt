-- Bytes that are put at a place.
use Rattle.std.proofs.Common.{◌≡◌, ℕ, ◌+◌, ◌<◌, List, [], ◌++◌, length, refl, ap, ◌∙◌, inl, inr, arith, length-append}
use Rattle.std.proofs.lemmas.Bool.{cases_lt}
use Rattle.std.proofs.lemmas.Bool.Decides.{nat_tests}
use Rattle.gd_format.specs.Field.{bytes_at}
use Rattle.gd_format.specs.Sound.{extent}
use Rattle.gd_format.specs.Covers.{has_byte}
use Rattle.gd_format.proofs.Covers.{cover-split}
use Rattle.gd_format.proofs.Pieces.{bytes_at-add}
use Rattle.gd_file_laws.specs.Frame as parts
use Rattle.gd_vault.specs.Effects as vault
use Rattle.gd_map_laws.specs.Space.{one_if}
use Rattle.gd_map_laws.proofs.Stays.{keeps_join, write_keeps}
use Rattle.gd_map_laws.proofs.Put.{written_reads, written_size}
use Rattle.gd_map_laws.proofs.Change.{ends_by}
use Rattle.gd_update.specs.Writes.{PutAt}

pub same_written : (old : List ℕ) (at : ℕ) (bs : List ℕ) → vault.written old at bs ≡ parts.written old at bs
unfolding parts.written
same_written old at bs = refl

pub put_written : (old new : List ℕ) (at : ℕ) (bs : List ℕ) → new ≡ vault.written old at bs → PutAt old new at bs
put_written old new at bs is =
    let e : new ≡ parts.written old at bs = is ∙ same_written old at bs in
    let size = ap length e ∙ written_size old at bs in
    record {
      keeps = rw e (write_keeps old at bs);
      reads = rw e (written_reads old at bs);
      most = omega (arith, size);
    }

pub put_nothing : (old : List ℕ) (at : ℕ) (bs : List ℕ) → bs ≡ [] → PutAt old old at bs
put_nothing old at bs none = rw none (record { keeps = record { longer = omega arith; bytes = λ a n fits free. refl }; reads = refl; most = omega arith })

has_split : (at n m b : ℕ) → one_if (has_byte (extent at (n + m)) b) ≡ one_if (has_byte (extent at n) b) + one_if (has_byte (extent (at + n) m) b)
has_split at n m b = let s = cover-split at n m b in omega (arith, s)

-- one after another
pub put_both : (a b c : List ℕ) (at : ℕ) (xs ys : List ℕ) → PutAt a b at xs → PutAt b c (at + length xs) ys → PutAt a c at (xs ++ ys)
put_both a b c at xs ys one two =
    let len = length-append xs ys in
    let n : ℕ = length xs in
    let m : ℕ = length ys in
    let split : (x : ℕ) → one_if (has_byte (extent at (length (xs ++ ys))) x) ≡ one_if (has_byte (extent at (length xs)) x) + one_if (has_byte (extent (at + length xs) (length ys)) x) =
    λ x. ap (λ (k : ℕ). one_if (has_byte (extent at k) x)) len ∙ has_split at (length xs) (length ys) x in
    let first : bytes_at c at (length xs) ≡ xs =
    elim (cases_lt 0 (length xs)) [
      | inl some ↦
          let ends = ends_by b at xs one.reads some in
          two.keeps.bytes at (length xs) ends (λ x low high. none_here (at + length xs) (length ys) x high) ∙ one.reads
      | inr none ↦ let z : length xs ≡ 0 = omega (arith, none) in let e : bytes_at c at (length xs) ≡ bytes_at b at (length xs) = rw z refl in e ∙ one.reads
    ]
    in
    let l1 = one.most in
    let l2 = two.most in
    record {
      keeps = keeps_join _ _ _ a b c (λ x lt z. let s = split x in (omega (arith, s, z), omega (arith, s, z))) one.keeps two.keeps;
      reads = ap (bytes_at c at) len ∙ bytes_at-add c at (length xs) (length ys) ∙ ap (λ (z : List ℕ). z ++ bytes_at c (at + length xs) (length ys)) first ∙ ap (λ (z : List ℕ). xs ++ z) two.reads;
      most = omega (arith, len, l1, l2);
    }
  where
    none_here : (at n x : ℕ) → x < at → one_if (has_byte (extent at n) x) ≡ 0
    none_here at n x lt = grind (arith, nat_tests)
