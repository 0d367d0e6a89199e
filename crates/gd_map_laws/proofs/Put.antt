-- A write that may pass the file's end.
use Rattle.std.proofs.Common.{◌≡◌, ℕ, ◌+◌, ◌-◌, ◌<◌, ◌≤◌, List, ◌++◌, length, take, drop, replicate, max, refl, ap, ◌∙◌, arith, length-append, length-drop, append_assoc}
use Rattle.std.proofs.lemmas.List.{length-replicate, length-take-le, take_at, drop_at}
use Rattle.gd_format.specs.Field.{bytes_at}
use Rattle.gd_file_laws.specs.Frame.{written}
use Rattle.gd_map_laws.specs.Frame.{KeepsBut}

front_size : (file : List ℕ) (at : ℕ) → length (take at (file ++ replicate (at - length file) 0)) ≡ at
front_size file at =
    let a = length-append file (replicate (at - length file) 0) in
    let b = length-replicate {A = ℕ} (at - length file) 0 in
    length-take-le at (file ++ replicate (at - length file) 0) (omega (arith, a, b))

reads_at : (at : ℕ) (bs front back : List ℕ) → length front ≡ at → bytes_at ((front ++ bs) ++ back) at (length bs) ≡ bs
reads_at at bs front back e =
    ap (λ (l : List ℕ). take (length bs) (drop at l)) (append_assoc front bs back)
    ∙ ap (take (length bs)) (drop_at front (bs ++ back) at e)
    ∙ take_at bs back (length bs) refl

-- what was written reads there
pub written_reads : (file : List ℕ) (at : ℕ) (bs : List ℕ) → bytes_at (written file at bs) at (length bs) ≡ bs
unfolding written
written_reads file at bs = reads_at at bs (take at (file ++ replicate (at - length file) 0)) (drop (at + length bs) file) (front_size file at)

pub written_size : (file : List ℕ) (at : ℕ) (bs : List ℕ) → length (written file at bs) ≡ max (length file) (at + length bs)
unfolding written
written_size file at bs =
    let front = front_size file at in
    omega (arith, length-append (take at (file ++ replicate (at - length file) 0) ++ bs) (drop (at + length bs) file), length-append (take at (file ++ replicate (at - length file) 0)) bs, length-drop (at + length bs) file, front)

pub written_stays : (touched : ℕ → ℕ) (file new : List ℕ) (at : ℕ) (bs : List ℕ) → KeepsBut touched (written file at bs) new → ((b : ℕ) → at ≤ b → b < at + length bs → touched b ≡ 0) → bytes_at new at (length bs) ≡ bs
written_stays touched file new at bs keeps free =
    keeps.bytes at (length bs) (let n = written_size file at bs in omega (arith, n)) free ∙ written_reads file at bs
