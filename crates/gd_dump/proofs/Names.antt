-- The last part of a file's name.
use Rattle.std.proofs.Common.{◌≡◌, ◌≢◌, ap, ℕ, ◌+◌, ◌-◌, ◌<◌, ◌≤◌, ◌==◌, true, false, List, length, drop, get_or, arith}
use Rattle.std.specs.Prelude.{not}
use Rattle.std.proofs.lemmas.List.Sums.{suffix_len_is}
use Rattle.gd_dump.specs.Ascii.{file_part}

part_from : (name : List ℕ) (n : ℕ) → n ≤ length name → ((k : ℕ) → n ≤ k → k < length name → not (get_or name k 0 == 47) ≡ true)
    → (0 < n → not (get_or name (n - 1) 0 == 47) ≡ false) → file_part name ≡ drop n name
part_from name n within after here =
    let len = suffix_len_is (λ b. not (b == 47)) name n 0 within after here in
    ap (λ k. drop k name) (omega (arith, len))

pub part_after : (name : List ℕ) (i : ℕ) → i < length name → get_or name i 0 ≡ 47 → ((k : ℕ) → i + 1 ≤ k → k < length name → get_or name k 0 ≢ 47)
    → file_part name ≡ drop (i + 1) name
part_after name i within here after =
    part_from name (i + 1) (omega arith) (λ k past inside. grind (arith, after k past inside)) (λ some. grind arith)

pub part_whole : (name : List ℕ) → ((k : ℕ) → k < length name → get_or name k 0 ≢ 47) → file_part name ≡ name
part_whole name none = part_from name 0 (omega arith) (λ k past inside. grind (arith, none k inside)) (λ some. absurd (omega (arith, some)))
