use Rattle.std.proofs.Common.{◌≡◌, ◌+◌, ◌<◌, ◌≤◌, ◌^◌, false, true, length, None, [], ◌∷◌}
use Rattle.gd_format.specs.File.{block_of, dir_fault, entries_of, is_first}
use Rattle.gd_readable.specs.Asks.{kept_of, bytes_in, Tells}
use Rattle.gd_readable.specs.Checks.{IsHeaderIn}
use Rattle.gd_readable.specs.Left.{passing_from}
use Rattle.gd_readable.proofs.Asks.{told_then}
use Rattle.gd_readable.proofs.Left.{header_of_walk, dir_of_walk, bucket_left, walk_bucket}
use Rattle.gd_readable.proofs.Passing.{buckets_none}
use Rattle.gd_readable.proofs.walking.next_block.Goals as goal

pub returns-in_default-clause-none : goal.returns-in_default-clause-none
returns-in_default-clause-none g c =
    λ file told w.
    let h = c.args.header.now in
    let none : Tells (bytes_in (kept_of (g.V.Vault.view_of c.args.vault.now)) c.args.f.0) (λ file. IsHeaderIn h (length file) → dir_fault file h ≡ None → passing_from (is_first file h) (entries_of h) c.args.entry ≡ []) = rw c.in_default.is at c.in_ok-first.ensures.none in
    buckets_none file h c.args.entry (none file told (header_of_walk file c.args.header.now c.args.entry c.args.block.now c.args.slot w) (dir_of_walk file c.args.header.now c.args.entry c.args.block.now c.args.slot w))

pub returns-in-Some-place-clause-some : goal.returns-in-Some-place-clause-some
returns-in-Some-place-clause-some g c =
    λ file told w.
    let h = c.args.header.now in
    let head = header_of_walk file c.args.header.now c.args.entry c.args.block.now c.args.slot w in
    let none = dir_of_walk file c.args.header.now c.args.entry c.args.block.now c.args.slot w in
    let told_one = told_then _ _ c.args.f.0 file c.in_ok-first.ensures.same told in
    let range : (c.args.entry ≤ c.in-Some.i) × (c.in-Some.i < entries_of h) × (c.in-Some.i < 2 ^ 24) = rw c.in-Some.is at c.in_ok-first.ensures.range in
    let some : Tells (bytes_in (kept_of (g.V.Vault.view_of c.args.vault.now)) c.args.f.0) (λ file. IsHeaderIn h (length file) → dir_fault file h ≡ None → passing_from (is_first file h) (entries_of h) c.args.entry ≡ c.in-Some.i ∷ passing_from (is_first file h) (entries_of h) (c.in-Some.i + 1)) = rw c.in-Some.is at c.in_ok-first.ensures.some in
    let block : Tells (bytes_in (kept_of (g.V.Vault.view_of c.next_first_at.new.vault)) c.args.f.0) (λ file. IsHeaderIn h (length file) → dir_fault file h ≡ None → c.enter_bucket.new.block ≡ block_of file h c.in-Some.i) = rw c.in-Some-place.is at c.in_ok-place.ensures.block in
    let next = block file told_one head none in
    (bucket_left file c.args.header.now c.args.entry c.args.block.now c.args.slot w c.in-Some.i c.enter_bucket.new.block (some file told head none) next, walk_bucket file c.args.header.now c.args.entry c.args.block.now c.args.slot w c.in-Some.i c.enter_bucket.new.block range.1 next)

pub returns-in-None-clause-failed : goal.returns-in-None-clause-failed
returns-in-None-clause-failed g c =
    λ file told w.
    let told_one = told_then _ _ c.args.f.0 file c.in_ok-first.ensures.same told in
    let bad : false ≡ true = rw c.in-None.is at (c.in_ok-place.ensures.whole file told_one (header_of_walk file c.args.header.now c.args.entry c.args.block.now c.args.slot w) (dir_of_walk file c.args.header.now c.args.entry c.args.block.now c.args.slot w)) in
    cc bad
