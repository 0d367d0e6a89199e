use Rattle.std.proofs.Common.{◌≡◌, length, arith}
use Rattle.gd_lookup.proofs.records.bytes_from.Goals as goal

pub returns-then-not-whole-clause-whole : goal.returns-then-not-whole-clause-whole
returns-then-not-whole-clause-whole g c =
    λ d x told there inside.
    let size : length c.deref_mut.result.now ≡ c.args.size = omega (arith, c.deref_mut.ensures.len, c.in-Ok.ensures.len) in
    let whole = c.in-Ok-read_bytes.ensures.whole d x told there (λ some. let all = inside (omega (arith, size, some)) in omega (arith, all, size)) in
    cc (whole, c.if-not-whole.true)
