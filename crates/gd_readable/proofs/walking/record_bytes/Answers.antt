use Rattle.std.proofs.Common.{◌≡◌, length, take, drop, ◌++◌, ap, sym, ◌∙◌, arith}
use Rattle.std.proofs.Math.Seq.{take-append_seam}
use Rattle.std.specs.Prelude.{ℕ}
use Rattle.gd_format.specs.Field.{bytes_at}
use Rattle.gd_format.specs.File.{size_of}
use Rattle.gd_readable.proofs.Places.{record_inside}
use Rattle.gd_readable.proofs.walking.record_bytes.Goals as goal

pub returns-then-not-whole-clause-whole : goal.returns-then-not-whole-clause-whole
returns-then-not-whole-clause-whole g c =
    λ file told right.
    let size : length c.deref_mut.result.now ≡ size_of c.args.raw.now = omega (arith, c.deref_mut.ensures.len, c.in-Ok.ensures.len, c.key_size.ensures.value, c.value_size.ensures.value) in
    let at = c.address.ensures.value in
    sym c.if-not-whole.true ∙ c.in_ok-whole.ensures.whole file told (λ some. let inside = record_inside (length file) c.args.raw.now right (omega (arith, size, some)) in omega (arith, size, inside, at))

pub returns-clause-bytes : goal.returns-clause-bytes
returns-clause-bytes g c =
    λ file told right.
    let size : length c.deref_mut.result.now ≡ size_of c.args.raw.now = omega (arith, c.deref_mut.ensures.len, c.in-Ok.ensures.len, c.key_size.ensures.value, c.value_size.ensures.value) in
    let at = c.address.ensures.value in
    let read = c.in_ok-whole.ensures.read file told (λ some. let inside = record_inside (length file) c.args.raw.now right (omega (arith, size, some)) in omega (arith, size, inside, at)) in
    let len : c.in-Ok.bytes.len ≡ length c.fill_some.new.buf = omega (arith, c.fill_some.auto.buf, c.deref_mut.ensures.len) in
    ap (λ (n : ℕ). take n (c.fill_some.new.buf ++ drop (length c.fill_some.new.buf) c.in-Ok.bytes.items)) len
    ∙ take-append_seam c.fill_some.new.buf (drop (length c.fill_some.new.buf) c.in-Ok.bytes.items)
    ∙ read ∙ ap (bytes_at file c.address.result) size ∙ ap (λ (a : ℕ). bytes_at file a (size_of c.args.raw.now)) at
