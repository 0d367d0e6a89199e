use Rattle.std.proofs.Common.{◌≡◌, ℕ, ap, sym, ◌∙◌, arith}
use Rattle.gd_format.specs.Field.{bytes_at}
use Rattle.gd_format.specs.HeaderFault.{natural}
use Rattle.gd_format.specs.File.{block_of, entry_at}
use Rattle.gd_readable.proofs.Asks.{told_then}
use Rattle.gd_readable.proofs.Walks.{bucket_place}
use Rattle.gd_readable.proofs.walking.enter_bucket.Goals as goal

pub returns-then-not-whole-clause-whole : goal.returns-then-not-whole-clause-whole
returns-then-not-whole-clause-whole g c =
    λ file told head none.
    let h = c.args.header.now in
    let place = sym c.in-Some.is ∙ c.in_ok-place.ensures.place file told head none in
    let at : c.in-Some.at ≡ natural (entry_at file h c.args.i) = cc in
    let fits = (bucket_place file h none c.args.i c.requires.within c.in-Some.at at).1 in
    let told_one = told_then _ _ c.args.f.0 file c.in_ok-place.ensures.same told in
    let size = c.requires.size in
    sym c.if-not-whole.true ∙ c.in_ok-whole.ensures.whole file told_one (omega (arith, size, fits))

pub returns-clause-block : goal.returns-clause-block
unfolding block_of
returns-clause-block g c =
    λ file told head none.
    let h = c.args.header.now in
    let place = sym c.in-Some.is ∙ c.in_ok-place.ensures.place file told head none in
    let at : c.in-Some.at ≡ natural (entry_at file h c.args.i) = cc in
    let fits = (bucket_place file h none c.args.i c.requires.within c.in-Some.at at).1 in
    let told_one = told_then _ _ c.args.f.0 file c.in_ok-place.ensures.same told in
    let size = c.requires.size in
    c.in_ok-whole.ensures.read file told_one (omega (arith, size, fits)) ∙ ap (bytes_at file c.in-Some.at) size ∙ ap (λ (a : ℕ). bytes_at file a h.block) at
