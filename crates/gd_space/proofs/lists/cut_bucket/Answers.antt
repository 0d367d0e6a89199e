use Rattle.std.proofs.Common.{◌≡◌, ◌∙◌, ap, get_or, [], ◌∷◌, ◌++◌, arith}
use Rattle.std.proofs.lemmas.List.{get_or_default}
use Rattle.std.specs.List.{remove}
use Rattle.gd_format.specs.declared.Extent.{Extent}
use Rattle.gd_format.specs.Bucket.{Bucket}
use Rattle.gd_format.specs.Sound.{extent}
use Rattle.gd_space.proofs.Cuts.{cut_whole, cut_part}
use Rattle.gd_space.proofs.lists.cut_bucket.Goals as goal

pub returns-then-e-n-clause-cut : goal.returns-then-e-n-clause-cut
returns-then-e-n-clause-cut c = λ next lt below.
    let old = c.args.bucket.now in
    let e = c.remove_free-e in
    let there : e.result ≡ get_or old.free c.args.i (extent 0 0) = e.ensures.extent ∙ get_or_default old.free c.args.i e.result (extent 0 0) c.requires.there in
    let items : c.push_free.new.self.free ≡ remove old.free c.args.i ++ c.rest_of.result ∷ [] =
    ap (λ (t : Bucket). t.free) c.push_free.ensures ∙ ap (λ (t : Bucket). t.free ++ c.rest_of.result ∷ []) e.ensures.rest in
    rw items (cut_part (extent 0 0) e.result c.rest_of.result next old.free c.args.i c.args.n lt c.requires.there there c.requires.some c.if-e-n.true c.rest_of.ensures.size c.rest_of.ensures.at below)

pub returns-else-e-n-clause-cut : goal.returns-else-e-n-clause-cut
returns-else-e-n-clause-cut c = λ next lt below.
    let old = c.args.bucket.now in
    let e = c.remove_free-e in
    let there : e.result ≡ get_or old.free c.args.i (extent 0 0) = e.ensures.extent ∙ get_or_default old.free c.args.i e.result (extent 0 0) c.requires.there in
    let items : e.new.self.free ≡ remove old.free c.args.i = ap (λ (t : Bucket). t.free) e.ensures.rest in
    let size = ap (λ (x : Extent). x.size) there in
    let fits = c.requires.fits in
    let whole : e.result.size ≡ c.args.n = omega (arith, size, fits, c.if-e-n.false) in
    rw items (cut_whole (extent 0 0) e.result next old.free c.args.i c.args.n c.requires.there there whole below)
