use Rattle.std.proofs.Common.{◌≡◌, Some, ap, ◌∙◌, arith}
use Rattle.gd_format.specs.Bucket.{counts_at}
use Rattle.gd_readable.proofs.Headers.{header_room}
use Rattle.gd_open.specs.Open.{OpenParts}
use Rattle.gd_open.proofs.Blocks.{block_in}
use Rattle.gd_open.proofs.Opens.{bad_bucket}
use Rattle.gd_open.proofs.file.OpenFile.counts.Goals as goal

pub returns-then-not-all-clause-refused : goal.returns-then-not-all-clause-refused
returns-then-not-all-clause-refused g c =
    bad_bucket c.args.at (g.V.Vault.view_of c.args.vault.now) (g.V.Vault.view_of c.fill.new.vault) c.args.self.now.id c.requires.file
    (λ k x told there.
    let o = c.requires.readable.is_open k x told there in
    let here : k.files c.self.inside.id.0 ≡ Some x = ap (λ (p : OpenParts). k.files p.id) c.self.view_is ∙ there in
    let block = ap (λ (p : OpenParts). p.header.block) c.self.view_is in
    let inside = block_in x.bytes c.args.self.now.header o c.args.at (c.requires.place k x told there) in
    let room = header_room c.self.inside.header c.self.invariant.parts.header in
    let whole = c.in-Ok.ensures.whole k x told here (omega (arith, inside, block, room)) in
    absurd (cc (whole, c.if-not-all.true)))

pub returns-clause-counts : goal.returns-clause-counts
returns-clause-counts g c = λ k x told there.
    let o = c.requires.readable.is_open k x told there in
    let here : k.files c.self.inside.id.0 ≡ Some x = ap (λ (p : OpenParts). k.files p.id) c.self.view_is ∙ there in
    let block = ap (λ (p : OpenParts). p.header.block) c.self.view_is in
    let inside = block_in x.bytes c.args.self.now.header o c.args.at (c.requires.place k x told there) in
    let room = header_room c.self.inside.header c.self.invariant.parts.header in
    c.counts.ensures ∙ ap counts_at (c.in-Ok.ensures.read k x told here (omega (arith, inside, block, room)))
