use Rattle.std.proofs.Common.{◌≡◌, ℕ, Some, length, ap, ◌∙◌, arith}
use Rattle.gd_format.specs.Field.{bytes_at}
use Rattle.gd_open.specs.Open.{OpenParts}
use Rattle.gd_open.proofs.Blocks.{block_in, whole_front}
use Rattle.gd_open.proofs.Opens.{bad_bucket}
use Rattle.gd_open.proofs.file.OpenFile.read_block.Goals as goal

pub returns-then-not-all-clause-refused : goal.returns-then-not-all-clause-refused
returns-then-not-all-clause-refused g c =
    bad_bucket c.args.at (g.V.Vault.view_of c.args.vault.now) (g.V.Vault.view_of c.fill.new.vault) c.args.self.now.id c.requires.file
    (λ k x told there.
    let o = c.requires.readable.is_open k x told there in
    let here : k.files c.self.inside.id.0 ≡ Some x = ap (λ (p : OpenParts). k.files p.id) c.self.view_is ∙ there in
    let block = ap (λ (p : OpenParts). p.header.block) c.self.view_is in
    let inside = block_in x.bytes c.args.self.now.header o c.args.at (c.requires.place k x told there) in
    let size = c.self.invariant.parts.block_size in
    let len = c.deref_mut.ensures.len in
    let whole = c.in-Ok.ensures.whole k x told here (omega (arith, inside, block, size, len)) in
    absurd (cc (whole, c.if-not-all.true)))

pub returns-clause-block : goal.returns-clause-block
returns-clause-block g c = λ k x told there.
    let o = c.requires.readable.is_open k x told there in
    let here : k.files c.self.inside.id.0 ≡ Some x = ap (λ (p : OpenParts). k.files p.id) c.self.view_is ∙ there in
    let block = ap (λ (p : OpenParts). p.header.block) c.self.view_is in
    let inside = block_in x.bytes c.args.self.now.header o c.args.at (c.requires.place k x told there) in
    let size = c.self.invariant.parts.block_size in
    let len = c.deref_mut.ensures.len in
    let whole : length c.deref_mut.result.now ≡ c.args.self.now.header.block = omega (arith, block, size, len) in
    let kept = c.fill.auto.buf in
    whole_front c.self.inside.block.len c.fill.new.buf _ (omega (arith, kept, len))
    ∙ c.in-Ok.ensures.read k x told here (omega (arith, inside, whole))
    ∙ ap (bytes_at x.bytes c.args.at) whole
