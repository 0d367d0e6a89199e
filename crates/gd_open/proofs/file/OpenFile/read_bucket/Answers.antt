use Rattle.std.proofs.Common.{◌≡◌, inl, inr, ℕ, Some, sym, ap, ◌∙◌, subst, arith}
use Rattle.gd_base.specs.declared.errors.DbError.{DbError}
use Rattle.gd_format.specs.declared.Header.{Header}
use Rattle.gd_readable.proofs.Headers.{header_room}
use Rattle.gd_open.specs.Open.{OpenParts}
use Rattle.gd_open.specs.Reading.{RefusesRead}
use Rattle.gd_open.proofs.Blocks.{block_right, header_some, slots_length}
use Rattle.gd_open.proofs.Opens.{bad_bucket, err_is, no_memory}
use Rattle.gd_open.proofs.file.OpenFile.read_bucket.Goals as goal

pub bucket_from-requires : goal.bucket_from-requires
bucket_from-requires g c =
    let room = header_room c.read_block.new.self.header c.header.ensures.fit.header in
    let elems = ap (λ (h : Header). h.elems) c.header.ensures.is in
    let size = c.block.ensures.size in
    omega (arith, room, elems, size)

pub returns-clause-slots : goal.returns-clause-slots
returns-clause-slots g c =
    slots_length c.block.result.now c.header.result.now.elems c.in_ok-bucket.bucket c.in_ok-bucket.ensures.bucket
    ∙ ap (λ (h : Header). h.elems) c.header.ensures.is ∙ ap (λ (p : OpenParts). p.header.elems) c.in_ok-read_block.ensures.same

pub returns-clause-some : goal.returns-clause-some
returns-clause-some g c =
    let some = header_some c.read_block.new.self.header c.header.ensures.fit.header in
    let elems = ap (λ (h : Header). h.elems) c.header.ensures.is in
    let slots = slots_length c.block.result.now c.header.result.now.elems c.in_ok-bucket.bucket c.in_ok-bucket.ensures.bucket in
    omega (arith, some, elems, slots)

pub returns-in_err-bucket-clause-refused : goal.returns-in_err-bucket-clause-refused
returns-in_err-bucket-clause-refused g c =
    err_is c.from_residual-in_err-bucket.result _ _ c.from_residual-in_err-bucket.ensures.1
    (λ e is.
    elim c.in_err-bucket.ensures.refused [
      | inl none ↦ subst (λ (d : DbError). RefusesRead d (g.V.Vault.view_of c.args.vault.now) (g.V.Vault.view_of c.read_block.new.vault)) (sym (is ∙ none)) (no_memory (g.V.Vault.view_of c.args.vault.now) (g.V.Vault.view_of c.read_block.new.vault))
      | inr bad ↦
          subst (λ (d : DbError). RefusesRead d (g.V.Vault.view_of c.args.vault.now) (g.V.Vault.view_of c.read_block.new.vault)) (sym (is ∙ bad.0))
          (bad_bucket c.args.at (g.V.Vault.view_of c.args.vault.now) (g.V.Vault.view_of c.read_block.new.vault) c.args.self.now.id c.requires.file
          (λ k x told there.
          let right = block_right x.bytes c.args.self.now.header (c.requires.readable.is_open k x told there) c.args.at (c.requires.place k x told there) in
          let block = c.block.ensures.is ∙ c.in_ok-read_block.ensures.block k x told there in
          let elems = ap (λ (h : Header). h.elems) c.header.ensures.is ∙ ap (λ (p : OpenParts). p.header.elems) c.in_ok-read_block.ensures.same in
          let no = bad.1 in
          absurd (cc (right, block, elems, no))))
    ])
