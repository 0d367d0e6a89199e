use Rattle.std.proofs.Common.{◌≡◌, None, length, sym, ◌∙◌}
use Rattle.gd_format.specs.HeaderFault.{header_fault_of, header_of}
use Rattle.gd_format.specs.File.{front_of}
use Rattle.gd_readable.specs.Asks.{kept_of, bytes_in, Tells}
use Rattle.gd_readable.proofs.Asks.{told_then}
use Rattle.gd_readable.proofs.Fronts.{no_fault}
use Rattle.gd_readable.proofs.checking.checked.Goals as goal

pub returns-in-None-clause-readable : goal.returns-in-None-clause-readable
returns-in-None-clause-readable g c =
    λ file told.
    let len = c.in_ok-len.ensures.len file told in
    let told_one = told_then _ _ c.args.f.0 file c.in_ok-len.ensures.same told in
    let header : Tells (bytes_in (kept_of (g.V.Vault.view_of c.file_len.new.vault)) c.args.f.0) (λ file. length file ≡ c.in_ok-len.len → (header_fault_of (front_of file) c.in_ok-len.len ≡ None) × (c.in-Ok.header ≡ header_of (front_of file))) = rw c.in-Ok.is at c.in_ok-header.ensures.header in
    let head = header file told_one len in
    let told_two = told_then _ _ c.args.f.0 file c.in_ok-header.ensures.same told_one in
    let dir = sym (c.in_ok-refusal.ensures.refusal file told_two len) ∙ c.in-None.is in
    (no_fault file c.in_ok-len.len c.in-Ok.header len head.0 head.1 dir, head.1)
