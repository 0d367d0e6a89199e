use Rattle.std.proofs.Common.{◌≡◌, ◌+◌, ◌*◌, ℕ, Some, None, ap, ◌∙◌, rules, arith}
use Rattle.gd_format.specs.Field.{bytes_at}
use Rattle.gd_readable.specs.Standing.{place_of}
use Rattle.gd_open.specs.Open.{OpenParts}
use Rattle.gd_open.proofs.Blocks.{address_read, entry_in, place_of_entry}
use Rattle.gd_open.proofs.Opens.{bad_entry}
use Rattle.gd_open.proofs.file.OpenFile.entry.Goals as goal

pub returns-then-not-all-clause-refused : goal.returns-then-not-all-clause-refused
returns-then-not-all-clause-refused g c =
    bad_entry c.args.i (g.V.Vault.view_of c.args.vault.now) (g.V.Vault.view_of c.fill.new.vault) c.args.self.now.id c.requires.file
    (λ k x told there.
    let o = c.requires.readable.is_open k x told there in
    let here : k.files c.self.inside.id.0 ≡ Some x = ap (λ (p : OpenParts). k.files p.id) c.self.view_is ∙ there in
    let dir = ap (λ (p : OpenParts). p.header.dir) c.self.view_is in
    let inside = entry_in x.bytes c.args.self.now.header o c.args.i c.requires.within in
    let whole = c.in-Ok.ensures.whole k x told here (omega (arith, inside, dir)) in
    absurd (cc (whole, c.if-not-all.true)))

pub returns-in-Some-clause-address : goal.returns-in-Some-clause-address
returns-in-Some-clause-address g c = λ k x told there.
    let o = c.requires.readable.is_open k x told there in
    let here : k.files c.self.inside.id.0 ≡ Some x = ap (λ (p : OpenParts). k.files p.id) c.self.view_is ∙ there in
    let dir = ap (λ (p : OpenParts). p.header.dir) c.self.view_is in
    let inside = entry_in x.bytes c.args.self.now.header o c.args.i c.requires.within in
    let read = c.in-Ok.ensures.read k x told here (omega (arith, inside, dir)) ∙ ap (λ (n : ℕ). bytes_at x.bytes (n + 8 * c.args.i) 8) dir in
    let address = address_read x.bytes c.args.self.now.header o c.args.i c.fill.new.buf c.requires.within read in
    let is : place_of c.i64_from.result ≡ Some c.in-Some.at = search rules in
    cc (address, is, c.i64_from.ensures)

pub returns-in-Some-clause-place : goal.returns-in-Some-clause-place
returns-in-Some-clause-place g c = λ k x told there. place_of_entry x.bytes c.args.self.now.header c.in-Some.at c.args.i c.requires.within (returns-in-Some-clause-address g c k x told there)

pub returns-in-None-clause-refused : goal.returns-in-None-clause-refused
returns-in-None-clause-refused g c =
    bad_entry c.args.i (g.V.Vault.view_of c.args.vault.now) (g.V.Vault.view_of c.fill.new.vault) c.args.self.now.id c.requires.file
    (λ k x told there.
    let o = c.requires.readable.is_open k x told there in
    let here : k.files c.self.inside.id.0 ≡ Some x = ap (λ (p : OpenParts). k.files p.id) c.self.view_is ∙ there in
    let dir = ap (λ (p : OpenParts). p.header.dir) c.self.view_is in
    let inside = entry_in x.bytes c.args.self.now.header o c.args.i c.requires.within in
    let read = c.in-Ok.ensures.read k x told here (omega (arith, inside, dir)) ∙ ap (λ (n : ℕ). bytes_at x.bytes (n + 8 * c.args.i) 8) dir in
    let address = address_read x.bytes c.args.self.now.header o c.args.i c.fill.new.buf c.requires.within read in
    let is : place_of c.i64_from.result ≡ None = search rules in
    absurd (cc (address, is, c.i64_from.ensures)))
