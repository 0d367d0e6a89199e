use Rattle.std.proofs.Common.{◌≡◌, Some, sym, ap, ◌∙◌}
use Rattle.gd_vault.specs.Effects.{written}
use Rattle.gd_vault.proofs.Files.{only_wrote}
use Rattle.gd_open.specs.Open.{OpenParts}
use Rattle.gd_open.proofs.Files.{becomes_written, still_there, there_for, writes_for}
use Rattle.gd_open.proofs.file.OpenFile.write_header.Goals as goal

pub returns-in_err-write_at-clause-frame : goal.returns-in_err-write_at-clause-frame
returns-in_err-write_at-clause-frame g c = writes_for (ap (λ (p : OpenParts). p.id) c.self.view_is) (only_wrote c.write_at.ensures.wrote)

pub returns-clause-frame : goal.returns-clause-frame
returns-clause-frame g c = writes_for (ap (λ (p : OpenParts). p.id) c.self.view_is) (only_wrote c.write_at.ensures.wrote)

pub returns-clause-becomes : goal.returns-clause-becomes
returns-clause-becomes g c = λ k x told there.
    let here : k.files c.self.inside.id.0 ≡ Some x = ap (λ (p : OpenParts). k.files p.id) c.self.view_is ∙ there in
    let w = becomes_written (g.V.Vault.view_of c.args.vault.now) (g.V.Vault.view_of c.write_at.new.self) c.self.inside.id.0 0 c.deref.result.now c.in_ok-write_at.ensures.wrote.told k x told here in
    record {
      content = w.content;
      file = w.file;
      told = w.told;
      there = ap (λ (p : OpenParts). w.content.files p.id) (sym c.self.view_is) ∙ w.there;
      holds = w.holds ∙ ap (written x.bytes 0) c.deref.ensures.value;
    }

pub returns-clause-there : goal.returns-clause-there
returns-clause-there g c =
    still_there c.self.inside.id.0 (only_wrote c.write_at.ensures.wrote).within (there_for (g.V.Vault.view_of c.args.vault.now) (sym (ap (λ (p : OpenParts). p.id) c.self.view_is)) c.requires.file)
