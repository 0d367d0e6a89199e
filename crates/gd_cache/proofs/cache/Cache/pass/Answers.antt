use Rattle.std.proofs.Common.{◌≡◌, Some, None, sym, ap, ◌∙◌, length, arith}
use Rattle.gd_vault.specs.Frame.{OneFile, NoName}
use Rattle.gd_vault.proofs.OneFile.{frame_there}
use Rattle.gd_vault.proofs.Within.{within_wrote}
use Rattle.gd_cache.specs.Cached.{Cached, held}
use Rattle.gd_cache.proofs.Files.{agrees_wrote, spelled_in}
use Rattle.gd_cache.proofs.cache.Cache.pass.Goals as goal

pub returns-clause-agrees : goal.returns-clause-agrees
returns-clause-agrees g c =
    let u = g.V.Vault.view_of c.args.vault.now in
    let v = g.V.Vault.view_of c.write_at.new.self in
    let block = ap (λ (k : Cached). k.block) c.self.view_is in
    let size = ap length c.deref_mut.ensures.value ∙ c.self.invariant.buffer ∙ block in
    let spells = spelled_in c.self.inside.buf.len (length c.deref_mut.result.now) c.args.self.now.block c.args.bucket.now c.spell.new.buf c.deref.result.now c.self.inside.buf.items c.deref.ensures.value (omega (arith, c.deref_mut.ensures.len)) c.spell.ensures size in
    agrees_wrote u v c.args.f.0 c.args.bucket.now c.args.self.now (record { entries = c.forget.new.kept.entries; size = 0; block = c.self.inside.block }) c.write_at.ensures.wrote c.requires.file spells block c.requires.alone
    (λ a b ne is. ap (λ (k : Cached). held k.entries a) (sym c.self.view_is) ∙ c.forget.ensures.others a b ne is)
    (λ e is. absurd (let no : None ≡ Some e = sym c.forget.ensures.gone ∙ is in cc))
    c.requires.agrees

pub returns-clause-file : goal.returns-clause-file
returns-clause-file g c =
    frame_there (OneFile c.args.f.0) NoName (g.V.Vault.view_of c.args.vault.now) (g.V.Vault.view_of c.write_at.new.self) c.args.f.0 (within_wrote c.write_at.ensures.wrote) c.requires.file
