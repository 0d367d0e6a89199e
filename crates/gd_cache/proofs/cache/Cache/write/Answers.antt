use Rattle.std.proofs.Common.{◌≡◌, ℕ, Some, None, true, false, refl, sym, ap, ◌∙◌, length, arith, is_ok, Result, Ok, Err}
use Rattle.std.specs.Result.{is_err}
use Rattle.lru.specs.LruCache.{LruCache}
use Rattle.gd_format.specs.Bucket.{Bucket}
use Rattle.gd_vault.specs.Frame.{OneFile, NoName}
use Rattle.gd_vault.proofs.OneFile.{frame_there}
use Rattle.gd_vault.proofs.Within.{within_wrote}
use Rattle.gd_cache.specs.Cached.{Cached, held}
use Rattle.gd_cache.proofs.Files.{agrees_kept, agrees_wrote, spelled_in}
use Rattle.gd_cache.proofs.cache.Cache.write.Goals as goal

pub returns-in_err-keep-clause-agrees : goal.returns-in_err-keep-clause-agrees
returns-in_err-keep-clause-agrees g c =
    let u = g.V.Vault.view_of c.args.vault.now in
    agrees_kept u u c.args.f.0 c.args.self.now (record { entries = c.keep.new.kept.entries; size = 0; block = c.self.inside.block }) refl (ap (λ (k : Cached). k.block) c.self.view_is)
    (λ a b is. ap (λ (k : Cached). held k.entries a) (sym c.self.view_is) ∙ ap (λ (k : LruCache ℕ Bucket). held k.entries a) (sym c.in_err-keep.ensures.err) ∙ is)
    c.requires.agrees

pub returns-then-is_err-clause-agrees : goal.returns-then-is_err-clause-agrees
returns-then-is_err-clause-agrees g c =
    let u = g.V.Vault.view_of c.args.vault.now in
    let v = g.V.Vault.view_of c.write_at.new.self in
    let block = ap (λ (k : Cached). k.block) c.self.view_is in
    let size = ap length c.deref_mut.ensures.value ∙ c.self.invariant.buffer ∙ block in
    let spells = spelled_in c.self.inside.buf.len (length c.deref_mut.result.now) c.args.self.now.block c.args.bucket c.spell.new.buf c.deref.result.now c.self.inside.buf.items c.deref.ensures.value (omega (arith, c.deref_mut.ensures.len)) c.spell.ensures size in
    agrees_wrote u v c.args.f.0 c.args.bucket c.args.self.now (record { entries = c.forget.new.kept.entries; size = 0; block = c.self.inside.block }) c.write_at.ensures.wrote c.requires.file spells block c.requires.alone
    (λ a b ne is. ap (λ (k : Cached). held k.entries a) (sym c.self.view_is) ∙ c.keep.ensures.others a b ne (c.forget.ensures.others a b ne is))
    (λ e is. absurd (let no : None ≡ Some e = sym c.forget.ensures.gone ∙ is in cc))
    c.requires.agrees

pub returns-clause-agrees : goal.returns-clause-agrees
returns-clause-agrees g c =
    let u = g.V.Vault.view_of c.args.vault.now in
    let v = g.V.Vault.view_of c.write_at.new.self in
    let block = ap (λ (k : Cached). k.block) c.self.view_is in
    let size = ap length c.deref_mut.ensures.value ∙ c.self.invariant.buffer ∙ block in
    let spells = spelled_in c.self.inside.buf.len (length c.deref_mut.result.now) c.args.self.now.block c.args.bucket c.spell.new.buf c.deref.result.now c.self.inside.buf.items c.deref.ensures.value (omega (arith, c.deref_mut.ensures.len)) c.spell.ensures size in
    agrees_wrote u v c.args.f.0 c.args.bucket c.args.self.now (record { entries = c.keep.new.kept.entries; size = 0; block = c.self.inside.block }) c.write_at.ensures.wrote c.requires.file spells block c.requires.alone
    (λ a b ne is. ap (λ (k : Cached). held k.entries a) (sym c.self.view_is) ∙ c.keep.ensures.others a b ne is)
    (λ e is. (well c.write_at.result (sym c.is_err.ensures.value ∙ c.if-is_err.false), (let both : Some c.args.bucket ≡ Some e = sym c.in_ok-keep.ensures.put ∙ is in cc)))
    c.requires.agrees
  where
    well : {T E : Type 0} (r : Result T E) → is_err r ≡ false → is_ok r ≡ true
    well (Ok x) h = refl
    well (Err x) h = cc

pub returns-then-is_err-clause-file : goal.returns-then-is_err-clause-file
returns-then-is_err-clause-file g c =
    frame_there (OneFile c.args.f.0) NoName (g.V.Vault.view_of c.args.vault.now) (g.V.Vault.view_of c.write_at.new.self) c.args.f.0 (within_wrote c.write_at.ensures.wrote) c.requires.file

pub returns-clause-file : goal.returns-clause-file
returns-clause-file g c =
    frame_there (OneFile c.args.f.0) NoName (g.V.Vault.view_of c.args.vault.now) (g.V.Vault.view_of c.write_at.new.self) c.args.f.0 (within_wrote c.write_at.ensures.wrote) c.requires.file
