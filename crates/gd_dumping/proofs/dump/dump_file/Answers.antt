use Rattle.std.proofs.Common.{◌≡◌, ◌∙◌, None, ap, sym, refl}
use Rattle.gd_vault.specs.Views.{content_of}
use Rattle.gd_format.specs.HeaderFault.{header_of}
use Rattle.gd_format.specs.File.{file_fault, front_of}
use Rattle.gd_dumping.proofs.Ends.{breaks_on, ends_broken}
use Rattle.gd_dumping.proofs.Files.{at_now}
use Rattle.gd_dumping.proofs.dump.dump_file.Goals as goal

pub write_dump-requires-clause-readable : goal.write_dump-requires-clause-readable
write_dump-requires-clause-readable g c =
    at_now (g.V.Vault.view_of c.args.vault.now) (g.V.Vault.view_of c.readable.new.vault) c.args.f.0 c.args.f.0 (λ file. (file_fault file ≡ None) × (c.in-Ok.header ≡ header_of (front_of file))) c.in-Ok.ensures.asks.told refl c.in-Ok.ensures.readable

pub returns-in-Err-write_dump-clause-ends : goal.returns-in-Err-write_dump-clause-ends
returns-in-Err-write_dump-clause-ends g c =
    let before = g.V.Vault.view_of c.args.vault.now in
    let here = g.V.Vault.view_of c.readable.new.vault in
    let asks = c.in-Ok.ensures.asks in
    ends_broken c.in-Err-write_dump.ending c.args.form c.args.name.now before c.args.f.0 _ _
    (breaks_on c.in-Err-write_dump.ending here.told before.told asks.told c.in-Err-write_dump.ensures.breaks)
    (λ d told x is. (c.in-Ok.ensures.readable d told x is).0)
    (λ d told x is. c.in-Err-write_dump.ensures.bytes d (ap content_of asks.told ∙ told) x is)
