use Rattle.std.proofs.Common.{◌∙◌, false, true}
use Rattle.gd_vault.proofs.Files.{only_wrote}
use Rattle.gd_numsync.proofs.Files.{keeps_behind}
use Rattle.gd_numsync.proofs.writing.write_front.Goals as goal

pub returns-in_err-write_at-clause-frame : goal.returns-in_err-write_at-clause-frame
returns-in_err-write_at-clause-frame g c = only_wrote c.write_at.ensures.wrote

pub returns-in_err-write_at-clause-behind : goal.returns-in_err-write_at-clause-behind
returns-in_err-write_at-clause-behind g c =
    keeps_behind (g.V.Vault.view_of c.args.vault.now) (g.V.Vault.view_of c.write_at.new.self) c.args.f.0 c.args.header.now.block c.write_header.new.into false (c.write_header.auto.into ∙ c.requires.fit.block_size) c.in_err-write_at.ensures.wrote.told

pub returns-clause-behind : goal.returns-clause-behind
returns-clause-behind g c =
    keeps_behind (g.V.Vault.view_of c.args.vault.now) (g.V.Vault.view_of c.write_at.new.self) c.args.f.0 c.args.header.now.block c.write_header.new.into true (c.write_header.auto.into ∙ c.requires.fit.block_size) c.in_ok-write_at.ensures.wrote.told
