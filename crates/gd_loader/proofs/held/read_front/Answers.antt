use Rattle.std.proofs.Common.{drop, take, rules}
use Rattle.gd_loader.proofs.Fronts.{front_read}
use Rattle.gd_loader.proofs.held.read_front.Goals as goal

pub returns-clause-read : goal.returns-clause-read
returns-clause-read g c =
    front_read c.read_at.result (g.V.Vault.view_of c.args.vault.now) (g.V.Vault.view_of c.read_at.new.self) c.args.f.0 c.args.at c.args.room
    (take c.args.room c.args.page.now) c.read_at.new.buf (drop c.args.room c.args.page.now) (search rules) (search rules) c.read_at.ensures
