use Rattle.std.proofs.Common.{◌+◌, ◌-◌, ◌*◌, ◌/◌, arith}
use Rattle.gd_format.specs.Avail.{avail_size}
use Rattle.gd_space.proofs.Gives.{done_lost}
use Rattle.gd_space.proofs.give.make_room.Goals as goal

pub returns-clause-done : goal.returns-clause-done
returns-clause-done g c =
    done_lost (g.V.Vault.view_of c.args.vault.now) (g.V.Vault.view_of c.push_last.new.vault) _ _ _ _ _ _ _ _ _ (8 * c.args.header.now.avail_size + 32 - avail_size (c.args.header.now.avail_size / 2)) 32 (omega arith) c.in_ok-push_last.ensures.pushed.done
