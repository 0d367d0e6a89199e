use Rattle.std.proofs.Common.{◌≡◌, ◌∷◌, ◌++◌, [], None, arith}
use Rattle.gd_memvault.proofs.Disks.{removed}
use Rattle.gd_memvault.proofs.disk.Disk.remove.Goals as goal

pub returns-clause-done : goal.returns-clause-done
returns-clause-done c =
    let named : c.push_reserved.new.self.items ≡ c.args.self.now.names ++ (record { name = c.args.name; id = None }) ∷ [] = grind arith in
    let same : c.self.inside.files.items ≡ c.args.self.now.files = grind arith in
    removed c.args.name c.args.self.now c.push_reserved.new.self.items c.self.inside.files.items named same
