use Rattle.std.proofs.Common.{◌≡◌, ◌∷◌, ◌++◌, [], Some, length, arith}
use Rattle.gd_memvault.proofs.Disks.{file_added}
use Rattle.gd_memvault.proofs.disk.Disk.add.Goals as goal

pub returns-clause-added : goal.returns-clause-added
returns-clause-added c =
    let named : c.push_reserved.new.self.items ≡ c.args.self.now.names ++ (record { name = c.args.name; id = Some c.len-id.result }) ∷ [] = grind arith in
    let more : c.push.new.self.items ≡ c.args.self.now.files ++ c.args.file ∷ [] = grind arith in
    let id : c.len-id.result ≡ length c.args.self.now.files = grind arith in
    file_added c.args.name c.args.file c.len-id.result c.args.self.now c.push_reserved.new.self.items c.push.new.self.items named more id
