use Rattle.std.proofs.Common.{◌≡◌, ◌∷◌, ◌++◌, [], None, arith}
use Rattle.std.proofs.Common.{◌∙◌, ap, ap₂}
use Rattle.std.specs.Str.{bytes_eq}
use Rattle.gd_memvault.specs.Disk.{names_of}
use Rattle.gd_memvault.proofs.Names.{differ}
use Rattle.gd_memvault.proofs.Disks.{moved}
use Rattle.gd_memvault.proofs.disk.Disk.replace.Goals as goal

pub returns-clause-done : goal.returns-clause-done
returns-clause-done c =
    let named : c.push_reserved-2.new.self.items ≡ (c.args.self.now.names ++ (record { name = c.args.to; id = c.find-id.result }) ∷ []) ++ (record { name = c.args.from; id = None }) ∷ [] = grind arith in
    let same : c.self.inside.files.items ≡ c.args.self.now.files = grind arith in
    moved c.args.from c.args.to c.find-id.result c.args.self.now c.push_reserved-2.new.self.items c.self.inside.files.items (differ c.args.from c.args.to c.eq.result (c.eq.ensures ∙ ap₂ bytes_eq c.as_slice-2.ensures c.as_slice-3.ensures) c.if-eq.false) (c.find-id.ensures ∙ ap (names_of c.args.self.now.names) c.as_slice.ensures) named same
