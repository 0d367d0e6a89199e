use Rattle.std.proofs.Common.{◌≡◌, ◌∷◌, ◌++◌, [], arith, ap, ◌∙◌}
use Rattle.gd_memvault.specs.Log.{count_of}
use Rattle.gd_memvault.proofs.Logs.{count_push}
use Rattle.gd_memvault.proofs.log.Log.push.Goals as goal

pub invariant_of-self-2 : goal.invariant_of-self-2
invariant_of-self-2 c =
    let more : c.push.new.self.items ≡ c.self.inside.entries.items ++ (record { step = c.args.step; ok = c.args.ok; after = c.args.after; idle_before = c.self.inside.idle }) ∷ [] = grind arith in
    omega (arith, c.self.invariant, ap count_of more ∙ count_push c.self.inside.entries.items _)
