use Rattle.std.proofs.Common.{rules, ap, ◌∙◌, take, drop, length, ◌++◌, ◌+◌, List, ℕ}
use Rattle.gd_memvault.proofs.Ranges.{put_all, written_is}
use Rattle.gd_memvault.proofs.files.write_range.Goals as goal

pub returns-in-Ok-clause-done : goal.returns-in-Ok-clause-done
returns-in-Ok-clause-done c =
    put_all c.extend.new.bytes.len c.overwrite.new.bytes c.extend.new.bytes.items _
    (c.overwrite.ensures
    ∙ ap (λ (l : List ℕ). take c.args.at l ++ c.args.part.now ++ drop (c.args.at + length c.args.part.now) l) (c.deref_mut.ensures.value ∙ c.in-Ok.ensures.done)
    ∙ written_is c.args.bytes.now.items c.args.part.now c.args.at)
    (search rules)
