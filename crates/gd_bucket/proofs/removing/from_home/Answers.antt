use Rattle.std.proofs.Common.{ℕ, ◌%◌, length, sym, ap, ◌∙◌}
use Rattle.gd_bucket.proofs.Around.{distance-direct}
use Rattle.gd_bucket.specs.Removing.{distance, from_home}
use Rattle.gd_bucket.proofs.removing.from_home.Goals as goal

pub returns-else-place-home : goal.returns-else-place-home
unfolding from_home
returns-else-place-home c =
    sym (distance-direct (length c.args.slots.now) (c.hash_in.result % length c.args.slots.now) c.args.place c.if-place-home.false c.requires)
    ∙ ap (λ (h : ℕ). distance (length c.args.slots.now) (h % length c.args.slots.now) c.args.place) c.hash_in.ensures
