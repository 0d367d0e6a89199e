use Rattle.std.proofs.Common.{◌≡◌, ap, [], ◌∷◌, ◌++◌}
use Rattle.gd_format.specs.Bucket.{Bucket}
use Rattle.gd_format.specs.Avail.{Avail}
use Rattle.gd_space.proofs.Cuts.{put_bucket, put_table}
use Rattle.gd_space.proofs.lists.put.Goals as goal

pub returns-then-free-lt6-clause-step : goal.returns-then-free-lt6-clause-step
returns-then-free-lt6-clause-step c = λ _ next new below bucket_below.
    let items : c.push_free.new.self.free ≡ c.args.bucket.now.free ++ c.args.e ∷ [] = ap (λ (t : Bucket). t.free) c.push_free.ensures in
    rw items (put_bucket next _ _ c.args.e new below bucket_below)

pub returns-then-extents-capacity-clause-step : goal.returns-then-extents-capacity-clause-step
returns-then-extents-capacity-clause-step c = λ _ next new below bucket_below.
    let items : c.push.new.self.extents ≡ c.args.table.now.extents ++ c.args.e ∷ [] = ap (λ (t : Avail). t.extents) c.push.ensures in
    rw items (put_table next _ _ c.args.e new below bucket_below)
