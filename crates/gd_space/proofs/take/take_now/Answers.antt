use Rattle.std.proofs.Common.{◌≡◌, ℕ, [], ◌∷◌, true, sym, subst}
use Rattle.gd_format.specs.declared.Header.{Header}
use Rattle.gd_format.specs.Sound.{extent}
use Rattle.gd_space.specs.Calls.{Done}
use Rattle.gd_space.specs.Effect.{take_pushes}
use Rattle.gd_space.specs.Stacks.{Stacks, all_kept}
use Rattle.gd_space.proofs.Dones.{done_by_room}
use Rattle.gd_space.proofs.Pushing.{none_pushed, pushed_as, take_pushes_true, take_pushes_false}
use Rattle.gd_space.proofs.take.take_now.Goals as goal

pub returns-in-Some-clause-done : goal.returns-in-Some-clause-done
returns-in-Some-clause-done g c =
    let v = g.V.Vault.view_of c.args.vault.now in
    let d = done_by_room v c.args.f.0 c.args.header.now c.take_room.new.header.next_block c.args.table.now.next_block c.args.table.now.extents c.args.bucket.now.free c.take_room.new.table.extents c.take_room.new.bucket.free c.in-Some.at c.args.n c.in-Some.ensures.took in
    let e = subst (λ (k : Header). Done v v c.args.f.0 c.args.header.now k c.args.table.now.next_block c.args.table.now.next_block c.args.table.now.extents c.args.bucket.now.free c.take_room.new.table.extents c.take_room.new.bucket.free [] (extent c.in-Some.at c.args.n ∷ []) 32) (sym c.in-Some.ensures.header) d in
    subst (λ (k : ℕ). Done v v c.args.f.0 c.args.header.now c.take_room.new.header c.args.table.now.next_block k c.args.table.now.extents c.args.bucket.now.free c.take_room.new.table.extents c.take_room.new.bucket.free [] (extent c.in-Some.at c.args.n ∷ []) 32) (sym c.in-Some.ensures.next) e

pub returns-in-Some-clause-stack : goal.returns-in-Some-clause-stack
returns-in-Some-clause-stack g c =
    let v = g.V.Vault.view_of c.args.vault.now in
    let h = c.args.header.now in
    let table = c.args.table.now.extents in
    let bucket = c.args.bucket.now.free in
    subst (λ (k : ℕ). Stacks v v c.args.f.0 c.args.header.now c.args.header.now.avail_size c.args.table.now.next_block k c.args.table.now.extents c.args.bucket.now.free (λ blocks. take_pushes c.args.n c.args.header.now c.args.table.now.extents c.args.bucket.now.free) all_kept) (sym c.in-Some.ensures.next)
    (none_pushed v c.args.f.0 h h.avail_size c.args.table.now.next_block table bucket _ (λ blocks. take_pushes_false c.args.n h table bucket c.in-Some.ensures.fit))

pub returns-clause-done : goal.returns-clause-done
returns-clause-done g c =
    let same = c.in_default.ensures in
    rw (← same.same_table, ← same.same_bucket, ← same.same_header) c.in_ok-at.ensures.pushed.done

pub returns-clause-stack : goal.returns-clause-stack
returns-clause-stack g c =
    let none = c.in_default.ensures in
    let h = c.take_room.new.header in
    let table = c.take_room.new.table.extents in
    let bucket = c.take_room.new.bucket.free in
    let yes_ : take_pushes c.args.n c.take_room.new.header c.take_room.new.table.extents c.take_room.new.bucket.free ≡ true =
    rw (none.same_table, none.same_bucket, none.same_header) (take_pushes_true c.args.n c.args.header.now c.args.table.now.extents c.args.bucket.now.free none.none_most none.none_over none.none none.none_table) in
    rw (← none.same_table, ← none.same_bucket, ← none.same_header)
    (pushed_as (g.V.Vault.view_of c.args.vault.now) (g.V.Vault.view_of c.take_pushing.new.vault) c.args.f.0 h h.avail_size c.take_room.new.table.next_block c.take_pushing.new.table.next_block table bucket (λ blocks. true) (λ blocks. take_pushes c.args.n c.take_room.new.header c.take_room.new.table.extents c.take_room.new.bucket.free)
    (λ blocks. yes_) c.in_ok-at.ensures.pushed.stack)
