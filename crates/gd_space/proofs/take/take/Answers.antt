use Rattle.std.proofs.Common.{◌≡◌, ◌≢◌, sym, ap, ◌∙◌, inl, inr}
use Rattle.gd_vault.specs.Views.{content_of}
use Rattle.gd_space.specs.declared.stack.SpaceError.TheVariants.{VaultFault}
use Rattle.gd_format.specs.Sound.{most_of}
use Rattle.gd_space.specs.Calls.{free_lists}
use Rattle.gd_space.proofs.Pushes.{table_below, bucket_below}
use Rattle.gd_space.proofs.Dones.{done_after_back, top-right, tells_none}
use Rattle.gd_space.proofs.Pushing.{pushed_after_back}
use Rattle.gd_space.proofs.take.take.Goals as goal

pub take_now-requires-clause-side : goal.take_now-requires-clause-side
take_now-requires-clause-side g c = λ k x told there.
    let old : content_of (g.V.Vault.view_of c.args.vault.now).told ≡ _ = sym (ap content_of c.back_up.ensures.told) ∙ told in
    let s = c.requires.side k x old there in
    let b = c.in_default.ensures.back k x s.0 c.args.bucket.now.free old there s.1 in
    (b.rest, b.side)

pub returns-in-Ok-clause-done : goal.returns-in-Ok-clause-done
returns-in-Ok-clause-done g c =
    done_after_back (g.V.Vault.view_of c.args.vault.now) (g.V.Vault.view_of c.back_up.new.vault) (g.V.Vault.view_of c.take_now.new.vault) c.args.f.0 c.args.header.now c.take_now.new.header c.args.table.now.next_block c.back_up.new.table.next_block c.take_now.new.table.next_block
    c.args.table.now.extents c.args.bucket.now.free c.back_up.new.table.extents c.take_now.new.table.extents c.take_now.new.bucket.free _ _ 32 c.back_up.ensures.told c.in_default.ensures.back c.in-Ok.ensures.done

pub returns-in-Ok-clause-growth : goal.returns-in-Ok-clause-growth
returns-in-Ok-clause-growth g c = λ k x blocks told there side.
    let b = c.in_default.ensures.back k x blocks c.args.bucket.now.free told there side in
    rw (← b.by_rule) c.in-Ok.ensures.growth

pub returns-in-Err-FileFull-clause-full : goal.returns-in-Err-FileFull-clause-full
returns-in-Err-FileFull-clause-full g c = λ is k x blocks told there side.
    let b = c.in_default.ensures.back k x blocks c.args.bucket.now.free told there side in
    rw (← b.by_rule) (c.in-Err-FileFull.ensures.full c.in-Err-FileFull.field-0-is)

pub returns-in-Err-clause-bad : goal.returns-in-Err-clause-bad
returns-in-Err-clause-bad g c = λ a is.
    elim c.in-Err.ensures.error [
      | inl fault ↦ absurd (cc (fault, is))
      | inr bad ↦ (
        cc (bad, is),
        tells_none (g.V.Vault.view_of c.args.vault.now) (λ k told.
            (let file = c.requires.file k told in
            let side = c.requires.side k file.0 told file.1 in
            let other : c.in-Err.refused ≢ VaultFault = (λ fault. cc (bad, fault)) in
            top-right file.0.bytes (most_of c.args.header.now) c.args.table.now.next_block side.0 side.1.stack (c.in-Err.ensures.bad other) (c.in-Err.ensures.no_block other k told file.0 file.1))),
      )
    ]

pub returns-in-Ok-clause-place : goal.returns-in-Ok-clause-place
returns-in-Ok-clause-place g c = λ k x blocks told there side.
    let b = c.in_default.ensures.back k x blocks c.args.bucket.now.free told there side in
    let s = b.side in
    rw (← b.by_rule) (c.in-Ok.ensures.place (table_below c.args.header.now.next_block (free_lists c.back_up.new.table.extents b.rest c.args.bucket.now.free) s.below) (bucket_below c.args.header.now.next_block (free_lists c.back_up.new.table.extents b.rest c.args.bucket.now.free) s.below))

pub returns-in-Ok-clause-stack : goal.returns-in-Ok-clause-stack
returns-in-Ok-clause-stack g c =
    pushed_after_back (g.V.Vault.view_of c.args.vault.now) (g.V.Vault.view_of c.back_up.new.vault) (g.V.Vault.view_of c.take_now.new.vault) c.args.f.0 c.args.n c.args.header.now c.args.header.now.avail_size c.args.table.now.next_block c.back_up.new.table.next_block c.take_now.new.table.next_block
    c.args.table.now.extents c.args.bucket.now.free c.back_up.new.table.extents c.back_up.ensures.told c.in_default.ensures.back c.in-Ok.ensures.stack
