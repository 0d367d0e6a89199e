use Rattle.std.proofs.Common.{refl, arith}
use Rattle.gd_open.proofs.Files.{writes_for}
use Rattle.gd_update.proofs.Ways.{way_begins, way_goes_on, growth_most, has_room, has_wide, holds_now, bucket_now, wrote_most, wrote_failing}
use Rattle.gd_vault.proofs.Writes.{writes_trans}
use Rattle.gd_update.proofs.growing.grow.Goals as goal

pub loop-file-init : goal.loop-file-init
loop-file-init g c = way_begins (g.V.Vault.view_of c.args.vault.now) c.args.file.now c.args.hash c.args.from c.args.bucket.now c.args.first.now c.args.second.now c.requires.file c.requires.fit c.requires.elems c.requires.first c.requires.second c.requires.few c.requires.open c.requires.bucket

pub split_round-requires-clause-room : goal.split_round-requires-clause-room
split_round-requires-clause-room g c = has_room (g.V.Vault.view_of c.args.vault.now) (g.V.Vault.view_of c.loop-file.vault) c.args.file.now c.loop-file.file c.args.hash c.loop-file.at c.args.bucket.now c.loop-file.bucket c.loop-file.first c.loop-file.second c.loop-file.invariant c.requires.room

pub split_round-requires-clause-wide : goal.split_round-requires-clause-wide
split_round-requires-clause-wide g c = has_wide (g.V.Vault.view_of c.args.vault.now) (g.V.Vault.view_of c.loop-file.vault) c.args.file.now c.loop-file.file c.args.hash c.loop-file.at c.args.bucket.now c.loop-file.bucket c.loop-file.first c.loop-file.second c.loop-file.invariant c.requires.room

pub split_round-requires-clause-holds : goal.split_round-requires-clause-holds
split_round-requires-clause-holds g c = holds_now (g.V.Vault.view_of c.args.vault.now) (g.V.Vault.view_of c.loop-file.vault) c.args.file.now c.loop-file.file c.args.hash c.loop-file.at c.args.bucket.now c.loop-file.bucket c.loop-file.first c.loop-file.second c.loop-file.invariant c.requires.file

pub split_round-requires-clause-bucket : goal.split_round-requires-clause-bucket
split_round-requires-clause-bucket g c = bucket_now (g.V.Vault.view_of c.args.vault.now) (g.V.Vault.view_of c.loop-file.vault) c.args.file.now c.loop-file.file c.args.hash c.loop-file.at c.args.bucket.now c.loop-file.bucket c.loop-file.first c.loop-file.second c.loop-file.invariant c.requires.file

pub returns-in_err-at-clause-growth : goal.returns-in_err-at-clause-growth
returns-in_err-at-clause-growth g c = rw c.in_err-at.ensures.kept (growth_most (g.V.Vault.view_of c.args.vault.now) (g.V.Vault.view_of c.loop-file.vault) c.args.file.now c.loop-file.file c.args.hash c.loop-file.at c.args.bucket.now c.loop-file.bucket c.loop-file.first c.loop-file.second c.loop-file.invariant)

pub returns-in_err-at-clause-amount : goal.returns-in_err-at-clause-amount
returns-in_err-at-clause-amount g c = rw c.in_err-at.ensures.kept (wrote_failing (g.V.Vault.view_of c.args.vault.now) (g.V.Vault.view_of c.loop-file.vault) c.args.file.now c.loop-file.file c.args.hash c.loop-file.at c.args.bucket.now c.loop-file.bucket c.loop-file.first c.loop-file.second c.loop-file.invariant (g.V.Vault.view_of c.split_round.new.vault) c.in_err-at.ensures.amount)

pub loop-file-preserved : goal.loop-file-preserved
loop-file-preserved g c =
    way_goes_on (g.V.Vault.view_of c.args.vault.now) (g.V.Vault.view_of c.loop-file.vault) (g.V.Vault.view_of c.split_round.new.vault) c.args.file.now c.loop-file.file c.split_round.new.file
    c.args.hash c.loop-file.at c.in_ok-at.at c.args.bucket.now c.loop-file.bucket c.split_round.new.bucket c.loop-file.first c.loop-file.second c.split_round.new.first c.split_round.new.second
    c.loop-file.invariant
    (record {
      there = c.in_ok-at.ensures.there;
      fit = c.in_ok-at.ensures.fit;
      id = c.in_ok-at.ensures.id;
      divided = c.in_ok-at.ensures.divided;
      elems = c.in_ok-at.ensures.elems;
      first = c.in_ok-at.ensures.first;
      second = c.in_ok-at.ensures.second;
      few = c.in_ok-at.ensures.close;
      frame = c.in_ok-at.ensures.frame;
      one_more = c.in_ok-at.ensures.one_more;
      most = c.in_ok-at.ensures.most;
      writes = c.in_ok-at.ensures.little;
      faults = c.in_ok-at.ensures.answered;
      steps = c.in_ok-at.ensures.steps;
    })

pub returns-clause-growth : goal.returns-clause-growth
returns-clause-growth g c = growth_most (g.V.Vault.view_of c.args.vault.now) (g.V.Vault.view_of c.loop-file.vault) c.args.file.now c.loop-file.file c.args.hash c.loop-file.at c.args.bucket.now c.loop-file.bucket c.loop-file.first c.loop-file.second c.loop-file.invariant

pub returns-clause-amount : goal.returns-clause-amount
returns-clause-amount g c = wrote_failing (g.V.Vault.view_of c.args.vault.now) (g.V.Vault.view_of c.loop-file.vault) c.args.file.now c.loop-file.file c.args.hash c.loop-file.at c.args.bucket.now c.loop-file.bucket c.loop-file.first c.loop-file.second c.loop-file.invariant (g.V.Vault.view_of c.loop-file.vault) (record { bytes = omega arith; clones = refl })

pub returns-clause-little : goal.returns-clause-little
returns-clause-little g c =
    let a = wrote_most (g.V.Vault.view_of c.args.vault.now) (g.V.Vault.view_of c.loop-file.vault) c.args.file.now c.loop-file.file c.args.hash c.loop-file.at c.args.bucket.now c.loop-file.bucket c.loop-file.first c.loop-file.second c.loop-file.invariant (g.V.Vault.view_of c.loop-file.vault) 0 (record { bytes = omega arith; clones = refl }) in
    let m = a.bytes in
    record { bytes = omega (arith, m); clones = a.clones }

pub returns-in_err-at-clause-frame : goal.returns-in_err-at-clause-frame
returns-in_err-at-clause-frame g c = writes_trans c.loop-file.invariant.frame (writes_for c.loop-file.invariant.id c.split_round.ensures.frame)
