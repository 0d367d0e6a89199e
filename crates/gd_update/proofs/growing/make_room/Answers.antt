use Rattle.std.proofs.Common.{◌-◌, ◌+◌, ◌*◌, ◌^◌, ◌≤◌, List, ℕ, Some, sym, ap, subst, ◌∙◌, arith}
use Rattle.gd_format.specs.declared.Header.{Header}
use Rattle.gd_format.specs.HeaderFault.{dir_size_of}
use Rattle.gd_format.specs.Slots.{count, is_full}
use Rattle.gd_open.specs.Open.{OpenParts}
use Rattle.gd_open.proofs.Files.{before_after, writes_for}
use Rattle.gd_vault.proofs.Writes.{writes_trans}
use Rattle.gd_update.specs.Growth.{IsGrown, IsRoomMade}
use Rattle.gd_update.proofs.Heads.{bound_of}
use Rattle.gd_update.proofs.Growth.{growth_ends}
use Rattle.gd_update.proofs.growing.make_room.Goals as goal

pub write_front-requires-clause-holds : goal.write_front-requires-clause-holds
write_front-requires-clause-holds g c = λ k y told there.
    let id = c.in_ok-place.ensures.id in
    let b = before_after (g.V.Vault.view_of c.args.vault.now) (g.V.Vault.view_of c.grow.new.vault) c.args.file.now.id (λ xs ys. IsGrown xs ys c.grow.new.file.header c.grow.new.file.table c.args.hash c.in_ok-place.place c.grow.new.bucket)
    c.in_ok-place.ensures.frame.within c.requires.file c.in_ok-place.ensures.grown k y told (ap (λ (n : ℕ). k.files n) (sym id) ∙ there) in
    (b.4.blocks, b.4.held)

pub returns-in_err-place-clause-bound : goal.returns-in_err-place-clause-bound
returns-in_err-place-clause-bound g c = bound_of c.args.file.now.header c.grow.new.file.header c.header-header.ensures.fit.header c.in_err-place.ensures.fit.header c.in_err-place.ensures.growth

pub returns-in_err-write_front-clause-bound : goal.returns-in_err-write_front-clause-bound
returns-in_err-write_front-clause-bound g c =
    subst (λ (q : OpenParts). q.header.next_block ≤ c.args.file.now.header.next_block + (2 ^ 29 - 2 ^ 25)) (sym c.in_err-write_front.ensures.same)
    (bound_of c.args.file.now.header c.grow.new.file.header c.header-header.ensures.fit.header c.in_ok-place.ensures.fit.header c.in_ok-place.ensures.growth)

pub returns-clause-bound : goal.returns-clause-bound
returns-clause-bound g c =
    subst (λ (q : OpenParts). q.header.next_block ≤ c.args.file.now.header.next_block + (2 ^ 29 - 2 ^ 25)) (sym c.in_ok-write_front.ensures.same)
    (bound_of c.args.file.now.header c.grow.new.file.header c.header-header.ensures.fit.header c.in_ok-place.ensures.fit.header c.in_ok-place.ensures.growth)

pub returns-clause-made : goal.returns-clause-made
returns-clause-made g c = λ k x told there.
    let id = c.in_ok-place.ensures.id in
    let t = c.in_ok-place.ensures.grown k x told there in
    let s = c.in_ok-write_front.ensures.closes t.content t.file t.holds.blocks t.told (ap (λ (n : ℕ). t.content.files n) id ∙ t.there) t.holds.held in
    record {
      content = s.content;
      file = s.file;
      told = s.told;
      there = ap (λ (n : ℕ). s.content.files n) (sym id) ∙ s.there;
      holds =
          subst (λ (q : OpenParts). IsRoomMade x.bytes s.file.bytes q.header q.table c.args.hash c.in_ok-place.place c.grow.new.bucket) (sym c.in_ok-write_front.ensures.same)
          (growth_ends x.bytes t.file.bytes s.file.bytes c.grow.new.file.header c.grow.new.file.table c.args.hash c.in_ok-place.place c.grow.new.bucket (c.requires.open k told x there).sound c.requires.hash
          c.in_ok-place.ensures.fit.table_room t.holds s.holds);
    }

pub returns-in_err-write_front-clause-frame : goal.returns-in_err-write_front-clause-frame
returns-in_err-write_front-clause-frame g c = writes_trans c.grow.ensures.frame (writes_for c.grow.ensures.id c.write_front.ensures.frame)

pub returns-clause-frame : goal.returns-clause-frame
returns-clause-frame g c = writes_trans c.grow.ensures.frame (writes_for c.grow.ensures.id c.write_front.ensures.frame)
