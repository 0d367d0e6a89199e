use Rattle.std.proofs.Common.{◌≡◌, ⊎_elim, ℕ, [], List, length, sym, ap, subst, ◌∙◌, arith}
use Rattle.gd_format.specs.Avail.{Avail}
use Rattle.gd_file_laws.specs.Frame.{written}
use Rattle.gd_space.specs.Calls.{free_lists}
use Rattle.gd_space.specs.Effect.{Change, recut_loses}
use Rattle.gd_space.specs.declared.stack.SpaceError.TheVariants.{VaultFault, FileFull}
use Rattle.gd_space.proofs.Fits.{bounds}
use Rattle.gd_vault.specs.Content.{File}
use Rattle.gd_vault.proofs.OneFile.{same_file}
use Rattle.gd_vault.proofs.Writes.{writes_trans}
use Rattle.gd_numsync.specs.Open.{AreFit}
use Rattle.gd_numsync.specs.Recut.{IsRecut}
use Rattle.gd_numsync.specs.Spells.{SpellsFront}
use Rattle.gd_numsync.proofs.Files.{becomes_law, told_before}
use Rattle.gd_numsync.proofs.Shrunk.{Recuts, WrittenAfter, fit_shrunk, growth_small, header_shrunk, place_low, shrunk, side_of, slots_room}
use Rattle.gd_numsync.proofs.shrinking.shrink.Goals as goal

pub recut-requires-clause-side : goal.recut-requires-clause-side
recut-requires-clause-side g c = λ k x told there.
    side_of x.bytes c.args.header.now c.args.at c.args.space.now.table c.args.bucket.now (c.requires.open k x told there) (c.requires.bucket k x told there)

pub returns-in-Err-clause-cause : goal.returns-in-Err-clause-cause
returns-in-Err-clause-cause g c =
    let small = growth_small c.args.capacity c.args.header.now c.args.space.now.table.extents c.args.bucket.now.free in
    let wide = (bounds c.args.header.now c.requires.fit.header).most in
    let near = c.requires.near in
    record {
      later = c.in-Err.ensures.frame.within.faults;
      failed =
          ⊎_elim (λ (fault : c.in-Err._full_or_fault ≡ VaultFault). c.in-Err.ensures.fault fault)
          (λ (full : c.in-Err._full_or_fault ≡ FileFull). absurd (let past = c.in-Err.ensures.full full in omega (arith, past, small, wide, near))) c.in-Err.ensures.error;
      answered = tt;
      once = c.in-Err.ensures.once;
    }

pub write_bucket-requires-clause-place : goal.write_bucket-requires-clause-place
write_bucket-requires-clause-place g c = λ k told x there.
    let b = told_before (g.V.Vault.view_of c.args.vault.now) (g.V.Vault.view_of c.recut.new.vault) c.in-Ok.ensures.frame c.requires.file k told in
    let low = place_low b.1.bytes c.args.header.now c.args.at c.args.space.now.table c.args.bucket.now (c.requires.open b.0 b.1 b.2 b.3) (c.requires.bucket b.0 b.1 b.2 b.3) in
    omega (arith, low)

pub write_bucket-requires-clause-room : goal.write_bucket-requires-clause-room
write_bucket-requires-clause-room g c =
    let room = slots_room c.args.header.now (length c.recut.new.bucket.slots) c.requires.fit.header (ap length c.in-Ok.ensures.slots ∙ c.requires.elems) in
    let r = room.0 in
    let size = c.requires.fit.block_size in
    omega (arith, r, size)

pub write_bucket-requires-clause-few : goal.write_bucket-requires-clause-few
write_bucket-requires-clause-few g c = (slots_room c.args.header.now (length c.recut.new.bucket.slots) c.requires.fit.header (ap length c.in-Ok.ensures.slots ∙ c.requires.elems)).1

pub returns-in_err-write_front-clause-frame : goal.returns-in_err-write_front-clause-frame
returns-in_err-write_front-clause-frame g c = writes_trans (writes_trans c.in-Ok.ensures.frame c.write_bucket.ensures.frame) c.write_front.ensures.frame

pub returns-clause-frame : goal.returns-clause-frame
returns-clause-frame g c = writes_trans (writes_trans c.in-Ok.ensures.frame c.write_bucket.ensures.frame) c.write_front.ensures.frame

pub returns-clause-recut : goal.returns-clause-recut
returns-clause-recut g c = λ k x told there.
    let o = c.requires.open k x told there in
    let b = c.requires.bucket k x told there in
    let s = side_of x.bytes c.args.header.now c.args.at c.args.space.now.table c.args.bucket.now o b in
    let mid = c.in-Ok.ensures.done k x s.0 told there s.1 in
    let two = becomes_law (g.V.Vault.view_of c.recut.new.vault) (g.V.Vault.view_of c.write_bucket.new.vault) c.args.f.0 c.args.at c.write_bucket.new.block c.in_ok-write_bucket.ensures.becomes mid.content mid.file mid.told mid.there in
    let three = becomes_law (g.V.Vault.view_of c.write_bucket.new.vault) (g.V.Vault.view_of c.write_front.new.vault) c.args.f.0 0 c.write_front.new.block c.in_ok-write_front.ensures.becomes two.content two.file two.told two.there in
    let e = c.in-Ok.ensures.header in
    let fit = fit_shrunk c.args.header.now c.recut.new.header c.args.capacity c.args.space.now.table c.recut.new.self.table (length c.write_front.new.block)
    (subst (AreFit c.args.header.now c.args.space.now.table) (sym (c.in_ok-write_front.ensures.size ∙ c.in_ok-write_bucket.ensures.size)) c.requires.fit)
    e c.in-Ok.ensures.below c.requires.least c.requires.most c.in-Ok.ensures.length c.in-Ok.ensures.room in
    let recuts : Recuts x.bytes mid.file.bytes c.args.header.now c.recut.new.header c.args.space.now.table.next_block c.recut.new.self.table.next_block c.args.space.now.table.extents c.args.bucket.now.free c.recut.new.self.table.extents c.recut.new.bucket.free (recut_loses c.args.capacity c.args.header.now c.args.space.now.table.extents) =
    λ blocks side.
    let a = c.in-Ok.ensures.done k x blocks told there side in
    let same = same_file (g.V.Vault.view_of c.recut.new.vault) c.args.f.0 a.content mid.content a.file mid.file a.told mid.told a.there mid.there in
    (a.blocks, subst (λ (z : File). Change x.bytes z.bytes c.args.header.now c.recut.new.header c.args.space.now.table.next_block c.recut.new.self.table.next_block (free_lists c.args.space.now.table.extents blocks c.args.bucket.now.free) (free_lists c.recut.new.self.table.extents a.blocks c.recut.new.bucket.free) [] [] (recut_loses c.args.capacity c.args.header.now c.args.space.now.table.extents)) same a.change) in
    let wrote : WrittenAfter c.args.header.now c.recut.new.header c.recut.new.self.table c.args.bucket.now c.recut.new.bucket c.write_bucket.new.block c.write_front.new.block = record {
      header = header_shrunk c.args.header.now c.recut.new.header c.args.capacity e;
      elems = c.requires.elems;
      slots = c.in-Ok.ensures.slots;
      bits = c.in-Ok.ensures.bits;
      size = c.in_ok-write_bucket.ensures.size ∙ c.requires.fit.block_size;
      reads = c.in_ok-write_bucket.ensures.reads;
      right = c.in_ok-write_bucket.ensures.right;
      number = c.in_ok-write_bucket.ensures.count;
      fit = fit;
      spells = subst (λ (a : Avail). SpellsFront c.recut.new.header a c.write_front.new.block) c.table.ensures c.in_ok-write_front.ensures.spells;
    } in
    record {
      content = three.content;
      file = three.file;
      told = three.told;
      there = three.there;
      holds =
          subst (IsRecut c.recut.new.header c.recut.new.self.table (recut_loses c.args.capacity c.args.header.now c.args.space.now.table.extents) x.bytes)
          (sym (three.holds ∙ ap (λ (z : List ℕ). written z 0 c.write_front.new.block) two.holds))
          (shrunk x.bytes mid.file.bytes c.write_bucket.new.block c.write_front.new.block c.args.header.now c.recut.new.header c.args.at c.args.space.now.table c.recut.new.self.table c.args.bucket.now c.recut.new.bucket (recut_loses c.args.capacity c.args.header.now c.args.space.now.table.extents) o b recuts wrote);
    }
