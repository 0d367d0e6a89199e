use Rattle.std.proofs.Common.{◌≡◌, ◌+◌, ◌*◌, ◌^◌, ◌≤◌, List, ℕ, [], length, sym, ap, subst, ◌∙◌, arith}
use Rattle.gd_format.specs.declared.Header.{Header}
use Rattle.gd_file_laws.specs.Frame.{written}
use Rattle.gd_space.specs.Calls.{free_lists}
use Rattle.gd_space.proofs.Fits.{bounds}
use Rattle.gd_vault.proofs.Writes.{writes_trans}
use Rattle.gd_update.specs.Runs.{IsPointed}
use Rattle.gd_update.specs.Steps.{Steps, IsNext}
use Rattle.gd_update.specs.SplitLaws.{half_of, half_start, SplitMade}
use Rattle.gd_open.specs.Open.{OpenParts}
use Rattle.gd_open.proofs.Files.{becomes_for, told_before, writes_for}
use Rattle.gd_vault.specs.Effects as vault
use Rattle.gd_update.proofs.Files.{becomes_law}
use Rattle.gd_update.proofs.Takes.{taken_ends}
use Rattle.gd_update.proofs.Chains.{holds_after, buckets_after, one_file, bucket_in, run_inside}
use Rattle.gd_update.proofs.SplitParts.{split_gives}
use Rattle.gd_update.proofs.splitting.split_once.Goals as goal

pub write_bucket-requires-clause-place : goal.write_bucket-requires-clause-place
write_bucket-requires-clause-place g c = λ k told y there.
    let b = told_before (g.V.Vault.view_of c.args.vault.now) (g.V.Vault.view_of c.take_room.new.vault) c.args.file.now.id c.take_room.ensures.frame.within c.requires.file k told in
    let h = c.requires.holds b.0 b.1 b.2 b.3 in
    let a = c.in_ok-other.ensures.done b.0 b.1 h.0 b.2 b.3 h.1.side in
    let least = (bounds c.args.file.now.header c.header.ensures.fit.header).least in
    let size = ap (λ (z : Header). z.block) c.header.ensures.is in
    let e = taken_ends b.1.bytes a.file.bytes c.args.file.now.header c.take_room.new.file.header c.args.file.now.table.next_block c.take_room.new.file.table.next_block (free_lists c.args.file.now.table.extents h.0 c.args.second.now.free) (free_lists c.take_room.new.file.table.extents a.blocks c.take_room.new.loose.free)
    c.in_ok-other.other c.header.result.now.block (omega (arith, least, size)) h.1.side a.change in
    let bound = c.in_ok-other.ensures.bound in
    let room = c.requires.room in
    omega (arith, e, bound, room, size)

pub write_bucket-requires-clause-elems : goal.write_bucket-requires-clause-elems
write_bucket-requires-clause-elems g c = c.divide.ensures.halves.high.elems ∙ c.requires.elems ∙ sym (ap (λ (z : Header). z.elems) c.in_ok-other.ensures.header)

pub write_bucket-requires-2-clause-elems : goal.write_bucket-requires-2-clause-elems
write_bucket-requires-2-clause-elems g c = c.divide.ensures.halves.low.elems ∙ c.requires.elems ∙ sym (ap (λ (z : Header). z.elems) c.in_ok-other.ensures.header) ∙ sym (ap (λ (q : OpenParts). q.header.elems) c.in_ok-write_bucket.ensures.same)

pub write_bucket-requires-2-clause-place : goal.write_bucket-requires-2-clause-place
write_bucket-requires-2-clause-place g c = λ k told y there.
    let b = told_before (g.V.Vault.view_of c.args.vault.now) (g.V.Vault.view_of c.write_bucket.new.vault) c.args.file.now.id (writes_trans c.take_room.ensures.frame (writes_for c.in_ok-other.ensures.id c.write_bucket.ensures.frame)).within c.requires.file k told in
    let h = c.requires.holds b.0 b.1 b.2 b.3 in
    let e = bucket_in b.1.bytes c.args.file.now.header c.args.file.now.table.next_block _ c.args.hash c.args.at c.args.bucket.now h.1 c.requires.hash (c.requires.bucket b.0 b.1 b.2 b.3) in
    let short = h.1.file_is.short in
    let low = c.header.ensures.fit.header.next_block in
    omega (arith, e, short, low)

pub point_run-requires-clause-inside : goal.point_run-requires-clause-inside
point_run-requires-clause-inside g c = λ k told y there.
    let id = c.in_ok-other.ensures.id in
    let id2 = ap (λ (q : OpenParts). q.id) c.in_ok-write_bucket.ensures.same ∙ id in
    let id3 = ap (λ (q : OpenParts). q.id) c.in_ok-write_bucket-2.ensures.same ∙ id2 in
    let b = told_before (g.V.Vault.view_of c.args.vault.now) (g.V.Vault.view_of c.write_bucket-2.new.vault) c.args.file.now.id (writes_trans (writes_trans c.take_room.ensures.frame (writes_for id c.write_bucket.ensures.frame)) (writes_for id2 c.write_bucket-2.ensures.frame)).within c.requires.file k told in
    let h = c.requires.holds b.0 b.1 b.2 b.3 in
    let a = c.in_ok-other.ensures.done b.0 b.1 h.0 b.2 b.3 h.1.side in
    let t = becomes_law (g.V.Vault.view_of c.take_room.new.vault) (g.V.Vault.view_of c.write_bucket.new.vault) c.args.file.now.id c.in_ok-other.other c.write_bucket.new.self.block (becomes_for (g.V.Vault.view_of c.take_room.new.vault) (g.V.Vault.view_of c.write_bucket.new.vault) (λ xs ys. ys ≡ vault.written xs c.in_ok-other.other c.write_bucket.new.self.block) id c.in_ok-write_bucket.ensures.becomes) a.content a.file a.told a.there in
    let u = becomes_law (g.V.Vault.view_of c.write_bucket.new.vault) (g.V.Vault.view_of c.write_bucket-2.new.vault) c.args.file.now.id c.args.at c.write_bucket-2.new.self.block (becomes_for (g.V.Vault.view_of c.write_bucket.new.vault) (g.V.Vault.view_of c.write_bucket-2.new.vault) (λ xs ys. ys ≡ vault.written xs c.args.at c.write_bucket-2.new.self.block) id2 c.in_ok-write_bucket-2.ensures.becomes) t.content t.file t.told t.there in
    let one = one_file (g.V.Vault.view_of c.write_bucket-2.new.vault) c.args.file.now.id u.content k u.file y u.told u.there told (ap (λ (n : ℕ). k.files n) (sym id3) ∙ there) in
    let dir = h.1.file_is.dir in
    let half = c.half_entries-half.ensures.is in
    let within = c.start_of-start.ensures.within in
    let hd = c.header.ensures.is in
    let at_dir = ap (λ (z : Header). z.dir) hd in
    let pow = ap (λ (z : Header). 2 ^ z.dir_bits) hd in
    let low : c.header.result.now.dir + 8 * c.start_of-start.result + 8 * c.half_entries-half.result ≤ length b.1.bytes = omega (arith, dir, at_dir, half, within, pow) in
    run_inside b.1.bytes a.file t.file u.file y c.args.at c.in_ok-other.other c.write_bucket-2.new.self.block c.write_bucket.new.self.block _ a.change.keeps.longer t.holds u.holds one low

pub returns-clause-steps : goal.returns-clause-steps
returns-clause-steps g c =
    let id = c.in_ok-other.ensures.id in
    let id2 = ap (λ (q : OpenParts). q.id) c.in_ok-write_bucket.ensures.same ∙ id in
    let id3 = ap (λ (q : OpenParts). q.id) c.in_ok-write_bucket-2.ensures.same ∙ id2 in
    let same : c.write_bucket-2.new.self ≡ record c.take_room.new.file { block = c.write_bucket-2.new.self.block } = c.in_ok-write_bucket-2.ensures.same ∙ ap (λ (q : OpenParts). record q { block = c.write_bucket-2.new.self.block }) c.in_ok-write_bucket.ensures.same in
    let hd = c.header.ensures.is in
    let size = ap (λ (z : Header). z.block) hd in
    subst (λ (q : OpenParts). Steps (g.V.Vault.view_of c.args.vault.now) (g.V.Vault.view_of c.point_run.new.vault) c.args.file.now.id c.args.file.now.header q.header c.args.file.now.table.next_block q.table.next_block c.args.file.now.table.extents c.args.second.now.free q.table.extents [] 32 (λ bytes. IsNext bytes q.header c.args.hash c.args.at c.in_ok-other.other c.args.bucket.now.bits c.divide.new.first c.divide.new.second)) (sym same)
    (λ k x blocks told there held.
    let a = c.in_ok-other.ensures.done k x blocks told there held.side in
    let t = becomes_law (g.V.Vault.view_of c.take_room.new.vault) (g.V.Vault.view_of c.write_bucket.new.vault) c.args.file.now.id c.in_ok-other.other c.write_bucket.new.self.block (becomes_for (g.V.Vault.view_of c.take_room.new.vault) (g.V.Vault.view_of c.write_bucket.new.vault) (λ xs ys. ys ≡ vault.written xs c.in_ok-other.other c.write_bucket.new.self.block) id c.in_ok-write_bucket.ensures.becomes) a.content a.file a.told a.there in
    let u = becomes_law (g.V.Vault.view_of c.write_bucket.new.vault) (g.V.Vault.view_of c.write_bucket-2.new.vault) c.args.file.now.id c.args.at c.write_bucket-2.new.self.block (becomes_for (g.V.Vault.view_of c.write_bucket.new.vault) (g.V.Vault.view_of c.write_bucket-2.new.vault) (λ xs ys. ys ≡ vault.written xs c.args.at c.write_bucket-2.new.self.block) id2 c.in_ok-write_bucket-2.ensures.becomes) t.content t.file t.told t.there in
    let p = becomes_for (g.V.Vault.view_of c.write_bucket-2.new.vault) (g.V.Vault.view_of c.point_run.new.vault) (IsPointed (c.header.result.now.dir + 8 * c.start_of-start.result) c.half_entries-half.result c.in_ok-other.other) id3 c.in_ok-point_run.ensures.pointed u.content u.file u.told u.there in
    let least = (bounds c.args.file.now.header c.header.ensures.fit.header).least in
    let e : u.file.bytes ≡ written (written a.file.bytes c.in_ok-other.other c.write_bucket.new.self.block) c.args.at c.write_bucket-2.new.self.block = u.holds ∙ ap (λ (z : List ℕ). written z c.args.at c.write_bucket-2.new.self.block) t.holds in
    let half : c.half_entries-half.result ≡ half_of c.args.file.now.header c.args.bucket.now.bits = c.half_entries-half.ensures.is ∙ ap (half_of c.header.result.now) c.bits-bits.ensures.is ∙ ap (λ (z : Header). half_of z c.args.bucket.now.bits) hd in
    let start : c.start_of-start.result ≡ half_start c.args.file.now.header c.args.hash c.args.bucket.now.bits = c.start_of-start.ensures.is ∙ ap (half_start c.header.result.now c.args.hash) c.bits-bits.ensures.is ∙ ap (λ (z : Header). half_start z c.args.hash c.args.bucket.now.bits) hd in
    let dir = ap (λ (z : Header). z.dir) hd in
    let place : c.header.result.now.dir + 8 * c.start_of-start.result ≡ c.args.file.now.header.dir + 8 * half_start c.args.file.now.header c.args.hash c.args.bucket.now.bits = omega (arith, start, dir) in
    let run : IsPointed (c.args.file.now.header.dir + 8 * half_start c.args.file.now.header c.args.hash c.args.bucket.now.bits) (half_of c.args.file.now.header c.args.bucket.now.bits) c.in_ok-other.other (written (written a.file.bytes c.in_ok-other.other c.write_bucket.new.self.block) c.args.at c.write_bucket-2.new.self.block) p.file.bytes =
    subst (λ (z : List ℕ). IsPointed (c.args.file.now.header.dir + 8 * half_start c.args.file.now.header c.args.hash c.args.bucket.now.bits) (half_of c.args.file.now.header c.args.bucket.now.bits) c.in_ok-other.other z p.file.bytes) e
    (subst (λ (n : ℕ). IsPointed (c.args.file.now.header.dir + 8 * half_start c.args.file.now.header c.args.hash c.args.bucket.now.bits) n c.in_ok-other.other u.file.bytes p.file.bytes) half
    (subst (λ (n : ℕ). IsPointed n c.half_entries-half.result c.in_ok-other.other u.file.bytes p.file.bytes) place p.holds)) in
    let two : length c.write_bucket.new.self.block ≡ c.args.file.now.header.block = c.in_ok-write_bucket.ensures.fit.block_size ∙ ap (λ (q : OpenParts). q.header.block) c.in_ok-write_bucket.ensures.same ∙ ap (λ (z : Header). z.block) c.in_ok-other.ensures.header in
    let one : length c.write_bucket-2.new.self.block ≡ c.args.file.now.header.block = c.in_ok-write_bucket-2.ensures.fit.block_size ∙ ap (λ (q : OpenParts). q.header.block) same ∙ ap (λ (z : Header). z.block) c.in_ok-other.ensures.header in
    let made : SplitMade x.bytes a.file.bytes p.file.bytes c.args.file.now.header c.take_room.new.file.header c.args.file.now.table.next_block c.take_room.new.file.table.next_block (free_lists c.args.file.now.table.extents blocks c.args.second.now.free)
    (free_lists c.take_room.new.file.table.extents a.blocks c.take_room.new.loose.free) c.args.hash c.args.at c.in_ok-other.other c.args.bucket.now c.divide.new.first c.divide.new.second c.write_bucket-2.new.self.block c.write_bucket.new.self.block =
    record {
      held = held;
      bucket_is = c.requires.bucket k x told there;
      small = c.requires.hash;
      less = c.requires.bits;
      taken = rw size at a.change;
      header = c.in_ok-other.ensures.header;
      halves = c.divide.ensures.halves;
      elems = c.requires.elems;
      sizes = (one, two);
      spells = (c.write_bucket-2.ensures.spells, c.write_bucket.ensures.spells);
      first_free = c.divide.ensures.first_free;
      second_free = c.divide.ensures.second_free;
      run = run;
    } in
    let gives = split_gives x.bytes a.file.bytes p.file.bytes c.args.file.now.header c.take_room.new.file.header c.args.file.now.table.next_block c.take_room.new.file.table.next_block (free_lists c.args.file.now.table.extents blocks c.args.second.now.free)
    (free_lists c.take_room.new.file.table.extents a.blocks c.take_room.new.loose.free) c.args.hash c.args.at c.in_ok-other.other c.args.bucket.now c.divide.new.first c.divide.new.second c.write_bucket-2.new.self.block c.write_bucket.new.self.block least made in
    record { content = p.content; file = p.file; blocks = a.blocks; told = p.told; there = p.there; step = gives.step; buckets = gives.next })

pub returns-clause-holds : goal.returns-clause-holds
returns-clause-holds g c =
    let id = c.in_ok-other.ensures.id in
    let id2 = ap (λ (q : OpenParts). q.id) c.in_ok-write_bucket.ensures.same ∙ id in
    let id3 = ap (λ (q : OpenParts). q.id) c.in_ok-write_bucket-2.ensures.same ∙ id2 in
    let frame = (writes_trans (writes_trans (writes_trans c.take_room.ensures.frame (writes_for id c.write_bucket.ensures.frame)) (writes_for id2 c.write_bucket-2.ensures.frame)) (writes_for id3 c.point_run.ensures.frame)).within in
    holds_after (g.V.Vault.view_of c.args.vault.now) (g.V.Vault.view_of c.point_run.new.vault) c.args.file.now.id c.args.file.now.header c.write_bucket-2.new.self.header c.args.file.now.table.next_block c.write_bucket-2.new.self.table.next_block c.args.file.now.table.extents c.args.second.now.free c.write_bucket-2.new.self.table.extents [] 32
    (λ file. IsNext file c.write_bucket-2.new.self.header c.args.hash c.args.at c.in_ok-other.other c.args.bucket.now.bits c.divide.new.first c.divide.new.second) frame c.requires.file c.requires.holds (returns-clause-steps g c)

pub returns-clause-low_bucket : goal.returns-clause-low_bucket
returns-clause-low_bucket g c = λ side k y told there.
    let id = c.in_ok-other.ensures.id in
    let id2 = ap (λ (q : OpenParts). q.id) c.in_ok-write_bucket.ensures.same ∙ id in
    let id3 = ap (λ (q : OpenParts). q.id) c.in_ok-write_bucket-2.ensures.same ∙ id2 in
    let frame = (writes_trans (writes_trans (writes_trans c.take_room.ensures.frame (writes_for id c.write_bucket.ensures.frame)) (writes_for id2 c.write_bucket-2.ensures.frame)) (writes_for id3 c.point_run.ensures.frame)).within in
    (buckets_after (g.V.Vault.view_of c.args.vault.now) (g.V.Vault.view_of c.point_run.new.vault) c.args.file.now.id c.args.file.now.header c.write_bucket-2.new.self.header c.args.file.now.table.next_block c.write_bucket-2.new.self.table.next_block c.args.file.now.table.extents c.args.second.now.free c.write_bucket-2.new.self.table.extents [] 32
    (λ file. IsNext file c.write_bucket-2.new.self.header c.args.hash c.args.at c.in_ok-other.other c.args.bucket.now.bits c.divide.new.first c.divide.new.second) frame c.requires.file c.requires.holds (returns-clause-steps g c) k y told there).low side

pub returns-clause-high_bucket : goal.returns-clause-high_bucket
returns-clause-high_bucket g c = λ side k y told there.
    let id = c.in_ok-other.ensures.id in
    let id2 = ap (λ (q : OpenParts). q.id) c.in_ok-write_bucket.ensures.same ∙ id in
    let id3 = ap (λ (q : OpenParts). q.id) c.in_ok-write_bucket-2.ensures.same ∙ id2 in
    let frame = (writes_trans (writes_trans (writes_trans c.take_room.ensures.frame (writes_for id c.write_bucket.ensures.frame)) (writes_for id2 c.write_bucket-2.ensures.frame)) (writes_for id3 c.point_run.ensures.frame)).within in
    (buckets_after (g.V.Vault.view_of c.args.vault.now) (g.V.Vault.view_of c.point_run.new.vault) c.args.file.now.id c.args.file.now.header c.write_bucket-2.new.self.header c.args.file.now.table.next_block c.write_bucket-2.new.self.table.next_block c.args.file.now.table.extents c.args.second.now.free c.write_bucket-2.new.self.table.extents [] 32
    (λ file. IsNext file c.write_bucket-2.new.self.header c.args.hash c.args.at c.in_ok-other.other c.args.bucket.now.bits c.divide.new.first c.divide.new.second) frame c.requires.file c.requires.holds (returns-clause-steps g c) k y told there).high side

pub returns-in_err-write_bucket-clause-frame : goal.returns-in_err-write_bucket-clause-frame
returns-in_err-write_bucket-clause-frame g c = writes_trans c.take_room.ensures.frame (writes_for c.take_room.ensures.id c.write_bucket.ensures.frame)

pub returns-in_err-write_bucket-2-clause-frame : goal.returns-in_err-write_bucket-2-clause-frame
returns-in_err-write_bucket-2-clause-frame g c =
    let id2 = ap (λ (q : OpenParts). q.id) c.write_bucket.ensures.same ∙ c.take_room.ensures.id in
    writes_trans (writes_trans c.take_room.ensures.frame (writes_for c.take_room.ensures.id c.write_bucket.ensures.frame)) (writes_for id2 c.write_bucket-2.ensures.frame)

pub returns-in_err-point_run-clause-frame : goal.returns-in_err-point_run-clause-frame
returns-in_err-point_run-clause-frame g c =
    let id = c.in_ok-other.ensures.id in
    let id2 = ap (λ (q : OpenParts). q.id) c.in_ok-write_bucket.ensures.same ∙ id in
    let id3 = ap (λ (q : OpenParts). q.id) c.in_ok-write_bucket-2.ensures.same ∙ id2 in
    writes_trans (writes_trans (writes_trans c.take_room.ensures.frame (writes_for id c.write_bucket.ensures.frame)) (writes_for id2 c.write_bucket-2.ensures.frame)) (writes_for id3 c.point_run.ensures.frame)

pub returns-clause-frame : goal.returns-clause-frame
returns-clause-frame g c =
    let id = c.in_ok-other.ensures.id in
    let id2 = ap (λ (q : OpenParts). q.id) c.in_ok-write_bucket.ensures.same ∙ id in
    let id3 = ap (λ (q : OpenParts). q.id) c.in_ok-write_bucket-2.ensures.same ∙ id2 in
    writes_trans (writes_trans (writes_trans c.take_room.ensures.frame (writes_for id c.write_bucket.ensures.frame)) (writes_for id2 c.write_bucket-2.ensures.frame)) (writes_for id3 c.point_run.ensures.frame)
