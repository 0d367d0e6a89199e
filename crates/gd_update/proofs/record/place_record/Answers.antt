use Rattle.std.proofs.Common.{◌+◌, ◌++◌, length, arith, length-append}
use Rattle.gd_space.specs.Calls.{free_lists}
use Rattle.gd_update.proofs.Files.{told_first}
use Rattle.gd_open.proofs.Files.{becomes_for, writes_for}
use Rattle.gd_update.specs.Writes.{PutAt}
use Rattle.gd_update.proofs.Puts.{put_both}
use Rattle.gd_update.proofs.Records.{record_put}
use Rattle.gd_vault.proofs.Writes.{writes_trans}
use Rattle.gd_update.proofs.record.place_record.Goals as goal

pub put_bytes-requires-clause-place : goal.put_bytes-requires-clause-place
put_bytes-requires-clause-place g c = λ k told x there.
    let old = told_first (g.V.Vault.view_of c.args.vault.now) (g.V.Vault.view_of c.take_room.new.vault) k c.in_ok-place.ensures.frame.within told in
    let file = c.requires.file old.0 old.1 in
    let ends = c.in_ok-place.ensures.inside old.0 old.1 file.0 file.1 in
    let below = c.in_ok-place.ensures.below in
    omega (arith, ends, below)

pub put_bytes-requires-2-clause-place : goal.put_bytes-requires-2-clause-place
put_bytes-requires-2-clause-place g c = λ k told x there.
    let mid = told_first (g.V.Vault.view_of c.take_room.new.vault) (g.V.Vault.view_of c.put_bytes.new.vault) k c.in_ok-put_bytes.ensures.frame.within told in
    let old = told_first (g.V.Vault.view_of c.args.vault.now) (g.V.Vault.view_of c.take_room.new.vault) mid.0 c.in_ok-place.ensures.frame.within mid.1 in
    let file = c.requires.file old.0 old.1 in
    let ends = c.in_ok-place.ensures.inside old.0 old.1 file.0 file.1 in
    let below = c.in_ok-place.ensures.below in
    omega (arith, ends, below)

pub returns-clause-put : goal.returns-clause-put
returns-clause-put g c = λ k x blocks told there side.
    let a = c.in_ok-place.ensures.done k x blocks told there side in
    let id = c.in_ok-place.ensures.id in
    let p = becomes_for (g.V.Vault.view_of c.take_room.new.vault) (g.V.Vault.view_of c.put_bytes.new.vault) (λ x y. PutAt x y c.in_ok-place.place c.args.key.now) id c.in_ok-put_bytes.ensures.put a.content a.file a.told a.there in
    let q = becomes_for (g.V.Vault.view_of c.put_bytes.new.vault) (g.V.Vault.view_of c.put_bytes-2.new.vault) (λ x y. PutAt x y (c.in_ok-place.place + length c.args.key.now) c.args.value.now) id c.in_ok-put_bytes-2.ensures.put p.content p.file p.told p.there in
    let len = length-append c.args.key.now c.args.value.now in
    let whole = put_both a.file.bytes p.file.bytes q.file.bytes c.in_ok-place.place c.args.key.now c.args.value.now p.holds q.holds in
    let ends = c.in_ok-place.ensures.inside k told x there in
    record {
      content = q.content;
      file = q.file;
      blocks = a.blocks;
      told = q.told;
      there = q.there;
      put = record_put x.bytes a.file.bytes q.file.bytes c.args.file.now.header c.take_room.new.file.header c.args.file.now.table.next_block c.take_room.new.file.table.next_block
          (free_lists c.args.file.now.table.extents blocks c.args.bucket.now.free) (free_lists c.take_room.new.file.table.extents a.blocks c.take_room.new.bucket.free) c.in_ok-place.place (c.args.key.now ++ c.args.value.now) 32
          side (rw len a.change) whole (omega (arith, len, ends));
    }

pub returns-in_err-put_bytes-clause-frame : goal.returns-in_err-put_bytes-clause-frame
returns-in_err-put_bytes-clause-frame g c = writes_trans c.take_room.ensures.frame (writes_for c.take_room.ensures.id c.put_bytes.ensures.frame)

pub returns-in_err-put_bytes-2-clause-frame : goal.returns-in_err-put_bytes-2-clause-frame
returns-in_err-put_bytes-2-clause-frame g c = writes_trans (writes_trans c.take_room.ensures.frame (writes_for c.take_room.ensures.id c.put_bytes.ensures.frame)) (writes_for c.take_room.ensures.id c.put_bytes-2.ensures.frame)

pub returns-clause-frame : goal.returns-clause-frame
returns-clause-frame g c = writes_trans (writes_trans c.take_room.ensures.frame (writes_for c.take_room.ensures.id c.put_bytes.ensures.frame)) (writes_for c.take_room.ensures.id c.put_bytes-2.ensures.frame)
