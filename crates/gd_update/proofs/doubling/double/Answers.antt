use Rattle.std.proofs.Common.{◌≡◌, ◌*◌, ◌^◌, ℕ, Some, [], ◌∷◌, sym, ap, subst, ◌∙◌, arith}
use Rattle.gd_format.specs.declared.Header.{Header}
use Rattle.gd_format.specs.File.{entries_of}
use Rattle.gd_format.specs.FreeSide.{IsFreeSide}
use Rattle.gd_format.specs.HeaderFault.{dir_size_of}
use Rattle.gd_format.specs.Sound.{extent}
use Rattle.gd_open.specs.Open.{OpenParts}
use Rattle.gd_open.proofs.Files.{becomes_for, told_before, writes_for}
use Rattle.gd_space.specs.Calls.{HasFreeSide, Gave, free_lists}
use Rattle.gd_space.specs.Effect.{Change, Given}
use Rattle.gd_space.proofs.Fits.{bounds}
use Rattle.gd_vault.specs.Content.{File}
use Rattle.gd_vault.proofs.Writes.{writes_trans}
use Rattle.gd_update.specs.Held.{IsBucketOf}
use Rattle.gd_update.specs.SplitLaws.{doubled}
use Rattle.gd_update.specs.Steps.{KeepsBuckets}
use Rattle.gd_update.specs.Places.{IsCopyPlace}
use Rattle.gd_update.specs.Runs.{IsDoubled}
use Rattle.gd_update.proofs.Chains.{holds_after, bucket_stays, one_file, copy_place, side_doubled, double_made}
use Rattle.gd_update.proofs.DoubleParts.{copied_side, double_gives, double_buckets}
use Rattle.gd_update.proofs.doubling.double.Goals as goal

pub copy_dir-requires-clause-within : goal.copy_dir-requires-clause-within
copy_dir-requires-clause-within g c =
    let id = c.in_ok-at.ensures.id in
    let bits = ap (λ (z : Header). z.dir_bits) c.header-header.ensures.is in
    let size : c.dir_bytes-size.result ≡ dir_size_of c.args.file.now.header.dir_bits = c.dir_bytes-size.ensures.is ∙ ap dir_size_of bits in
    let many : c.entry_count-count.result ≡ entries_of c.args.file.now.header = c.entry_count-count.ensures.is ∙ ap (λ (n : ℕ). 2 ^ n) bits in
    let dir : c.take_room.new.file.header.dir ≡ c.args.file.now.header.dir = ap (λ (z : Header). z.dir) c.in_ok-at.ensures.header in
    let same = ap (λ (z : Header). 2 ^ z.dir_bits) c.in_ok-at.ensures.header in
    omega (arith, many, same)

pub copy_dir-requires-clause-places : goal.copy_dir-requires-clause-places
copy_dir-requires-clause-places g c = λ k told y there.
    let id = c.in_ok-at.ensures.id in
    let bits = ap (λ (z : Header). z.dir_bits) c.header-header.ensures.is in
    let size : c.dir_bytes-size.result ≡ dir_size_of c.args.file.now.header.dir_bits = c.dir_bytes-size.ensures.is ∙ ap dir_size_of bits in
    let many : c.entry_count-count.result ≡ entries_of c.args.file.now.header = c.entry_count-count.ensures.is ∙ ap (λ (n : ℕ). 2 ^ n) bits in
    let dir : c.take_room.new.file.header.dir ≡ c.args.file.now.header.dir = ap (λ (z : Header). z.dir) c.in_ok-at.ensures.header in
    let b = told_before (g.V.Vault.view_of c.args.vault.now) (g.V.Vault.view_of c.take_room.new.vault) c.args.file.now.id c.take_room.ensures.frame.within c.requires.file k told in
    let h = c.requires.holds b.0 b.1 b.2 b.3 in
    let a = c.in_ok-at.ensures.done b.0 b.1 h.0 b.2 b.3 h.1.side in
    let bound = c.in_ok-at.ensures.bound in
    let room = c.requires.room in
    let taken : Change b.1.bytes a.file.bytes c.args.file.now.header c.take_room.new.file.header c.args.file.now.table.next_block c.take_room.new.file.table.next_block (free_lists c.args.file.now.table.extents h.0 c.args.loose.now.free) (free_lists c.take_room.new.file.table.extents a.blocks c.take_room.new.loose.free) [] (extent c.in_ok-at.at (2 * dir_size_of c.args.file.now.header.dir_bits) ∷ []) 32 =
    subst (λ (n : ℕ). Change b.1.bytes a.file.bytes c.args.file.now.header c.take_room.new.file.header c.args.file.now.table.next_block c.take_room.new.file.table.next_block (free_lists c.args.file.now.table.extents h.0 c.args.loose.now.free) (free_lists c.take_room.new.file.table.extents a.blocks c.take_room.new.loose.free) [] (extent c.in_ok-at.at (2 * n) ∷ []) 32) size a.change in
    let place = copy_place b.1.bytes a.file.bytes c.args.file.now.header c.take_room.new.file.header c.args.file.now.table.next_block c.take_room.new.file.table.next_block (free_lists c.args.file.now.table.extents h.0 c.args.loose.now.free) (free_lists c.take_room.new.file.table.extents a.blocks c.take_room.new.loose.free) c.in_ok-at.at h.1 taken (omega (arith, bound, room, size)) in
    let one = one_file (g.V.Vault.view_of c.take_room.new.vault) c.args.file.now.id a.content k a.file y a.told a.there told (ap (λ (n : ℕ). k.files n) (sym id) ∙ there) in
    subst (λ (z : File). IsCopyPlace z.bytes c.take_room.new.file.header.dir c.in_ok-at.at c.entry_count-count.result) one
    (subst (λ (n : ℕ). IsCopyPlace a.file.bytes n c.in_ok-at.at c.entry_count-count.result) (sym dir)
    (subst (λ (n : ℕ). IsCopyPlace a.file.bytes c.args.file.now.header.dir c.in_ok-at.at n) (sym many) place))

pub give_room-requires-clause-side : goal.give_room-requires-clause-side
give_room-requires-clause-side g c =
    subst (λ (q : OpenParts). HasFreeSide (g.V.Vault.view_of c.copy_dir.new.vault) q.id q.header q.table.next_block q.table.extents c.take_room.new.loose.free) (sym c.move_dir.ensures.is)
    (λ k y told there.
    let id = c.in_ok-at.ensures.id in
    let bits = ap (λ (z : Header). z.dir_bits) c.header-header.ensures.is in
    let size : c.dir_bytes-size.result ≡ dir_size_of c.args.file.now.header.dir_bits = c.dir_bytes-size.ensures.is ∙ ap dir_size_of bits in
    let many : c.entry_count-count.result ≡ entries_of c.args.file.now.header = c.entry_count-count.ensures.is ∙ ap (λ (n : ℕ). 2 ^ n) bits in
    let dir : c.take_room.new.file.header.dir ≡ c.args.file.now.header.dir = ap (λ (z : Header). z.dir) c.in_ok-at.ensures.header in
    let b = told_before (g.V.Vault.view_of c.args.vault.now) (g.V.Vault.view_of c.copy_dir.new.vault) c.args.file.now.id (writes_trans c.take_room.ensures.frame (writes_for id c.copy_dir.ensures.frame)).within c.requires.file k told in
    let h = c.requires.holds b.0 b.1 b.2 b.3 in
    let a = c.in_ok-at.ensures.done b.0 b.1 h.0 b.2 b.3 h.1.side in
    let t = becomes_for (g.V.Vault.view_of c.take_room.new.vault) (g.V.Vault.view_of c.copy_dir.new.vault) (λ xs ys. IsDoubled c.take_room.new.file.header.dir c.in_ok-at.at c.entry_count-count.result xs ys) id c.in_ok-copy_dir.ensures.doubled a.content a.file a.told a.there in
    let taken : Change b.1.bytes a.file.bytes c.args.file.now.header c.take_room.new.file.header c.args.file.now.table.next_block c.take_room.new.file.table.next_block (free_lists c.args.file.now.table.extents h.0 c.args.loose.now.free) (free_lists c.take_room.new.file.table.extents a.blocks c.take_room.new.loose.free) [] (extent c.in_ok-at.at (2 * dir_size_of c.args.file.now.header.dir_bits) ∷ []) 32 =
    subst (λ (n : ℕ). Change b.1.bytes a.file.bytes c.args.file.now.header c.take_room.new.file.header c.args.file.now.table.next_block c.take_room.new.file.table.next_block (free_lists c.args.file.now.table.extents h.0 c.args.loose.now.free) (free_lists c.take_room.new.file.table.extents a.blocks c.take_room.new.loose.free) [] (extent c.in_ok-at.at (2 * n) ∷ []) 32) size a.change in
    let copy : IsDoubled c.args.file.now.header.dir c.in_ok-at.at (entries_of c.args.file.now.header) a.file.bytes t.file.bytes =
    subst (λ (n : ℕ). IsDoubled c.args.file.now.header.dir c.in_ok-at.at n a.file.bytes t.file.bytes) many (subst (λ (n : ℕ). IsDoubled n c.in_ok-at.at c.entry_count-count.result a.file.bytes t.file.bytes) dir t.holds) in
    let side = copied_side b.1.bytes a.file.bytes c.args.file.now.header c.take_room.new.file.header c.args.file.now.table.next_block c.take_room.new.file.table.next_block (free_lists c.args.file.now.table.extents h.0 c.args.loose.now.free) (free_lists c.take_room.new.file.table.extents a.blocks c.take_room.new.loose.free) c.in_ok-at.at h.1 taken t.file.bytes copy in
    let one = one_file (g.V.Vault.view_of c.copy_dir.new.vault) c.args.file.now.id t.content k t.file y t.told t.there told (ap (λ (n : ℕ). k.files n) (sym id) ∙ there) in (
      a.blocks,
      side_doubled y.bytes c.take_room.new.file.header c.take_room.new.file.table.next_block c.in_ok-at.at (free_lists c.take_room.new.file.table.extents a.blocks c.take_room.new.loose.free)
          (subst (λ (z : File). IsFreeSide z.bytes c.take_room.new.file.header c.take_room.new.file.table.next_block (free_lists c.take_room.new.file.table.extents a.blocks c.take_room.new.loose.free)) one side),
    ))

pub returns-clause-steps : goal.returns-clause-steps
returns-clause-steps g c = λ k x blocks told there held.
    let id = c.in_ok-at.ensures.id in
    let bits = ap (λ (z : Header). z.dir_bits) c.header-header.ensures.is in
    let size : c.dir_bytes-size.result ≡ dir_size_of c.args.file.now.header.dir_bits = c.dir_bytes-size.ensures.is ∙ ap dir_size_of bits in
    let many : c.entry_count-count.result ≡ entries_of c.args.file.now.header = c.entry_count-count.ensures.is ∙ ap (λ (n : ℕ). 2 ^ n) bits in
    let dir : c.take_room.new.file.header.dir ≡ c.args.file.now.header.dir = ap (λ (z : Header). z.dir) c.in_ok-at.ensures.header in
    let a = c.in_ok-at.ensures.done k x blocks told there held.side in
    let t = becomes_for (g.V.Vault.view_of c.take_room.new.vault) (g.V.Vault.view_of c.copy_dir.new.vault) (λ xs ys. IsDoubled c.take_room.new.file.header.dir c.in_ok-at.at c.entry_count-count.result xs ys) id c.in_ok-copy_dir.ensures.doubled a.content a.file a.told a.there in
    let least = (bounds c.args.file.now.header c.header-header.ensures.fit.header).least in
    let taken : Change x.bytes a.file.bytes c.args.file.now.header c.take_room.new.file.header c.args.file.now.table.next_block c.take_room.new.file.table.next_block (free_lists c.args.file.now.table.extents blocks c.args.loose.now.free) (free_lists c.take_room.new.file.table.extents a.blocks c.take_room.new.loose.free) [] (extent c.in_ok-at.at (2 * dir_size_of c.args.file.now.header.dir_bits) ∷ []) 32 =
    subst (λ (n : ℕ). Change x.bytes a.file.bytes c.args.file.now.header c.take_room.new.file.header c.args.file.now.table.next_block c.take_room.new.file.table.next_block (free_lists c.args.file.now.table.extents blocks c.args.loose.now.free) (free_lists c.take_room.new.file.table.extents a.blocks c.take_room.new.loose.free) [] (extent c.in_ok-at.at (2 * n) ∷ []) 32) size a.change in
    let copy : IsDoubled c.args.file.now.header.dir c.in_ok-at.at (entries_of c.args.file.now.header) a.file.bytes t.file.bytes =
    subst (λ (n : ℕ). IsDoubled c.args.file.now.header.dir c.in_ok-at.at n a.file.bytes t.file.bytes) many (subst (λ (n : ℕ). IsDoubled n c.in_ok-at.at c.entry_count-count.result a.file.bytes t.file.bytes) dir t.holds) in
    let side = copied_side x.bytes a.file.bytes c.args.file.now.header c.take_room.new.file.header c.args.file.now.table.next_block c.take_room.new.file.table.next_block (free_lists c.args.file.now.table.extents blocks c.args.loose.now.free) (free_lists c.take_room.new.file.table.extents a.blocks c.take_room.new.loose.free) c.in_ok-at.at held taken t.file.bytes copy in
    let old = ap (λ (z : Header). z.dir) c.header-header.ensures.is in
    let gave : Gave (g.V.Vault.view_of c.copy_dir.new.vault) (g.V.Vault.view_of c.give_room.new.vault) c.take_room.new.file.id (doubled c.take_room.new.file.header c.in_ok-at.at) c.give_room.new.file.header c.take_room.new.file.table.next_block c.give_room.new.file.table.next_block c.take_room.new.file.table.extents c.take_room.new.loose.free c.give_room.new.file.table.extents c.give_room.new.loose.free (extent c.header-header.result.now.dir c.dir_bytes-size.result) =
    subst (λ (q : OpenParts). Gave (g.V.Vault.view_of c.copy_dir.new.vault) (g.V.Vault.view_of c.give_room.new.vault) q.id q.header c.give_room.new.file.header q.table.next_block c.give_room.new.file.table.next_block q.table.extents c.take_room.new.loose.free c.give_room.new.file.table.extents c.give_room.new.loose.free (extent c.header-header.result.now.dir c.dir_bytes-size.result)) c.move_dir.ensures.is c.in_ok-give_room.ensures.gave in
    let d = gave t.content t.file a.blocks t.told (ap (λ (n : ℕ). t.content.files n) id ∙ t.there) (side_doubled t.file.bytes c.take_room.new.file.header c.take_room.new.file.table.next_block c.in_ok-at.at (free_lists c.take_room.new.file.table.extents a.blocks c.take_room.new.loose.free) side) in
    let end : c.give_room.new.file.header ≡ record (doubled c.take_room.new.file.header c.in_ok-at.at) { next_block = c.give_room.new.file.header.next_block } =
    c.in_ok-give_room.ensures.header ∙ ap (λ (q : OpenParts). record q.header { next_block = c.give_room.new.file.header.next_block }) c.move_dir.ensures.is in
    let made = double_made x.bytes a.file.bytes t.file.bytes d.file.bytes c.args.file.now.header c.take_room.new.file.header c.give_room.new.file.header c.args.file.now.table.next_block c.take_room.new.file.table.next_block c.give_room.new.file.table.next_block
    (free_lists c.args.file.now.table.extents blocks c.args.loose.now.free) (free_lists c.take_room.new.file.table.extents a.blocks c.take_room.new.loose.free) (free_lists c.give_room.new.file.table.extents d.blocks c.give_room.new.loose.free) c.in_ok-at.at c.dir_bytes-size.result c.entry_count-count.result size many held c.requires.less
    a.change c.in_ok-at.ensures.header (subst (λ (n : ℕ). IsDoubled n c.in_ok-at.at c.entry_count-count.result a.file.bytes t.file.bytes) dir t.holds)
    (subst (λ (n : ℕ). Given t.file.bytes d.file.bytes (doubled c.take_room.new.file.header c.in_ok-at.at) c.give_room.new.file.header c.take_room.new.file.table.next_block c.give_room.new.file.table.next_block (free_lists c.take_room.new.file.table.extents a.blocks c.take_room.new.loose.free) (free_lists c.give_room.new.file.table.extents d.blocks c.give_room.new.loose.free) (extent n c.dir_bytes-size.result)) old d.given) end in
    record {
      content = d.content;
      file = d.file;
      blocks = d.blocks;
      told = d.told;
      there = ap (λ (n : ℕ). d.content.files n) (sym id) ∙ d.there;
      step = double_gives x.bytes a.file.bytes t.file.bytes d.file.bytes c.args.file.now.header c.take_room.new.file.header c.give_room.new.file.header c.args.file.now.table.next_block c.take_room.new.file.table.next_block c.give_room.new.file.table.next_block
          (free_lists c.args.file.now.table.extents blocks c.args.loose.now.free) (free_lists c.take_room.new.file.table.extents a.blocks c.take_room.new.loose.free) (free_lists c.give_room.new.file.table.extents d.blocks c.give_room.new.loose.free) c.in_ok-at.at least made;
      buckets = λ hash place bucket small m z mtold mthere is.
          double_buckets x.bytes a.file.bytes t.file.bytes d.file.bytes c.args.file.now.header c.take_room.new.file.header c.give_room.new.file.header c.args.file.now.table.next_block c.take_room.new.file.table.next_block c.give_room.new.file.table.next_block
          (free_lists c.args.file.now.table.extents blocks c.args.loose.now.free) (free_lists c.take_room.new.file.table.extents a.blocks c.take_room.new.loose.free) (free_lists c.give_room.new.file.table.extents d.blocks c.give_room.new.loose.free) c.in_ok-at.at least made hash place bucket small
          (subst (λ (w : File). IsBucketOf w.bytes c.args.file.now.header hash place bucket) (one_file (g.V.Vault.view_of c.args.vault.now) c.args.file.now.id m k z x mtold mthere told there) is);
    }

pub returns-clause-holds : goal.returns-clause-holds
returns-clause-holds g c =
    let id = c.take_room.ensures.id in
    let id2 = c.move_dir.ensures.id ∙ id in
    let frame = (writes_trans (writes_trans c.take_room.ensures.frame (writes_for id c.copy_dir.ensures.frame)) (writes_for id2 c.give_room.ensures.frame)).within in
    holds_after (g.V.Vault.view_of c.args.vault.now) (g.V.Vault.view_of c.give_room.new.vault) c.args.file.now.id c.args.file.now.header c.give_room.new.file.header c.args.file.now.table.next_block c.give_room.new.file.table.next_block c.args.file.now.table.extents c.args.loose.now.free c.give_room.new.file.table.extents c.give_room.new.loose.free 64
    (λ bytes. KeepsBuckets (g.V.Vault.view_of c.args.vault.now) c.args.file.now.id c.args.file.now.header bytes c.give_room.new.file.header) frame c.requires.file c.requires.holds (returns-clause-steps g c)

pub returns-clause-buckets : goal.returns-clause-buckets
returns-clause-buckets g c =
    let id = c.take_room.ensures.id in
    let id2 = c.move_dir.ensures.id ∙ id in
    let frame = (writes_trans (writes_trans c.take_room.ensures.frame (writes_for id c.copy_dir.ensures.frame)) (writes_for id2 c.give_room.ensures.frame)).within in
    bucket_stays (g.V.Vault.view_of c.args.vault.now) (g.V.Vault.view_of c.give_room.new.vault) c.args.file.now.id c.args.file.now.header c.give_room.new.file.header c.args.file.now.table.next_block c.give_room.new.file.table.next_block c.args.file.now.table.extents c.args.loose.now.free c.give_room.new.file.table.extents c.give_room.new.loose.free 64
    frame c.requires.file c.requires.holds (returns-clause-steps g c)

pub returns-in_err-copy_dir-clause-frame : goal.returns-in_err-copy_dir-clause-frame
returns-in_err-copy_dir-clause-frame g c = writes_trans c.take_room.ensures.frame (writes_for c.take_room.ensures.id c.copy_dir.ensures.frame)

pub returns-in_err-give_room-clause-frame : goal.returns-in_err-give_room-clause-frame
returns-in_err-give_room-clause-frame g c =
    let id = c.take_room.ensures.id in
    let id2 = c.move_dir.ensures.id ∙ id in
    writes_trans (writes_trans c.take_room.ensures.frame (writes_for id c.copy_dir.ensures.frame)) (writes_for id2 c.give_room.ensures.frame)

pub returns-clause-frame : goal.returns-clause-frame
returns-clause-frame g c =
    let id = c.take_room.ensures.id in
    let id2 = c.move_dir.ensures.id ∙ id in
    writes_trans (writes_trans c.take_room.ensures.frame (writes_for id c.copy_dir.ensures.frame)) (writes_for id2 c.give_room.ensures.frame)
