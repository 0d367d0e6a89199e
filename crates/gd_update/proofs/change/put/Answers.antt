use Rattle.std.proofs.Common.{◌≡◌, ℕ, List, [], ◌∷◌, ◌++◌, length, get_or, true, Some, sym, ap, subst, ◌∙◌, arith}
use Rattle.std.specs.Prelude.{IfSome}
use Rattle.gd_format.specs.declared.Extent.{Extent}
use Rattle.gd_format.specs.declared.Header.{Header}
use Rattle.gd_format.specs.declared.Slot.{Slot}
use Rattle.gd_format.specs.declared.Slot.TheVariants.{Empty}
use Rattle.gd_format.specs.Bucket.{Bucket}
use Rattle.gd_format.specs.FreeSide.{IsFreeSide, free_extents}
use Rattle.gd_format.specs.Hash.{hash_of}
use Rattle.gd_format.specs.Slots.{AreReached, hash_in, is_full}
use Rattle.gd_format.specs.Sound.{extent}
use Rattle.gd_map_laws.specs.Change.{slot_made}
use Rattle.gd_space.specs.Calls.{free_lists}
use Rattle.gd_space.proofs.Fits.{bounds}
use Rattle.gd_vault.specs.Content.{File}
use Rattle.gd_update.specs.Open.{MayGoBack}
use Rattle.gd_update.specs.Starts.{start_of}
use Rattle.gd_update.specs.Writes.{GivenBack, SlotsMade}
use Rattle.gd_update.specs.KeepSound.{BucketChanges, OnlyGrew}
use Rattle.gd_update.proofs.Files.{told_first}
use Rattle.gd_open.proofs.Files.{writes_for}
use Rattle.gd_vault.proofs.Writes.{writes_trans}
use Rattle.gd_vault.proofs.OneFile.{same_file}
use Rattle.gd_update.proofs.Places.{starts}
use Rattle.gd_update.proofs.Gone.{open_blocks, open_place, open_slots, gone_of, may_back}
use Rattle.gd_update.proofs.Results.{put_sound}
use Rattle.gd_update.proofs.change.put.Goals as goal

pub place_record-requires-clause-side : goal.place_record-requires-clause-side
place_record-requires-clause-side g c = λ k x told there.
    let o = c.requires.told k x told there in
    let b = open_blocks x.bytes c.args.file.now.header c.args.file.now.table c.args.at c.args.bucket.now c.args.key.now o.0 o.1 in
    (b.0, b.1.side)

pub finish-requires-clause-room : goal.finish-requires-clause-room
finish-requires-clause-room g c =
    let size = (bounds c.args.file.now.header c.header-header.ensures.fit.header).most in
    let bound = c.in_ok-record.ensures.bound in
    let room = c.requires.room in
    omega (arith, size, bound, room)

pub finish-requires-clause-side : goal.finish-requires-clause-side
finish-requires-clause-side g c = λ k x told there.
    let old = told_first (g.V.Vault.view_of c.args.vault.now) (g.V.Vault.view_of c.place_record.new.vault) k c.in_ok-record.ensures.frame.within told in
    let file = c.requires.file old.0 old.1 in
    let o = c.requires.told old.0 file.0 old.1 file.1 in
    let b = open_blocks file.0.bytes c.args.file.now.header c.args.file.now.table c.args.at c.args.bucket.now c.args.key.now o.0 o.1 in
    let p = c.in_ok-record.ensures.put old.0 file.0 b.0 old.1 file.1 b.1.side in
    let free : c.put_slot-gone.new.bucket.free ≡ c.place_record.new.bucket.free = ap (λ (b : Bucket). b.free) c.put_slot-gone.ensures.rest in
    let here : p.content.files c.place_record.new.file.id ≡ Some p.file = ap (λ (n : ℕ). p.content.files n) c.in_ok-record.ensures.id ∙ p.there in
    let same = same_file (g.V.Vault.view_of c.place_record.new.vault) c.place_record.new.file.id p.content k p.file x p.told told here there in
    let one = subst (λ (y : File). IsFreeSide y.bytes c.place_record.new.file.header c.place_record.new.file.table.next_block (free_lists c.place_record.new.file.table.extents p.blocks c.place_record.new.bucket.free)) same p.put.side in
    (p.blocks, subst (λ (es : List Extent). IsFreeSide x.bytes c.place_record.new.file.header c.place_record.new.file.table.next_block (free_lists c.place_record.new.file.table.extents p.blocks es)) (sym free) one)

pub finish-requires-clause-place : goal.finish-requires-clause-place
finish-requires-clause-place g c = λ k told x there.
    let old = told_first (g.V.Vault.view_of c.args.vault.now) (g.V.Vault.view_of c.place_record.new.vault) k c.in_ok-record.ensures.frame.within told in
    let file = c.requires.file old.0 old.1 in
    let o = c.requires.told old.0 file.0 old.1 file.1 in
    let place = open_place file.0.bytes c.args.file.now.header c.args.file.now.table c.args.at c.args.bucket.now c.args.key.now o.0 o.1 in
    let next = c.header-header.ensures.fit.header.next_block in
    omega (arith, place, next)

pub returns-in_err-finish-clause-below : goal.returns-in_err-finish-clause-below
returns-in_err-finish-clause-below g c =
    let size = (bounds c.args.file.now.header c.header-header.ensures.fit.header).most in
    let first = c.in_ok-record.ensures.bound in
    let block = ap (λ (h : Header). h.block) c.in_ok-record.ensures.header in
    let then_ = c.in_err-finish.ensures.bound in
    let room = c.requires.room in
    omega (arith, size, first, block, then_, room)

pub returns-clause-below : goal.returns-clause-below
returns-clause-below g c =
    let size = (bounds c.args.file.now.header c.header-header.ensures.fit.header).most in
    let first = c.in_ok-record.ensures.bound in
    let block = ap (λ (h : Header). h.block) c.in_ok-record.ensures.header in
    let then_ = c.in_ok-finish.ensures.bound in
    let room = c.requires.room in
    omega (arith, size, first, block, then_, room)

pub returns-clause-changes : goal.returns-clause-changes
returns-clause-changes g c = λ k x told there.
    let h = c.args.file.now.header in
    let h1 = c.place_record.new.file.header in
    let h' = c.finish.new.file.header in
    let table = c.args.file.now.table in
    let table1 = c.place_record.new.file.table in
    let table' = c.finish.new.file.table in
    let bucket = c.args.bucket.now in
    let bucket' = c.finish.new.bucket in
    let gone = c.put_slot-gone.result in
    let key = c.args.key.now in
    let value = c.args.value.now in
    let place = c.in_ok-record.record in
    let o = c.requires.told k x told there in
    let b = open_blocks x.bytes h table c.args.at bucket key o.0 o.1 in
    let p = c.in_ok-record.ensures.put k x b.0 told there b.1.side in
    let slots = c.in_ok-record.ensures.slots in
    let was : IfSome c.args.place (λ p. c.put_slot-gone.result ≡ get_or c.args.bucket.now.slots p Empty) = subst (λ (xs : List Slot). IfSome c.args.place (λ p. c.put_slot-gone.result ≡ get_or xs p Empty)) slots c.put_slot-gone.ensures.gone in
    let known = gone_of x.bytes h table c.args.at bucket key c.args.place gone o.0 o.1 c.requires.some was c.put_slot-gone.ensures.nothing (c.requires.place k told x there) in
    let made1 : SlotsMade c.args.bucket.now.slots c.put_slot-gone.new.bucket.slots c.put_slot-gone.result c.slot_for-slot.result = subst (λ (xs : List Slot). SlotsMade xs c.put_slot-gone.new.bucket.slots c.put_slot-gone.result c.slot_for-slot.result) slots c.put_slot-gone.ensures.made in
    let s1 = free_lists c.place_record.new.file.table.extents p.blocks c.place_record.new.bucket.free in
    let may = may_back x.bytes h table c.args.at bucket key b.0 gone made1.rest h1.next_block s1 (extent place (length (c.args.key.now ++ c.args.value.now)) ∷ []) 32 o.0 o.1 b.1 made1.before_is p.put.moves known.size in
    let free : c.put_slot-gone.new.bucket.free ≡ c.place_record.new.bucket.free = ap (λ (b : Bucket). b.free) c.put_slot-gone.ensures.rest in
    let side1 = subst (λ (es : List Extent). IsFreeSide p.file.bytes c.place_record.new.file.header c.place_record.new.file.table.next_block (free_lists c.place_record.new.file.table.extents p.blocks es)) (sym free) p.put.side in
    let may1 = subst (λ (es : List Extent). MayGoBack c.place_record.new.file.header.next_block (free_extents (free_lists c.place_record.new.file.table.extents p.blocks es)) c.put_slot-gone.result) (sym free) may in
    let here : p.content.files c.place_record.new.file.id ≡ Some p.file = ap (λ (n : ℕ). p.content.files n) c.in_ok-record.ensures.id ∙ p.there in
    let f = c.in_ok-finish.ensures.done p.content p.file p.blocks p.told here side1 may1 in
    let back1 = subst (λ (es : List Extent). GivenBack p.file.bytes f.mid c.place_record.new.file.header c.finish.new.file.header c.place_record.new.file.table.next_block c.finish.new.file.table.next_block (free_lists c.place_record.new.file.table.extents p.blocks es) (free_lists c.finish.new.file.table.extents f.blocks c.finish.new.bucket.free) c.put_slot-gone.result) free f.back in
    let right = open_slots x.bytes h table c.args.at bucket key o.0 o.1 in
    let elems : length c.place_record.new.bucket.slots ≡ c.args.file.now.header.elems = ap (λ (xs : List Slot). length xs) slots ∙ c.requires.elems in
    let before = subst (λ (n : ℕ). AreReached c.place_record.new.bucket.slots n) (sym elems) (subst (λ (xs : List Slot). AreReached xs c.args.file.now.header.elems) (sym slots) right.reached) in
    let made_is = c.slot_for-slot.ensures.is in
    let hash : is_full c.put_slot-gone.result ≡ true → hash_in c.slot_for-slot.result ≡ hash_in c.put_slot-gone.result = λ full. ap hash_in made_is ∙ known.hash_is full in
    let reached1 = c.put_slot-gone.ensures.reached hash before in
    let reached2 = subst (λ (n : ℕ). AreReached c.put_slot-gone.new.bucket.slots n) (c.put_slot-gone.ensures.elems ∙ elems) reached1 in
    let made2 : SlotsMade c.args.bucket.now.slots c.put_slot-gone.new.bucket.slots c.put_slot-gone.result (slot_made c.args.key.now c.args.value.now (hash_of c.args.key.now) (start_of c.args.key.now) c.in_ok-record.record) = subst (λ (s : Slot). SlotsMade c.args.bucket.now.slots c.put_slot-gone.new.bucket.slots c.put_slot-gone.result s) made_is made1 in
    let changes : BucketChanges x.bytes c.args.file.now.header c.args.key.now c.args.bucket.now c.finish.new.bucket c.put_slot-gone.result (slot_made c.args.key.now c.args.value.now (hash_of c.args.key.now) (start_of c.args.key.now) c.in_ok-record.record) = record {
      bits = c.in_ok-finish.ensures.bits ∙ ap (λ (b : Bucket). b.bits) c.put_slot-gone.ensures.rest ∙ c.in_ok-record.ensures.bits;
      made = subst (λ (xs : List Slot). SlotsMade c.args.bucket.now.slots xs c.put_slot-gone.result (slot_made c.args.key.now c.args.value.now (hash_of c.args.key.now) (start_of c.args.key.now) c.in_ok-record.record)) (sym c.in_ok-finish.ensures.slots) made2;
      reached = subst (λ (xs : List Slot). AreReached xs c.args.file.now.header.elems) (sym c.in_ok-finish.ensures.slots) reached2;
      gone_is = known.gone_is;
    } in
    let size = (bounds c.args.file.now.header c.header-header.ensures.fit.header).most in
    let first = c.in_ok-record.ensures.bound in
    let block = ap (λ (h : Header). h.block) c.in_ok-record.ensures.header in
    let then_ = c.in_ok-finish.ensures.bound in
    let room = c.requires.room in
    let grew : OnlyGrew c.args.file.now.header c.finish.new.file.header = record {
      header_is = c.in_ok-finish.ensures.header ∙ ap (λ (k : Header). record k { next_block = c.finish.new.file.header.next_block }) c.in_ok-record.ensures.header;
      below = omega (arith, size, first, block, then_, room);
    } in
    record {
      content = f.content;
      file = f.file;
      told = f.told;
      there = ap (λ (n : ℕ). f.content.files n) (sym c.in_ok-record.ensures.id) ∙ f.there;
      holds = put_sound x.bytes p.file.bytes f.mid f.file.bytes h h1 h' table table' table1.next_block s1 b.0 f.blocks c.args.at bucket bucket' gone key value (start_of c.args.key.now) place o.0 o.1 b.1 grew p.put back1 f.last (c.in_ok-finish.ensures.table_room ∙ c.in_ok-record.ensures.table_room) changes (starts c.args.key.now) c.requires.size;
    }

pub returns-in_err-finish-clause-frame : goal.returns-in_err-finish-clause-frame
returns-in_err-finish-clause-frame g c = writes_trans c.place_record.ensures.frame (writes_for c.place_record.ensures.id c.finish.ensures.frame)

pub returns-clause-frame : goal.returns-clause-frame
returns-clause-frame g c = writes_trans c.place_record.ensures.frame (writes_for c.place_record.ensures.id c.finish.ensures.frame)
