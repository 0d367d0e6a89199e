use Rattle.std.proofs.Common.{◌≡◌, ℕ, List, [], ◌∷◌, length, get_or, Some, refl, sym, ap, subst, ◌∙◌, arith}
use Rattle.gd_format.specs.declared.Extent.{Extent}
use Rattle.gd_format.specs.declared.Slot.{Slot}
use Rattle.gd_format.specs.declared.Slot.TheVariants.{Empty}
use Rattle.gd_format.specs.Bucket.{Bucket}
use Rattle.gd_format.specs.FreeSide.{IsFreeSide, free_extents}
use Rattle.gd_format.specs.Slots.{AreReached}
use Rattle.gd_format.specs.Sound.{extent}
use Rattle.gd_space.specs.Calls.{free_lists}
use Rattle.gd_space.proofs.Fits.{bounds}
use Rattle.gd_update.specs.Open.{MayGoBack, slot_key}
use Rattle.gd_update.specs.Writes.{GivenBack, SlotsMade}
use Rattle.gd_update.specs.KeepSound.{BucketChanges, OnlyGrew}
use Rattle.gd_update.proofs.Places.{lost}
use Rattle.gd_update.proofs.Gone.{open_blocks, open_place, open_slots, gone_of, may_back}
use Rattle.gd_update.proofs.Results.{no_record, remove_sound}
use Rattle.gd_update.proofs.change.remove.Goals as goal

pub finish-requires-clause-side : goal.finish-requires-clause-side
finish-requires-clause-side g c = λ k x told there.
    let o = c.requires.told k x told there in
    let b = open_blocks x.bytes c.args.file.now.header c.args.file.now.table c.args.at c.args.bucket.now (slot_key x.bytes (get_or c.args.bucket.now.slots c.args.place Empty)) o.0 o.1 in
    let free = ap (λ (b : Bucket). b.free) c.remove_slot.ensures.rest in
    (b.0, subst (λ (es : List Extent). IsFreeSide x.bytes c.args.file.now.header c.args.file.now.table.next_block (free_lists c.args.file.now.table.extents b.0 es)) (sym free) b.1.side)

pub finish-requires-clause-place : goal.finish-requires-clause-place
finish-requires-clause-place g c = λ k told x there.
    let o = c.requires.told k x told there in
    let place = open_place x.bytes c.args.file.now.header c.args.file.now.table c.args.at c.args.bucket.now (slot_key x.bytes (get_or c.args.bucket.now.slots c.args.place Empty)) o.0 o.1 in
    let next = c.header-header.ensures.fit.header.next_block in
    omega (arith, place, next)

pub returns-clause-changes : goal.returns-clause-changes
returns-clause-changes g c = λ k x told there.
    let h = c.args.file.now.header in
    let table = c.args.file.now.table in
    let bucket = c.args.bucket.now in
    let bucket' = c.finish.new.bucket in
    let gone : Slot = get_or c.args.bucket.now.slots c.args.place Empty in
    let key : List ℕ = slot_key x.bytes (get_or c.args.bucket.now.slots c.args.place Empty) in
    let o = c.requires.told k x told there in
    let b = open_blocks x.bytes h table c.args.at bucket key o.0 o.1 in
    let free = ap (λ (b : Bucket). b.free) c.remove_slot.ensures.rest in
    let same : get_or c.slots.result.now c.args.place Empty ≡ get_or c.args.bucket.now.slots c.args.place Empty = ap (λ (xs : List Slot). get_or xs c.args.place Empty) c.slots.ensures.are in
    let known = gone_of x.bytes h table c.args.at bucket key (Some c.args.place) gone o.0 o.1 c.requires.full refl tt refl in
    let s0 = free_lists c.args.file.now.table.extents b.0 c.args.bucket.now.free in
    let may = may_back x.bytes h table c.args.at bucket key b.0 gone c.remove_slot.new.bucket.slots c.args.file.now.header.next_block s0 (extent 0 0 ∷ []) 0 o.0 o.1 b.1 c.remove_slot.ensures.others (no_record x.bytes h c.args.file.now.table.next_block s0 b.1.side).moves known.size in
    let side1 = subst (λ (es : List Extent). IsFreeSide x.bytes c.args.file.now.header c.args.file.now.table.next_block (free_lists c.args.file.now.table.extents b.0 es)) (sym free) b.1.side in
    let may1 = subst (λ (s : Slot). MayGoBack c.args.file.now.header.next_block (free_extents (free_lists c.args.file.now.table.extents b.0 c.args.bucket.now.free)) s) (sym same) may in
    let may2 = subst (λ (es : List Extent). MayGoBack c.args.file.now.header.next_block (free_extents (free_lists c.args.file.now.table.extents b.0 es)) (get_or c.slots.result.now c.args.place Empty)) (sym free) may1 in
    let f = c.in_ok-finish.ensures.done k x b.0 told there side1 may2 in
    let back1 = subst (λ (es : List Extent). GivenBack x.bytes f.mid c.args.file.now.header c.finish.new.file.header c.args.file.now.table.next_block c.finish.new.file.table.next_block (free_lists c.args.file.now.table.extents b.0 es) (free_lists c.finish.new.file.table.extents f.blocks c.finish.new.bucket.free) (get_or c.slots.result.now c.args.place Empty)) free f.back in
    let back2 = subst (λ (s : Slot). GivenBack x.bytes f.mid c.args.file.now.header c.finish.new.file.header c.args.file.now.table.next_block c.finish.new.file.table.next_block (free_lists c.args.file.now.table.extents b.0 c.args.bucket.now.free) (free_lists c.finish.new.file.table.extents f.blocks c.finish.new.bucket.free) s) same back1 in
    let right = open_slots x.bytes h table c.args.at bucket key o.0 o.1 in
    let reached1 = c.remove_slot.ensures.reached (subst (λ (n : ℕ). AreReached c.args.bucket.now.slots n) (sym c.requires.elems) right.reached) in
    let len : length c.remove_slot.new.bucket.slots ≡ c.args.file.now.header.elems = c.remove_slot.ensures.elems ∙ c.requires.elems in
    let reached2 = subst (λ (n : ℕ). AreReached c.remove_slot.new.bucket.slots n) len reached1 in
    let size = (bounds c.args.file.now.header c.header-header.ensures.fit.header).most in
    let bound = c.in_ok-finish.ensures.bound in
    let room = c.requires.room in
    let changes : BucketChanges x.bytes c.args.file.now.header (slot_key x.bytes (get_or c.args.bucket.now.slots c.args.place Empty)) c.args.bucket.now c.finish.new.bucket (get_or c.args.bucket.now.slots c.args.place Empty) Empty = record {
      bits = c.in_ok-finish.ensures.bits ∙ ap (λ (b : Bucket). b.bits) c.remove_slot.ensures.rest;
      made = subst (λ (xs : List Slot). SlotsMade c.args.bucket.now.slots xs (get_or c.args.bucket.now.slots c.args.place Empty) Empty) (sym c.in_ok-finish.ensures.slots) (lost c.args.bucket.now.slots c.remove_slot.new.bucket.slots gone c.remove_slot.ensures.others);
      reached = subst (λ (xs : List Slot). AreReached xs c.args.file.now.header.elems) (sym c.in_ok-finish.ensures.slots) reached2;
      gone_is = known.gone_is;
    } in
    let grew : OnlyGrew c.args.file.now.header c.finish.new.file.header = record { header_is = c.in_ok-finish.ensures.header; below = omega (arith, size, bound, room) } in
    record {
      content = f.content;
      file = f.file;
      told = f.told;
      there = f.there;
      holds = remove_sound x.bytes f.mid f.file.bytes h c.finish.new.file.header table c.finish.new.file.table b.0 f.blocks c.args.at bucket bucket' gone key o.0 o.1 b.1 grew back2 f.last c.in_ok-finish.ensures.table_room changes;
    }

pub returns-in_err-finish-clause-below : goal.returns-in_err-finish-clause-below
returns-in_err-finish-clause-below g c =
    let size = (bounds c.args.file.now.header c.header-header.ensures.fit.header).most in
    let bound = c.in_err-finish.ensures.bound in
    let room = c.requires.room in
    omega (arith, size, bound, room)

pub returns-clause-below : goal.returns-clause-below
returns-clause-below g c =
    let size = (bounds c.args.file.now.header c.header-header.ensures.fit.header).most in
    let bound = c.in_ok-finish.ensures.bound in
    let room = c.requires.room in
    omega (arith, size, bound, room)
