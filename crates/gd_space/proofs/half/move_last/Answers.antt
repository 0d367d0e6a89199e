use Rattle.std.proofs.Common.{◌≡◌, ◌∙◌, ◌-◌, ◌++◌, ◌∷◌, [], ◌<◌, ap, length, get_or, List, arith, length-append}
use Rattle.std.specs.List.{remove}
use Rattle.std.proofs.lemmas.List.{get_or_default}
use Rattle.std.proofs.lemmas.List.Edits.{length-remove}
use Rattle.gd_format.specs.declared.Extent.{Extent}
use Rattle.gd_format.specs.Avail.{Avail}
use Rattle.gd_format.specs.Sound.{extent}
use Rattle.gd_layout.specs.Fits.{FitsExtent}
use Rattle.gd_format.proofs.Covers.{all-append}
use Rattle.gd_space.proofs.Elements.{all-remove, all-at}
use Rattle.gd_space.proofs.Cuts.{split_more}
use Rattle.gd_space.proofs.half.move_last.Goals as goal

pub loop-i-preserved : goal.loop-i-preserved
loop-i-preserved c =
    let old = c.loop-i.invariant in
    let xs = c.loop-i.table.extents in
    let ys = c.loop-i.spare.extents in
    let len = ap (λ (x : List Extent). length x) c.extents.ensures.are in
    let whole = old.whole in
    let test = c.loop-i-test.true in
    let enough = c.requires.enough in
    let lt : length c.extents.result.now - 1 < length c.loop-i.table.extents = omega (arith, len, whole, test, enough) in
    let one : c.remove-e.new.self.extents ≡ remove c.loop-i.table.extents (length c.extents.result.now - 1) = ap (λ (t : Avail). t.extents) c.remove-e.ensures.rest in
    let two : c.push.new.self.extents ≡ c.loop-i.spare.extents ++ c.remove-e.result ∷ [] = ap (λ (t : Avail). t.extents) c.push.ensures in
    let there : c.remove-e.result ≡ get_or c.loop-i.table.extents (length c.extents.result.now - 1) (extent 0 0) = c.remove-e.ensures.extent ∙ get_or_default c.loop-i.table.extents (length c.extents.result.now - 1) c.remove-e.result (extent 0 0) lt in
    let shorter = length-remove c.loop-i.table.extents (length c.extents.result.now - 1) lt in
    let shorter_is = ap (λ (x : List Extent). length x) one in
    let longer_is = ap (λ (x : List Extent). length x) two in
    let longer = length-append c.loop-i.spare.extents (c.remove-e.result ∷ []) in
    let count = old.count in
    record {
      split = λ n below. split_more (extent 0 0) c.remove-e.result n c.args.table.now.extents c.loop-i.table.extents c.loop-i.spare.extents c.remove-e.new.self.extents c.push.new.self.extents (length c.extents.result.now - 1) lt there one two (old.split n below);
      fields = λ f. rw one (all-remove FitsExtent c.loop-i.table.extents (length c.extents.result.now - 1) (old.fields f));
      spare_fields = λ f. rw two (all-append FitsExtent c.loop-i.spare.extents (c.remove-e.result ∷ []) (old.spare_fields f) (rw there (all-at (extent 0 0) FitsExtent c.loop-i.table.extents (length c.extents.result.now - 1) lt (old.fields f)), tt));
      whole = omega (arith, shorter, shorter_is, whole);
      count = omega (arith, longer, longer_is, count);
      table_room = ap (λ (t : Avail). t.room) c.remove-e.ensures.rest ∙ old.table_room;
      spare_room = ap (λ (t : Avail). t.room) c.push.ensures ∙ old.spare_room;
      table_next = ap (λ (t : Avail). t.next_block) c.remove-e.ensures.rest ∙ old.table_next;
      spare_next = ap (λ (t : Avail). t.next_block) c.push.ensures ∙ old.spare_next;
    }
