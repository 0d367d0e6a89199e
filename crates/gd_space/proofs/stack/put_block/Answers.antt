use Rattle.std.proofs.Common.{◌∙◌, sym, ap, arith}
use Rattle.std.proofs.lemmas.List.Elements.{All-from_recursion}
use Rattle.gd_format.specs.Avail.{Avail}
use Rattle.gd_format.specs.declared.RawAvail.{RawAvail}
use Rattle.gd_layout.specs.Fits.{FitsExtent}
use Rattle.gd_space.proofs.Stacks.{capacity-take, count-take, next-take, avail-extents, avail-next}
use Rattle.gd_space.proofs.stack.put_block.Goals as goal

pub returns : goal.returns
returns c =
    let new = c.write_avail.new.into in
    let e = c.write_avail.ensures in
    record {
      size = c.write_avail.auto.into ∙ c.requires.length;
      capacity_is = capacity-take 16 new (omega arith) ∙ ap (λ (r : RawAvail). r.size) e.head;
      count = count-take 16 new (omega arith) ∙ ap (λ (r : RawAvail). r.count) e.head;
      follows = next-take 16 new (omega arith) ∙ sym (avail-next new c.args.avail.now.room) ∙ ap (λ (a : Avail). a.next_block) e.reads;
      holds = sym (avail-extents new c.args.avail.now.room) ∙ ap (λ (a : Avail). a.extents) e.reads;
      right = e.right (All-from_recursion FitsExtent c.args.avail.now.extents c.requires.elements);
    }
