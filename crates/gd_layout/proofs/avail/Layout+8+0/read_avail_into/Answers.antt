use Rattle.std.proofs.Common.{◌≡◌, List, ap, sym, ◌∙◌, subst}
use Rattle.std.specs.List.{All}
use Rattle.gd_format.specs.declared.Extent.{Extent}
use Rattle.gd_format.specs.Avail.{Avail, extent_at}
use Rattle.gd_format.specs.First.{list_below}
use Rattle.gd_layout.specs.Fits.{FitsExtent}
use Rattle.gd_layout.proofs.FitsRead.{extents_fit}
use Rattle.gd_layout.proofs.avail.Layout+8+0.read_avail_into.Goals as goal

pub returns-clause-fit : goal.returns-clause-fit
returns-clause-fit c = λ _.
    let are : c.set_next_block.new.self.extents ≡ list_below c.in-Some.n (extent_at c.args.bytes.now) =
    ap (λ (a : Avail). a.extents) c.set_next_block.ensures ∙ ap (λ (a : Avail). a.extents) c.put_first.ensures in
    subst (λ (es : List Extent). All FitsExtent es) (sym are) (extents_fit c.args.bytes.now c.in-Some.n (sym c.are_extents_right.ensures ∙ c.if-not-are_extents_right.false))
