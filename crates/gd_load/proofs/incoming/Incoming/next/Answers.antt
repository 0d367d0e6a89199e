use Rattle.std.proofs.Common.{◌∙◌, ◌++◌, ap, sym, ℕ, ◌+◌}
use Rattle.gd_load.specs.Items.{waiting}
use Rattle.gd_load.proofs.Onward.{fed-none, onward-fed, onward-turned}
use Rattle.gd_load.proofs.Pages.{front-then}
use Rattle.gd_load.proofs.incoming.Incoming.next.Goals as goal

pub loop-item-preserved : goal.loop-item-preserved
loop-item-preserved g c =
    let old = c.args.self.now in
    let j = c.feed_page.new.self in
    let k = c.turn_page.new.self in
    let told = c.loop-item.invariant.told in
    let e = c.in_default.ensures in
    let fed = fed-none c.loop-item.self j c.in-Ok-None.field-0 c.in-Ok-None.field-0-is c.in-Ok-None.ensures.feeds in
    let rest = c.in-Ok-None.ensures.rest in
    record {
      told = record {
        bytes = told.bytes ++ waiting k;
        front = front-then (g.S.Source.left c.args.input.now) (g.S.Source.left c.loop-item.input) (g.S.Source.left c.turn_page.new.input) told.bytes (waiting k) told.front c.turn_page.ensures.front;
        says = onward-turned old j k told.bytes (onward-fed old c.loop-item.self j told.bytes told.says fed rest.0 rest.1) fed.0 c.if-self.false c.turn_page.ensures.reader
            (e.read ∙ ap (λ (n : ℕ). j.read + n) (sym c.turn_page.ensures.size));
      };
      ended = e.ended;
      count = e.answered ∙ c.loop-item.invariant.count;
    }
