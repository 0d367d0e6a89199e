use Rattle.std.proofs.Common.{◌∙◌, ap, sym, arith, ◌+◌, ◌-◌, ◌++◌, ℕ, List, take, drop}
use Rattle.gd_dump_reading.specs.Readers.{left_by, taken_by}
use Rattle.gd_dump_reading.specs.Told.{given_if}
use Rattle.gd_load.specs.Items.{incoming_left}
use Rattle.gd_load.proofs.Pages.{feeds-by, window-drop}
use Rattle.gd_load.proofs.incoming.Incoming.feed_page.Goals as goal

pub returns-in-Ok-clause-feeds : goal.returns-in-Ok-clause-feeds
returns-in-Ok-clause-feeds g c =
    let now = c.args.self.now in
    let fed = c.in-Ok.fed in
    let reader = c.feed_window.new.reader in
    let reads = left_by g.M.Machine.left reader in
    feeds-by (incoming_left now) (λ (rest : List ℕ). reads (take (now.end - (now.at + fed.taken)) (drop (now.at + fed.taken) now.page) ++ rest)) reads (now.at + fed.taken) now.end (taken_by g.M.Machine.taken reader) fed.item
    (λ none. (omega (arith, c.in-Ok.ensures.whole none, now.within), c.in-Ok.ensures.none none))
    (λ rest.
    c.in-Ok.ensures.feeds.2 rest
    ∙ ap (λ (t : List ℕ). given_if fed.item (taken_by g.M.Machine.taken reader) (reads (t ++ rest))) (sym (window-drop now.page now.at now.end fed.taken)))
