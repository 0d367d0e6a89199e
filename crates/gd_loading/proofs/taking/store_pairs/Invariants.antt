use Rattle.std.proofs.Common.{◌≡◌, ℕ}
use Rattle.gd_load.specs.Items.{EndsWith, ReadOn, pages_left}
use Rattle.gd_loading.specs.Loads.{IsLoading, Reached}
use Rattle.gd_store.specs.Changed.{Keeps}
use Rattle.gd_vault.specs.Streams.{OnlyWrites}
use Rattle.gd_loading.proofs.taking.store_pairs.Given as goal

abbrev pub invariant-pages : goal.invariant-pages
invariant-pages g l =
    let before = g.V.Vault.view_of l.fn.vault in
    let now = g.V.Vault.view_of l.vault in
    record {
      loading : IsLoading now l.store;
      keeps : Keeps l.fn.store l.store;
      frame : OnlyWrites l.fn.store.file before now;
      reached : ReadOn (g.S.Source.left l.fn.input) (g.S.Source.left l.input) (Reached l.how l.fn.store.file before now l.fn.incoming l.incoming);
      faults : now.faults ≡ before.faults;
      count : g.S.Source.fault_count l.input ≡ g.S.Source.fault_count l.fn.input;
      ended : EndsWith l.incoming.ended (g.S.Source.left l.input);
    }

abbrev pub decreases-pages : goal.decreases-pages
decreases-pages g l = pages_left l.incoming.read l.incoming.ended
