use Rattle.std.proofs.Common.{◌≡◌, ℕ, List, [], length}
use Rattle.gd_load.specs.Items.{MayCome, incoming_left}
use Rattle.gd_loading.specs.Loads.{IsLoading, OnwardAll, given_behind}
use Rattle.gd_store.specs.Changed.{Keeps}
use Rattle.gd_vault.specs.Streams.{OnlyWrites}
use Rattle.gd_loading.proofs.taking.take_read.Given as goal

-- the pairs so far were stored, and what is still told is what comes behind them
abbrev pub invariant-items : goal.invariant-items
invariant-items g l =
    let before = g.V.Vault.view_of l.fn.vault in
    let now = g.V.Vault.view_of l.vault in
    record {
      loading : IsLoading now l.store;
      keeps : Keeps l.fn.store l.store;
      frame : OnlyWrites l.fn.store.file before now;
      onward : OnwardAll l.how l.fn.store.file before now (MayCome l.fn.incoming.ended) (given_behind [] l.fn.incoming) (given_behind [] l.incoming);
      faults : now.faults ≡ before.faults;
      read : l.incoming.read ≡ l.fn.incoming.read;
      ended : l.incoming.ended ≡ l.fn.incoming.ended;
    }

abbrev pub decreases-items : goal.decreases-items
decreases-items g l = length (incoming_left l.incoming []).items
