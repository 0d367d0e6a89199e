use Rattle.std.proofs.Common.{◌≡◌}
use Rattle.gd_readable.specs.Standing.{StandsIn, left_of, slots_of_walk}
use Rattle.gd_store.specs.Opened.{OnFile}
use Rattle.gd_vault.specs.Views.{OnlyAsks}
use Rattle.gd_session.specs.State.{seen}
use Rattle.gd_session.proofs.Listings.{SoFar}
use Rattle.gd_session.proofs.session.Session.put_lines.Given as goal

-- what was put are the lines of the first records, and the others are left
abbrev pub invariant-records : goal.invariant-records
invariant-records g l =
    let sink = g.O.Sink in
    let view = g.V.Vault.view_of l.fn.vault in
    record {
      asks : OnlyAsks view (g.V.Vault.view_of l.vault);
      file : l.walk.f ≡ l.fn.walk.f;
      stands : OnFile view l.fn.walk.f (λ file. StandsIn file l.walk);
      put : OnFile view l.fn.walk.f (λ file. SoFar (seen l.fn.self) (left_of file l.fn.walk) (left_of file l.walk) (sink.written l.fn.out) l.fn.page.items (sink.written l.out) l.page.items);
      answered : (g.V.Vault.view_of l.vault).faults ≡ view.faults;
      faults : sink.fault_count l.out ≡ sink.fault_count l.fn.out;
      kept : sink.kept l.fn.out l.out;
    }

abbrev pub decreases-records : goal.decreases-records
decreases-records g l = slots_of_walk l.walk
