use Rattle.std.proofs.Common.{◌≡◌, ◌+◌, ◌≤◌, ◌++◌, List, ℕ, length}
use Rattle.gd_base.proofs.Waits.{Waits}
use Rattle.gd_vault.specs.Views.{OnlyAsks}
use Rattle.gd_readable.specs.Standing.{StandsIn, left_of, slots_of_walk}
use Rattle.gd_dumping.specs.Dump.{AtFile}
use Rattle.gd_dumping.specs.Forms.{pairs_in}
use Rattle.gd_dumping.proofs.dump.put_records.Given as goal

-- what was put is a front of the text, and the records that are left follow it
abbrev pub invariant-records : goal.invariant-records
invariant-records g l =
    let sink = g.O.Sink in
    let view = g.V.Vault.view_of l.fn.vault in
    record {
      asks : OnlyAsks view (g.V.Vault.view_of l.vault);
      file : l.walk.f ≡ l.fn.walk.f;
      stands : AtFile view l.fn.walk.f (λ file. StandsIn file l.walk);
      put : AtFile view l.fn.walk.f (λ file. (front : List ℕ) × Waits (sink.written l.fn.out) l.fn.page.items (sink.written l.out) l.page.items front
          × (pairs_in l.fn.form (left_of file l.fn.walk) ≡ front ++ pairs_in l.fn.form (left_of file l.walk)));
      count : AtFile view l.fn.walk.f (λ file. l.count + length (left_of file l.walk) ≡ length (left_of file l.fn.walk));
      few : l.count + slots_of_walk l.walk ≤ slots_of_walk l.fn.walk;
      answered : (g.V.Vault.view_of l.vault).faults ≡ view.faults;
      faults : sink.fault_count l.out ≡ sink.fault_count l.fn.out;
      kept : sink.kept l.fn.out l.out;
    }

abbrev pub decreases-records : goal.decreases-records
decreases-records g l = slots_of_walk l.walk
