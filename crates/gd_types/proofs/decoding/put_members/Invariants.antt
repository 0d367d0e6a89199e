use Rattle.std.proofs.Common.{◌≡◌, List, ℕ}
use Rattle.gd_base.proofs.Waits.{Waits}
use Rattle.gd_types.proofs.Spreading.{Printed}
use Rattle.gd_types.proofs.decoding.put_members.Given as goal

-- what was put is the front of the text, and the texts of the members that are left follow it
abbrev pub invariant-loop-member : goal.invariant-loop-member
invariant-loop-member g l =
    let sink = g.O.Sink in
    record {
      put : (front : List ℕ) × Waits (sink.written l.fn.out) l.fn.page.items (sink.written l.out) l.page.items front
          × Printed l.members l.bytes l.delim l.at l.member-index l.first front;
      faults : sink.fault_count l.out ≡ sink.fault_count l.fn.out;
      kept : sink.kept l.fn.out l.out;
    }
