use Rattle.std.proofs.Common.{length, drop, ◌-◌, ◌≡◌, ◌≤◌, ◌++◌, List, ℕ}
use Rattle.gd_dump.specs.Ascii.{base64_text, lines_of}
use Rattle.gd_base.proofs.Waits.{Waits}
use Rattle.gd_dump.proofs.ascii_data.put_lines.Given as goal

-- what was put is a front of the lines, and the lines of the bytes that are left follow it
abbrev pub invariant-loop-at : goal.invariant-loop-at
invariant-loop-at g l =
    let sink = g.O.Sink in
    record {
      at : l.at ≤ length l.bytes;
      put : (front : List ℕ) × Waits (sink.written l.fn.out) l.fn.page.items (sink.written l.out) l.page.items front
          × (lines_of (base64_text l.bytes) ≡ front ++ lines_of (base64_text (drop l.at l.bytes)));
      faults : sink.fault_count l.out ≡ sink.fault_count l.fn.out;
      kept : sink.kept l.fn.out l.out;
    }

abbrev pub decreases-loop-at : goal.decreases-loop-at
decreases-loop-at g l = length l.bytes - l.at
