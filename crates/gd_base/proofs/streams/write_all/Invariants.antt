use Rattle.std.proofs.Common.{length, take, ◌-◌, ◌≡◌, ◌≤◌}
use Rattle.gd_base.specs.Streams.{and_then}
use Rattle.gd_base.proofs.streams.write_all.Given as goal

-- the first bytes are written, and nothing has failed
abbrev pub invariant-loop-at : goal.invariant-loop-at
invariant-loop-at g l =
    let sink = g.O.Sink in
    record {
      at : l.at ≤ length l.bytes;
      written : sink.written l.out ≡ and_then (sink.written l.fn.out) (take l.at l.bytes);
      faults : sink.fault_count l.out ≡ sink.fault_count l.fn.out;
      kept : sink.kept l.fn.out l.out;
    }

abbrev pub decreases-loop-at : goal.decreases-loop-at
decreases-loop-at g l = length l.bytes - l.at
