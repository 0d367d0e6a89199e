use Rattle.std.proofs.Common.{◌≡◌, take}
use Rattle.gd_base.proofs.Waits.{Waits}
use Rattle.gd_types.specs.Printing.{printed}
use Rattle.gd_types.proofs.printing.put_printed.Given as goal

-- the first bytes were put
abbrev pub invariant-loop-byte : goal.invariant-loop-byte
invariant-loop-byte g l =
    let sink = g.O.Sink in
    record {
      put : Waits (sink.written l.fn.out) l.fn.page.items (sink.written l.out) l.page.items (printed (take l.byte-index l.bytes));
      faults : sink.fault_count l.out ≡ sink.fault_count l.fn.out;
      kept : sink.kept l.fn.out l.out;
    }
