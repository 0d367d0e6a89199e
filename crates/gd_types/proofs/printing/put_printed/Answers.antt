use Rattle.std.proofs.Common.{◌∙◌, arith, take, drop, get_or, ◌+◌, subst}
use Rattle.gd_base.proofs.Waits.{Waits, pends-after, pends-front, waits-more}
use Rattle.gd_types.specs.Printing.{printed, printed_byte}
use Rattle.gd_types.proofs.Spreading.{printed-more, printed-split}
use Rattle.gd_types.proofs.printing.put_printed.Goals as goal

pub returns-in_err-put_byte-clause-bytes : goal.returns-in_err-put_byte-clause-bytes
returns-in_err-put_byte-clause-bytes g c =
    let bytes = c.args.bytes.now in
    let i = c.loop-byte.byte-index in
    let here = printed_byte (get_or bytes i 0) in
    let rest = printed (drop (i + 1) bytes) in
    rw (printed-split bytes i c.loop-byte-test.true)
    (pends-after c.from_residual.result _ _ _ _ _ _ (printed (take i bytes)) _ c.loop-byte.invariant.put
    (pends-front _ c.from_residual.result _ _ _ _ here rest c.from_residual.ensures.1 c.in_err-put_byte.ensures.bytes))

pub loop-byte-preserved : goal.loop-byte-preserved
loop-byte-preserved g c =
    let bytes = c.args.bytes.now in
    let i = c.loop-byte.byte-index in
    let sink = g.O.Sink in
    record {
      put = subst (Waits (sink.written c.args.out.now) c.args.page.now.items (sink.written c.put_byte.new.out) c.put_byte.new.page.items) (printed-more bytes i c.loop-byte-test.true)
          (waits-more _ _ _ _ _ _ (printed (take i bytes)) (printed_byte (get_or bytes i 0)) c.loop-byte.invariant.put c.in_ok-put_byte.ensures.bytes);
      faults = c.in_ok-put_byte.ensures.cause.answered ∙ c.loop-byte.invariant.faults;
      kept = g.met.O.Sink.kept_on c.args.out.now c.loop-byte.out c.put_byte.new.out c.loop-byte.invariant.kept c.put_byte.ensures.kept;
    }
