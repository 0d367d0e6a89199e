use Rattle.std.proofs.Common.{◌∙◌, ap}
use Rattle.gd_base.specs.Streams.{and_then}
use Rattle.gd_base.proofs.Waits.{put-again}
use Rattle.gd_base.proofs.pages.put.Goals as goal

pub returns-in_ok-flush-in-Err-clause-bytes : goal.returns-in_ok-flush-in-Err-clause-bytes
returns-in_ok-flush-in-Err-clause-bytes g c =
    let same = ap (λ p. and_then (g.O.Sink.written c.args.out.now) p.items) c.in-Err.ensures.err in
    put-again c.put_first.result _ _ _ c.args.page.now.items _ _ c.args.bytes.now (c.in_ok-flush-in-Err.ensures.bytes ∙ same) c.in_ok-flush-in-Err.ensures.empty c.put_first.ensures.bytes
