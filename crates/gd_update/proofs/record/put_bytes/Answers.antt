use Rattle.gd_update.proofs.Puts.{put_written}
use Rattle.gd_update.proofs.record.put_bytes.Goals as goal

pub returns-clause-put : goal.returns-clause-put
returns-clause-put g c = λ k x told there.
    let w = c.in_ok-write_bytes.ensures.becomes k x told there in
    record { content = w.content; file = w.file; told = w.told; there = w.there; holds = put_written x.bytes w.file.bytes c.args.at c.args.bytes.now w.holds }
