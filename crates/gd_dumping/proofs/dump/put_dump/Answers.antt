use Rattle.std.proofs.Common.{◌++◌, ℕ, length, subst}
use Rattle.gd_base.specs.Pages.{Pends}
use Rattle.gd_base.specs.Streams.{WritesFront}
use Rattle.gd_base.proofs.Waits.{Waits, pends-after, pends-front, waits-more}
use Rattle.gd_readable.specs.Standing.{left_of}
use Rattle.gd_dumping.specs.Forms.{end_in, head_in, pairs_in}
use Rattle.gd_dumping.proofs.Files.{pends_failed}
use Rattle.gd_dumping.proofs.Texts.{whole_text}
use Rattle.gd_dumping.proofs.dump.put_dump.Goals as goal

pub returns-in_err-put_head-clause-bytes : goal.returns-in_err-put_head-clause-bytes
returns-in_err-put_head-clause-bytes g c =
    λ d told x is.
    let all = left_of x.bytes c.args.walk.now in
    let form = c.args.form in
    rw (whole_text form all c.args.name.now c.args.format)
    (pends-front _ c.from_residual.result _ _ _ _ (head_in form c.args.format c.args.name.now) (pairs_in form all ++ end_in form (length all)) c.from_residual.ensures.1 c.in_err-put_head.ensures.bytes)

pub returns-in_err-count-clause-bytes : goal.returns-in_err-count-clause-bytes
returns-in_err-count-clause-bytes g c =
    λ d told x is.
    let all = left_of x.bytes c.args.walk.now in
    let form = c.args.form in
    let r = c.from_residual-in_err-count.result in
    rw (whole_text form all c.args.name.now c.args.format)
    (pends-after r _ _ _ _ _ _ (head_in form c.args.format c.args.name.now) (pairs_in form all ++ end_in form (length all)) c.in_ok-put_head.ensures.bytes
    (pends-front _ r _ _ _ _ (pairs_in form all) (end_in form (length all)) c.from_residual-in_err-count.ensures.1 (c.in_err-count.ensures.bytes d told x is)))

pub returns-in_err-put_end-clause-bytes : goal.returns-in_err-put_end-clause-bytes
returns-in_err-put_end-clause-bytes g c =
    λ d told x is.
    let all = left_of x.bytes c.args.walk.now in
    let form = c.args.form in
    let sink = g.O.Sink in
    let r = c.from_residual-in_err-put_end.result in
    let front : ℕ → Type 0 = λ n. WritesFront (sink.written c.put_records.new.out) (sink.written c.put_end.new.out) (c.put_records.new.page.items ++ end_in form n) in
    rw (whole_text form all c.args.name.now c.args.format)
    (pends-after r _ _ _ _ _ _ (head_in form c.args.format c.args.name.now) (pairs_in form all ++ end_in form (length all)) c.in_ok-put_head.ensures.bytes
    (pends-after r _ _ _ _ _ _ (pairs_in form all) (end_in form (length all)) (c.in_ok-count.ensures.bytes d told x is)
    (pends_failed _ r _ _ _ _ (end_in form (length all)) c.from_residual-in_err-put_end.ensures.1 (subst front (c.in_ok-count.ensures.count d told x is) c.in_err-put_end.ensures.bytes))))

pub returns-clause-bytes : goal.returns-clause-bytes
returns-clause-bytes g c =
    λ d told x is.
    let all = left_of x.bytes c.args.walk.now in
    let form = c.args.form in
    let sink = g.O.Sink in
    let ends : ℕ → Type 0 = λ n. Waits (sink.written c.put_records.new.out) c.put_records.new.page.items (sink.written c.put_end.new.out) c.put_end.new.page.items (end_in form n) in
    rw (whole_text form all c.args.name.now c.args.format)
    (waits-more _ _ _ _ _ _ (head_in form c.args.format c.args.name.now) (pairs_in form all ++ end_in form (length all)) c.in_ok-put_head.ensures.bytes
    (waits-more _ _ _ _ _ _ (pairs_in form all) (end_in form (length all)) (c.in_ok-count.ensures.bytes d told x is)
    (subst ends (c.in_ok-count.ensures.count d told x is) c.in_ok-put_end.ensures.bytes)))
