use Rattle.std.proofs.Common.{◌≡◌, ◌∙◌, ap, sym, subst, length}
use Rattle.gd_base.specs.Streams.{Puts, and_then}
use Rattle.gd_base.proofs.Waits.{puts-error}
use Rattle.gd_vault.specs.Views.{content_of}
use Rattle.gd_readable.specs.Standing.{StandsIn, left_of}
use Rattle.gd_dumping.specs.Forms.{form_text}
use Rattle.gd_dumping.proofs.Files.{at_now, dump_text, flush_done, flush_failed, puts_failed}
use Rattle.gd_dumping.proofs.dump.write_dump.Goals as goal

pub put_dump-requires-clause-stands : goal.put_dump-requires-clause-stands
put_dump-requires-clause-stands g c =
    at_now (g.V.Vault.view_of c.args.vault.now) (g.V.Vault.view_of c.start.new.vault) c.args.f.0 c.in_ok-walk.walk.f (λ file. StandsIn file c.in_ok-walk.walk) c.in_ok-walk.ensures.asks.told c.in_ok-walk.ensures.file c.in_ok-walk.ensures.stands

pub returns-in_err-put_dump-clause-bytes : goal.returns-in_err-put_dump-clause-bytes
returns-in_err-put_dump-clause-bytes g c =
    λ d told x is.
    let h = c.args.header.now in
    let text = dump_text c.args.form x.bytes c.args.name.now h (left_of x.bytes c.in_ok-walk.walk) (c.in_ok-walk.ensures.records d told x is) (c.requires.readable d told x is).1 in
    let put = c.in_err-put_dump.ensures.bytes d (ap content_of c.in_ok-walk.ensures.asks.told ∙ told) x (ap d.files c.in_ok-walk.ensures.file ∙ is) in
    let sink = g.O.Sink in
    let r = c.from_residual-in_err-put_dump.result in
    subst (Puts (sink.written c.args.out.now) (sink.written c.put_dump.new.out) r) text (puts-error _ r _ _ _ (form_text c.args.form (left_of x.bytes c.in_ok-walk.walk) c.args.name.now h.format) c.from_residual-in_err-put_dump.ensures.1 c.new-page.ensures put)

pub returns-in_err-flush-clause-bytes : goal.returns-in_err-flush-clause-bytes
returns-in_err-flush-clause-bytes g c =
    λ d told x is.
    let h = c.args.header.now in
    let text = dump_text c.args.form x.bytes c.args.name.now h (left_of x.bytes c.in_ok-walk.walk) (c.in_ok-walk.ensures.records d told x is) (c.requires.readable d told x is).1 in
    let put = c.in_ok-put_dump.ensures.bytes d (ap content_of c.in_ok-walk.ensures.asks.told ∙ told) x (ap d.files c.in_ok-walk.ensures.file ∙ is) in
    let sink = g.O.Sink in
    let r = c.from_residual-in_err-flush.result in
    subst (Puts (sink.written c.args.out.now) (sink.written c.flush.new.out) r) text (puts_failed _ r _ _ (form_text c.args.form (left_of x.bytes c.in_ok-walk.walk) c.args.name.now h.format) c.from_residual-in_err-flush.ensures.1 (flush_failed _ _ _ _ _ _ c.new-page.ensures put c.in_err-flush.ensures.bytes))

pub returns-clause-bytes : goal.returns-clause-bytes
returns-clause-bytes g c =
    λ d told x is.
    let h = c.args.header.now in
    let text = dump_text c.args.form x.bytes c.args.name.now h (left_of x.bytes c.in_ok-walk.walk) (c.in_ok-walk.ensures.records d told x is) (c.requires.readable d told x is).1 in
    let put = c.in_ok-put_dump.ensures.bytes d (ap content_of c.in_ok-walk.ensures.asks.told ∙ told) x (ap d.files c.in_ok-walk.ensures.file ∙ is) in
    flush_done _ _ _ _ _ _ c.new-page.ensures put c.in_ok-flush.ensures.bytes ∙ ap (and_then (g.O.Sink.written c.args.out.now)) text
