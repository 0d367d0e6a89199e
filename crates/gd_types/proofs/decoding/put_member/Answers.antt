use Rattle.std.proofs.Common.{◌∙◌, ap, drop, refl, subst}
use Rattle.gd_base.specs.Pages.{Pends}
use Rattle.gd_base.proofs.Waits.{pends-after, pends-front}
use Rattle.gd_types.specs.Decoding.{kind_text, value_text}
use Rattle.gd_types.specs.Rows.{kind_of}
use Rattle.std.proofs.lemmas.List.{take_rest}
use Rattle.gd_types.proofs.Spreading.{text-at}
use Rattle.gd_types.proofs.decoding.put_member.Goals as goal

pub returns-in_err-put-in-Row-clause-bytes : goal.returns-in_err-put-in-Row-clause-bytes
returns-in_err-put-in-Row-clause-bytes g c =
    let sink = g.O.Sink in
    let text = kind_text (kind_of c.in-Row.row) (drop c.args.at c.args.bytes.now) in
    subst (Pends (sink.written c.args.out.now) c.args.page.now.items (sink.written c.put.new.out) c.put.new.page.items c.from_residual.result)
    (text-at c.args.lead.now c.args.bytes.now c.args.member c.in-Row.row c.args.at text c.in-Row.is refl)
    (pends-front _ c.from_residual.result _ _ _ _ c.args.lead.now text c.from_residual.ensures.1 c.in_err-put-in-Row.ensures.bytes)

pub returns-in_ok-put-in-Row-clause-bytes : goal.returns-in_ok-put-in-Row-clause-bytes
returns-in_ok-put-in-Row-clause-bytes g c =
    let sink = g.O.Sink in
    let text = value_text c.value_of.result in
    let same = c.value_of.ensures ∙ ap (kind_text (kind_of c.in-Row.row)) (take_rest c.args.bytes.now c.args.at) in
    subst (Pends (sink.written c.args.out.now) c.args.page.now.items (sink.written c.put_value.new.out) c.put_value.new.page.items c.put_value.result)
    (text-at c.args.lead.now c.args.bytes.now c.args.member c.in-Row.row c.args.at text c.in-Row.is same)
    (pends-after c.put_value.result _ _ _ _ _ _ c.args.lead.now text c.in_ok-put-in-Row.ensures.bytes c.put_value.ensures.bytes)
