use Rattle.std.proofs.Common.{◌∙◌, ap, sym, subst, arith, drop, take, ◌++◌, ◌∷◌, [], ◌-◌, ◌≡◌}
use Rattle.std.proofs.lemmas.List.{append-nil, append_assoc}
use Rattle.gd_dump.specs.Ascii.{base64_text, lines_of}
use Rattle.gd_dump.proofs.Lines.{line-next, lines-done}
use Rattle.gd_base.proofs.Waits.{Waits, pends-front, pends-after, waits-more}
use Rattle.gd_dump.proofs.ascii_data.put_lines.Goals as goal

pub returns-in_err-put_line-clause-bytes : goal.returns-in_err-put_line-clause-bytes
returns-in_err-put_line-clause-bytes g c =
    let done = c.loop-at.invariant.put in
    let line = base64_text (take (c.min-end.result - c.loop-at.at) (drop c.loop-at.at c.args.bytes.now)) ++ 10 ∷ [] in
    let rest = lines_of (base64_text (drop c.min-end.result c.args.bytes.now)) in
    rw (done.2, line-next c.args.bytes.now c.loop-at.at c.min-end.result c.loop-at-test.true c.min-end.ensures)
    (pends-after c.from_residual.result _ _ _ _ _ _ done.0 (line ++ rest) done.1
    (pends-front _ c.from_residual.result _ _ _ _ line rest c.from_residual.ensures.1 c.in_err-put_line.ensures.bytes))

pub loop-at-preserved : goal.loop-at-preserved
loop-at-preserved g c =
    let done = c.loop-at.invariant.put in
    let line = base64_text (take (c.min-end.result - c.loop-at.at) (drop c.loop-at.at c.args.bytes.now)) ++ 10 ∷ [] in
    let rest = lines_of (base64_text (drop c.min-end.result c.args.bytes.now)) in
    record {
      at = omega (arith, c.min-end.ensures);
      put = (
        done.0 ++ line,
        waits-more _ _ _ _ _ _ done.0 line done.1 c.in_ok-put_line.ensures.bytes,
        done.2 ∙ ap (λ t. done.0 ++ t) (line-next c.args.bytes.now c.loop-at.at c.min-end.result c.loop-at-test.true c.min-end.ensures)
            ∙ sym (append_assoc done.0 line rest),
      );
      faults = c.in_ok-put_line.ensures.cause.answered ∙ c.loop-at.invariant.faults;
      kept = g.met.O.Sink.kept_on c.args.out.now c.loop-at.out c.put_line.new.out c.loop-at.invariant.kept c.put_line.ensures.kept;
    }

pub returns-clause-bytes : goal.returns-clause-bytes
returns-clause-bytes g c =
    let done = c.loop-at.invariant.put in
    let sink = g.O.Sink in
    let all : done.0 ≡ lines_of (base64_text c.args.bytes.now) =
    sym (done.2 ∙ ap (λ t. done.0 ++ t) (lines-done c.args.bytes.now c.loop-at.at c.loop-at-test.false) ∙ append-nil done.0) in
    subst (Waits (sink.written c.args.out.now) c.args.page.now.items (sink.written c.loop-at.out) c.loop-at.page.items) all done.1
