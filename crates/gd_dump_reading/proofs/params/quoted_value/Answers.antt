use Rattle.std.proofs.Common.{◌≡◌, ◌<◌, ◌∙◌, ap, sym, arith, rules, drop, get_or, length, ◌+◌, ◌++◌, ◌∷◌, [], Some, List, ℕ}
use Rattle.gd_dump_reading.specs.Params.{quoted}
use Rattle.gd_dump_reading.proofs.Quoted.{next-inside, onto_all, quoted_ends, quoted-next, quoted-cut_off, quoted_is_out}
use Rattle.gd_dump_reading.proofs.params.quoted_value.Goals as goal

pub returns-then-text-at-eq34-clause-reads : goal.returns-then-text-at-eq34-clause-reads
returns-then-text-at-eq34-clause-reads c =
    let text = c.args.text.now in
    let at = c.loop-at.at in
    (omega arith, c.loop-at.invariant.read ∙ quoted_ends text c.loop-at.value.items at c.loop-at-test.true (search rules))

pub returns-then-next-text-clause-reads : goal.returns-then-next-text-clause-reads
returns-then-next-text-clause-reads c =
    c.loop-at.invariant.read ∙ quoted-cut_off c.args.text.now c.loop-at.value.items c.loop-at.at c.behind_slash-next.result (search rules) c.loop-at-test.true (search rules)

pub loop-at-preserved : goal.loop-at-preserved
loop-at-preserved c =
    let text = c.args.text.now in
    let at = c.loop-at.at in
    let next = c.behind_slash-next.result in
    let inside : next < length text = next-inside _ at next (length text) c.behind_slash-next.ensures c.loop-at-test.true (search rules) in
    let pushed : c.append.new.list.items ≡ c.loop-at.value.items ++ get_or text next 0 ∷ [] = search rules in
    record {
      within = omega (arith, inside);
      read = c.loop-at.invariant.read ∙ quoted-next text c.loop-at.value.items at next c.behind_slash-next.ensures inside (search rules)
          ∙ ap (λ bytes. onto_all bytes (quoted (drop (next + 1) text))) (sym pushed);
      len = search rules;
      room = search rules;
      kept = search rules;
    }

pub returns-clause-reads : goal.returns-clause-reads
returns-clause-reads c = c.loop-at.invariant.read ∙ quoted_is_out c.args.text.now c.loop-at.value.items c.loop-at.at (search rules)
