use Rattle.std.proofs.Common.{◌<◌, ◌∙◌, ap, sym, subst, arith, rules, drop, take, length, ◌+◌, ◌-◌, Option, Some, List, ℕ}
use Rattle.std.proofs.lemmas.List.{length-drop, length-take, take_rest}
use Rattle.gd_dump_reading.specs.ParamReads.{ReadsValue}
use Rattle.gd_dump_reading.specs.Params.{value_in, with_value, some_params}
use Rattle.gd_dump_reading.proofs.ParamCuts.{params-unnamed, params-valued, params-valueless, value-rest}
use Rattle.gd_dump_reading.proofs.params.param_at.Goals as goal

pub returns-then-unnamed-clause-reads : goal.returns-then-unnamed-clause-reads
returns-then-unnamed-clause-reads c = λ n. params-unnamed n c.args.text.now (search rules)

pub returns-in_default-clause-reads : goal.returns-in_default-clause-reads
returns-in_default-clause-reads c = λ n.
    let text = c.args.text.now in
    let at = c.letters-count.result + 1 in
    let part = take (length text - at) (drop at text) in
    let read = subst (λ (o : Option ℕ). ReadsValue part (value_in part) c.value_at.new.value.items o) c.in_default.is c.value_at.ensures.reads in
    params-valueless n c.letters-count.result text (search rules) (search rules) (sym (ap value_in (take_rest text at)) ∙ read)

pub returns-clause-reads : goal.returns-clause-reads
returns-clause-reads c =
    let text = c.args.text.now in
    let count = c.letters-count.result in
    let at = count + 1 in
    let value = c.value_at.new.value.items in
    let part = take (length text - at) (drop at text) in
    let taken = c.in-Some.taken in
    let read = subst (λ (o : Option ℕ). ReadsValue part (value_in part) value o) c.in-Some.is c.value_at.ensures.reads in
    let fits : count < length text = subst (λ n. n < length text) (sym c.letters-count.ensures.value) (c.unnamed.ensures.room c.if-unnamed.false) in (
      omega (arith, fits),
      omega arith,
      omega (arith, fits, read.0, length-take (length text - at) (drop at text), length-drop at text),
      λ n.
          params-valued n count text (Some (value, drop (at + taken) text)) (search rules) (search rules) (value-rest text part at taken value (take_rest text at) read.1),
    )
