use Rattle.std.proofs.Common.{◌≡◌, ◌≤◌, ◌<◌, ◌∙◌, ap, sym, subst, refl, arith, rules, drop, take, length, ◌+◌, ◌-◌, Option, Some, Result, List, ℕ}
use Rattle.std.proofs.lemmas.List.{length-drop, take_rest}
use Rattle.gd_dump_reading.specs.ParamReads.{ReadsParam}
use Rattle.gd_dump_reading.specs.Params.{Named, Param, params_in, some_params, unless_refused, with_param}
use Rattle.gd_dump_reading.specs.Said.{named_in, standing}
use Rattle.gd_dump_reading.specs.declared.items.DumpKind.{DumpKind}
use Rattle.gd_dump_reading.proofs.ParamCuts.{at-first, params-last, params-next, params-stop, rest_of}
use Rattle.gd_dump_reading.proofs.names.Names.say_params.Goals as goal

-- what was read at the place of the loop
here : (text value : List ℕ) (at k taken : ℕ) (read : Option (ℕ × ℕ)) → read ≡ Some (k, taken) → ReadsParam (take (length text - at) (drop at text)) value read → ReadsParam (drop at text) value (Some (k, taken))
here text value at k taken read is reads =
    subst (λ (t : List ℕ). ReadsParam t value (Some (k, taken))) (take_rest text at) (subst (λ (o : Option (ℕ × ℕ)). ReadsParam (take (length text - at) (drop at text)) value o) is reads)

-- what the next parameter says, by the bytes of its name
name-cut : (read : Result Named DumpKind) (text value : List ℕ) (at k : ℕ)
    → unless_refused read (λ n. with_param n (record { name = take ((at + k) - at) (drop at text); value = value })) ≡ unless_refused read (λ n. with_param n (record { name = take k (drop at text); value = value }))
name-cut read text value at k = ap (λ m. unless_refused read (λ n. with_param n (record { name = take m (drop at text); value = value }))) (omega arith)

pub loop-name-init : goal.loop-name-init
loop-name-init c = record {
  within = omega arith;
  said = (length c.args.text.now, omega arith, at-first (named_in c.args.self.now) (params_in c.args.text.now));
  room = λ n room. room;
  size = search rules;
}

pub returns-then-at-text-clause-said : goal.returns-then-at-text-clause-said
returns-then-at-text-clause-said c =
    let text = c.args.text.now in
    let at = c.loop-name.at in
    let k = c.in-Some.name in
    let taken = c.in-Some.taken in
    let value = c.param_at.new.value.items in
    let so_far = standing (named_in c.loop-name.self) c.loop-name.refused in
    let p : Param = record { name = take k (drop at text); value = value } in
    let reads = here text value at k taken c.param_at.result c.in-Some.is c.param_at.ensures.reads in
    let size = length-drop at text in
    let inv = c.loop-name.invariant.said in
    c.say_next-refused.ensures.said
    ∙ name-cut so_far text value at k
    ∙ sym (inv.2 ∙ params-last text at taken inv.0 p so_far (omega (arith, inv.1, reads.1, reads.2, size)) reads.3 c.if-at-text.true)

pub returns-then-text-at-ne44-clause-said : goal.returns-then-text-at-ne44-clause-said
returns-then-text-at-ne44-clause-said c =
    let text = c.args.text.now in
    let at = c.loop-name.at in
    let k = c.in-Some.name in
    let taken = c.in-Some.taken in
    let value = c.param_at.new.value.items in
    let so_far = standing (named_in c.loop-name.self) c.loop-name.refused in
    let p : Param = record { name = take k (drop at text); value = value } in
    let reads = here text value at k taken c.param_at.result c.in-Some.is c.param_at.ensures.reads in
    let size = length-drop at text in
    let inv = c.loop-name.invariant.said in
    sym (inv.2 ∙ params-stop text at taken inv.0 p so_far (omega (arith, inv.1, reads.1, reads.2, size)) reads.3 (omega (arith, reads.2, size, c.if-at-text.false)) c.if-text-at-ne44.true)

pub loop-name-preserved : goal.loop-name-preserved
loop-name-preserved c =
    let text = c.args.text.now in
    let at = c.loop-name.at in
    let k = c.in-Some.name in
    let taken = c.in-Some.taken in
    let value = c.param_at.new.value.items in
    let so_far = standing (named_in c.loop-name.self) c.loop-name.refused in
    let p : Param = record { name = take k (drop at text); value = value } in
    let reads = here text value at k taken c.param_at.result c.in-Some.is c.param_at.ensures.reads in
    let size = length-drop at text in
    let inv = c.loop-name.invariant.said in
    let next = standing (named_in c.say_next-refused.new.self) c.say_next-refused.result in
    let rest = some_params (inv.0 - 1) (drop (at + taken + 1) text) in
    record {
      within = omega (arith, reads.2, size, c.if-at-text.false);
      said = (
        inv.0 - 1,
        omega (arith, inv.1, reads.1),
        inv.2
            ∙ params-next text at taken inv.0 p so_far (omega (arith, inv.1, reads.1, reads.2, size)) reads.3 (omega (arith, reads.2, size, c.if-at-text.false)) c.if-text-at-ne44.false
            ∙ ap (λ r. rest_of r rest) (sym (c.say_next-refused.ensures.said ∙ name-cut so_far text value at k)),
      );
      room = λ n room.
          let here = c.loop-name.invariant.room n room in
          c.say_next-refused.ensures.room n (omega (arith, here.0), omega (arith, here.1, c.param_at.ensures.room));
      size = omega (arith, c.say_next-refused.ensures.size, c.loop-name.invariant.size, c.in-Some.ensures.size, size);
    }
