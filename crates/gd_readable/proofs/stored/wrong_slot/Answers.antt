use Rattle.std.proofs.Common.{◌≡◌, Some, ap, sym, ◌∙◌, rules, arith}
use Rattle.gd_format.specs.File.{slot_fault}
use Rattle.gd_format.proofs.Firsts.{first_below_found, first_below_more}
use Rattle.gd_readable.specs.Asks.{Kept, kept_of, bytes_in}
use Rattle.gd_readable.proofs.stored.wrong_slot.Goals as goal

pub returns-in-Some-clause-refusal : goal.returns-in-Some-clause-refusal
returns-in-Some-clause-refusal g c =
    λ file told len.
    let old = c.loop-s.invariant in
    let told_here : bytes_in (kept_of (g.V.Vault.view_of c.loop-s.vault)) c.args.f.0 ≡ Some file = ap (λ (k : Kept). bytes_in k c.args.f.0) old.same ∙ told in
    sym (first_below_found (slot_fault file c.args.block.now c.args.at c.args.top) c.args.elems c.loop-s.s c.in-Some.e c.loop-s-test.true (old.none file told len)
    (sym (c.in_ok-refusal.ensures.refusal file told_here len (old.keys file told len)) ∙ c.in-Some.is))

pub loop-s-preserved : goal.loop-s-preserved
loop-s-preserved g c =
    let old = c.loop-s.invariant in
    record {
      same = search rules;
      later = omega (arith, old.later, c.in_ok-refusal.ensures.answered);
      none =
          λ file told len.
          let told_here : bytes_in (kept_of (g.V.Vault.view_of c.loop-s.vault)) c.args.f.0 ≡ Some file = ap (λ (k : Kept). bytes_in k c.args.f.0) old.same ∙ told in
          first_below_more (slot_fault file c.args.block.now c.args.at c.args.top) c.loop-s.s (old.none file told len)
          (sym (c.in_ok-refusal.ensures.refusal file told_here len (old.keys file told len)) ∙ c.in_default.is);
      keys =
          λ file told len.
          let told_here : bytes_in (kept_of (g.V.Vault.view_of c.loop-s.vault)) c.args.f.0 ≡ Some file = ap (λ (k : Kept). bytes_in k c.args.f.0) old.same ∙ told in
          c.in_ok-refusal.ensures.keys file told_here len (old.keys file told len) c.in_default.is;
      seen = c.in_ok-refusal.ensures.seen c.in_default.is;
    }
