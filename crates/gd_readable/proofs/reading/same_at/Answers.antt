use Rattle.std.proofs.Common.{◌≡◌, ◌+◌, ◌≤◌, Bool, true, false, Option, Some, length, take, ap, sym, ◌∙◌, rules, arith}
use Rattle.std.specs.Str.{bytes_eq}
use Rattle.std.proofs.lemmas.List.{length-take-le}
use Rattle.gd_format.specs.Field.{bytes_at}
use Rattle.gd_format.proofs.Firsts.{both_true}
use Rattle.gd_readable.specs.Asks.{Kept, kept_of, bytes_in}
use Rattle.gd_format.proofs.Pieces.{bytes_eq_more, bytes_eq_fails}
use Rattle.gd_readable.proofs.reading.same_at.Goals as goal

abbrev some_bool : Bool → Option Bool
some_bool b = Some b

pub returns-then-not-are_equal-clause-answer : goal.returns-then-not-are_equal-clause-answer
returns-then-not-are_equal-clause-answer g c =
    let old = c.pieces.invariant in
    λ file told a b.
    let told_one : bytes_in (kept_of (g.V.Vault.view_of c.pieces.vault)) c.args.f.0 ≡ Some file = ap (λ (k : Kept). bytes_in k c.args.f.0) old.same ∙ told in
    let told_two : bytes_in (kept_of (g.V.Vault.view_of c.fill.new.vault)) c.args.f.0 ≡ Some file = ap (λ (k : Kept). bytes_in k c.args.f.0) c.in_ok-fill.ensures.same ∙ told_one in
    let in_a : c.args.a + c.args.size ≤ length file = a (omega arith) in
    let in_b : c.args.b + c.args.size ≤ length file = b (omega arith) in
    let len_one : length (take c.min-n.result c.pieces.one) ≡ c.min-n.result = length-take-le c.min-n.result c.pieces.one (omega arith) in
    let len_two : length (take c.min-n.result c.pieces.two) ≡ c.min-n.result = length-take-le c.min-n.result c.pieces.two (omega arith) in
    let one = c.in_ok-fill.ensures.read file told_one (omega (arith, len_one, in_a)) ∙ ap (bytes_at file (c.args.a + c.pieces.done)) len_one in
    let two = c.in_ok-fill-2.ensures.read file told_two (omega (arith, len_two, in_b)) ∙ ap (bytes_at file (c.args.b + c.pieces.done)) len_two in
    let answer : bytes_eq (bytes_at file (c.args.a + c.pieces.done) c.min-n.result) (bytes_at file (c.args.b + c.pieces.done) c.min-n.result) ≡ false = rw (← one, ← two) (sym c.are_equal.ensures ∙ c.if-not-are_equal.true) in
    ap (λ (x : Bool). some_bool x) (sym (bytes_eq_fails file c.args.a c.args.b c.pieces.done c.min-n.result c.args.size (omega arith) in_a in_b answer))

pub pieces-preserved : goal.pieces-preserved
pieces-preserved g c =
    let old = c.pieces.invariant in
    record {
      far = omega arith;
      same = search rules;
      later = omega (arith, old.later, c.in_ok-fill.ensures.answered, c.in_ok-fill-2.ensures.answered);
      equal =
          λ file told a b.
          let told_one : bytes_in (kept_of (g.V.Vault.view_of c.pieces.vault)) c.args.f.0 ≡ Some file = ap (λ (k : Kept). bytes_in k c.args.f.0) old.same ∙ told in
          let told_two : bytes_in (kept_of (g.V.Vault.view_of c.fill.new.vault)) c.args.f.0 ≡ Some file = ap (λ (k : Kept). bytes_in k c.args.f.0) c.in_ok-fill.ensures.same ∙ told_one in
          let in_a : c.args.a + c.args.size ≤ length file = a (omega arith) in
          let in_b : c.args.b + c.args.size ≤ length file = b (omega arith) in
          let len_one : length (take c.min-n.result c.pieces.one) ≡ c.min-n.result = length-take-le c.min-n.result c.pieces.one (omega arith) in
          let len_two : length (take c.min-n.result c.pieces.two) ≡ c.min-n.result = length-take-le c.min-n.result c.pieces.two (omega arith) in
          let one = c.in_ok-fill.ensures.read file told_one (omega (arith, len_one, in_a)) ∙ ap (bytes_at file (c.args.a + c.pieces.done)) len_one in
          let two = c.in_ok-fill-2.ensures.read file told_two (omega (arith, len_two, in_b)) ∙ ap (bytes_at file (c.args.b + c.pieces.done)) len_two in
          let answer : bytes_eq (bytes_at file (c.args.a + c.pieces.done) c.min-n.result) (bytes_at file (c.args.b + c.pieces.done) c.min-n.result) ≡ true = rw (← one, ← two) (sym c.are_equal.ensures ∙ c.if-not-are_equal.false) in
          bytes_eq_more file c.args.a c.args.b c.pieces.done c.min-n.result (omega (arith, in_a)) (omega (arith, in_b)) ∙ both_true _ _ (old.equal file told a b) answer;
    }
