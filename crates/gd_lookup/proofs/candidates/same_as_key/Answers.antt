use Rattle.std.proofs.Common.{◌≡◌, ◌+◌, ◌-◌, ◌≤◌, Bool, true, false, Option, Some, length, take, drop, ap, sym, ◌∙◌, rules, arith}
use Rattle.std.specs.Str.{bytes_eq}
use Rattle.std.proofs.lemmas.List.{length-take-le, take_all}
use Rattle.std.proofs.lemmas.Slice.Eq.{bytes_eq-Decides}
use Rattle.gd_format.specs.Field.{bytes_at}
use Rattle.gd_lookup.proofs.Opens.{is_told}
use Rattle.gd_lookup.proofs.Owns.{piece_more, whole_differs}
use Rattle.gd_lookup.proofs.candidates.same_as_key.Goals as goal

abbrev some_bool : Bool → Option Bool
some_bool b = Some b

pub returns-then-not-are_equal-clause-answer : goal.returns-then-not-are_equal-clause-answer
returns-then-not-are_equal-clause-answer g c =
    let old = c.pieces.invariant in
    λ d x told there inside.
    let test = c.pieces-test.true in
    let all : c.args.at + length c.args.key.now ≤ length x.bytes = inside (omega arith) in
    let len : length (take c.min-n.result c.pieces.scratch) ≡ c.min-n.result = length-take-le c.min-n.result c.pieces.scratch (omega arith) in
    let read = c.in_ok-read_bytes.ensures.read d x (is_told old.asks d told) there (λ some. omega (arith, len, all)) ∙ ap (bytes_at x.bytes (c.args.at + c.pieces.done)) len in
    let cut : c.pieces.done + c.min-n.result - c.pieces.done ≡ c.min-n.result = omega arith in
    let answer : bytes_eq c.read_bytes.new.into (take c.min-n.result (drop c.pieces.done c.args.key.now)) ≡ false = rw cut at (sym c.are_equal.ensures ∙ c.if-not-are_equal.true) in
    let here : bytes_eq (bytes_at x.bytes (c.args.at + c.pieces.done) c.min-n.result) (take c.min-n.result (drop c.pieces.done c.args.key.now)) ≡ false = rw (← read) answer in
    ap (λ (b : Bool). some_bool b) (sym (whole_differs x.bytes c.args.key.now c.args.at c.pieces.done c.min-n.result (omega arith) here))

pub pieces-preserved : goal.pieces-preserved
pieces-preserved g c =
    let old = c.pieces.invariant in
    record {
      far = omega arith;
      asks = search rules;
      answered = omega (arith, old.answered, c.in_ok-read_bytes.ensures.cause.answered);
      equal =
          λ d x told there inside.
          let all : c.args.at + length c.args.key.now ≤ length x.bytes = inside (omega arith) in
          let len : length (take c.min-n.result c.pieces.scratch) ≡ c.min-n.result = length-take-le c.min-n.result c.pieces.scratch (omega arith) in
          let read = c.in_ok-read_bytes.ensures.read d x (is_told old.asks d told) there (λ some. omega (arith, len, all)) ∙ ap (bytes_at x.bytes (c.args.at + c.pieces.done)) len in
          let cut : c.pieces.done + c.min-n.result - c.pieces.done ≡ c.min-n.result = omega arith in
          let answer : bytes_eq c.read_bytes.new.into (take c.min-n.result (drop c.pieces.done c.args.key.now)) ≡ true = rw cut at (sym c.are_equal.ensures ∙ c.if-not-are_equal.false) in
          let same = (bytes_eq-Decides _ _).0 answer in
          piece_more x.bytes c.args.key.now c.args.at c.pieces.done c.min-n.result (old.equal d x told there inside) (sym read ∙ same);
    }

pub returns-clause-answer : goal.returns-clause-answer
returns-clause-answer g c =
    let old = c.pieces.invariant in
    λ d x told there inside.
    let whole : c.pieces.done ≡ length c.args.key.now = omega arith in
    let same : bytes_at x.bytes c.args.at (length c.args.key.now) ≡ c.args.key.now =
    ap (bytes_at x.bytes c.args.at) (sym whole) ∙ old.equal d x told there inside ∙ take_all c.pieces.done c.args.key.now (omega (arith, whole)) in
    ap (λ (b : Bool). some_bool b) (sym ((bytes_eq-Decides _ _).1 same))
