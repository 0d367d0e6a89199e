use Rattle.std.proofs.Common.{◌≡◌, ◌+◌, ◌*◌, ◌%◌, ◌^◌, ◌<◌, ◌≤◌, Some, length, take, ap, ◌∙◌, rules, arith}
use Rattle.std.proofs.lemmas.List.{length-take-le}
use Rattle.gd_format.specs.Hash.{mixed_all}
use Rattle.gd_format.specs.Field.{bytes_at}
use Rattle.gd_format.proofs.Pieces.{mixed_all_more}
use Rattle.gd_readable.specs.Asks.{Kept, kept_of, bytes_in}
use Rattle.gd_readable.proofs.reading.hash_at.Goals as goal

pub pieces-preserved : goal.pieces-preserved
pieces-preserved g c =
    let old = c.pieces.invariant in
    record {
      far = omega arith;
      fits = search rules;
      same = search rules;
      later = omega (arith, old.later, c.in_ok-fill.ensures.answered);
      hash =
          λ file told inside.
          let some : 0 < c.args.size = omega arith in
          let whole : c.args.at + c.args.size ≤ length file = inside some in
          let told_here : bytes_in (kept_of (g.V.Vault.view_of c.pieces.vault)) c.args.f.0 ≡ Some file = ap (λ (k : Kept). bytes_in k c.args.f.0) old.same ∙ told in
          let len : length (take c.min-n.result c.pieces.scratch) ≡ c.min-n.result = length-take-le c.min-n.result c.pieces.scratch (omega arith) in
          let read = c.in_ok-fill.ensures.read file told_here (omega (arith, len)) in
          c.hash_more-v.ensures.value
          ∙ ap (mixed_all c.pieces.done c.pieces.v) (read ∙ ap (bytes_at file (c.args.at + c.pieces.done)) len)
          ∙ mixed_all_more file c.args.at c.pieces.done c.min-n.result (0x238F13AF * c.args.size % 2 ^ 32) c.pieces.v (omega arith) (old.hash file told inside);
    }
