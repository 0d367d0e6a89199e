use Rattle.std.proofs.Common.{refl, sym, ◌∙◌, arith}
use Rattle.gd_format.specs.HeaderFault.{natural}
use Rattle.gd_format.specs.File.{key_of}
use Rattle.gd_readable.specs.Asks.{IsIn}
use Rattle.gd_readable.proofs.Places.{has_key}
use Rattle.gd_readable.proofs.stored.has_right_record.Goals as goal

pub returns-clause-key : goal.returns-clause-key
returns-clause-key g c =
    λ file told len right.
    let inside : IsIn file (natural c.args.raw.now.at) (natural c.args.raw.now.key_size) = λ some. let h = c.has_record_in.ensures.key c.if-not-has_record_in.false some in omega (arith, len, h) in
    has_key file (key_of file c.args.raw.now) c.args.raw.now c.args.bits c.args.top refl (sym (c.in_ok-right.ensures.answer file told inside) ∙ right) inside
