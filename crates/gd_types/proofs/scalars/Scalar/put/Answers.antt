use Rattle.std.proofs.Common.{◌∙◌, ◌++◌, ap, arith, ℤ, to_z, of_z}
use Rattle.std.specs.Int.{w128}
use Rattle.std.proofs.lemmas.Int.{to_z-of_z}
use Rattle.std.proofs.lemmas.List.{append-nil, drop_all}
use Rattle.byteorder.specs.Endian.{little_bytes, low_bytes}
use Rattle.gd_types.proofs.Widths.{complements}
use Rattle.gd_types.proofs.scalars.Scalar.put.Goals as goal

pub returns : goal.returns
returns g c =
    let w = g.row.W in
    let front = ap (λ (z : ℤ). little_bytes w (low_bytes w128 w z)) (to_z-of_z w128 c.args.number c.ranges.number)
    ∙ complements w c.requires.width _ c.args.number c.requires.held in
    let none = drop_all w c.args.into.now (omega (arith, c.requires.room)) in
    c.write_int128.ensures ∙ ap (λ t. little_bytes w (low_bytes w128 w (to_z w128 (of_z w128 c.args.number))) ++ t) none ∙ append-nil _ ∙ front
