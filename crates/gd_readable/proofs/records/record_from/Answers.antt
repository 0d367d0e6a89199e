use Rattle.std.proofs.Common.{length, arith}
use Rattle.gd_readable.proofs.Places.{record_parts}
use Rattle.gd_readable.proofs.records.record_from.Goals as goal

pub bytes_from-key-requires : goal.bytes_from-key-requires
bytes_from-key-requires c =
    let parts = record_parts (length c.args.file.now) c.args.raw.now c.requires in
    record { inside = λ some. omega (arith, parts.0) }

pub bytes_from-value-requires : goal.bytes_from-value-requires
bytes_from-value-requires c =
    let parts = record_parts (length c.args.file.now) c.args.raw.now c.requires in
    record { inside = λ some. omega (arith, parts.1) }
