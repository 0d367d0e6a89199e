use Rattle.std.proofs.Common.{length, sym, arith}
use Rattle.gd_format.specs.File.{front_of}
use Rattle.gd_readable.proofs.Headers.{header_in}
use Rattle.gd_readable.proofs.Fronts.{front_size}
use Rattle.gd_readable.proofs.whole.header_from.Goals as goal

pub slice_bounds-read_header-end : goal.slice_bounds-read_header-end
slice_bounds-read_header-end c = sym (front_size c.args.file.now c.requires)

pub read_header-requires : goal.read_header-requires
read_header-requires c = let e = front_size c.args.file.now c.requires in omega (arith, e)

pub returns-clause-inside : goal.returns-clause-inside
returns-clause-inside c = rw c.read_header.ensures (header_in (front_of c.args.file.now) (length c.args.file.now) c.requires)
