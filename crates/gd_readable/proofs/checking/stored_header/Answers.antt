use Rattle.std.proofs.Common.{take, sym, ap, ◌∙◌, arith}
use Rattle.std.proofs.lemmas.List.{length-take-le}
use Rattle.gd_format.specs.HeaderFault.{header_fault_of}
use Rattle.gd_readable.proofs.Headers.{header_in}
use Rattle.gd_readable.proofs.Fronts.{front_read}
use Rattle.gd_readable.proofs.checking.stored_header.Goals as goal

pub read_header-requires : goal.read_header-requires
read_header-requires g c =
    let h = header_in (take c.in_ok-n.n c.read_some.new.buf) c.args.len (sym c.header_fault.ensures ∙ c.in-None.is) in
    let least = h.least in
    let fits = h.fits in
    let size = c.read_some.auto.buf in
    let count = length-take-le c.in_ok-n.n c.read_some.new.buf (omega (arith, size, c.in_ok-n.ensures.count)) in
    omega (arith, size, count, least, fits, c.min.ensures, c.if-n-min.false)

pub returns-in-Some-clause-refused : goal.returns-in-Some-clause-refused
returns-in-Some-clause-refused g c =
    λ file told len.
    let read = c.in_ok-n.ensures.read file told in
    let front = front_read file _ c.in_ok-n.n read.0 read.1 in
    ap (λ bytes. header_fault_of bytes c.args.len) (sym front) ∙ (sym c.header_fault.ensures ∙ c.in-Some.is)
