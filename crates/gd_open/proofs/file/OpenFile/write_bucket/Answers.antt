use Rattle.std.proofs.Common.{ap, arith}
use Rattle.gd_readable.proofs.Headers.{header_room}
use Rattle.gd_open.specs.Open.{OpenParts}
use Rattle.gd_open.proofs.file.OpenFile.write_bucket.Goals as goal

pub write_bucket-requires-clause-room : goal.write_bucket-requires-clause-room
write_bucket-requires-clause-room g c =
    let room = header_room c.self.inside.header c.self.invariant.parts.header in
    let elems = ap (λ (p : OpenParts). p.header.elems) c.self.view_is in
    let slots = c.requires.elems in
    let size = c.self.invariant.parts.block_size in
    let len = c.deref_mut.ensures.len in
    omega (arith, room, elems, slots, size, len)
