use Rattle.std.proofs.Common.{ℕ, List, ap, ◌∙◌, arith}
use Rattle.gd_format.specs.declared.Header.{Header}
use Rattle.gd_format.specs.File.{key_of}
use Rattle.gd_format.specs.Bucket.{raw_slot_at}
use Rattle.gd_readable.proofs.Headers.{header_room}
use Rattle.gd_lookup.proofs.Orders.{first_slot, slot_fields}
use Rattle.gd_lookup.proofs.following.first_in_block.Goals as goal

pub next_full-requires-clause-size : goal.next_full-requires-clause-size
next_full-requires-clause-size g c =
    let room = header_room c.args.file.now.header c.header.ensures.fit.header in
    let elems = ap (λ (h : Header). h.elems) c.header.ensures.is in
    let size = c.block.ensures.size in
    omega (arith, room, elems, size)

pub raw_key-requires-clause-right : goal.raw_key-requires-clause-right
raw_key-requires-clause-right g c =
    λ d x told there.
    let found = rw (c.block.ensures.is, c.header.ensures.is) at c.in-Some.ensures.some in
    let raw = c.raw_slot-raw.ensures ∙ ap (λ (b : List ℕ). raw_slot_at b c.in-Some.s) c.block-2.ensures.is in
    rw raw (slot_fields x.bytes c.args.file.now.header (c.requires.readable.is_open d x told there) c.args.file.now.block (c.requires.block d x told there) c.in-Some.s found.1 found.2)

pub returns-clause-some : goal.returns-clause-some
returns-clause-some g c =
    λ d x told there.
    let found = rw (c.block.ensures.is, c.header.ensures.is) at c.in-Some.ensures.some in
    let raw = c.raw_slot-raw.ensures ∙ ap (λ (b : List ℕ). raw_slot_at b c.in-Some.s) c.block-2.ensures.is in
    let key = c.in_ok-key.ensures.key d x told there in
    first_slot x.bytes c.args.file.now.header (c.requires.readable.is_open d x told there) c.args.file.now.block c.args.from c.in-Some.s c.in_ok-key.key found.3 (key ∙ ap (key_of x.bytes) raw)
