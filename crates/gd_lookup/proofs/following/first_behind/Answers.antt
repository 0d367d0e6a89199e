use Rattle.std.proofs.Common.{◌≡◌, ◌+◌, ◌*◌, ◌/◌, ℕ, [], Some, false, ap, arith}
use Rattle.gd_format.specs.Bucket.{counts_at}
use Rattle.gd_format.specs.File.{is_full_at}
use Rattle.gd_readable.specs.Left.{passing_from, slots_left}
use Rattle.gd_readable.proofs.Headers.{header_block, header_room}
use Rattle.gd_open.specs.Files.{AtFile}
use Rattle.gd_open.proofs.Opens.{bad_bucket, of_file_stays}
use Rattle.gd_lookup.specs.Counting.{have_share, run_of}
use Rattle.gd_lookup.specs.Order.{first_of}
use Rattle.gd_lookup.proofs.Blocks.{is_block}
use Rattle.gd_lookup.proofs.Opens.{is_told, was_told}
use Rattle.gd_lookup.proofs.Orders.{begins_behind, counted_run, first_past, first_same, no_share}
use Rattle.gd_lookup.proofs.following.first_behind.Goals as goal

pub overflow_add-place : goal.overflow_add-place
overflow_add-place g c =
    let room = header_room c.args.file.now.header c.dir_bits-bits.ensures.fit.header in
    let size = header_block c.args.file.now.header c.dir_bits-bits.ensures.fit.header in
    let place = c.requires.place in
    omega (arith, room, size, place)

pub counts-requires : goal.counts-requires
counts-requires g c =
    let room = header_room c.args.file.now.header c.dir_bits-bits.ensures.fit.header in
    let size = c.block.ensures.size in
    omega (arith, room, size)

pub first_in_block-requires-clause-block : goal.first_in_block-requires-clause-block
first_in_block-requires-clause-block g c = λ d x told there. is_block x.bytes c.args.file.now.header c.args.i c.args.file.now.block c.requires.within (c.requires.block d x told there)

pub returns-in-Some-clause-first : goal.returns-in-Some-clause-first
returns-in-Some-clause-first g c =
    λ d x told there.
    let h = c.args.file.now.header in
    let some : AtFile (g.V.Vault.view_of c.args.vault.now) c.args.file.now.id (λ file. first_of (slots_left file h.elems c.args.file.now.block (c.args.place + 1)) ≡ Some c.in-Some.key) = rw c.in-Some.is at c.in_ok-first.ensures.some in
    first_same x.bytes h (c.requires.readable.is_open d x told there) c.args.i (c.args.place + 1) c.args.file.now.block c.in-Some.key (c.requires.block d x told there) (some d x told there)

pub returns-in_default-share_of-clause-refused : goal.returns-in_default-share_of-clause-refused
returns-in_default-share_of-clause-refused g c =
    let none : have_share c.dir_bits-bits.result c.counts.result ≡ false = rw c.in_default-share_of.is at c.share_of.ensures.none in
    let bad : have_share c.args.file.now.header.dir_bits (counts_at c.args.file.now.block) ≡ false = rw (c.dir_bits-bits.ensures.is, c.counts.ensures, c.block.ensures.is) at none in
    bad_bucket c.args.at _ _ c.args.file.now.id c.requires.file
    (λ d x told there. no_share x.bytes c.args.file.now.header (c.requires.readable.is_open d x told there) c.args.i c.args.file.now.block c.requires.within (c.requires.block d x told there) bad)

pub first_from-requires-clause-readable : goal.first_from-requires-clause-readable
first_from-requires-clause-readable g c = of_file_stays _ _ c.args.file.now.id c.args.file.now.header c.in_ok-first.ensures.asks c.requires.readable

pub first_from-requires-clause-begins : goal.first_from-requires-clause-begins
first_from-requires-clause-begins g c =
    let h = c.args.file.now.header in
    let share : c.in-Some-share_of.share.run ≡ run_of h.dir_bits (counts_at c.args.file.now.block) = rw (c.dir_bits-bits.ensures.is, c.counts.ensures, c.block.ensures.is) at c.in-Some-share_of.ensures.run in
    λ d x told there.
    let told_one = was_told c.in_ok-first.ensures.asks d told in
    let o = c.requires.readable.is_open d x told_one there in
    let run = counted_run x.bytes h o c.args.i c.in-Some-share_of.share.run c.args.file.now.block c.requires.within (c.requires.block d x told_one there) share in
    rw run (begins_behind x.bytes h o c.args.i c.requires.within)

pub returns-clause-first : goal.returns-clause-first
returns-clause-first g c =
    let h = c.args.file.now.header in
    let share : c.in-Some-share_of.share.run ≡ run_of h.dir_bits (counts_at c.args.file.now.block) = rw (c.dir_bits-bits.ensures.is, c.counts.ensures, c.block.ensures.is) at c.in-Some-share_of.ensures.run in
    let none : passing_from (is_full_at c.args.file.now.block) h.elems (c.args.place + 1) ≡ [] = rw c.in_default.is at c.in_ok-first.ensures.none in
    λ d x told there.
    let o = c.requires.readable.is_open d x told there in
    let told_one = is_told c.in_ok-first.ensures.asks d told in
    let run = counted_run x.bytes h o c.args.i c.in-Some-share_of.share.run c.args.file.now.block c.requires.within (c.requires.block d x told there) share in
    first_past x.bytes h o c.args.i ((c.args.i / c.in-Some-share_of.share.run + 1) * c.in-Some-share_of.share.run) (c.args.place + 1) c.args.file.now.block _ (c.requires.block d x told there) none (ap (λ (r : ℕ). (c.args.i / r + 1) * r) run) (c.in_ok-first-2.ensures.first d x told_one there)
