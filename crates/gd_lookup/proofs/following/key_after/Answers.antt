use Rattle.std.proofs.Common.{◌<◌, ◌≤◌, get_or, ap, sym, ◌∙◌, arith}
use Rattle.gd_format.specs.declared.Slot.TheVariants.{Empty}
use Rattle.gd_format.specs.File.{entries_of}
use Rattle.gd_open.specs.Files.{AtFile}
use Rattle.gd_open.proofs.Opens.{of_file_stays}
use Rattle.gd_lookup.specs.Finding.{IsCandidateAt, IsKeyAbsent, IsKeySlot}
use Rattle.gd_lookup.specs.Order.{following}
use Rattle.gd_lookup.proofs.Blocks.{block_read}
use Rattle.gd_lookup.proofs.Keys.{index_within, key_bucket}
use Rattle.gd_lookup.proofs.Opens.{is_told, was_told}
use Rattle.gd_lookup.proofs.Orders.{absent_in, after_found}
use Rattle.gd_lookup.proofs.following.key_after.Goals as goal

pub entry-requires-clause-within : goal.entry-requires-clause-within
entry-requires-clause-within g c =
    let bits : c.args.file.now.header.dir_bits ≤ 24 = rw c.dir_bits.ensures.is at c.dir_bits.ensures.most in
    rw (c.from-i.ensures, c.dir_bits.ensures.is) (index_within c.args.file.now.header c.args.key.now c.hash-hash.result bits c.hash-hash.ensures.value)

pub read_bucket-requires-clause-readable : goal.read_bucket-requires-clause-readable
read_bucket-requires-clause-readable g c = of_file_stays _ _ c.args.file.now.id c.args.file.now.header c.in_ok-at.ensures.asks c.requires.readable

pub read_bucket-requires-clause-place : goal.read_bucket-requires-clause-place
read_bucket-requires-clause-place g c = λ d x told there. c.in_ok-at.ensures.place d x (was_told c.in_ok-at.ensures.asks d told) there

pub find_key-requires-clause-bucket : goal.find_key-requires-clause-bucket
find_key-requires-clause-bucket g c =
    let h = c.args.file.now.header in
    let address = rw (c.from-i.ensures, c.dir_bits.ensures.is) at c.in_ok-at.ensures.address in
    rw c.in_ok-bucket.ensures.same
    (record {
      is_key =
          λ d x told there.
          let told_two = was_told c.in_ok-bucket.ensures.asks d told in
          let told_one = was_told c.in_ok-at.ensures.asks d told_two in
          key_bucket x.bytes h c.args.key.now c.in_ok-at.at c.hash-hash.result c.in_ok-bucket.bucket (c.requires.readable.is_open d x told_one there) c.hash-hash.ensures.value (address d x told_one there) (c.in_ok-bucket.ensures.bucket d x told_two there);
    })

pub returns-in_default-clause-next : goal.returns-in_default-clause-next
returns-in_default-clause-next g c =
    let none : AtFile (g.V.Vault.view_of c.read_bucket.new.vault) c.read_bucket.new.self.id (λ file. IsKeyAbsent file c.args.key.now c.in_ok-bucket.bucket.slots) = rw c.in_default.is at c.in_ok-found.ensures.absent in
    let absent = rw c.in_ok-bucket.ensures.same at none in
    λ d x told there.
    let told_two = is_told c.in_ok-bucket.ensures.asks d (is_told c.in_ok-at.ensures.asks d told) in
    sym (absent_in x.bytes c.args.key.now ((absent d x told_two there).value))

pub first_behind-requires-clause-within : goal.first_behind-requires-clause-within
first_behind-requires-clause-within g c =
    let bits : c.args.file.now.header.dir_bits ≤ 24 = rw c.dir_bits.ensures.is at c.dir_bits.ensures.most in
    let within : c.from-i.result < entries_of c.args.file.now.header = rw (c.from-i.ensures, c.dir_bits.ensures.is) (index_within c.args.file.now.header c.args.key.now c.hash-hash.result bits c.hash-hash.ensures.value) in
    rw c.in_ok-bucket.ensures.same within

pub first_behind-requires-clause-place : goal.first_behind-requires-clause-place
first_behind-requires-clause-place g c =
    let candidate : IsCandidateAt c.in_ok-bucket.bucket.slots c.hash-hash.result c.args.key.now c.in-Some.place = rw c.in-Some.is at c.in_ok-found.ensures.candidate in
    let below = candidate.below in
    let slots = c.in_ok-bucket.ensures.slots in
    rw c.in_ok-bucket.ensures.same (omega (arith, below, slots))

pub first_behind-requires-clause-readable : goal.first_behind-requires-clause-readable
first_behind-requires-clause-readable g c =
    rw c.in_ok-bucket.ensures.same
    (of_file_stays _ _ c.args.file.now.id c.args.file.now.header c.in_ok-found.ensures.asks (of_file_stays _ _ c.args.file.now.id c.args.file.now.header c.in_ok-bucket.ensures.asks (of_file_stays _ _ c.args.file.now.id c.args.file.now.header c.in_ok-at.ensures.asks c.requires.readable)))

pub first_behind-requires-clause-block : goal.first_behind-requires-clause-block
first_behind-requires-clause-block g c =
    let h = c.args.file.now.header in
    rw c.in_ok-bucket.ensures.same
    (λ d x told there.
    let told_two = was_told c.in_ok-bucket.ensures.asks d (was_told c.in_ok-found.ensures.asks d told) in
    let told_one = was_told c.in_ok-at.ensures.asks d told_two in
    block_read x.bytes h c.in_ok-at.at c.from-i.result c.read_bucket.new.self.block (c.in_ok-at.ensures.address d x told_one there) (c.in_ok-bucket.ensures.block d x told_two there))

pub returns-clause-next : goal.returns-clause-next
returns-clause-next g c =
    let h = c.args.file.now.header in
    let bits : h.dir_bits ≤ 24 = rw c.dir_bits.ensures.is at c.dir_bits.ensures.most in
    let within : c.from-i.result < entries_of h = rw (c.from-i.ensures, c.dir_bits.ensures.is) (index_within h c.args.key.now c.hash-hash.result bits c.hash-hash.ensures.value) in
    let candidate : IsCandidateAt c.in_ok-bucket.bucket.slots c.hash-hash.result c.args.key.now c.in-Some.place = rw c.in-Some.is at c.in_ok-found.ensures.candidate in
    let found : AtFile (g.V.Vault.view_of c.read_bucket.new.vault) c.read_bucket.new.self.id (λ file. IsKeySlot file c.args.key.now (get_or c.in_ok-bucket.bucket.slots c.in-Some.place Empty)) = rw c.in-Some.is at c.in_ok-found.ensures.present in
    let present = rw c.in_ok-bucket.ensures.same at found in
    let first = rw c.in_ok-bucket.ensures.same at c.in_ok-next.ensures.first in
    let below = candidate.below in
    let slots = c.in_ok-bucket.ensures.slots in
    λ d x told there.
    let told_one = is_told c.in_ok-at.ensures.asks d told in
    let told_two = is_told c.in_ok-bucket.ensures.asks d told_one in
    let told_three = is_told c.in_ok-found.ensures.asks d told_two in
    let after =
    after_found x.bytes h (c.requires.readable.is_open d x told there) c.args.key.now c.in_ok-at.at c.from-i.result c.in-Some.place c.in_ok-bucket.bucket within (c.in_ok-at.ensures.address d x told there) (c.in_ok-bucket.ensures.bucket d x told_one there)
    (omega (arith, below, slots)) ((present d x told_two there).own) in
    c.successor_from.ensures ∙ ap following (first d x told_three there) ∙ sym after
