use Rattle.std.proofs.Common.{◌≡◌, ℕ, false, length, ap, ◌∙◌, arith}
use Rattle.gd_format.specs.Field.{bytes_at}
use Rattle.gd_format.specs.File.{are_fields_right, key_of}
use Rattle.gd_format.specs.HeaderFault.{natural}
use Rattle.gd_readable.proofs.Places.{record_parts}
use Rattle.gd_lookup.proofs.Opens.{bad_slot}
use Rattle.gd_lookup.proofs.following.raw_key.Goals as goal

pub part_of_record-requires-clause-inside : goal.part_of_record-requires-clause-inside
part_of_record-requires-clause-inside g c =
    λ d x told there some.
    let place = c.in-Some.ensures.some in
    let inside = (record_parts (length x.bytes) c.args.raw.now (c.requires.right d x told there).1).0 in
    let all = inside (omega (arith, place.1, some)) in
    omega (arith, place.0, place.1, all)

pub returns-in_default-clause-refused : goal.returns-in_default-clause-refused
returns-in_default-clause-refused g c =
    bad_slot c.args.at c.args.place _ _ c.args.file.now.id c.requires.file
    (λ d x told there.
    let right = (c.requires.right d x told there).0 in
    let bad : are_fields_right c.args.raw.now ≡ false = rw c.in_default.is at c.key_place.ensures.none in
    absurd (cc (right, bad)))

pub returns-clause-key : goal.returns-clause-key
unfolding key_of
returns-clause-key g c =
    λ d x told there.
    let place = c.in-Some.ensures.some in
    c.in_ok-bytes.ensures.bytes d x told there ∙ ap (λ (a : ℕ). bytes_at x.bytes a c.in-Some.key.1) place.0 ∙ ap (bytes_at x.bytes (natural c.args.raw.now.at)) place.1
