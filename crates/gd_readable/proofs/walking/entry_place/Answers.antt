use Rattle.std.proofs.Common.{◌≡◌, refl, ◌∙◌, rules, arith}
use Rattle.gd_format.specs.HeaderFault.{natural}
use Rattle.gd_format.specs.File.{entry_at}
use Rattle.gd_readable.specs.Standing.{place_of}
use Rattle.gd_readable.proofs.Places.{place_is}
use Rattle.gd_readable.proofs.Walks.{bucket_place}
use Rattle.gd_readable.proofs.walking.entry_place.Goals as goal

pub returns-clause-place : goal.returns-clause-place
returns-clause-place g c =
    λ file told head none.
    let dir = head.dir in
    let within = c.requires.within in
    let entry = c.in_ok-entry.ensures.entry file told (omega (arith, dir, within)) in
    let place = bucket_place file c.args.header.now none c.args.i within (natural (entry_at file c.args.header.now c.args.i)) refl in
    let result : c.place_from.result ≡ place_of c.in_ok-entry.entry = search rules in
    result ∙ rw entry (place_is (entry_at file c.args.header.now c.args.i) _ place.0)
