use Rattle.std.proofs.Common.{◌≡◌, length}
use Rattle.gd_readable.specs.Asks.{IsIn}
use Rattle.gd_lookup.proofs.Opens.{bad_slot}
use Rattle.gd_lookup.proofs.Owns.{candidate_size, key_inside}
use Rattle.gd_lookup.proofs.candidates.is_own.Goals as goal

pub returns-in-None-clause-refused : goal.returns-in-None-clause-refused
returns-in-None-clause-refused g c =
    bad_slot c.args.at c.args.place _ _ c.args.file.now.id c.requires.file
    (λ d x told there.
    let inside : IsIn x.bytes c.in-Full.from (length c.args.key.now) = key_inside c.args.hash c.args.key.now c.args.slot.now c.in-Full.hash c.in-Full.start c.in-Full.from c.in-Full.key_size c.in-Full.value_size c.in-Full.is c.requires.candidate (length x.bytes) (c.requires.inside d x told there) in
    let answer = c.in-Ok.ensures.answer d x told there inside in
    absurd (cc (c.in-None.is, answer)))

pub returns-in-Some-clause-own : goal.returns-in-Some-clause-own
returns-in-Some-clause-own g c =
    λ d x told there.
    let inside : IsIn x.bytes c.in-Full.from (length c.args.key.now) = key_inside c.args.hash c.args.key.now c.args.slot.now c.in-Full.hash c.in-Full.start c.in-Full.from c.in-Full.key_size c.in-Full.value_size c.in-Full.is c.requires.candidate (length x.bytes) (c.requires.inside d x told there) in
    let answer = c.in-Ok.ensures.answer d x told there inside in
    let size : c.in-Full.key_size ≡ length c.args.key.now = candidate_size c.args.hash c.args.key.now c.in-Full.hash c.in-Full.start c.in-Full.from c.in-Full.key_size c.in-Full.value_size (rw c.in-Full.is at c.requires.candidate) in
    let is = c.in-Some.is in
    rw (c.in-Full.is, size) (cc (answer, is))
