use Rattle.std.proofs.Common.{◌≡◌, false, ap, ◌∙◌}
use Rattle.gd_format.specs.HeaderFault.{natural}
use Rattle.gd_lookup.specs.Counting.{have_share, run_of}
use Rattle.gd_lookup.proofs.Counts.{head_counts, run_is, shares}
use Rattle.gd_lookup.proofs.Opens.{is_told}
use Rattle.gd_open.proofs.Opens.{bad_bucket, of_file_stays}
use Rattle.gd_lookup.proofs.totals.share_at.Goals as goal

pub counts-requires-clause-readable : goal.counts-requires-clause-readable
counts-requires-clause-readable g c = of_file_stays _ _ c.args.file.now.id c.args.file.now.header c.in_ok-at.ensures.asks c.requires.readable

pub returns-in-Some-clause-share : goal.returns-in-Some-clause-share
returns-in-Some-clause-share g c =
    λ d x told there.
    let h = c.args.file.now.header in
    let o = c.requires.readable.is_open d x told there in
    let counts = c.in_ok-counts.ensures.counts d x (is_told c.in_ok-at.ensures.asks d told) there ∙ head_counts x.bytes h o c.args.i c.requires.within c.in_ok-at.at (c.in_ok-at.ensures.address d x told there) in
    let run : c.in-Some.share.run ≡ run_of h.dir_bits c.in_ok-counts.counts = rw c.dir_bits.ensures.is at c.in-Some.ensures.run in
    let full : c.in-Some.share.full ≡ natural c.in_ok-counts.counts.full = c.in-Some.ensures.full in
    (run ∙ ap (run_of h.dir_bits) counts ∙ run_is x.bytes h o c.args.i c.requires.within, full ∙ ap (λ c. natural c.full) counts)

pub returns-in-None-clause-refused : goal.returns-in-None-clause-refused
returns-in-None-clause-refused g c =
    bad_bucket c.in_ok-at.at _ _ c.args.file.now.id c.requires.file
    (λ d x told there.
    let h = c.args.file.now.header in
    let o = c.requires.readable.is_open d x told there in
    let counts = c.in_ok-counts.ensures.counts d x (is_told c.in_ok-at.ensures.asks d told) there ∙ head_counts x.bytes h o c.args.i c.requires.within c.in_ok-at.at (c.in_ok-at.ensures.address d x told there) in
    let none : have_share h.dir_bits c.in_ok-counts.counts ≡ false = rw c.dir_bits.ensures.is at c.in-None.ensures.none in
    let right = ap (have_share h.dir_bits) counts ∙ shares x.bytes h o c.args.i c.requires.within in
    absurd (cc (none, right)))
