use Rattle.std.proofs.Common.{◌≡◌, ◌∙◌, ◌<◌, ◌+◌, ◌*◌, ap, subst, length, get_or, List, false, refl, arith}
use Rattle.gd_vault.specs.Events.{moment_after}
use Rattle.gd_vault.specs.Content.{Content}
use Rattle.gd_vault.specs.Changes.{event}
use Rattle.gd_memvault.specs.declared.log.Entry.{Entry}
use Rattle.gd_memvault.specs.Disk.{call_of, disk_content}
use Rattle.gd_memvault.specs.Image.{Candidate, Runs, events_at}
use Rattle.gd_memvault.proofs.Candidates.{before_fits, candidate_next, entry_fits, left_before, left_inside, left_last, next_content, next_moment, past_test}
use Rattle.gd_memvault.proofs.images.image_of.Goals as goal

pub returns-then-is_within : goal.returns-then-is_within
returns-then-is_within c =
    let i = c.loop-entry.invariant in
    let lt = subst (λ (l : List Entry). c.loop-entry.entry-index < length l) i.items c.loop-entry-test.true in
    let is = c.entry-item.is ∙ ap (λ (l : List Entry). get_or l c.loop-entry.entry-index c.entry-item.result) i.items in
    left_before (disk_content c.args.first.now) c.args.log.now c.loop-entry.entry-index c.entry-item.result c.loop-entry.image c.args.t c.loop-entry.rest c.requires.lawful lt is i.image i.rest (let h = c.if-is_within.ensures in h.0 refl)

pub run-requires-clause-before : goal.run-requires-clause-before
run-requires-clause-before c =
    let i = c.loop-entry.invariant in
    before_fits (disk_content c.args.first.now) (events_at (disk_content c.args.first.now) c.args.log.now.entries c.loop-entry.entry-index) c.loop-entry.before.now c.loop-entry.image i.image i.before

pub run-requires-clause-after : goal.run-requires-clause-after
run-requires-clause-after c =
    let i = c.loop-entry.invariant in
    let lt = subst (λ (l : List Entry). c.loop-entry.entry-index < length l) i.items c.loop-entry-test.true in
    let is = c.entry-item.is ∙ ap (λ (l : List Entry). get_or l c.loop-entry.entry-index c.entry-item.result) i.items in
    entry_fits (disk_content c.args.first.now) c.args.log.now c.loop-entry.entry-index c.entry-item.result c.loop-entry.image c.requires.lawful lt is i.image

pub crash-requires : goal.crash-requires
crash-requires c =
    let i = c.loop-entry.invariant in
    let lt = subst (λ (l : List Entry). c.loop-entry.entry-index < length l) i.items c.loop-entry-test.true in
    let is = c.entry-item.is ∙ ap (λ (l : List Entry). get_or l c.loop-entry.entry-index c.entry-item.result) i.items in
    entry_fits (disk_content c.args.first.now) c.args.log.now c.loop-entry.entry-index c.entry-item.result c.loop-entry.image c.requires.lawful lt is i.image

pub returns-then-rest-eq1 : goal.returns-then-rest-eq1
returns-then-rest-eq1 c =
    let i = c.loop-entry.invariant in
    let first = disk_content c.args.first.now in
    let lt = subst (λ (l : List Entry). c.loop-entry.entry-index < length l) i.items c.loop-entry-test.true in
    let is = c.entry-item.is ∙ ap (λ (l : List Entry). get_or l c.loop-entry.entry-index c.entry-item.result) i.items in
    let past : 2 * c.entry-item.result.idle_before < c.loop-entry.rest = past_test c.loop-entry.rest (2 * c.entry-item.result.idle_before) (let h = c.if-is_within.ensures in h.1) in
    left_inside first c.args.log.now c.loop-entry.entry-index c.entry-item.result c.loop-entry.image c.run.new.self c.args.t c.requires.lawful lt is i.image (omega (arith, i.rest, past, c.if-rest-eq1.true))
    (subst (λ (k : Content). Runs k (event (call_of c.entry-item.result.step) false (disk_content c.entry-item.result.after)) c.loop-entry.image c.run.new.self) i.before c.in_ok-run.ensures)

pub loop-entry-preserved : goal.loop-entry-preserved
loop-entry-preserved c =
    let i = c.loop-entry.invariant in
    let first = disk_content c.args.first.now in
    let lt = subst (λ (l : List Entry). c.loop-entry.entry-index < length l) i.items c.loop-entry-test.true in
    let is = c.entry-item.is ∙ ap (λ (l : List Entry). get_or l c.loop-entry.entry-index c.entry-item.result) i.items in
    let past : 2 * c.entry-item.result.idle_before < c.loop-entry.rest = past_test c.loop-entry.rest (2 * c.entry-item.result.idle_before) (let h = c.if-is_within.ensures in h.1) in
    record {
      items = i.items;
      image = candidate_next first c.args.log.now c.loop-entry.entry-index c.entry-item.result c.loop-entry.image c.crash.new.self c.requires.lawful lt is i.image c.in_ok-crash.ensures;
      before = next_content first c.args.log.now c.loop-entry.entry-index c.entry-item.result lt is;
      rest = omega (arith, i.rest, past, c.if-rest-eq1.false, next_moment first c.args.log.now c.loop-entry.entry-index c.entry-item.result lt is);
    }

pub returns : goal.returns
returns c =
    let i = c.loop-entry.invariant in
    let first = disk_content c.args.first.now in
    let end : c.loop-entry.entry-index ≡ length c.args.log.now.entries = omega (arith, c.loop-entry-test.false, c.loop-entry.auto.entry-index-end, ap (λ (l : List Entry). length l) i.items) in
    left_last first c.args.log.now c.loop-entry.image c.args.t c.loop-entry.rest c.requires.lawful
    (subst (λ k. Candidate first (events_at first c.args.log.now.entries k) c.loop-entry.image) end i.image)
    (subst (λ k. c.args.t ≡ moment_after (events_at first c.args.log.now.entries k) + c.loop-entry.rest) end i.rest) c.requires.moment
