use Rattle.std.proofs.Common.{◌≡◌, ◌∙◌, ◌<◌, ◌+◌, ◌*◌, ap, subst, length, get_or, List, refl, arith}
use Rattle.gd_vault.specs.Events.{moment_after}
use Rattle.gd_memvault.specs.declared.log.Entry.{Entry}
use Rattle.gd_memvault.specs.Disk.{disk_content}
use Rattle.gd_memvault.specs.Image.{events_at}
use Rattle.gd_memvault.proofs.Candidates.{next_content, next_moment, past_test}
use Rattle.gd_memvault.proofs.Pasts.{was_before, was_copied, was_last}
use Rattle.gd_memvault.proofs.images.was_at.Goals as goal

pub returns-then-is_before : goal.returns-then-is_before
returns-then-is_before c =
    let i = c.loop-entry.invariant in
    let lt = subst (λ (l : List Entry). c.loop-entry.entry-index < length l) i.items c.loop-entry-test.true in
    let is = c.entry-item.is ∙ ap (λ (l : List Entry). get_or l c.loop-entry.entry-index c.entry-item.result) i.items in
    let within = (let h = c.if-is_before.ensures in h.0 refl) in
    was_copied c.copy.result c.loop-entry.before.now _ c.copy.ensures
    (was_before (disk_content c.args.first.now) c.args.log.now c.loop-entry.entry-index c.entry-item.result c.loop-entry.before.now c.args.t c.loop-entry.rest lt is i.before i.rest within)

pub loop-entry-preserved : goal.loop-entry-preserved
loop-entry-preserved c =
    let i = c.loop-entry.invariant in
    let first = disk_content c.args.first.now in
    let lt = subst (λ (l : List Entry). c.loop-entry.entry-index < length l) i.items c.loop-entry-test.true in
    let is = c.entry-item.is ∙ ap (λ (l : List Entry). get_or l c.loop-entry.entry-index c.entry-item.result) i.items in
    let past : 2 * c.entry-item.result.idle_before + 1 < c.loop-entry.rest = past_test c.loop-entry.rest (2 * c.entry-item.result.idle_before + 1) (let h = c.if-is_before.ensures in h.1) in
    record {
      items = i.items;
      before = next_content first c.args.log.now c.loop-entry.entry-index c.entry-item.result lt is;
      rest = omega (arith, i.rest, past, next_moment first c.args.log.now c.loop-entry.entry-index c.entry-item.result lt is);
    }

pub returns : goal.returns
returns c =
    let i = c.loop-entry.invariant in
    let end : c.loop-entry.entry-index ≡ length c.args.log.now.entries = omega (arith, c.loop-entry-test.false, c.loop-entry.auto.entry-index-end, ap (λ (l : List Entry). length l) i.items) in
    was_copied c.copy-2.result c.loop-entry.before.now _ c.copy-2.ensures
    (was_last (disk_content c.args.first.now) c.args.log.now c.loop-entry.entry-index c.loop-entry.before.now c.args.t c.loop-entry.rest end i.before i.rest)
