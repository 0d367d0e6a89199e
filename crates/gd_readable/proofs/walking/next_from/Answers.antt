use Rattle.std.proofs.Common.{◌≡◌, ◌≤◌, ◌<◌, ◌++◌, [], length, take, drop, sym, ap, ◌∙◌, rules, arith}
use Rattle.gd_format.specs.File.{entries_of, is_full_at}
use Rattle.gd_readable.specs.Asks.{kept_of, bytes_in, Tells}
use Rattle.gd_readable.specs.Left.{IsWalk, passing_from, buckets_left, records_left}
use Rattle.gd_readable.specs.Standing.{slots_ahead}
use Rattle.gd_readable.proofs.Ahead.{ahead_slot, ahead_bucket}
use Rattle.gd_readable.proofs.Asks.{told_then}
use Rattle.gd_readable.proofs.Left.{walk_behind}
use Rattle.gd_readable.proofs.Nexts.{refilled, left_behind, left_at_end, left_ended}
use Rattle.gd_readable.proofs.walking.next_from.Goals as goal

pub returns-in-Err-next_block-clause-again : goal.returns-in-Err-next_block-clause-again
returns-in-Err-next_block-clause-again g c =
    λ file told w.
    let h = c.args.header.now in
    let old = c.buckets.invariant in
    let before = old.walk file told w in
    let full : passing_from (is_full_at c.deref.result.now) h.elems c.buckets.place.slot ≡ [] = rw c.in_default.is at c.in-Ok.ensures.none in
    let none : passing_from (is_full_at c.buckets.place.block.items) h.elems c.buckets.place.slot ≡ [] = rw c.deref.ensures.value at full in
    let here = left_behind file h c.buckets.place.entry c.buckets.place.block.items c.buckets.place.slot none in
    left_at_end file h c.buckets.place.entry _ ∙ sym here ∙ old.left file told w

pub returns-in_default-entered-clause-none : goal.returns-in_default-entered-clause-none
returns-in_default-entered-clause-none g c =
    λ file told w.
    let h = c.args.header.now in
    let old = c.buckets.invariant in
    let before = old.walk file told w in
    let full : passing_from (is_full_at c.deref.result.now) h.elems c.buckets.place.slot ≡ [] = rw c.in_default.is at c.in-Ok.ensures.none in
    let none : passing_from (is_full_at c.buckets.place.block.items) h.elems c.buckets.place.slot ≡ [] = rw c.deref.ensures.value at full in
    let here = left_behind file h c.buckets.place.entry c.buckets.place.block.items c.buckets.place.slot none in
    let told_one = told_then _ _ c.args.f.0 file (c.in-Ok.ensures.same ∙ old.same) told in
    let behind = walk_behind file h c.buckets.place.entry c.buckets.place.block.items c.buckets.place.slot before c.deref_mut.result.now in
    let end : Tells (bytes_in (kept_of (g.V.Vault.view_of c.next_in_block.new.vault)) c.args.f.0) (λ file. IsWalk file h c.buckets.place.entry c.deref_mut.result.now h.elems → buckets_left file h c.buckets.place.entry ≡ []) = rw c.in_default-entered.is at c.in-Ok-next_block.ensures.none in
    sym (old.left file told w) ∙ here ∙ end file told_one behind

pub buckets-preserved : goal.buckets-preserved
buckets-preserved g c =
    let h = c.args.header.now in
    let old = c.buckets.invariant in
    let fits = old.fits in
    let next = c.in-Some-entered.next in
    let size : c.buckets.place.block.len ≡ length c.next_block.new.block = omega (arith, c.next_block.auto.block, c.deref_mut.ensures.len) in
    let block : take c.buckets.place.block.len (c.next_block.new.block ++ drop (length c.next_block.new.block) c.buckets.place.block.items) ≡ c.next_block.new.block = refilled c.buckets.place.block.len c.next_block.new.block c.buckets.place.block.items size in
    let range : (c.buckets.place.entry < next.0) × (next.0 ≤ entries_of h) = rw c.in-Some-entered.is at c.in-Ok-next_block.ensures.range in
    let high = range.1 in
    let some : Tells (bytes_in (kept_of (g.V.Vault.view_of c.next_in_block.new.vault)) c.args.f.0) (λ file. IsWalk file h c.buckets.place.entry c.deref_mut.result.now h.elems → (buckets_left file h c.buckets.place.entry ≡ records_left file h next.0 c.next_block.new.block 0) × IsWalk file h next.0 c.next_block.new.block 0) = rw c.in-Some-entered.is at c.in-Ok-next_block.ensures.some in
    record {
      same = search rules;
      later = omega (arith, old.later, c.in-Ok.ensures.answered, c.in-Ok-next_block.ensures.answered);
      ahead =
          let before = old.ahead in
          let less : slots_ahead h next.0 0 ≤ slots_ahead h c.buckets.place.entry c.buckets.place.slot = ahead_bucket h c.buckets.place.entry next.0 c.buckets.place.slot range.0 high in
          omega (arith, before, less);
      fits = rw block (record { dir = fits.dir; bits = fits.bits; room = fits.room; size = c.next_block.auto.block ∙ ap length c.deref_mut.ensures.value ∙ fits.size; entries = high; slots = omega arith });
      walk =
          λ file told w.
          let h = c.args.header.now in
          let old = c.buckets.invariant in
          let before = old.walk file told w in
          let full : passing_from (is_full_at c.deref.result.now) h.elems c.buckets.place.slot ≡ [] = rw c.in_default.is at c.in-Ok.ensures.none in
          let none : passing_from (is_full_at c.buckets.place.block.items) h.elems c.buckets.place.slot ≡ [] = rw c.deref.ensures.value at full in
          let here = left_behind file h c.buckets.place.entry c.buckets.place.block.items c.buckets.place.slot none in
          let told_one = told_then _ _ c.args.f.0 file (c.in-Ok.ensures.same ∙ old.same) told in
          let behind = walk_behind file h c.buckets.place.entry c.buckets.place.block.items c.buckets.place.slot before c.deref_mut.result.now in
          rw block (some file told_one behind).1;
      left =
          λ file told w.
          let h = c.args.header.now in
          let old = c.buckets.invariant in
          let before = old.walk file told w in
          let full : passing_from (is_full_at c.deref.result.now) h.elems c.buckets.place.slot ≡ [] = rw c.in_default.is at c.in-Ok.ensures.none in
          let none : passing_from (is_full_at c.buckets.place.block.items) h.elems c.buckets.place.slot ≡ [] = rw c.deref.ensures.value at full in
          let here = left_behind file h c.buckets.place.entry c.buckets.place.block.items c.buckets.place.slot none in
          let told_one = told_then _ _ c.args.f.0 file (c.in-Ok.ensures.same ∙ old.same) told in
          let behind = walk_behind file h c.buckets.place.entry c.buckets.place.block.items c.buckets.place.slot before c.deref_mut.result.now in
          rw block (sym (some file told_one behind).0 ∙ sym here ∙ old.left file told w);
    }

pub returns-then-is_at_end-clause-none : goal.returns-then-is_at_end-clause-none
returns-then-is_at_end-clause-none g c =
    λ file told w.
    let place = c.args.place.now in
    let end = c.is_at_end.ensures.end c.if-is_at_end.true in
    left_ended file c.args.header.now place.entry place.block.items place.slot end.0 end.1
