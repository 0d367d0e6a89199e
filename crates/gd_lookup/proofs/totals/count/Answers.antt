use Rattle.std.proofs.Common.{◌<◌, rules, arith}
use Rattle.gd_format.specs.File.{entries_of}
use Rattle.gd_open.proofs.Opens.{of_file_stays}
use Rattle.gd_lookup.proofs.Counts.{counted_all, counted_more, counted_none}
use Rattle.gd_lookup.proofs.Opens.{is_told}
use Rattle.gd_lookup.proofs.totals.count.Goals as goal

pub runs-init : goal.runs-init
runs-init g c =
    record {
      asks = search rules;
      answered = search rules;
      far = omega arith;
      few = omega arith;
      counted = λ d x told there. counted_none x.bytes c.args.file.now.header (c.requires.readable.is_open d x told there);
    }

pub share_at-requires-clause-readable : goal.share_at-requires-clause-readable
share_at-requires-clause-readable g c = of_file_stays _ _ c.args.file.now.id c.args.file.now.header c.runs.invariant.asks c.requires.readable

pub runs-preserved : goal.runs-preserved
runs-preserved g c =
    let old = c.runs.invariant in
    let test = c.runs-test.true in
    let entries = c.entry_count-entries.ensures in
    let few = old.few in
    let some = c.in_ok-share.ensures.some in
    let most = c.in_ok-share.ensures.most in
    let fits = c.in_ok-share.ensures.fits in
    let within : c.runs.i < entries_of c.args.file.now.header = omega (arith, test, entries.is) in
    record {
      asks = search rules;
      answered = omega (arith, old.answered, c.in_ok-share.ensures.answered);
      far = omega (arith, test, entries.most, most);
      few = omega (arith, few, some, fits, c.from-total.ensures);
      counted =
          λ d x told there.
          let o = c.requires.readable.is_open d x told there in
          let share = c.in_ok-share.ensures.share d x (is_told old.asks d told) there in
          rw c.from-total.ensures (counted_more x.bytes c.args.file.now.header o c.runs.i c.runs.total c.in_ok-share.share.run c.in_ok-share.share.full (old.counted d x told there) within share.0 share.1);
    }

pub returns-clause-count : goal.returns-clause-count
returns-clause-count g c =
    λ d x told there.
    let test = c.runs-test.false in
    let entries = c.entry_count-entries.ensures.is in
    counted_all x.bytes c.args.file.now.header (c.requires.readable.is_open d x told there) c.runs.i c.runs.total (c.runs.invariant.counted d x told there) (omega (arith, test, entries))
