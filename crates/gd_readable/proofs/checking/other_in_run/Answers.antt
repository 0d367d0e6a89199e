use Rattle.std.proofs.Common.{◌≡◌, ◌+◌, Some, sym, rules}
use Rattle.gd_base.specs.declared.errors.DbError.TheVariants.{BadDirEntry}
use Rattle.gd_format.specs.File.{entry_at, run_fault}
use Rattle.gd_format.proofs.Firsts.{first_below_found}
use Rattle.gd_readable.specs.Asks.{kept_of, bytes_in}
use Rattle.gd_readable.proofs.Asks.{told_then}
use Rattle.gd_readable.proofs.checking.other_in_run.Goals as goal

pub returns-then-entry-own-clause-other : goal.returns-then-entry-own-clause-other
unfolding run_fault
returns-then-entry-own-clause-other g c =
    λ file told len.
    let old = c.loop-j.invariant in
    let told_one : bytes_in (kept_of (g.V.Vault.view_of c.stored_entry.new.vault)) c.args.f.0 ≡ Some file = told_then _ _ c.args.f.0 file c.in_ok-own.ensures.same told in
    let told_here : bytes_in (kept_of (g.V.Vault.view_of c.loop-j.vault)) c.args.f.0 ≡ Some file = told_then _ _ c.args.f.0 file old.same told in
    let own : c.in_ok-own.own ≡ entry_at file c.args.header.now c.args.i = c.in_ok-own.ensures.entry file told len in
    let other : c.in_ok-entry.entry ≡ entry_at file c.args.header.now (c.args.i + c.loop-j.j) = c.in_ok-entry.ensures.entry file told_here len in
    let at : run_fault file c.args.header.now c.args.i c.loop-j.j ≡ Some (BadDirEntry (c.args.i + c.loop-j.j)) = search rules in
    sym (first_below_found (run_fault file c.args.header.now c.args.i) c.args.run c.loop-j.j (BadDirEntry (c.args.i + c.loop-j.j)) c.loop-j-test.true (old.none file told len) at)
