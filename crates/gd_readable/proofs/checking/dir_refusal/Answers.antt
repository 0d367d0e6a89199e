use Rattle.std.proofs.Common.{◌≡◌, ◌^◌, Some, length, arith}
use Rattle.gd_format.specs.File.{dir_fault, entry_fault}
use Rattle.gd_readable.specs.Asks.{kept_of, bytes_in, Tells}
use Rattle.gd_readable.specs.Checks.{SeesPlaces}
use Rattle.gd_readable.proofs.Asks.{told_then}
use Rattle.gd_readable.proofs.Steps.{walk_stops}
use Rattle.gd_readable.proofs.Runs.{run_range}
use Rattle.gd_readable.proofs.checking.dir_refusal.Goals as goal

pub returns-in-Err-clause-refusal : goal.returns-in-Err-clause-refusal
returns-in-Err-clause-refusal g c =
    λ file told len.
    let old = c.runs.invariant in
    let told_here : bytes_in (kept_of (g.V.Vault.view_of c.runs.vault)) c.args.f.0 ≡ Some file = told_then _ _ c.args.f.0 file old.same told in
    let whole = run_range c.args.header.now.dir_bits c.requires.header.bits in
    let refused : Tells (bytes_in (kept_of (g.V.Vault.view_of c.runs.vault)) c.args.f.0) (λ file. length file ≡ c.args.len → SeesPlaces c.runs.places file c.args.header.now c.runs.i → entry_fault file c.args.header.now c.runs.i ≡ Some c.in-Err.e) = rw c.in-Err.is at c.in_ok-run.ensures.refused in
    let fault : entry_fault file c.args.header.now c.runs.i ≡ Some c.in-Err.e = refused file told_here len (old.seen file told len) in
    walk_stops file c.args.header.now (2 ^ c.args.header.now.dir_bits) c.runs.i (dir_fault file c.args.header.now) c.in-Err.e
    (old.rest file told len) (omega (arith, whole.0, c.runs-test.true)) fault
