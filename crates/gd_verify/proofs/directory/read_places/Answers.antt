use Rattle.std.proofs.Common.{◌≡◌, ◌+◌, SFits, to_z, refl, ◌∙◌, rules, arith}
use Rattle.std.specs.Prelude.{Some}
use Rattle.std.specs.Int.{w64}
use Rattle.std.proofs.lemmas.Int.{to_z-of_z}
use Rattle.gd_readable.specs.Asks.{kept_of, bytes_in, Tells}
use Rattle.gd_readable.proofs.Asks.{told_then}
use Rattle.gd_readable.proofs.Runs.{run_range}
use Rattle.gd_verify.specs.Known.{IsReadBy, IsPlaced}
use Rattle.gd_verify.proofs.Placing.{placed_none, placed_all}
use Rattle.gd_verify.proofs.directory.read_places.Goals as goal

pub pages-init : goal.pages-init
pages-init g c = record {
  far = omega arith;
  same = refl;
  later = omega arith;
  size = c.requires.size;
  low = search rules;
  placed = λ file told read. let none = c.new-places.ensures.items in rw none (placed_none file c.args.header.now);
}

pub pages-preserved : goal.pages-preserved
pages-preserved g c =
    let whole = run_range c.args.header.now.dir_bits c.requires.header.bits in
    let old = c.pages.invariant in
    let min = c.min-count.ensures in
    record {
      far = omega (arith, whole.0, min);
      same = c.in_ok-next.ensures.same ∙ old.same;
      later = omega (arith, old.later, c.in_ok-next.ensures.answered);
      size = c.next_page.auto.page ∙ old.size;
      low = c.in_ok-next.ensures.low;
      placed =
          λ file told read.
          let told_here : bytes_in (kept_of (g.V.Vault.view_of c.pages.vault)) c.args.f.0 ≡ Some file = told_then _ _ c.args.f.0 file old.same told in
          let placed : Tells (bytes_in (kept_of (g.V.Vault.view_of c.pages.vault)) c.args.f.0) (λ file. IsReadBy file c.args.header.now → IsPlaced file c.args.header.now c.pages.i (to_z w64 c.pages.before-bits) c.pages.places.items → IsPlaced file c.args.header.now (c.pages.i + c.min-count.result) c.in-Some.last c.next_page.new.places.items) = rw c.in-Some.is at c.in_ok-next.ensures.placed in
          let fits : SFits w64 c.in-Some.last = search rules in
          let back = to_z-of_z w64 c.in-Some.last fits in
          rw back (placed file told_here read (old.placed file told read));
    }

pub returns-clause-places : goal.returns-clause-places
returns-clause-places g c =
    λ file told read.
    let whole = run_range c.args.header.now.dir_bits c.requires.header.bits in
    placed_all file c.args.header.now c.pages.i _ c.pages.places.items (c.pages.invariant.placed file told read) (omega (arith, whole.0, c.pages-test.false, c.pages.invariant.far))
