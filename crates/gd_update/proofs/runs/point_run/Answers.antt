use Rattle.std.proofs.Common.{◌+◌, ◌*◌, ◌≤◌, List, ℕ, length, sym, subst, arith, ◌∙◌}
use Rattle.std.proofs.lemmas.List.{length-take-le}
use Rattle.gd_vault.proofs.Writes.{writes_trans}
use Rattle.gd_update.specs.Runs.{IsPointed}
use Rattle.gd_open.proofs.Files.{before_after, writes_more}
use Rattle.gd_update.proofs.Files.{becomes_law}
use Rattle.gd_update.proofs.Entries.{pointed_more}
use Rattle.gd_update.proofs.runs.point_run.Goals as goal

pub write_bytes-requires-clause-place : goal.write_bytes-requires-clause-place
write_bytes-requires-clause-place g c = λ k told y there.
    let i = c.loop-done.invariant in
    let b = before_after (g.V.Vault.view_of c.args.vault.now) (g.V.Vault.view_of c.loop-done.vault) c.args.file.now.id (IsPointed c.args.place c.loop-done.done c.args.address) i.frame.within c.requires.file i.turned k y told there in
    let inside = c.requires.inside b.0 b.2 b.1 b.3 in
    let size = b.4.size in
    let low = i.low in
    omega (arith, inside, size, low)

pub loop-done-preserved : goal.loop-done-preserved
loop-done-preserved g c =
    let i = c.loop-done.invariant in
    let e = c.write_bytes.ensures in
    let p = c.portion-part.ensures in
    let t = c.loop-done-test.true in
    let few : 8 * c.portion-part.result ≤ length c.fill_page.new.page = (let long = c.fill_page.array_long in let most = p.few in omega (arith, long, most)) in
    let size = length-take-le (8 * c.portion-part.result) c.fill_page.new.page few in
    record {
      low = omega (arith, p.within, t);
      turned = λ k x told there.
          let a = i.turned k x told there in
          let b = becomes_law (g.V.Vault.view_of c.loop-done.vault) (g.V.Vault.view_of c.write_bytes.new.vault) c.args.file.now.id (c.args.place + 8 * c.loop-done.done) _ c.in_ok-write_bytes.ensures.becomes a.content a.file a.told a.there in
          record {
            content = b.content;
            file = b.file;
            told = b.told;
            there = b.there;
            holds =
                subst (λ (z : List ℕ). IsPointed c.args.place (c.loop-done.done + c.portion-part.result) c.args.address x.bytes z) (sym b.holds)
                (pointed_more c.args.place c.loop-done.done c.portion-part.result c.args.address x.bytes a.file.bytes c.fill_page.new.page a.holds few (λ j lt. c.fill_page.ensures j (let most = p.few in omega (arith, lt, most))) (let inside = c.requires.inside k told x there in let within = p.within in omega (arith, inside, within, t)));
          };
      there = e.there;
      frame = writes_trans i.frame e.frame;
      amount = writes_more (8 * c.loop-done.done) _ (8 * (c.loop-done.done + c.portion-part.result)) (g.V.Vault.view_of c.args.vault.now) (g.V.Vault.view_of c.loop-done.vault) (g.V.Vault.view_of c.write_bytes.new.vault) (omega (arith, size)) i.amount e.amount;
      faults = c.in_ok-write_bytes.ensures.cause.answered ∙ i.faults;
    }
