use Rattle.std.proofs.Common.{◌≡◌, ◌+◌, ◌*◌, ◌≤◌, List, ℕ, true, false, length, sym, ap, subst, ◌∙◌, arith}
use Rattle.std.proofs.lemmas.List.{length-take-le}
use Rattle.gd_format.specs.Bucket.{is_from_zero}
use Rattle.gd_format.specs.Field.{i64_at}
use Rattle.gd_space.proofs.Dones.{tells_none}
use Rattle.gd_vault.specs.Views.{content_of}
use Rattle.gd_vault.proofs.Within.{within_trans, within_only_asks}
use Rattle.gd_vault.proofs.Writes.{writes_trans, writes_only_asks}
use Rattle.gd_update.specs.Runs.{IsDoubled}
use Rattle.gd_open.proofs.Files.{told_before, writes_more, writes_asked}
use Rattle.gd_update.proofs.Files.{becomes_law}
use Rattle.gd_update.proofs.Entries.{doubled_more, source_same}
use Rattle.gd_update.proofs.copying.copy_dir.Goals as goal

pub returns-then-not-branch-clause-told : goal.returns-then-not-branch-clause-told
returns-then-not-branch-clause-told g c = λ other.
    tells_none (g.V.Vault.view_of c.args.vault.now)
    (λ k told.
    (let x = c.requires.file k told in
    let a = c.loop-done.invariant.turned k x.0 told x.1 in
    let places = c.requires.places k told x.0 x.1 in
    let inside = places.inside in
    let longer = a.holds.keeps.longer in
    let p = c.portion-part.ensures.within in
    let t = c.loop-done-test.true in
    let all = c.in_ok-read_entries.ensures.whole a.content a.told a.file a.there (omega (arith, inside, longer, p, t)) in
    cc (all, c.if-not-branch.true)))

pub returns-in_default-clause-told : goal.returns-in_default-clause-told
returns-in_default-clause-told g c = λ other.
    tells_none (g.V.Vault.view_of c.args.vault.now)
    (λ k told.
    (let x = c.requires.file k told in
    let i = c.loop-done.invariant in
    let a = i.turned k x.0 told x.1 in
    let places = c.requires.places k told x.0 x.1 in
    let inside = places.inside in
    let longer = a.holds.keeps.longer in
    let low = i.low in
    let p = c.portion-part.ensures.within in
    let t = c.loop-done-test.true in
    let reads = c.in_ok-read_entries.ensures.reads a.content a.told a.file a.there (omega (arith, inside, longer, p, t)) in
    let some : false ≡ true = c.in_default.ensures.right
    (λ e lt.
    (let at : c.args.file.now.header.dir + 8 * c.loop-done.done + 8 * e ≡ c.args.file.now.header.dir + 8 * (c.loop-done.done + e) = omega arith in
    ap is_from_zero (reads.entries e lt ∙ ap (i64_at a.file.bytes) at ∙ source_same c.args.file.now.header.dir c.args.to c.args.count c.loop-done.done x.0.bytes a.file.bytes low a.holds inside places.apart (c.loop-done.done + e) (omega (arith, lt, p, t)))
    ∙ places.right (c.loop-done.done + e) (omega (arith, lt, p, t)))) in
    cc some))

pub write_bytes-requires-clause-place : goal.write_bytes-requires-clause-place
write_bytes-requires-clause-place g c = λ k told y there.
    let i = c.loop-done.invariant in
    let b = told_before (g.V.Vault.view_of c.args.vault.now) (g.V.Vault.view_of c.read_entries.new.vault) c.args.file.now.id (within_trans i.frame.within (within_only_asks c.in_ok-read_entries.ensures.asks)) c.requires.file k told in
    let low = (c.requires.places b.0 b.2 b.1 b.3).low in
    let done = i.low in
    omega (arith, low, done)

pub loop-done-preserved : goal.loop-done-preserved
loop-done-preserved g c =
    let i = c.loop-done.invariant in
    let e = c.write_bytes.ensures in
    let p = c.portion-part.ensures in
    let t = c.loop-done-test.true in
    let asks = c.in_ok-read_entries.ensures.asks in
    let few : 16 * c.portion-part.result ≤ length c.double_entries.new.page = (let long = c.double_entries.array_long in let most = p.few in omega (arith, long, most)) in
    let size = length-take-le (16 * c.portion-part.result) c.double_entries.new.page few in
    record {
      low = omega (arith, p.within, t);
      turned = λ k x told there.
          let a = i.turned k x told there in
          let b = becomes_law (g.V.Vault.view_of c.read_entries.new.vault) (g.V.Vault.view_of c.write_bytes.new.vault) c.args.file.now.id (c.args.to + 16 * c.loop-done.done) _ c.in_ok-write_bytes.ensures.becomes a.content a.file (ap content_of asks.told ∙ a.told) a.there in
          let places = c.requires.places k told x there in
          let inside = places.inside in
          let longer = a.holds.keeps.longer in
          let within = p.within in
          let reads = c.in_ok-read_entries.ensures.reads a.content a.told a.file a.there (omega (arith, inside, longer, within, t)) in
          record {
            content = b.content;
            file = b.file;
            told = b.told;
            there = b.there;
            holds =
                subst (λ (z : List ℕ). IsDoubled c.args.file.now.header.dir c.args.to (c.loop-done.done + c.portion-part.result) x.bytes z) (sym b.holds)
                (doubled_more c.args.file.now.header.dir c.args.to c.args.count c.loop-done.done c.portion-part.result x.bytes a.file.bytes c.double_entries.new.page c.read_entries.new.source (omega (arith, within, t)) a.holds inside places.apart few
                c.in-Some.ensures.doubled reads.entries);
          };
      there = e.there;
      frame = writes_trans i.frame (writes_trans (writes_only_asks asks) e.frame);
      amount = writes_more (16 * c.loop-done.done) _ (16 * (c.loop-done.done + c.portion-part.result)) (g.V.Vault.view_of c.args.vault.now) (g.V.Vault.view_of c.read_entries.new.vault) (g.V.Vault.view_of c.write_bytes.new.vault) (omega (arith, size))
          (writes_asked (16 * c.loop-done.done) (g.V.Vault.view_of c.args.vault.now) (g.V.Vault.view_of c.loop-done.vault) (g.V.Vault.view_of c.read_entries.new.vault) i.amount asks) e.amount;
      faults = c.in_ok-write_bytes.ensures.cause.answered ∙ c.in_ok-read_entries.ensures.answered ∙ i.faults;
    }
