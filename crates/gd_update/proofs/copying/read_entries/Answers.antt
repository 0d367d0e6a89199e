use Rattle.std.proofs.Common.{◌≡◌, ◌+◌, ◌*◌, ◌≤◌, ℕ, length, take, drop, refl, ap, ◌∙◌, arith}
use Rattle.std.proofs.lemmas.List.{length-take-le, take-take}
use Rattle.gd_update.proofs.Entries.{read_number}
use Rattle.gd_update.proofs.copying.read_entries.Goals as goal

pub returns-clause-whole : goal.returns-clause-whole
returns-clause-whole g c = λ k told x there inside.
    let fits = length-take-le (8 * c.args.count) c.args.source.now c.requires.room in
    c.in_ok-all.ensures.whole k x told there (omega (arith, inside, fits))

pub returns-clause-reads : goal.returns-clause-reads
returns-clause-reads g c = λ k told x there inside.
    let fits = length-take-le (8 * c.args.count) c.args.source.now c.requires.room in
    let read = c.in_ok-all.ensures.read k x told there (omega (arith, inside, fits)) in
    let n = length (take (8 * c.args.count) c.args.source.now) in
    let size = c.read_entries.auto.into in
    record {
      entries = λ e lt.
          read_number x.bytes c.read_entries.new.into _ (c.args.file.now.header.dir + 8 * c.args.first) n (8 * e) (omega (arith, size)) (ap (take n) read ∙ take-take n n (drop (c.args.file.now.header.dir + 8 * c.args.first) x.bytes) (omega arith)) (omega (arith, fits, lt));
    }
