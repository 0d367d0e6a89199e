use Rattle.std.proofs.Common.{◌≡◌, ◌<◌, [], Some, false, ap, ◌∙◌, rules, arith}
use Rattle.gd_format.specs.Bucket.{counts_at}
use Rattle.gd_format.specs.File.{entries_of, is_full_at}
use Rattle.gd_readable.specs.Left.{passing_from, slots_left}
use Rattle.gd_readable.proofs.Headers.{header_room}
use Rattle.gd_open.specs.Files.{AtFile}
use Rattle.gd_open.specs.Open.{OpenParts}
use Rattle.gd_open.proofs.Opens.{bad_bucket, of_file_stays}
use Rattle.gd_lookup.specs.Counting.{have_share, run_of}
use Rattle.gd_lookup.specs.Order.{first_of}
use Rattle.gd_lookup.proofs.Blocks.{block_read, is_block}
use Rattle.gd_lookup.proofs.Opens.{is_told, was_told}
use Rattle.gd_lookup.proofs.Orders.{begins_next, counted_run, first_here, left_on, no_share, none_left}
use Rattle.gd_lookup.proofs.following.first_from.Goals as goal

pub entry-requires-clause-readable : goal.entry-requires-clause-readable
entry-requires-clause-readable g c = rw c.runs.invariant.same (of_file_stays _ _ c.args.file.now.id c.args.file.now.header c.runs.invariant.asks c.requires.readable)

pub entry-requires-clause-within : goal.entry-requires-clause-within
entry-requires-clause-within g c =
    let h = c.args.file.now.header in
    let test = c.runs-test.true in
    let entries = c.entry_count-entries.ensures.is in
    let within : c.runs.i < entries_of h = omega (arith, test, entries) in
    rw c.runs.invariant.same within

pub read_block-requires-clause-readable : goal.read_block-requires-clause-readable
read_block-requires-clause-readable g c =
    rw c.runs.invariant.same (of_file_stays _ _ c.args.file.now.id c.args.file.now.header c.in_ok-at.ensures.asks (of_file_stays _ _ c.args.file.now.id c.args.file.now.header c.runs.invariant.asks c.requires.readable))

pub read_block-requires-clause-place : goal.read_block-requires-clause-place
read_block-requires-clause-place g c = λ d x told there. c.in_ok-at.ensures.place d x (was_told c.in_ok-at.ensures.asks d told) there

pub first_in_block-requires-clause-readable : goal.first_in_block-requires-clause-readable
first_in_block-requires-clause-readable g c =
    let same : c.read_block.new.self ≡ record c.args.file.now { block = c.read_block.new.self.block } = c.in_ok-read_block.ensures.same ∙ ap (λ (o : OpenParts). record o { block = c.read_block.new.self.block }) c.runs.invariant.same in
    rw same
    (of_file_stays _ _ c.args.file.now.id c.args.file.now.header c.in_ok-read_block.ensures.asks (of_file_stays _ _ c.args.file.now.id c.args.file.now.header c.in_ok-at.ensures.asks (of_file_stays _ _ c.args.file.now.id c.args.file.now.header c.runs.invariant.asks c.requires.readable)))

pub first_in_block-requires-clause-block : goal.first_in_block-requires-clause-block
first_in_block-requires-clause-block g c =
    let h = c.args.file.now.header in
    let same : c.read_block.new.self ≡ record c.args.file.now { block = c.read_block.new.self.block } = c.in_ok-read_block.ensures.same ∙ ap (λ (o : OpenParts). record o { block = c.read_block.new.self.block }) c.runs.invariant.same in
    let test = c.runs-test.true in
    let entries = c.entry_count-entries.ensures.is in
    let within : c.runs.i < entries_of h = omega (arith, test, entries) in
    let address = rw c.runs.invariant.same at c.in_ok-at.ensures.address in
    let read = rw c.runs.invariant.same at c.in_ok-read_block.ensures.block in
    rw same
    (λ d x told there.
    let told_two = was_told c.in_ok-read_block.ensures.asks d told in
    let told_one = was_told c.in_ok-at.ensures.asks d told_two in
    is_block x.bytes h c.runs.i c.read_block.new.self.block within (block_read x.bytes h c.in_ok-at.at c.runs.i c.read_block.new.self.block (address d x told_one there) (read d x told_two there)))

pub returns-in-Some-clause-first : goal.returns-in-Some-clause-first
returns-in-Some-clause-first g c =
    let h = c.args.file.now.header in
    let same : c.read_block.new.self ≡ record c.args.file.now { block = c.read_block.new.self.block } = c.in_ok-read_block.ensures.same ∙ ap (λ (o : OpenParts). record o { block = c.read_block.new.self.block }) c.runs.invariant.same in
    let test = c.runs-test.true in
    let entries = c.entry_count-entries.ensures.is in
    let within : c.runs.i < entries_of h = omega (arith, test, entries) in
    let address = rw c.runs.invariant.same at c.in_ok-at.ensures.address in
    let read = rw c.runs.invariant.same at c.in_ok-read_block.ensures.block in
    let first : AtFile (g.V.Vault.view_of c.read_block.new.vault) c.read_block.new.self.id (λ file. first_of (slots_left file c.read_block.new.self.header.elems c.read_block.new.self.block 0) ≡ Some c.in-Some.key) = rw c.in-Some.is at c.in_ok-first.ensures.some in
    let some = rw same at first in
    λ d x told there.
    let told_one = is_told c.runs.invariant.asks d told in
    let told_two = is_told c.in_ok-at.ensures.asks d told_one in
    let told_three = is_told c.in_ok-read_block.ensures.asks d told_two in
    let block = block_read x.bytes h c.in_ok-at.at c.runs.i c.read_block.new.self.block (address d x told_one there) (read d x told_two there) in
    first_here x.bytes h (c.requires.readable.is_open d x told there) c.runs.i within (c.runs.invariant.begins d x told there) c.read_block.new.self.block block _ c.in-Some.key (c.runs.invariant.left d x told there) (some d x told_three there)

pub counts-requires : goal.counts-requires
counts-requires g c =
    let room = header_room c.read_block.new.self.header c.in_ok-read_block.ensures.fit.header in
    let size = c.block.ensures.size in
    omega (arith, room, size)

pub returns-in_default-share_of-clause-refused : goal.returns-in_default-share_of-clause-refused
returns-in_default-share_of-clause-refused g c =
    let h = c.args.file.now.header in
    let test = c.runs-test.true in
    let entries = c.entry_count-entries.ensures.is in
    let within : c.runs.i < entries_of h = omega (arith, test, entries) in
    let address = rw c.runs.invariant.same at c.in_ok-at.ensures.address in
    let read = rw c.runs.invariant.same at c.in_ok-read_block.ensures.block in
    let none : have_share c.dir_bits-bits.result c.counts.result ≡ false = rw c.in_default-share_of.is at c.share_of.ensures.none in
    let bad : have_share h.dir_bits (counts_at c.read_block.new.self.block) ≡ false = rw (c.dir_bits-bits.ensures.is, c.counts.ensures, c.block.ensures.is) at none in
    bad_bucket c.in_ok-at.at _ _ c.args.file.now.id c.requires.file
    (λ d x told there.
    let told_one = is_told c.runs.invariant.asks d told in
    let told_two = is_told c.in_ok-at.ensures.asks d told_one in
    let block = block_read x.bytes h c.in_ok-at.at c.runs.i c.read_block.new.self.block (address d x told_one there) (read d x told_two there) in
    no_share x.bytes h (c.requires.readable.is_open d x told there) c.runs.i c.read_block.new.self.block within block bad)

pub runs-preserved : goal.runs-preserved
runs-preserved g c =
    let h = c.args.file.now.header in
    let old = c.runs.invariant in
    let same : c.read_block.new.self ≡ record c.args.file.now { block = c.read_block.new.self.block } = c.in_ok-read_block.ensures.same ∙ ap (λ (o : OpenParts). record o { block = c.read_block.new.self.block }) c.runs.invariant.same in
    let test = c.runs-test.true in
    let entries = c.entry_count-entries.ensures.is in
    let within : c.runs.i < entries_of h = omega (arith, test, entries) in
    let address = rw c.runs.invariant.same at c.in_ok-at.ensures.address in
    let read = rw c.runs.invariant.same at c.in_ok-read_block.ensures.block in
    let passed : passing_from (is_full_at c.read_block.new.self.block) c.read_block.new.self.header.elems 0 ≡ [] = rw c.in_default.is at c.in_ok-first.ensures.none in
    let none = rw same at passed in
    let share : c.in-Some-share_of.share.run ≡ run_of h.dir_bits (counts_at c.read_block.new.self.block) = rw (c.dir_bits-bits.ensures.is, c.counts.ensures, c.block.ensures.is) at c.in-Some-share_of.ensures.run in
    record {
      asks = search rules;
      answered = omega (arith, old.answered, c.in_ok-at.ensures.answered, c.in_ok-read_block.ensures.answered, c.in_ok-first.ensures.answered);
      same = same;
      fit = c.in_ok-read_block.ensures.fit;
      begins =
          λ d x told there.
          let told_one = is_told old.asks d told in
          let told_two = is_told c.in_ok-at.ensures.asks d told_one in
          let block = block_read x.bytes h c.in_ok-at.at c.runs.i c.read_block.new.self.block (address d x told_one there) (read d x told_two there) in
          let o = c.requires.readable.is_open d x told there in
          let run = counted_run x.bytes h o c.runs.i c.in-Some-share_of.share.run c.read_block.new.self.block within block share in
          begins_next x.bytes h o c.runs.i within (old.begins d x told there) c.read_block.new.self.block block c.in-Some-share_of.share.run run;
      left =
          λ d x told there.
          let told_one = is_told old.asks d told in
          let told_two = is_told c.in_ok-at.ensures.asks d told_one in
          let block = block_read x.bytes h c.in_ok-at.at c.runs.i c.read_block.new.self.block (address d x told_one there) (read d x told_two there) in
          let o = c.requires.readable.is_open d x told there in
          let run = counted_run x.bytes h o c.runs.i c.in-Some-share_of.share.run c.read_block.new.self.block within block share in
          left_on x.bytes h o c.runs.i within (old.begins d x told there) c.read_block.new.self.block block _ c.in-Some-share_of.share.run run (old.left d x told there) none;
    }

pub returns-clause-first : goal.returns-clause-first
returns-clause-first g c =
    λ d x told there.
    let test = c.runs-test.false in
    let entries = c.entry_count-entries.ensures.is in
    none_left x.bytes c.args.file.now.header (c.requires.readable.is_open d x told there) c.runs.i _ (omega (arith, test, entries)) (c.runs.invariant.left d x told there)
