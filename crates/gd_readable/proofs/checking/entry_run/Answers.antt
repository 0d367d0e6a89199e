use Rattle.std.proofs.Common.{◌≡◌, true, length, sym, ◌∙◌}
use Rattle.std.specs.Prelude.{pos}
use Rattle.gd_format.specs.File.{bits_at, block_of, entry_at, is_block_in}
use Rattle.gd_readable.specs.Asks.{kept_of, bytes_in, Tells}
use Rattle.gd_readable.proofs.Asks.{told_then}
use Rattle.gd_readable.proofs.Entries.{not_new, wrong_counts, wrong_run, wrong_slots, right_entry, run_is}
use Rattle.gd_readable.proofs.Seen.{first_by_set, places_more}
use Rattle.gd_readable.proofs.Runs.{run_ends}
use Rattle.gd_readable.proofs.checking.entry_run.Goals as goal

pub other_in_run-requires-clause-within : goal.other_in_run-requires-clause-within
other_in_run-requires-clause-within g c =
    let facts = c.in-Some-run_of.ensures.some in
    run_ends c.args.i c.args.header.now.dir_bits (bits_at c.read_bucket_of.new.block) c.in-Some-run_of.run' facts.1 c.if-i-run-ne0.false c.requires.within facts.2

pub returns-then-not-branch-clause-refused : goal.returns-then-not-branch-clause-refused
returns-then-not-branch-clause-refused g c =
    λ file told len sees.
    let some : Tells (bytes_in (kept_of (g.V.Vault.view_of c.args.vault.now)) c.args.f.0) (λ file. length file ≡ c.args.len → (is_block_in file c.args.header.now c.args.i ≡ true) × (entry_at file c.args.header.now c.args.i ≡ pos c.in-Some.at) × (c.read_bucket_of.new.block ≡ block_of file c.args.header.now c.args.i)) = rw c.in-Some.is at c.in_ok-at.ensures.some in
    let place = some file told len in
    let first = first_by_set file c.args.header.now c.args.places.now c.args.i c.in-Some.at place.1 sees c.in_ok-is_new_place.field-0 c.in_ok-is_new_place.ensures.new in
    not_new file c.args.header.now c.args.i place.0 (sym first ∙ c.if-not-branch.true)

pub returns-in_default-run_of-clause-refused : goal.returns-in_default-run_of-clause-refused
returns-in_default-run_of-clause-refused g c =
    λ file told len sees.
    let some : Tells (bytes_in (kept_of (g.V.Vault.view_of c.args.vault.now)) c.args.f.0) (λ file. length file ≡ c.args.len → (is_block_in file c.args.header.now c.args.i ≡ true) × (entry_at file c.args.header.now c.args.i ≡ pos c.in-Some.at) × (c.read_bucket_of.new.block ≡ block_of file c.args.header.now c.args.i)) = rw c.in-Some.is at c.in_ok-at.ensures.some in
    let place = some file told len in
    let first = first_by_set file c.args.header.now c.args.places.now c.args.i c.in-Some.at place.1 sees c.in_ok-is_new_place.field-0 c.in_ok-is_new_place.ensures.new in
    let new = sym first ∙ c.if-not-branch.false in
    wrong_counts file c.args.header.now c.args.i c.in-Some.at c.read_bucket_of.new.block place.0 place.1 place.2 new c.in_default-run_of.ensures.none

pub returns-in-Some-other-clause-refused : goal.returns-in-Some-other-clause-refused
returns-in-Some-other-clause-refused g c =
    λ file told len sees.
    let some : Tells (bytes_in (kept_of (g.V.Vault.view_of c.args.vault.now)) c.args.f.0) (λ file. length file ≡ c.args.len → (is_block_in file c.args.header.now c.args.i ≡ true) × (entry_at file c.args.header.now c.args.i ≡ pos c.in-Some.at) × (c.read_bucket_of.new.block ≡ block_of file c.args.header.now c.args.i)) = rw c.in-Some.is at c.in_ok-at.ensures.some in
    let place = some file told len in
    let first = first_by_set file c.args.header.now c.args.places.now c.args.i c.in-Some.at place.1 sees c.in_ok-is_new_place.field-0 c.in_ok-is_new_place.ensures.new in
    let new = sym first ∙ c.if-not-branch.false in
    let facts = c.in-Some-run_of.ensures.some in
    let run = run_is file c.args.header.now c.args.i c.in-Some.at c.read_bucket_of.new.block c.in-Some-run_of.run' place.2 facts.1 in
    let told_one = told_then _ _ c.args.f.0 file c.in_ok-at.ensures.same told in
    wrong_run file c.args.header.now c.args.i c.in-Some.at c.read_bucket_of.new.block c.in-Some-run_of.run' place.0 place.2 new facts.0 run c.if-i-run-ne0.false c.in-Some-other.e (sym (c.in_ok-other.ensures.other file told_one len) ∙ c.in-Some-other.is)

pub returns-in-Some-wrong-clause-refused : goal.returns-in-Some-wrong-clause-refused
returns-in-Some-wrong-clause-refused g c =
    λ file told len sees.
    let some : Tells (bytes_in (kept_of (g.V.Vault.view_of c.args.vault.now)) c.args.f.0) (λ file. length file ≡ c.args.len → (is_block_in file c.args.header.now c.args.i ≡ true) × (entry_at file c.args.header.now c.args.i ≡ pos c.in-Some.at) × (c.read_bucket_of.new.block ≡ block_of file c.args.header.now c.args.i)) = rw c.in-Some.is at c.in_ok-at.ensures.some in
    let place = some file told len in
    let first = first_by_set file c.args.header.now c.args.places.now c.args.i c.in-Some.at place.1 sees c.in_ok-is_new_place.field-0 c.in_ok-is_new_place.ensures.new in
    let new = sym first ∙ c.if-not-branch.false in
    let facts = c.in-Some-run_of.ensures.some in
    let run = run_is file c.args.header.now c.args.i c.in-Some.at c.read_bucket_of.new.block c.in-Some-run_of.run' place.2 facts.1 in
    let told_one = told_then _ _ c.args.f.0 file c.in_ok-at.ensures.same told in
    let none = sym (c.in_ok-other.ensures.other file told_one len) ∙ c.in_default-other.is in
    let told_two = told_then _ _ c.args.f.0 file c.in_ok-other.ensures.same told_one in
    wrong_slots file c.args.header.now c.args.i c.in-Some.at c.read_bucket_of.new.block c.in-Some-run_of.run' place.0 place.1 place.2 new facts.0 run c.if-i-run-ne0.false none c.in-Some-wrong.e (sym (c.in_ok-wrong.ensures.refusal file told_two len) ∙ c.in-Some-wrong.is)

pub returns-in-None-clause-run : goal.returns-in-None-clause-run
returns-in-None-clause-run g c =
    λ file told len sees.
    let some : Tells (bytes_in (kept_of (g.V.Vault.view_of c.args.vault.now)) c.args.f.0) (λ file. length file ≡ c.args.len → (is_block_in file c.args.header.now c.args.i ≡ true) × (entry_at file c.args.header.now c.args.i ≡ pos c.in-Some.at) × (c.read_bucket_of.new.block ≡ block_of file c.args.header.now c.args.i)) = rw c.in-Some.is at c.in_ok-at.ensures.some in
    let place = some file told len in
    let first = first_by_set file c.args.header.now c.args.places.now c.args.i c.in-Some.at place.1 sees c.in_ok-is_new_place.field-0 c.in_ok-is_new_place.ensures.new in
    let new = sym first ∙ c.if-not-branch.false in
    let facts = c.in-Some-run_of.ensures.some in
    let run = run_is file c.args.header.now c.args.i c.in-Some.at c.read_bucket_of.new.block c.in-Some-run_of.run' place.2 facts.1 in
    let told_one = told_then _ _ c.args.f.0 file c.in_ok-at.ensures.same told in
    let none = sym (c.in_ok-other.ensures.other file told_one len) ∙ c.in_default-other.is in
    let told_two = told_then _ _ c.args.f.0 file c.in_ok-other.ensures.same told_one in
    (right_entry file c.args.header.now c.args.i c.in-Some.at c.read_bucket_of.new.block c.in-Some-run_of.run' place.0 place.1 place.2 new facts.0 run c.if-i-run-ne0.false none (sym (c.in_ok-wrong.ensures.refusal file told_two len) ∙ c.in-None.is), run)

pub returns-in-None-clause-seen : goal.returns-in-None-clause-seen
returns-in-None-clause-seen g c =
    λ file told len sees.
    let some : Tells (bytes_in (kept_of (g.V.Vault.view_of c.args.vault.now)) c.args.f.0) (λ file. length file ≡ c.args.len → (is_block_in file c.args.header.now c.args.i ≡ true) × (entry_at file c.args.header.now c.args.i ≡ pos c.in-Some.at) × (c.read_bucket_of.new.block ≡ block_of file c.args.header.now c.args.i)) = rw c.in-Some.is at c.in_ok-at.ensures.some in
    let place = some file told len in
    let first = first_by_set file c.args.header.now c.args.places.now c.args.i c.in-Some.at place.1 sees c.in_ok-is_new_place.field-0 c.in_ok-is_new_place.ensures.new in
    let facts = c.in-Some-run_of.ensures.some in
    let run = run_is file c.args.header.now c.args.i c.in-Some.at c.read_bucket_of.new.block c.in-Some-run_of.run' place.2 facts.1 in
    let told_one = told_then _ _ c.args.f.0 file c.in_ok-at.ensures.same told in
    let none = sym (c.in_ok-other.ensures.other file told_one len) ∙ c.in_default-other.is in
    let told_two = told_then _ _ c.args.f.0 file c.in_ok-other.ensures.same told_one in
    places_more file c.args.header.now c.args.i c.in-Some.at c.args.places.now c.is_new_place.new.places place.1 sees c.in_ok-is_new_place.ensures.more c.in-Some-run_of.run' facts.3 none
