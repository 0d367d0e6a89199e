use Rattle.std.proofs.Common.{◌≡◌, false, true, length, ap, ◌∙◌}
use Rattle.gd_format.specs.File.{are_fields_right, is_record_in, key_of, value_of}
use Rattle.gd_readable.specs.Asks.{kept_of, bytes_in, Tells}
use Rattle.gd_readable.proofs.Left.{record_of_walk, fields_of_walk, slot_left, walk_slot}
use Rattle.gd_readable.proofs.walking.next_in_block.Goals as goal

pub returns-in-Some-pair-clause-some : goal.returns-in-Some-pair-clause-some
returns-in-Some-pair-clause-some g c =
    λ file told w.
    let found = c.in-Some.ensures.some in
    let inside : is_record_in (length file) c.raw_slot.result ≡ true = rw c.raw_slot.ensures (record_of_walk file c.args.header.now c.args.entry c.args.block.now c.args.slot w c.in-Some.s found.0 found.1 found.2) in
    let pair : Tells (bytes_in (kept_of (g.V.Vault.view_of c.args.vault.now)) c.args.f.0) (λ file. is_record_in (length file) c.raw_slot.result ≡ true → (c.in-Some-pair.pair.0 ≡ key_of file c.raw_slot.result) × (c.in-Some-pair.pair.1 ≡ value_of file c.raw_slot.result)) = rw c.in-Some-pair.is at c.in_ok-pair.ensures.pair in
    let both = pair file told inside in (
      slot_left file c.args.header.now c.args.entry c.args.block.now c.args.slot w c.in-Some.s c.in-Some-pair.pair.0 c.in-Some-pair.pair.1 found.3 (both.0 ∙ ap (key_of file) c.raw_slot.ensures) (both.1 ∙ ap (value_of file) c.raw_slot.ensures),
      walk_slot file c.args.header.now c.args.entry c.args.block.now c.args.slot w c.in-Some.s found.0 found.1,
    )

pub returns-in-None-clause-failed : goal.returns-in-None-clause-failed
returns-in-None-clause-failed g c =
    λ file told w.
    let found = c.in-Some.ensures.some in
    let inside : is_record_in (length file) c.raw_slot.result ≡ true = rw c.raw_slot.ensures (record_of_walk file c.args.header.now c.args.entry c.args.block.now c.args.slot w c.in-Some.s found.0 found.1 found.2) in
    let fields : are_fields_right c.raw_slot.result ≡ true = rw c.raw_slot.ensures (fields_of_walk file c.args.header.now c.args.entry c.args.block.now c.args.slot w c.in-Some.s found.0 found.1 found.2) in
    let bad : false ≡ true = rw c.in-None.is at (c.in_ok-pair.ensures.whole file told fields inside) in
    cc bad
