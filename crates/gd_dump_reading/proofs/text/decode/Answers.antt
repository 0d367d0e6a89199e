use Rattle.std.proofs.Common.{◌≡◌, ◌<◌, ◌≤◌, ◌∙◌, ap, sym, arith, rules, length, ◌++◌, ◌%◌, take, Ok, Err, ℕ, List, vec_len}
use Rattle.std.proofs.lemmas.List.{length-append}
use Rattle.base64.specs.Engines.{standard}
use Rattle.base64.specs.GeneralPurpose.{decode_of}
use Rattle.gd_dump_reading.specs.Base64.{base64_text, strict_bytes}
use Rattle.gd_dump_reading.proofs.Encodes.{bad-none, decoded-size, good-text}
use Rattle.gd_dump_reading.proofs.text.decode.Goals as goal

pub returns-then-is_padded-clause-bad : goal.returns-then-is_padded-clause-bad
returns-then-is_padded-clause-bad c = λ _ more.
    let same : c.deref.result.now ≡ c.args.bytes.now.items = search rules in
    ap (λ (t : List ℕ). strict_bytes (base64_text t ++ (c.args.chars.now ++ more))) (sym same)
    ∙ c.is_padded.ensures.none c.if-is_padded.true (c.args.chars.now ++ more) (omega (arith, length-append c.args.chars.now more, c.requires.some))

pub append-requires : goal.append-requires
append-requires c =
    let chars = c.args.chars.now in
    let new = take c.in-Ok.count c.decode_slice_unchecked.new.output in
    let read : decode_of standard chars ≡ Ok new = c.in-Ok.ensures.ok.0 in
    let size = decoded-size chars new (λ i. let fits = c.type_inv.chars i in omega arith) read in
    omega (arith, size, c.requires.room)

pub returns-in-Ok-clause-good : goal.returns-in-Ok-clause-good
returns-in-Ok-clause-good c = λ _.
    let chars = c.args.chars.now in
    let bytes = c.args.bytes.now.items in
    let new = take c.in-Ok.count c.decode_slice_unchecked.new.output in
    let read : decode_of standard chars ≡ Ok new = c.in-Ok.ensures.ok.0 in
    let whole : length bytes % 3 ≡ 0 = search rules in
    ap base64_text c.append.ensures.items ∙ good-text bytes chars new whole (λ i. let fits = c.type_inv.chars i in omega arith) read

pub returns-in-Ok-clause-len : goal.returns-in-Ok-clause-len
returns-in-Ok-clause-len c =
    let chars = c.args.chars.now in
    let new = take c.in-Ok.count c.decode_slice_unchecked.new.output in
    let read : decode_of standard chars ≡ Ok new = c.in-Ok.ensures.ok.0 in
    let size = decoded-size chars new (λ i. let fits = c.type_inv.chars i in omega arith) read in
    omega (arith, size, c.append.ensures.len)

pub returns-in-Err-clause-bad : goal.returns-in-Err-clause-bad
returns-in-Err-clause-bad c = λ _ more.
    let chars = c.args.chars.now in
    let bytes = c.args.bytes.now.items in
    let whole : length bytes % 3 ≡ 0 = search rules in
    bad-none bytes chars more _ whole c.requires.some c.requires.groups c.in-Err.ensures.err
