use Rattle.std.proofs.Common.{◌≡◌, ◌≢◌, ◌≤◌, ◌<◌, ◌∙◌, ap₂, sym, subst, arith, rules, length, ◌++◌, Err, ℕ, List}
use Rattle.std.proofs.lemmas.List.{length-append}
use Rattle.base64.specs.GeneralPurpose.{IsBytes}
use Rattle.gd_dump_reading.specs.AsciiItems.{text_size}
use Rattle.gd_dump_reading.specs.Base64.{base64_text}
use Rattle.gd_dump_reading.proofs.TextParts.{closed-bad, closed-good, closed-short, closed-size}
use Rattle.gd_dump_reading.proofs.text.Text.refusal.Goals as goal

pub returns-then-self-wanted : goal.returns-then-self-wanted
returns-then-self-wanted c = λ end.
    let now = c.args.self.now in
    let all = length-append (base64_text now.bytes.items) now.quad.items in
    let short : now.len < text_size now.size = omega (arith, now.short, c.if-self-wanted.true) in
    closed-short now.bad now.size now.at now.len end (base64_text now.bytes.items ++ now.quad.items) short (λ good. now.counted good ∙ sym all)
    ∙ sym (ap₂ (λ k p. Err (k, p)) c.stop.ensures.0 c.stop.ensures.1)

pub returns-then-self : goal.returns-then-self
returns-then-self c = λ end.
    let now = c.args.self.now in
    closed-bad now.bad now.size now.at now.len end (base64_text now.bytes.items ++ now.quad.items) c.if-self.true (omega (arith, c.if-self-wanted.false))
    ∙ sym (ap₂ (λ k p. Err (k, p)) c.stop-then-self.ensures.0 c.stop-then-self.ensures.1)

pub returns-then-size_of-self : goal.returns-then-size_of-self
returns-then-size_of-self c = λ end.
    let now = c.args.self.now in
    let same : c.deref.result.now ≡ now.bytes.items = search rules in
    let is : IsBytes now.bytes.items = subst IsBytes same c.size_of.ensures.bytes in
    let few : length now.quad.items ≤ 3 = search rules in
    let other : length now.bytes.items ≢ now.size = search rules in
    closed-size now.bad now.size now.at now.len end now.bytes.items now.quad.items c.if-self.false (omega (arith, c.if-self-wanted.false)) (now.counted c.if-self.false) few is other
    ∙ sym (ap₂ (λ k p. Err (k, p)) c.stop-then-size_of-self.ensures.0 c.stop-then-size_of-self.ensures.1)

pub returns : goal.returns
returns c = λ end.
    let now = c.args.self.now in
    let same : c.deref.result.now ≡ now.bytes.items = search rules in
    let is : IsBytes now.bytes.items = subst IsBytes same c.size_of.ensures.bytes in
    let few : length now.quad.items ≤ 3 = search rules in
    let size : length now.bytes.items ≡ now.size = search rules in
    closed-good now.bad now.size now.at now.len end now.bytes.items now.quad.items c.if-self.false (omega (arith, c.if-self-wanted.false)) (now.counted c.if-self.false) few is size
