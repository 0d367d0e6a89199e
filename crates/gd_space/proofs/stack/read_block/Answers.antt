use Rattle.std.proofs.Common.{◌≡◌, ◌-◌, ◌≤◌, ℕ, min, false, length, take, sym, ap, subst, ◌∙◌, arith}
use Rattle.std.proofs.lemmas.List.{length-take-le}
use Rattle.gd_format.specs.HeaderFault.{natural}
use Rattle.gd_format.specs.Avail.{Avail, count_at, avail_size, is_avail, extents_at, next_at}
use Rattle.gd_space.proofs.Stacks.{count-take, next-take, avail-extents, avail-next}
use Rattle.gd_space.proofs.BlockReads.{too_short, wrong_count, cut_off, body_is, wrong_body, piece}
use Rattle.gd_space.proofs.stack.read_block.Goals as goal

pub returns-then-n-lt16-clause-bad : goal.returns-then-n-lt16-clause-bad
returns-then-n-lt16-clause-bad g c = λ other k told x there. (
    let a = c.in_ok-n.ensures.bytes k x told there in
    let len = length-take-le (avail_size c.args.most) c.args.buf.now c.requires.buffer in
    let n : c.in_ok-n.n ≡ min (avail_size c.args.most) (length x.bytes - c.args.at) = (let b = a.0 in omega (arith, b, len)) in
    too_short x.bytes c.read_at.new.buf c.args.at c.in_ok-n.n c.args.most n a.1 c.if-n-lt16.true)

pub returns-in_default-clause-bad : goal.returns-in_default-clause-bad
returns-in_default-clause-bad g c = λ other k told x there. (
    let a = c.in_ok-n.ensures.bytes k x told there in
    let len = length-take-le (avail_size c.args.most) c.args.buf.now c.requires.buffer in
    let n : c.in_ok-n.n ≡ min (avail_size c.args.most) (length x.bytes - c.args.at) = (let b = a.0 in omega (arith, b, len)) in
    let long : 16 ≤ c.in_ok-n.n = (let b = c.if-n-lt16.false in omega (arith, b)) in
    wrong_count x.bytes c.read_at.new.buf c.args.at c.in_ok-n.n c.args.most n a.1 long c.in_default.ensures.none)

pub returns-then-size-n-clause-bad : goal.returns-then-size-n-clause-bad
returns-then-size-n-clause-bad g c = λ other k told x there. (
    let a = c.in_ok-n.ensures.bytes k x told there in
    let len = length-take-le (avail_size c.args.most) c.args.buf.now c.requires.buffer in
    let n : c.in_ok-n.n ≡ min (avail_size c.args.most) (length x.bytes - c.args.at) = (let b = a.0 in omega (arith, b, len)) in
    let long : 16 ≤ c.in_ok-n.n = (let b = c.if-n-lt16.false in omega (arith, b)) in
    let count = c.in-Some.ensures.some.1 in
    let over = c.if-size-n.true in
    cut_off x.bytes c.read_at.new.buf c.args.at c.in_ok-n.n c.args.most n a.1 long (omega (arith, over, count)))

pub refill-requires-clause-whole : goal.refill-requires-clause-whole
refill-requires-clause-whole g c = λ within.
    let count = c.in-Some.ensures.some.1 in
    let few = c.in-Some.ensures.some.2 in
    let one = count-take (avail_size c.in-Some.count) c.read_at.new.buf (omega arith) in
    let two = count-take 16 c.read_at.new.buf (omega arith) in
    let same = ap natural (one ∙ sym two) in
    let len = length-take-le (avail_size c.args.most) c.args.buf.now c.requires.buffer in
    let part = length-take-le (avail_size c.in-Some.count) c.read_at.new.buf (let kept = c.read_at.auto.buf in omega (arith, kept, len, few)) in
    omega (arith, same, count, part)

pub returns-then-not-refill-clause-bad : goal.returns-then-not-refill-clause-bad
returns-then-not-refill-clause-bad g c = λ other k told x there. (
    let a = c.in_ok-n.ensures.bytes k x told there in
    let len = length-take-le (avail_size c.args.most) c.args.buf.now c.requires.buffer in
    let n : c.in_ok-n.n ≡ min (avail_size c.args.most) (length x.bytes - c.args.at) = (let b = a.0 in omega (arith, b, len)) in
    let long : 16 ≤ c.in_ok-n.n = (let b = c.if-n-lt16.false in omega (arith, b)) in
    let count = c.in-Some.ensures.some.1 in
    let size = c.if-size-n.false in
    let same : is_avail (take (avail_size (natural (count_at (take 16 c.read_at.new.buf)))) c.read_at.new.buf) c.args.most ≡ false =
    rw (← count) (subst (λ (m : ℕ). is_avail (take (avail_size c.in-Some.count) c.read_at.new.buf) m ≡ false) c.requires.room (sym c.refill.ensures.right ∙ c.if-not-refill.true)) in
    wrong_body x.bytes c.read_at.new.buf c.args.at c.in_ok-n.n c.args.most n a.1 long (omega (arith, size, count)) same)

pub returns-clause-extents : goal.returns-clause-extents
returns-clause-extents g c = λ k told x there.
    let a = c.in_ok-n.ensures.bytes k x told there in
    let len = length-take-le (avail_size c.args.most) c.args.buf.now c.requires.buffer in
    let n : c.in_ok-n.n ≡ min (avail_size c.args.most) (length x.bytes - c.args.at) = (let b = a.0 in omega (arith, b, len)) in
    let long : 16 ≤ c.in_ok-n.n = (let b = c.if-n-lt16.false in omega (arith, b)) in
    let count = c.in-Some.ensures.some.1 in
    let size = c.if-size-n.false in
    ap (λ (z : Avail). z.extents) (c.refill.ensures.read c.if-not-refill.false) ∙ avail-extents (take (avail_size c.in-Some.count) c.read_at.new.buf) c.args.spare.now.room ∙ ap (λ (m : ℕ). extents_at (take (avail_size m) c.read_at.new.buf)) count
    ∙ ap extents_at (body_is x.bytes c.read_at.new.buf c.args.at c.in_ok-n.n c.args.most n a.1 long (omega (arith, size, count)))

pub returns-clause-next : goal.returns-clause-next
returns-clause-next g c = λ k told x there.
    let a = c.in_ok-n.ensures.bytes k x told there in
    let len = length-take-le (avail_size c.args.most) c.args.buf.now c.requires.buffer in
    let n : c.in_ok-n.n ≡ min (avail_size c.args.most) (length x.bytes - c.args.at) = (let b = a.0 in omega (arith, b, len)) in
    let long : 16 ≤ c.in_ok-n.n = (let b = c.if-n-lt16.false in omega (arith, b)) in
    ap (λ (z : Avail). z.next_block) (c.refill.ensures.read c.if-not-refill.false) ∙ avail-next (take (avail_size c.in-Some.count) c.read_at.new.buf) c.args.spare.now.room ∙ next-take (avail_size c.in-Some.count) c.read_at.new.buf (omega arith) ∙ sym (next-take 16 c.read_at.new.buf (omega arith))
    ∙ ap next_at (piece x.bytes c.read_at.new.buf c.args.at c.in_ok-n.n c.args.most n a.1 16 long)
