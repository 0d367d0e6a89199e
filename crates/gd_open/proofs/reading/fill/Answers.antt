use Rattle.std.proofs.Common.{◌≡◌, ◌-◌, ℕ, length, take, drop, eq-eqb, sym, ap, ◌∙◌, arith}
use Rattle.std.proofs.lemmas.List.{take_all}
use Rattle.gd_open.proofs.reading.fill.Goals as goal

pub returns-clause-whole : goal.returns-clause-whole
returns-clause-whole g c = λ k x told there inside.
    let n = (c.in_ok-n.ensures.bytes k x told there).0 in
    let size = c.read_at.auto.buf in
    eq-eqb c.in_ok-n.n (length c.read_at.new.buf) (omega (arith, n, size, inside))

pub returns-clause-read : goal.returns-clause-read
returns-clause-read g c = λ k x told there inside.
    let b = c.in_ok-n.ensures.bytes k x told there in
    let n = b.0 in
    let size = c.read_at.auto.buf in
    let whole : c.in_ok-n.n ≡ length c.args.buf.now = omega (arith, n, inside) in
    sym (take_all c.in_ok-n.n c.read_at.new.buf (omega (arith, whole, size))) ∙ b.1 ∙ ap (λ (m : ℕ). take m (drop c.args.at x.bytes)) whole
