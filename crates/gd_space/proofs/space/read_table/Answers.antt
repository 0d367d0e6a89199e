use Rattle.std.proofs.Common.{◌-◌, ℕ, length, List, sym, ap, ◌∙◌, inl, inr, arith}
use Rattle.std.proofs.lemmas.List.{length-take-le}
use Rattle.gd_format.specs.Avail.{Avail, avail_at}
use Rattle.gd_format.specs.Sound.{most_of}
use Rattle.gd_space.proofs.Fits.{room-most}
use Rattle.gd_space.proofs.Tables.{table-read, avail-room, avail-many, avail-length}
use Rattle.gd_space.proofs.space.read_table.Goals as goal

pub returns-then-n-size-clause-bad : goal.returns-then-n-size-clause-bad
returns-then-n-size-clause-bad g c = λ other k told x there.
    let a = (c.in_ok-n.ensures.bytes k x told there).0 in
    let buffer = c.requires.buffer in
    let len = length-take-le (c.args.header.now.block - c.place_in-place.result) c.args.buf.now (omega (arith, buffer)) in
    let short = c.if-n-size.true in
    let most = c.place_in-place.ensures.most in
    let block = c.requires.block in
    inr (omega (arith, a, len, short, most, block))

pub returns-in_default-clause-bad : goal.returns-in_default-clause-bad
returns-in_default-clause-bad g c = λ other k told x there.
    let a = c.in_ok-n.ensures.bytes k x told there in
    let buffer = c.requires.buffer in
    let len = length-take-le (c.args.header.now.block - c.place_in-place.result) c.args.buf.now (omega (arith, buffer)) in
    let kept = c.read_at.auto.buf in
    let whole = c.if-n-size.false in
    let place = c.place_in-place.ensures.is in
    let is = table-read x.bytes c.read_at.new.buf c.args.header.now c.in_ok-n.n (omega (arith, kept, len, place)) (omega (arith, whole, place)) (rw (← place) a.1) in
    inl (rw (← is) (avail-many c.read_at.new.buf c.args.header.now.avail_size c.in_default.ensures.none))

pub returns-then-not-refill-clause-bad : goal.returns-then-not-refill-clause-bad
returns-then-not-refill-clause-bad g c = λ other k told x there.
    let a = c.in_ok-n.ensures.bytes k x told there in
    let buffer = c.requires.buffer in
    let len = length-take-le (c.args.header.now.block - c.place_in-place.result) c.args.buf.now (omega (arith, buffer)) in
    let kept = c.read_at.auto.buf in
    let whole = c.if-n-size.false in
    let place = c.place_in-place.ensures.is in
    let is = table-read x.bytes c.read_at.new.buf c.args.header.now c.in_ok-n.n (omega (arith, kept, len, place)) (omega (arith, whole, place)) (rw (← place) a.1) in
    let room = c.requires.room in
    let cap = c.requires.capacity in
    let most = room-most c.args.header.now.magic c.args.header.now.block in
    let few = avail-room c.read_at.new.buf c.args.header.now.avail_size c.args.table.now.room (omega (arith, room, cap, most)) c.in-Some.ensures.some.0 in
    inl (rw (← is) (few ∙ sym c.refill.ensures.right ∙ c.if-not-refill.true))

pub returns-clause-fits : goal.returns-clause-fits
returns-clause-fits g c =
    let read = ap (λ (t : Avail). length t.extents) (c.refill.ensures.read c.if-not-refill.false) in
    let count = avail-length c.read_at.new.buf c.args.table.now.room in
    let few = c.in-Some.ensures.some.2 in
    let is = c.in-Some.ensures.some.1 in
    omega (arith, read, count, few, is)

pub returns-clause-table : goal.returns-clause-table
returns-clause-table g c = λ k told x there.
    let a = c.in_ok-n.ensures.bytes k x told there in
    let buffer = c.requires.buffer in
    let len = length-take-le (c.args.header.now.block - c.place_in-place.result) c.args.buf.now (omega (arith, buffer)) in
    let kept = c.read_at.auto.buf in
    let whole = c.if-n-size.false in
    let place = c.place_in-place.ensures.is in
    let is = table-read x.bytes c.read_at.new.buf c.args.header.now c.in_ok-n.n (omega (arith, kept, len, place)) (omega (arith, whole, place)) (rw (← place) a.1) in
    c.refill.ensures.read c.if-not-refill.false ∙ ap (avail_at c.read_at.new.buf) c.requires.room ∙ ap (λ (b : List ℕ). avail_at b (most_of c.args.header.now)) is

pub returns-clause-right : goal.returns-clause-right
returns-clause-right g c = λ k told x there.
    let a = c.in_ok-n.ensures.bytes k x told there in
    let buffer = c.requires.buffer in
    let len = length-take-le (c.args.header.now.block - c.place_in-place.result) c.args.buf.now (omega (arith, buffer)) in
    let kept = c.read_at.auto.buf in
    let whole = c.if-n-size.false in
    let place = c.place_in-place.ensures.is in
    let is = table-read x.bytes c.read_at.new.buf c.args.header.now c.in_ok-n.n (omega (arith, kept, len, place)) (omega (arith, whole, place)) (rw (← place) a.1) in
    let room = c.requires.room in
    let cap = c.requires.capacity in
    let most = room-most c.args.header.now.magic c.args.header.now.block in
    let few = avail-room c.read_at.new.buf c.args.header.now.avail_size c.args.table.now.room (omega (arith, room, cap, most)) c.in-Some.ensures.some.0 in
    rw (← is) (few ∙ sym c.refill.ensures.right ∙ c.if-not-refill.false)
