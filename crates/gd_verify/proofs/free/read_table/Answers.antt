use Rattle.std.proofs.Common.{◌≡◌, ◌++◌, List, ◌-◌, length, take, drop, sym, ap, ◌∙◌, arith}
use Rattle.std.specs.Prelude.{ℕ}
use Rattle.gd_format.specs.declared.Held.{Held}
use Rattle.gd_format.specs.Field.{bytes_at}
use Rattle.gd_format.specs.Avail.{is_avail, next_at}
use Rattle.gd_format.specs.Sound.{table_of}
use Rattle.gd_verify.proofs.Tables.{table_is, table_held_is}
use Rattle.gd_verify.proofs.free.read_table.Goals as goal

pub returns-then-not-right-clause-wrong : goal.returns-then-not-right-clause-wrong
returns-then-not-right-clause-wrong g c =
    λ file told read.
    let size = c.requires.size in
    let fits = read.inside.fits in
    let whole = c.in_ok-fill.ensures.read file told (omega (arith, size, fits)) in
    let place = c.table_place-place.ensures in
    let table : take (length c.fill.new.buf - c.table_place-place.result) (drop c.table_place-place.result c.fill.new.buf) ≡ table_of file c.args.header.now = table_is file c.fill.new.buf c.args.header.now c.table_place-place.result c.requires.header place.place place.most (whole ∙ ap (bytes_at file 0) size) in
    ap (λ (xs : List ℕ). is_avail xs c.args.header.now.avail_size) (sym table) ∙ sym c.in-Ok.ensures.right ∙ c.if-not-right.true

pub returns-clause-right : goal.returns-clause-right
returns-clause-right g c =
    λ file told read.
    let size = c.requires.size in
    let fits = read.inside.fits in
    let whole = c.in_ok-fill.ensures.read file told (omega (arith, size, fits)) in
    let place = c.table_place-place.ensures in
    let table : take (length c.fill.new.buf - c.table_place-place.result) (drop c.table_place-place.result c.fill.new.buf) ≡ table_of file c.args.header.now = table_is file c.fill.new.buf c.args.header.now c.table_place-place.result c.requires.header place.place place.most (whole ∙ ap (bytes_at file 0) size) in (
      ap (λ (xs : List ℕ). is_avail xs c.args.header.now.avail_size) (sym table) ∙ sym c.in-Ok.ensures.right ∙ c.if-not-right.false,
      c.next_of.ensures ∙ ap next_at table,
      c.in-Ok.ensures.held c.if-not-right.false ∙ ap (λ (xs : List Held). c.args.list.now.items ++ xs) (table_held_is file _ c.args.header.now _ table (c.from.ensures ∙ place.place)),
    )
