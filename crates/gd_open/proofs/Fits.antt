-- The parts of an open file stay fit.
use Rattle.std.proofs.Common.{◌≡◌, ℕ, ◌+◌, ◌*◌, ◌^◌, ◌<◌, ◌≤◌, length, refl, sym, ap, subst, ◌∙◌, arith}
use Rattle.std.specs.Prelude.{Result, Ok, Err, OnOk, IfErr}
use Rattle.std.proofs.Math.Nat.{pow-le-pow_right}
use Rattle.gd_format.specs.declared.Header.{Header}
use Rattle.gd_format.specs.Avail.{Avail}
use Rattle.gd_format.specs.Headers.{IsHeader}
use Rattle.gd_format.specs.HeaderFault.{dir_size_of}
use Rattle.gd_layout.specs.Fits.{FitsHeader}
use Rattle.gd_open.specs.Open.{AreFit}

-- another end of space
pub header_grown : (h : Header) (n : ℕ) → IsHeader h → n ≤ 2 ^ 46 → IsHeader (record h { next_block = n })
header_grown h n is le = record { block = is.block; bits = is.bits; dir = is.dir; elems = is.elems; next_block = le; least = is.least; most = is.most }

fields_grown : (h : Header) (n : ℕ) → FitsHeader h → n ≤ 2 ^ 46 → FitsHeader (record h { next_block = n })
fields_grown h n is le = record { format = is.format; block = is.block; dir = is.dir; bits = is.bits; elems = is.elems; next_block = omega (arith, le); avail_size = is.avail_size; words = is.words }

pub fit_grown : (h h' : Header) (table table' : Avail) (size : ℕ) → AreFit h table size → h' ≡ record h { next_block = h'.next_block } → h'.next_block ≤ 2 ^ 46 → length table'.extents ≤ h.avail_size → table'.room ≡ table.room → AreFit h' table' size
fit_grown h h' table table' size fit is below fits room =
    subst (λ (k : Header). AreFit k table' size) (sym is)
    (record {
      header = header_grown h h'.next_block fit.header below;
      fields = fields_grown h h'.next_block fit.fields below;
      native = fit.native;
      table_fits = fits;
      table_room = room ∙ fit.table_room;
      block_size = fit.block_size;
    })

-- where a call that failed leaves the header
pub grown : {T E : Type 0} (r : Result T E) (h h' : Header) → h.next_block ≤ 2 ^ 46 → OnOk r (h' ≡ record h { next_block = h'.next_block }) → OnOk r (h'.next_block ≤ 2 ^ 46) → IfErr r (λ e. h' ≡ h) → (h' ≡ record h { next_block = h'.next_block }) × (h'.next_block ≤ 2 ^ 46)
grown (Ok t) h h' next is below same = (is, below)
grown (Err e) h h' next is below same = (subst (λ (k : Header). k ≡ record h { next_block = k.next_block }) (sym same) refl, subst (λ (k : Header). k.next_block ≤ 2 ^ 46) (sym same) next)
