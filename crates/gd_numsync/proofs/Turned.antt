-- Headers in the other format.
use Rattle.std.proofs.Common.{◌≡◌, ◌≤◌, ◌<◌, ◌^◌, ℕ, true, List, length, refl, arith}
use Rattle.gd_base.specs.declared.errors.Format.{Format}
use Rattle.gd_base.specs.declared.errors.Format.TheVariants.{Standard, Numsync}
use Rattle.gd_format.specs.declared.Header.{Header}
use Rattle.gd_format.specs.Avail.{Avail}
use Rattle.gd_format.specs.HeaderFault.{is_native}
use Rattle.gd_layout.specs.Fits.{FitsHeader}
use Rattle.gd_file_laws.specs.Frame.{written}
use Rattle.gd_space.proofs.Fits.{bounds}
use Rattle.gd_numsync.specs.Converted.{magic_of, room_in, turned}
use Rattle.gd_numsync.specs.Numbered.{IsKept}
use Rattle.gd_numsync.specs.Open.{AreFit, IsOpenOn}
use Rattle.gd_numsync.specs.Spells.{SpellsFront}
use Rattle.gd_numsync.proofs.Kept.{like_kept}

native_of : (wanted : Format) → is_native (magic_of wanted) ≡ true
unfolding is_native
native_of Standard = refl
native_of Numsync = refl

pub room_least : (wanted : Format) (h : Header) → 512 ≤ h.block → 2 ≤ room_in wanted h
room_least Standard h le = omega (arith, le)
room_least Numsync h le = omega (arith, le)

room_small : (wanted : Format) (h : Header) → h.block ≤ 1048576 → room_in wanted h < 2 ^ 31
room_small Standard h le = omega (arith, le)
room_small Numsync h le = omega (arith, le)

fields_turned : (wanted : Format) (h : Header) → h.block ≤ 1048576 → FitsHeader h → FitsHeader (turned h wanted)
fields_turned Standard h le fit = record { format = refl; block = fit.block; dir = fit.dir; bits = fit.bits; elems = fit.elems; next_block = fit.next_block; avail_size = room_small Standard h le; words = λ e. (refl, refl, refl) }
fields_turned Numsync h le fit = record { format = refl; block = fit.block; dir = fit.dir; bits = fit.bits; elems = fit.elems; next_block = fit.next_block; avail_size = room_small Numsync h le; words = λ e. (refl, refl, refl) }

pub fit_turned : (h : Header) (wanted : Format) (table : Avail) (size : ℕ) → length table.extents ≤ room_in wanted h → AreFit h table size → AreFit (turned h wanted) table size
fit_turned h wanted table size few fit = record {
  header = record {
    block = fit.header.block;
    bits = fit.header.bits;
    dir = fit.header.dir;
    elems = fit.header.elems;
    next_block = fit.header.next_block;
    least = room_least wanted h (bounds h fit.header).least;
    most = omega arith;
  };
  fields = fields_turned wanted h (bounds h fit.header).most fit.fields;
  native = native_of wanted;
  table_fits = few;
  table_room = fit.table_room;
  block_size = fit.block_size;
}

pub kept_turned : (file front : List ℕ) (h : Header) (wanted : Format) (table : Avail) → length table.extents ≤ room_in wanted h → AreFit h table (length front) → IsOpenOn h table file → SpellsFront (turned h wanted) table front → IsKept (turned h wanted) table file (written file 0 front)
kept_turned file front h wanted table few fit o spells =
    like_kept file front h (turned h wanted) table o (record { block = refl; dir = refl; bits = refl; elems = refl; next_block = refl }) (fit_turned h wanted table (length front) few fit) spells
