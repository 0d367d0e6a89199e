-- Headers with another numsync.
use Rattle.std.proofs.Common.{◌≢◌, ℕ, List, length, refl, ◌∙◌}
use Rattle.gd_base.specs.declared.errors.Format.TheVariants.{Standard}
use Rattle.gd_format.specs.declared.Header.{Header}
use Rattle.gd_format.specs.Avail.{Avail}
use Rattle.gd_file_laws.specs.Frame.{written}
use Rattle.gd_numsync.specs.Numbered.{IsKept}
use Rattle.gd_numsync.specs.Open.{AreFit, IsOpenOn}
use Rattle.gd_numsync.specs.Spells.{SpellsFront}
use Rattle.gd_numsync.proofs.Kept.{like_kept}

-- the numsync stands in a header of its format alone
pub fit_numbered : (h : Header) (n : ℕ) (table : Avail) (size : ℕ) → h.format ≢ Standard → AreFit h table size → AreFit (record h { numsync = n }) table size
fit_numbered h n table size other fit = record {
  header = record {
    block = fit.header.block;
    bits = fit.header.bits;
    dir = fit.header.dir;
    elems = fit.header.elems;
    next_block = fit.header.next_block;
    least = fit.header.least;
    most = fit.header.most;
  };
  fields = record {
    format = fit.fields.format;
    block = fit.fields.block;
    dir = fit.fields.dir;
    bits = fit.fields.bits;
    elems = fit.fields.elems;
    next_block = fit.fields.next_block;
    avail_size = fit.fields.avail_size;
    words = λ standard. absurd (other (fit.fields.format ∙ rw standard refl));
  };
  native = fit.native;
  table_fits = fit.table_fits;
  table_room = fit.table_room;
  block_size = fit.block_size;
}

pub kept_numbered : (file front : List ℕ) (h : Header) (n : ℕ) (table : Avail) → h.format ≢ Standard → AreFit h table (length front) → IsOpenOn h table file → SpellsFront (record h { numsync = n }) table front → IsKept (record h { numsync = n }) table file (written file 0 front)
kept_numbered file front h n table other fit o spells =
    like_kept file front h (record h { numsync = n }) table o (record { block = refl; dir = refl; bits = refl; elems = refl; next_block = refl }) (fit_numbered h n table (length front) other fit) spells

-- with nothing changed all stays
pub kept_same : (file : List ℕ) (h : Header) (table : Avail) → IsOpenOn h table file → IsKept h table file file
kept_same file h table o = record { is_open = o; same = refl; lost = refl }
