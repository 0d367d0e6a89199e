-- The headers of a trial.
use Rattle.std.proofs.Common.{◌≡◌, ℕ, ◌^◌, ◌≤◌, length, sym, ap, subst, ◌∙◌}
use Rattle.gd_format.specs.declared.Header.{Header}
use Rattle.gd_format.specs.HeaderFault.{table_room}
use Rattle.gd_format.specs.Headers.{IsHeader}
use Rattle.gd_space.specs.Held.{HeldSpace}
use Rattle.gd_space.specs.Trial.{FitsTrial}

pub room_512 : (h : Header) → h.magic ≡ 0x13579acf → h.block ≡ 512 → table_room h.magic h.block ≡ 28
room_512 h m b = ap (λ (k : ℕ). table_room k h.block) m ∙ ap (table_room 0x13579acf) b

recut_header : (h : Header) (next capacity : ℕ) → IsHeader h → next ≤ 2 ^ 46 → 2 ≤ capacity → capacity ≤ table_room h.magic h.block → IsHeader (record h { next_block = next; avail_size = capacity })
recut_header h next capacity is le least most = record { block = is.block; bits = is.bits; dir = is.dir; elems = is.elems; next_block = le; least = least; most = most }

pub trial_recut : (h h' : Header) (s s' : HeldSpace) (capacity : ℕ) → FitsTrial h s → 2 ≤ capacity → capacity ≤ table_room h.magic h.block → h' ≡ record h { next_block = h'.next_block; avail_size = capacity } → h'.next_block ≤ 2 ^ 46 → s'.block ≡ s.block → length s'.table.extents ≤ capacity → FitsTrial h' s'
trial_recut h h' s s' capacity t least most is le same fits =
    subst (λ (k : Header). FitsTrial k s') (sym is) (record { header = recut_header h h'.next_block capacity t.header le least most; magic = t.magic; small = t.small; block = same ∙ t.block; fits = fits })
