-- The table of free space in the header's block.
use Rattle.std.proofs.Common.{◌≡◌, ℕ, ◌+◌, ◌-◌, ◌/◌, ◌≤◌, true, leb, List, length, map, take, drop, length-drop, ap, ◌∙◌, arith}
use Rattle.std.specs.Prelude.{ℤ, pos}
use Rattle.std.proofs.lemmas.List.{drop-take, take_all}
use Rattle.std.proofs.lemmas.Bool.{leb-true}
use Rattle.gd_format.specs.declared.Header.{Header}
use Rattle.gd_format.specs.Headers.{IsHeader}
use Rattle.gd_format.specs.Field.{bytes_at}
use Rattle.gd_format.specs.HeaderFault.{is_block_size, is_within, natural}
use Rattle.gd_format.specs.Avail.{avail_size, extents_at}
use Rattle.gd_format.specs.Sound.{held_by, place_of, table_held, table_of}
use Rattle.gd_format.proofs.Firsts.{and-true}
use Rattle.gd_verify.proofs.Stacks.{within-le}

is_block_within : (z : ℤ) → is_block_size z ≡ true → is_within z 512 1048576 ≡ true
unfolding is_block_size
is_block_within z h = (and-true _ _ h).0

pub header_block : (h : Header) → IsHeader h → (512 ≤ h.block) × (h.block ≤ 1048576)
header_block h head =
    let both = and-true (leb 512 h.block) (leb h.block 1048576) (is_block_within (pos h.block) head.block) in
    (leb-true 512 h.block both.0, leb-true h.block 1048576 both.1)

pub table_fits : (h : Header) (place : ℕ) (z : ℤ) → IsHeader h → place ≡ place_of h → place ≤ 72 → is_within z 0 h.avail_size ≡ true → avail_size (natural z) ≤ h.block - place
table_fits h place z head is small within =
    let few = within-le z h.avail_size within in
    let block = header_block h head in
    let most : h.avail_size ≤ (h.block - (place + 16)) / 16 = rw is head.most in
    omega (arith, few, block, most)

pub table_is : (file block : List ℕ) (h : Header) (place : ℕ) → IsHeader h → place ≡ place_of h → place ≤ 72 → block ≡ bytes_at file 0 h.block → take (length block - place) (drop place block) ≡ table_of file h
unfolding table_of
table_is file block h place head is small read =
    let low = header_block h head in
    let whole : place + (h.block - place) ≡ h.block = omega arith in
    let parts = drop-take place (h.block - place) file in
    let front : drop place (take h.block file) ≡ take (h.block - place) (drop place file) = rw whole at parts in
    take_all (length block - place) (drop place block) (omega (arith, length-drop place block)) ∙ ap (drop place) read ∙ front ∙ ap (λ (k : ℕ). bytes_at file k (h.block - k)) is

pub table_held_is : (file table : List ℕ) (h : Header) (by : ℕ) → table ≡ table_of file h → by ≡ place_of h → map (held_by by) (extents_at table) ≡ table_held file h
unfolding table_held
table_held_is file table h by is place = ap (λ (k : ℕ). map (held_by k) (extents_at table)) place ∙ ap (λ (xs : List ℕ). map (held_by (place_of h)) (extents_at xs)) is
