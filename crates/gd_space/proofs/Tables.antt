-- What a read of the table of a header tells.
use Rattle.std.proofs.Common.{◌≡◌, ℕ, ◌-◌, ◌≤◌, Bool, true, false, ◌&&◌, List, length, take, drop, sym, ap, ◌∙◌, pos, arith}
use Rattle.std.specs.Prelude.{nat_le, ℤ, negsuc}
use Rattle.std.proofs.lemmas.Bool.{leb-true, le-leb}
use Rattle.std.proofs.lemmas.List.{take-take, take_all}
use Rattle.gd_format.specs.declared.Header.{Header}
use Rattle.gd_format.specs.First.{all_below}
use Rattle.gd_format.specs.HeaderFault.{natural, is_within}
use Rattle.gd_format.specs.Avail.{count_at, is_avail, is_extent_right_at, avail_at, extent_at}
use Rattle.gd_format.specs.Sound.{table_of, place_of}
use Rattle.gd_format.proofs.Firsts.{and-true, both_true, length-list_below}

-- a read that filled the buffer gave the table
pub table-read : (file part : List ℕ) (h : Header) (n : ℕ) → length part ≡ h.block - place_of h → h.block - place_of h ≤ n → take n part ≡ take n (drop (place_of h) file) → part ≡ table_of file h
unfolding table_of
table-read file part h n len le read =
    sym (take_all (h.block - place_of h) part (omega (arith, len))) ∙ sym (take-take (h.block - place_of h) n part le) ∙ ap (take (h.block - place_of h)) read
    ∙ take-take (h.block - place_of h) n (drop (place_of h) file) le

within_more : (z : ℤ) (few most : ℕ) → few ≤ most → is_within z 0 few ≡ true → is_within z 0 most ≡ true
within_more (pos n) few most le h = both_true (nat_le 0 n) (nat_le n most) (le-leb 0 n (omega arith)) (le-leb n most (let a = leb-true n few (and-true (nat_le 0 n) (nat_le n few) h).1 in omega (arith, a, le)))
within_more (negsuc n) few most le h = h

-- a block with few extents is judged alike for each room
pub avail-room : (block : List ℕ) (few most : ℕ) → few ≤ most → is_within (count_at block) 0 few ≡ true → is_avail block few ≡ is_avail block most
unfolding is_avail
avail-room block few most le h =
    ap (λ (b : Bool). b && all_below (natural (count_at block)) (is_extent_right_at block)) (h ∙ sym (within_more (count_at block) few most le h))

pub avail-many : (block : List ℕ) (most : ℕ) → is_within (count_at block) 0 most ≡ false → is_avail block most ≡ false
unfolding is_avail
avail-many block most h = ap (λ (b : Bool). b && all_below (natural (count_at block)) (is_extent_right_at block)) h

pub avail-length : (block : List ℕ) (most : ℕ) → length (avail_at block most).extents ≡ natural (count_at block)
unfolding avail_at
avail-length block most = length-list_below (extent_at block) (natural (count_at block))
