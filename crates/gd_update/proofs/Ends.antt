-- Maps by look-ups, and why splits end.
use Rattle.std.proofs.Common.{◌≡◌, ◌≢◌, ℕ, ◌+◌, ◌-◌, ◌^◌, ◌<◌, ◌≤◌, List, ◌++◌, sym, ◌∙◌, arith}
use Rattle.std.specs.Prelude.{◌/◌}
use Rattle.gd_format.specs.declared.Slot.{Slot}
use Rattle.gd_format.specs.HeaderFault.{header_of}
use Rattle.gd_format.specs.File.{front_of, records}
use Rattle.gd_format.specs.Slots.{count, is_full, SameSlots}
use Rattle.gd_format.specs.Sound.{IsSound}
use Rattle.gd_map_laws.specs.Lookup.{value_at}
use Rattle.gd_map_laws.specs.Maps.{pair_map}
use Rattle.gd_map_laws.specs.Slots.{is_bad}
use Rattle.gd_map_laws.specs.Overflow.{is_close}
use Rattle.gd_map_laws.proofs.Lookup.{lookup_exact}
use Rattle.gd_map_laws.proofs.Maps.{same_maps}
use Rattle.gd_map_laws.proofs.Whole.{readable_of}
use Rattle.gd_map_laws.proofs.Overflow.{close_stays, full_has_bits}
use Rattle.gd_update.specs.SplitLaws.{IsNotLast}

pub same_lookups : (old new : List ℕ) → IsSound old → IsSound new → ((key : List ℕ) → value_at new (header_of (front_of new)) key ≡ value_at old (header_of (front_of old)) key) → pair_map (records new) ≡ pair_map (records old)
same_lookups old new sound now same = same_maps (records old) (records new) (λ k. lookup_exact new (readable_of new now) k ∙ same k ∙ sym (lookup_exact old (readable_of old sound) k))

pub splits_end :
    (file : List ℕ) (bits top hash elems : ℕ) (bucket mine other : List Slot) → bits ≤ 24 → count (is_bad file bits top) bucket ≡ 0 → hash / 2 ^ (31 - bits) ≡ top
    → count is_full bucket ≡ elems → count (is_close hash) bucket < elems → SameSlots bucket (mine ++ other)
    → (other_top : ℕ) → count (is_bad file (bits + 1) other_top) other ≡ 0 → hash / 2 ^ (31 - (bits + 1)) ≢ other_top
    → IsNotLast bits hash bucket mine other
splits_end file bits top hash elems bucket mine other le good here full few same other_top good_other away =
    let less = full_has_bits file bits top hash elems bucket le good here full few in
    record { bits_less = less; close = close_stays file (bits + 1) other_top hash bucket mine other (omega (arith, less)) same good_other away }
