-- What the bytes of a pair that have come say of its size.
use Rattle.std.specs.Prelude.{◌≡◌, ◌⊎◌, ℕ, zero, suc, nat_lt, if◌then◌else◌, ◌+◌, ◌^◌, ◌≤◌, ◌<◌, List, length, drop, min}
use Rattle.gd_dump_reading.specs.BinaryItems.{number_at}
use Rattle.gd_dump_reading.specs.declared.binary_machine.Demand.{Demand}
use Rattle.gd_dump_reading.specs.declared.binary_machine.Demand.TheVariants.{More, Whole, TooLarge}
use Rattle.gd_dump_reading.specs.declared.binary_machine.Phase.{Phase}
use Rattle.gd_dump_reading.specs.declared.binary_machine.Phase.TheVariants.{Head, Pairs, Ended}

-- the key's length, and then the value's
abbrev pub HasKey : List ℕ → ℕ → Type 0
HasKey held k = (4 ≤ length held) × (k ≡ number_at held)

abbrev pub HasSizes : List ℕ → ℕ → ℕ → Type 0
HasSizes held k v = HasKey held k × (k ≤ 2 ^ 30) × (8 + k ≤ length held) × (v ≡ number_at (drop (4 + k) held))

-- up to so many bytes nothing more is known
abbrev pub needed : List ℕ → ℕ
needed held =
    let k = number_at held in
    if nat_lt (length held) 4 then 4
    else (if nat_lt (length held) (8 + k) then 8 + k
    else 8 + k + number_at (drop (4 + k) held))

-- how many bytes may be held
abbrev pub room : Phase → List ℕ → ℕ
room (Head zero) held = 0
room (Head (suc n)) held = 65537
room Pairs held = needed held
room Ended held = 0

-- n bytes of a pair fit both lists
abbrev pub pair_room : Phase → (first second n : ℕ) → ℕ
pair_room Pairs first second n = min first second
pair_room phase first second n = n

-- no length that has come is too large
abbrev pub MaySize : List ℕ → Type 0
MaySize held = (4 ≤ length held → number_at held ≤ 2 ^ 30) × (4 ≤ length held → 8 + number_at held ≤ length held → number_at held + number_at (drop (4 + number_at held) held) ≤ 2 ^ 30)

abbrev pub DemandIs : List ℕ → Demand → Type 0
DemandIs held (More n) = (length held < n) × (n ≡ needed held) × MaySize held
DemandIs held (Whole k v) = HasSizes held k v × (k + v ≤ 2 ^ 30) × (8 + k + v ≤ length held)
DemandIs held (TooLarge at) = (k : ℕ) × ((HasKey held k × (2 ^ 30 < k) × (at ≡ 0)) ⊎ ((v : ℕ) × HasSizes held k v × (2 ^ 30 < k + v) × (at ≡ 4 + k)))
