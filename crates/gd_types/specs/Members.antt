-- Definitions: the places of their members, and which member may come next.
use Rattle.std.specs.Prelude.{◌≡◌, ℕ, ◌+◌, ◌^◌, Bool, true, false, not, if◌then◌else◌, ◌&&◌, ◌||◌, ◌==◌, nat_lt, nat_le, List, [], ◌∷◌, length}
use Rattle.std.specs.List.{list_any}
use Rattle.gd_types.specs.Rows.{kind_of, kind_width}
use Rattle.gd_types.specs.declared.members.Member.{Member}
use Rattle.gd_types.specs.declared.members.Member.TheVariants.{Row, Float, Double, Off, Pad}

-- the members in their order, and whether they were written with braces
pub record Defined : Type 0 where
  pub members : List Member
  pub braces : Bool

-- the place behind a member that stands at a place; a text takes what is left, and is not counted
abbrev pub place_after : ℕ → Member → ℕ
place_after at (Row row) = at + kind_width (kind_of row)
place_after at Float = at + 4
place_after at Double = at + 8
place_after at (Off place) = place
place_after at (Pad count) = at + count

-- the members from a place on, each with its place
abbrev pub placed : ℕ → List Member → List (Member × ℕ)
placed at [] = []
placed at (member ∷ members) = (member, at) ∷ placed (place_after at member) members

abbrev pub member_places : Defined → List (Member × ℕ)
member_places d = placed 0 d.members

-- the place reached behind the members from a place on
abbrev pub reached_from : ℕ → List Member → ℕ
reached_from at [] = at
reached_from at (member ∷ members) = reached_from (place_after at member) members

abbrev pub reached : List Member → ℕ
reached members = reached_from 0 members

-- string and stringz, the last two rows
abbrev pub is_text : Member → Bool
is_text (Row row) = nat_le 9 row
is_text member = false

-- a value, and no gap
abbrev pub has_value : Member → Bool
has_value (Off place) = false
has_value (Pad count) = false
has_value member = true

abbrev pub is_row : Member → Bool
is_row (Row row) = true
is_row member = false

abbrev pub is_float : Member → Bool
is_float Float = true
is_float Double = true
is_float member = false

abbrev pub has_float : Defined → Bool
has_float d = list_any is_float d.members

-- a row that is there, or a gap that isn't too large
abbrev pub is_within : Member → Bool
is_within (Row row) = nat_lt row 11
is_within (Off place) = nat_le place 65536
is_within (Pad count) = nat_le count 65536
is_within member = true

-- a place that isn't behind the place reached
abbrev pub goes_on : ℕ → Member → Bool
goes_on at (Off place) = nat_le at place
goes_on at member = true

-- a member for a place
abbrev pub fits_at : ℕ → Member → Bool
fits_at at member = (is_within member && goes_on at member) && nat_le (place_after at member) (2 ^ 48)

-- a list in braces goes on; without braces there is one member, and it is a value
abbrev pub has_room : Defined → Member → Bool
has_room d member = d.braces || (length d.members == 0 && has_value member)

-- whether a member may come next
abbrev pub accepts : Defined → Member → Bool
accepts d member = (fits_at (reached d.members) member && not (list_any is_text d.members)) && has_room d member

-- the members from a place on were accepted one after another: each fits at its place, and a text is the last one
abbrev pub is_made_from : ℕ → List Member → Bool
is_made_from at [] = true
is_made_from at (member ∷ members) =
    fits_at at member && (if is_text member then length members == 0 else is_made_from (place_after at member) members)

-- what a definition keeps beside its members
pub record IsSound (members : List Member) (end : ℕ) (closed : Bool) : Type 0 where
  pub made : is_made_from 0 members ≡ true
  pub place : end ≡ reached members
  pub ended : closed ≡ list_any is_text members
