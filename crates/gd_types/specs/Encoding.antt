-- The bytes of words under a definition.
use Rattle.std.specs.Prelude.{◌≡◌, ⊤, ℕ, ◌-◌, ◌==◌, if◌then◌else◌, List, [], ◌∷◌, ◌++◌, length, drop, replicate, ℤ, count_by, Result, Ok, Err}
use Rattle.std.specs.List.{list_any}
use Rattle.gd_types.specs.Members.{Defined, has_value, place_after}
use Rattle.gd_types.specs.Numerals.{word_number}
use Rattle.gd_types.specs.Rows.{Kind, Byte, Number, Rest, ZeroEnded, kind_of, number_bytes}
use Rattle.gd_types.specs.declared.errors.EncodeError.{EncodeError}
use Rattle.gd_types.specs.declared.errors.EncodeError.TheVariants.{Typed, OutOfMemory}
use Rattle.gd_types.specs.declared.errors.TypeError.{TypeError}
use Rattle.gd_types.specs.declared.errors.TypeError.TheVariants.{FloatMember, Text}
use Rattle.gd_types.specs.declared.members.Member.{Member}
use Rattle.gd_types.specs.declared.members.Member.TheVariants.{Row, Float, Double, Off, Pad}

-- the bytes of a number that was read
abbrev pub held_bytes : ℕ → Result ℤ TypeError → Result (List ℕ) TypeError
held_bytes width (Ok z) = Ok (number_bytes width z)
held_bytes width (Err e) = Err e

-- the bytes of a word as a value of a kind
abbrev pub word_bytes : Kind → List ℕ → Result (List ℕ) TypeError
word_bytes Byte word = if length word == 1 then Ok word else Err Text
word_bytes (Number width signed) word = held_bytes width (word_number width signed word)
word_bytes Rest word = Ok word
word_bytes ZeroEnded word = if list_any (λ b. b == 0) word then Err Text else Ok (word ++ 0 ∷ [])

-- bytes before others; the first refusal stands
abbrev pub before : Result (List ℕ) TypeError → Result (List ℕ) TypeError → Result (List ℕ) TypeError
before (Ok front) (Ok bytes) = Ok (front ++ bytes)
before (Ok front) (Err e) = Err e
before (Err e) rest = Err e

-- the bytes of one member at a place: zeros for a gap, and for a value those of the next word
abbrev pub one_bytes : ℕ → Member → List (List ℕ) → Result (List ℕ) TypeError
one_bytes at (Off place) words = Ok (replicate (place - at) 0)
one_bytes at (Pad count) words = Ok (replicate count 0)
one_bytes at (Row row) (word ∷ words) = word_bytes (kind_of row) word
one_bytes at (Row row) [] = Err Text
one_bytes at Float words = Err FloatMember
one_bytes at Double words = Err FloatMember

-- the words for the members behind one
abbrev pub words_after : Member → List (List ℕ) → List (List ℕ)
words_after member words = if has_value member then drop 1 words else words

-- the bytes of members from a place on, or the first refusal
abbrev pub member_bytes : ℕ → List Member → List (List ℕ) → Result (List ℕ) TypeError
member_bytes at [] words = Ok []
member_bytes at (member ∷ members) words =
    before (one_bytes at member words) (member_bytes (place_after at member) members (words_after member words))

-- how many values a definition has
abbrev pub value_count : Defined → ℕ
value_count d = count_by has_value d.members

-- the number of words first, and then the members from the left
abbrev pub typed_bytes : Defined → List (List ℕ) → Result (List ℕ) TypeError
typed_bytes d words = if length words == value_count d then member_bytes 0 d.members words else Err Text

-- memory is wanted whatever the words are
abbrev pub Refuses : EncodeError → Result (List ℕ) TypeError → Type 0
Refuses (Typed e) typed = typed ≡ Err e
Refuses OutOfMemory typed = ⊤

abbrev pub Encodes : Result (List ℕ) EncodeError → Result (List ℕ) TypeError → Type 0
Encodes (Ok bytes) typed = typed ≡ Ok bytes
Encodes (Err e) typed = Refuses e typed

-- bytes were put behind those of before, or refused
abbrev pub Appends : List ℕ → List ℕ → Result (Unit {0}) EncodeError → Result (List ℕ) TypeError → Type 0
Appends old new (Ok x) typed = (bytes : List ℕ) × (typed ≡ Ok bytes) × (new ≡ old ++ bytes)
Appends old new (Err e) typed = Refuses e typed
