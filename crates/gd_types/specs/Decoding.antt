-- The text of a datum under a definition.
use Rattle.std.specs.Prelude.{◌≡◌, ⊤, ℕ, ◌-◌, ◌==◌, nat_lt, if◌then◌else◌, List, [], ◌∷◌, length, take, drop, slice_get, Option, Some, None, Result, Ok, Err}
use Rattle.std.specs.Fmt.{signed_decimal}
use Rattle.std.specs.List.{flat_map}
use Rattle.gd_base.specs.Streams.{WritesFront, and_then}
use Rattle.gd_types.specs.Members.{Defined, member_places, reached}
use Rattle.gd_types.specs.Printing.{joined, printed}
use Rattle.gd_types.specs.Rows.{Kind, Byte, Number, Rest, ZeroEnded, kind_of, number_in}
use Rattle.gd_types.specs.declared.decoding.Value.{Value}
use Rattle.gd_types.specs.declared.decoding.Value.TheVariants.{Bytes, Decimal}
use Rattle.gd_types.specs.declared.errors.DecodeError.{DecodeError}
use Rattle.gd_types.specs.declared.errors.DecodeError.TheVariants.{Typed, Failed}
use Rattle.gd_types.specs.declared.errors.TypeError.{TypeError}
use Rattle.gd_types.specs.declared.errors.TypeError.TheVariants.{Short, Trailing}
use Rattle.gd_types.specs.declared.members.Member.{Member}
use Rattle.gd_types.specs.declared.members.Member.TheVariants.{Row}

-- a text that ends in its first NUL
abbrev pub zero_fault : List ℕ → Option TypeError
zero_fault [] = Some Short
zero_fault (b ∷ bytes) = if b == 0 then (if length bytes == 0 then None else Some Trailing) else zero_fault bytes

-- no byte is left
abbrev pub left_fault : List ℕ → Option TypeError
left_fault [] = None
left_fault (b ∷ bytes) = Some Trailing

-- the fault of the bytes behind the place reached, which a text as the last member takes
abbrev pub kind_fault : Kind → List ℕ → Option TypeError
kind_fault Rest bytes = None
kind_fault ZeroEnded bytes = zero_fault bytes
kind_fault kind bytes = left_fault bytes

abbrev pub last_member : List Member → Option Member
last_member members = slice_get members (length members - 1)

abbrev pub rest_fault : Option Member → List ℕ → Option TypeError
rest_fault (Some (Row row)) bytes = kind_fault (kind_of row) bytes
rest_fault last bytes = left_fault bytes

-- the refusal of a datum, where it has one
abbrev pub datum_fault : Defined → List ℕ → Option TypeError
datum_fault d bytes = if nat_lt (length bytes) (reached d.members) then Some Short
    else rest_fault (last_member d.members) (drop (reached d.members) bytes)

-- the text of a value at the front of bytes
abbrev pub kind_text : Kind → List ℕ → List ℕ
kind_text Byte bytes = printed (take 1 bytes)
kind_text (Number width signed) bytes = signed_decimal (number_in width signed bytes)
kind_text Rest bytes = printed bytes
kind_text ZeroEnded bytes = printed (take (length bytes - 1) bytes)

-- the text of a member, where it is a value
abbrev pub member_text : List ℕ → Member × ℕ → List (List ℕ)
member_text bytes (Row row, at) = kind_text (kind_of row) (drop at bytes) ∷ []
member_text bytes (member, at) = []

-- the text of a datum without refusal: the texts of the values, with the delimiter between them
abbrev pub datum_text : Defined → List ℕ → List ℕ → List ℕ
datum_text d bytes delim = joined delim (flat_map (member_text bytes) (member_places d))

abbrev pub unless : Option TypeError → List ℕ → Result (List ℕ) TypeError
unless None text = Ok text
unless (Some e) text = Err e

abbrev pub typed_text : Defined → List ℕ → List ℕ → Result (List ℕ) TypeError
typed_text d bytes delim = unless (datum_fault d bytes) (datum_text d bytes delim)

-- a refusal is that of the datum; a failure leaves some front of the text
abbrev pub Stops : DecodeError → Option (List ℕ) → Option (List ℕ) → Result (List ℕ) TypeError → Type 0
Stops (Typed e) old new typed = typed ≡ Err e
Stops Failed old new typed = (text : List ℕ) × (typed ≡ Ok text) × WritesFront old new text

-- what a sink that was told `old` tells now: the whole text was written, or it stopped
abbrev pub Decodes : Result (Unit {0}) DecodeError → Option (List ℕ) → Option (List ℕ) → Result (List ℕ) TypeError → Type 0
Decodes (Ok x) old new typed = (text : List ℕ) × (typed ≡ Ok text) × (new ≡ and_then old text)
Decodes (Err e) old new typed = Stops e old new typed

abbrev pub OfTyped : DecodeError → Type 0 → Type 0
OfTyped (Typed e) P = P
OfTyped Failed P = ⊤

abbrev pub OfFailed : DecodeError → Type 0 → Type 0
OfFailed (Typed e) P = ⊤
OfFailed Failed P = P

-- a fact where the answer is a refusal of the datum
abbrev pub OnTyped : Result (Unit {0}) DecodeError → Type 0 → Type 0
OnTyped (Ok x) P = ⊤
OnTyped (Err e) P = OfTyped e P

-- a fact where the answer is a failure of the sink
abbrev pub OnFailed : Result (Unit {0}) DecodeError → Type 0 → Type 0
OnFailed (Ok x) P = ⊤
OnFailed (Err e) P = OfFailed e P

-- what a value is printed as
abbrev pub value_text : Value → List ℕ
value_text (Bytes bytes) = printed bytes.now
value_text (Decimal z) = signed_decimal z
