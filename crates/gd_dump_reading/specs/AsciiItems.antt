-- What an ASCII dump is read as.
use Rattle.std.specs.Prelude.{ℕ, ◌+◌, ◌*◌, ◌/◌, ◌^◌, ◌==◌, ◌&&◌, not, nat_lt, Bool, true, false, List, [], ◌∷◌, ◌++◌, length, drop, codes, Option, Some, None, Result, Ok, Err, eqb, if◌then◌else◌}
use Rattle.std.specs.List.{starts_with}
use Rattle.std.specs.Str.{bytes_eq}
use Rattle.gd_dump_reading.specs.Base64.{strict_bytes}
use Rattle.gd_dump_reading.specs.Numbers.{is_number, value_of}
use Rattle.gd_dump_reading.specs.Params.{no_names, with_line}
use Rattle.gd_dump_reading.specs.Told.{Told, given, nothing, pairs_of, refused}
use Rattle.gd_dump_reading.specs.declared.items.DumpKind.{DumpKind}
use Rattle.gd_dump_reading.specs.declared.items.DumpKind.TheVariants.{Version, Parameter, Length, Base64, Count, Truncated, TooLarge}
use Rattle.gd_dump_reading.specs.declared.items.Item.TheVariants.{Head, Pair, End}
use Rattle.gd_dump_reading.specs.Params.{Named}

-- ---- lines

-- a line, and whether a line feed stands behind it: the last line may lack it
pub record Line : Type 0 where
  pub text : List ℕ
  pub ended : Bool

-- a byte more at the front
abbrev pub before : ℕ → List Line → List Line
before b [] = (record { text = b ∷ []; ended = false }) ∷ []
before b (l ∷ ls) = (record { text = b ∷ l.text; ended = l.ended }) ∷ ls

abbrev pub lines_in : List ℕ → List Line
lines_in [] = []
lines_in (b ∷ bytes) = if b == 10 then (record { text = []; ended = true }) ∷ lines_in bytes else before b (lines_in bytes)

abbrev pub size_of : Line → ℕ
size_of l = length l.text + (if l.ended then 1 else 0)

abbrev pub sizes : List Line → ℕ
sizes [] = 0
sizes (l ∷ ls) = size_of l + sizes ls

abbrev pub joined : List Line → List ℕ
joined [] = []
joined (l ∷ ls) = l.text ++ joined ls

-- a line that begins with '#', with the lines up to the next such line
pub record Section : Type 0 where
  pub line : Line
  pub body : List Line

-- a line before the others
abbrev pub section_step : Line → List Line × List Section → List Line × List Section
section_step l (body, sections) = if starts_with eqb l.text (codes "#") then ([], (record { line = l; body = body }) ∷ sections) else (l ∷ body, sections)

-- the lines before the first that begins with '#', and the sections
abbrev pub parted : List Line → List Line × List Section
parted [] = ([], [])
parted (l ∷ ls) = section_step l (parted ls)

-- a line that does not begin with '#' has no place here
abbrev pub unless_body : ℕ → List Line → Told → Told
unless_body place [] told = told
unless_body place (l ∷ ls) told = refused Parameter place

-- a line that begins with '#' and is no parameter
abbrev pub is_comment : List ℕ → Bool
is_comment text = not (starts_with eqb text (codes "#:"))

-- ---- behind the count

abbrev pub end_told : ℕ → List Section → Told
end_told place [] = refused Truncated place
end_told place (s ∷ ss) =
    let next = place + size_of s.line in
    if bytes_eq s.line.text (codes "# End of data") then given End next nothing
    else (if is_comment s.line.text then unless_body next s.body (end_told next ss) else refused Parameter place)

-- ---- a datum

-- how many characters a datum of n bytes has
abbrev pub text_size : ℕ → ℕ
text_size n = 4 * ((n + 2) / 3)

abbrev pub decoded : ℕ → ℕ → Option (List ℕ) → Result (List ℕ) (DumpKind × ℕ)
decoded n at (Some bytes) = if length bytes == n then Ok bytes else Err (Length, at)
decoded n at None = Err (Base64, at)

-- the bytes of the datum of n bytes that was announced at a place, from its text, behind which some line follows or the input ends at a place
abbrev pub datum_in : ℕ → ℕ → List ℕ → Bool → ℕ → Result (List ℕ) (DumpKind × ℕ)
datum_in n at text follows end =
    if nat_lt (text_size n) (length text) then Err (Length, at)
    else (if not follows then Err (Truncated, end)
    else (if nat_lt (length text) (text_size n) then Err (Length, at)
    else decoded n at (strict_bytes text)))

-- a key waits for its value
abbrev pub with_datum : ℕ → Option (List ℕ) → ℕ → Result (List ℕ) (DumpKind × ℕ) → (ℕ → Option (List ℕ) → Told) → Told
with_datum count key end (Err refusal) next = refused refusal.0 refusal.1
with_datum count None end (Ok bytes) next = next count (Some bytes)
with_datum count (Some k) end (Ok bytes) next = given (Pair k bytes) (end + 1) (next (count + 1) None)

abbrev pub is_some_section : List Section → Bool
is_some_section [] = false
is_some_section (s ∷ ss) = true

abbrev pub key_size : Option (List ℕ) → ℕ
key_size None = 0
key_size (Some k) = length k

abbrev pub is_whole : Option (List ℕ) → Bool
is_whole None = true
is_whole (Some k) = false

-- ---- pairs

-- so many pairs have come, and a key without its value or none
abbrev pub data_told : ℕ → Option (List ℕ) → ℕ → List Section → Told
data_told count key place [] = refused Truncated place
data_told count key place (s ∷ ss) =
    let text = s.line.text in
    let next = place + size_of s.line in
    if starts_with eqb text (codes "#:len=") then
    (let digits = drop 6 text in
    if not (is_number 10 digits) then refused Parameter place
    else (if nat_lt (2 ^ 30) (key_size key + value_of digits) then refused TooLarge place
    else with_datum count key (next + sizes s.body) (datum_in (value_of digits) place (joined s.body) (is_some_section ss) (next + sizes s.body))
    (λ c k. data_told c k (next + sizes s.body) ss)))
    else (if starts_with eqb text (codes "#:count=") then
    (let digits = drop 8 text in
    if not (is_number 20 digits && is_whole key) then refused Parameter place
    else (if value_of digits == count then unless_body next s.body (end_told next ss) else refused Count place))
    else (if not (is_comment text) then refused Parameter place
    else (if bytes_eq text (codes "# End of data") then refused Count place
    else unless_body next s.body (data_told count key next ss))))

-- ---- the head

abbrev pub and_named : ℕ → Result Named DumpKind → (Named → Told) → Told
and_named place (Ok named) next = next named
and_named place (Err kind) next = refused kind place

-- the head said this before
abbrev pub named_told : Named → ℕ → List Section → Told
named_told named place [] = refused Truncated place
named_told named place (s ∷ ss) =
    let text = s.line.text in
    let next = place + size_of s.line in
    if not (is_comment text) then and_named place (with_line named s.line.ended text) (λ h. unless_body next s.body (named_told h next ss))
    else (if bytes_eq text (codes "# End of header") then
    (if named.version then given (Head (record { format = named.format; file = named.file })) next (unless_body next s.body (data_told 0 None next ss)) else refused Version place)
    else unless_body next s.body (named_told named next ss))

-- ---- a dump

abbrev pub from_start : List Line × List Section → Told
from_start ([], sections) = named_told no_names 0 sections
from_start (l ∷ ls, sections) = refused Version 0

abbrev pub ascii_items : List ℕ → Told
ascii_items bytes = from_start (parted (lines_in bytes))

abbrev pub ascii_list : List ℕ → List (List ℕ × List ℕ)
ascii_list bytes = pairs_of (ascii_items bytes).items
