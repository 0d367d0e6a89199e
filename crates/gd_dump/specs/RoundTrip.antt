-- What was dumped is read again.
use Rattle.std.specs.Prelude.{◌≡◌, ◌↔◌, ℕ, ◌+◌, ◌^◌, ◌≤◌, ◌<◌, List, [], ◌∷◌, length, codes, Some, None, if◌then◌else◌}
use Rattle.base64.specs.Engines.{standard}
use Rattle.base64.specs.GeneralPurpose.{IsBytes, engine_padding, engine_symbols}
use Rattle.gd_base.specs.declared.errors.Format.{Format}
use Rattle.gd_dump.specs.Ascii.{ascii_text, base64_text, file_part, is_shown}
use Rattle.gd_dump_reading.specs.AsciiItems.{ascii_items}
use Rattle.gd_dump_reading.specs.Base64.{strict_bytes}
use Rattle.gd_dump.specs.Binary.{binary_text}
use Rattle.gd_dump_reading.specs.BinaryItems.{binary_items}
use Rattle.gd_dump_reading.specs.Told.{Told, pairs_of}
use Rattle.gd_dump_reading.specs.declared.items.DumpHead.{DumpHead}
use Rattle.gd_dump_reading.specs.declared.items.Item.{Item}
use Rattle.gd_dump_reading.specs.declared.items.Item.TheVariants.{Head, Pair, End}

-- pairs that a dump may have
abbrev pub FitPairs : List (List ℕ × List ℕ) → Type 0
FitPairs [] = Unit {0}
FitPairs (p ∷ ps) = (length p.0 + length p.1 ≤ 2 ^ 30) × FitPairs ps

-- pairs, and then one end
abbrev pub ArePairs : List (Item × ℕ) → List (List ℕ × List ℕ) → Type 0
ArePairs ((End, at) ∷ []) [] = Unit {0}
ArePairs ((Pair key value, at) ∷ items) (p ∷ ps) = (key ≡ p.0) × (value ≡ p.1) × ArePairs items ps
ArePairs items ps = ⊥

-- a head, the pairs and the end
abbrev pub IsWhole : List (Item × ℕ) → DumpHead → List (List ℕ × List ℕ) → Type 0
IsWhole ((Head h, at) ∷ items) head pairs = (h ≡ head) × ArePairs items pairs
IsWhole items head pairs = ⊥

pub record ReadsAs (told : Told) (head : DumpHead) (pairs : List (List ℕ × List ℕ)) : Type 0 where
  pub whole : IsWhole told.items head pairs
  pub list : pairs_of told.items ≡ pairs
  pub accepted : told.refusal ≡ None

abbrev pub BinaryRoundTrip : Type 0
BinaryRoundTrip = (pairs : List (List ℕ × List ℕ)) → length pairs < 2 ^ 64 → FitPairs pairs
    → ReadsAs (binary_items (binary_text pairs)) (record { format = None; file = None }) pairs

-- data are bytes
abbrev pub ArePairsOfBytes : List (List ℕ × List ℕ) → Type 0
ArePairsOfBytes [] = Unit {0}
ArePairsOfBytes (p ∷ ps) = IsBytes p.0 × IsBytes p.1 × ArePairsOfBytes ps

-- the head has the format, and the part of the file's name that is shown
abbrev pub ascii_head : List ℕ → Format → DumpHead
ascii_head name format = record { format = Some format; file = (if is_shown (file_part name) then Some (file_part name) else None) }

abbrev pub AsciiRoundTrip : Type 0
AsciiRoundTrip = (pairs : List (List ℕ × List ℕ)) (name : List ℕ) (format : Format) → length pairs < 2 ^ 64 → length name ≤ 4000 → FitPairs pairs → ArePairsOfBytes pairs
    → ReadsAs (ascii_items (ascii_text pairs name format)) (ascii_head name format) pairs

-- a text stands for bytes exactly where it is their base64
abbrev pub StrictBase64 : Type 0
StrictBase64 = (text bytes : List ℕ) → (strict_bytes text ≡ Some bytes) ↔ ((text ≡ base64_text bytes) × IsBytes bytes)

-- the symbols are those of RFC 4648
abbrev pub StandardAlphabet : Type 0
StandardAlphabet = (engine_symbols standard ≡ codes "ABCDEFGHIJKLMNOPQRSTUVWXYZabcdefghijklmnopqrstuvwxyz0123456789+/") × (engine_padding standard ≡ 61)
