-- What commands print.
use Rattle.std.specs.Prelude.{ℕ, Bool, ◌+◌, ◌*◌, ◌/◌, ◌%◌, ◌^◌, zero, suc, List, [], ◌∷◌, ◌++◌, length, replicate, codes, Option, Some, None, Result, Ok, Err, is_some, if◌then◌else◌}
use Rattle.std.specs.Fmt.{decimal}
use Rattle.std.specs.FinMap.{get, insert}
use Rattle.gd_base.specs.declared.errors.Format.{Format}
use Rattle.gd_base.specs.declared.errors.Format.TheVariants.{Standard, Numsync}
use Rattle.gd_lang.specs.declared.commands.Opening.{Opening}
use Rattle.gd_lang.specs.declared.commands.Opening.TheVariants.{NewDb, WrCreat, Reader}
use Rattle.gd_map_laws.specs.Maps.{PairMap}
use Rattle.gd_types.specs.Decoding.{typed_text}
use Rattle.gd_types.specs.Printing.{printed}
use Rattle.gd_types.specs.declared.errors.TypeError.{TypeError}
use Rattle.gd_session.specs.State.{State, Text}
use Rattle.gd_session.specs.declared.settings.Settings.{Settings}
use Rattle.gd_session.specs.declared.counts.Counts.{Counts}

abbrev pub Pair : Type 0
Pair = List ℕ × List ℕ

abbrev pub line : Text → Text
line text = text ++ 10 ∷ []

abbrev pub version_text : Text
version_text = codes "GDBM version 1.23\n"

-- ---- records

abbrev pub key_text : State → Text → Result Text TypeError
key_text s key = typed_text s.key_form key s.settings.delim

abbrev pub content_text : State → Text → Result Text TypeError
content_text s content = typed_text s.content_form content s.settings.delim

-- two texts with a space between them; the first refusal stands
abbrev pub spaced : Result Text TypeError → Result Text TypeError → Result Text TypeError
spaced (Ok key) (Ok content) = Ok (key ++ 32 ∷ content)
spaced (Ok key) (Err e) = Err e
spaced (Err e) content = Err e

-- key, one space, content
abbrev pub pair_text : State → Pair → Result Text TypeError
pair_text s p = spaced (key_text s p.0) (content_text s p.1)

-- ---- variables

abbrev pub format_name : Format → Text
format_name Standard = codes "standard"
format_name Numsync = codes "numsync"

abbrev pub opening_name : Opening → Text
opening_name NewDb = codes "newdb"
opening_name WrCreat = codes "wrcreat"
opening_name Reader = codes "reader"

-- a variable as name=value on a line
abbrev pub variable : Text → Text → Text
variable name value = name ++ line value

-- each variable
unfoldable pub variables_text : Settings → Text
variables_text s =
    variable (codes "blocksize=") (decimal s.block) ++ (variable (codes "cachesize=") (decimal s.cache) ++ (variable (codes "delim1=") (printed s.delim)
    ++ (variable (codes "format=") (format_name s.format) ++ variable (codes "open=") (opening_name s.opening))))

-- ---- fill

abbrev pub next_x : ℕ → ℕ
next_x x = (x * 6364136223846793005 + 1442695040888963407) % 2 ^ 64

-- the pair that x gives
abbrev pub fill_pair : ℕ → Pair
fill_pair x = let y = x / 2 ^ 33 in (codes "key" ++ decimal (y % 100000), decimal y ++ replicate (y % 64) 46)

-- so many pairs, where x is START at first
unfoldable pub fill_pairs : (x n : ℕ) → List Pair
fill_pairs x zero = []
fill_pairs x (suc n) = fill_pair (next_x x) ∷ fill_pairs (next_x x) n

-- one more pair of so many bytes, which replaced one or was new
abbrev pub tally : Bool → ℕ → Counts → Counts
tally replaced size n = if replaced
    then record n { replaced = n.replaced + 1; bytes = n.bytes + size }
    else record n { added = n.added + 1; bytes = n.bytes + size }

-- one more pair, by the map before it
abbrev pub counted : PairMap → Pair → Counts → Counts
counted map p n = tally (is_some (get map p.0)) (length p.0 + length p.1) n

abbrev pub with_pair : PairMap → Pair → PairMap
with_pair map p = insert map p.0 p.1

unfoldable pub counts_of : PairMap → List Pair → Counts → Counts
counts_of map [] n = n
counts_of map (p ∷ ps) n = counts_of (with_pair map p) ps (counted map p n)

abbrev pub none_counted : Counts
none_counted = record { added = 0; replaced = 0; bytes = 0 }

abbrev pub counts_text : ℕ → Counts → Text
counts_text n c = codes "fill " ++ (decimal n ++ (codes " new " ++ (decimal c.added ++ (codes " replaced " ++ (decimal c.replaced ++ (codes " bytes " ++ line (decimal c.bytes)))))))

abbrev pub fill_text : PairMap → (start n : ℕ) → Text
fill_text map start n = counts_text n (counts_of map (fill_pairs start n) none_counted)
