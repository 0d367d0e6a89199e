-- What words ask for, or nothing where they are refused.
use Rattle.std.specs.Prelude.{◌≤◌, ◌&&◌, ◌||◌, ◌+◌, ◌*◌, ◌-◌, ℕ, Bool, true, false, List, [], ◌∷◌, length, Option, Some, None, option_map, is_some, codes, nat_lt, nat_le, if◌then◌else◌, unwrap_or}
use Rattle.std.specs.Char.{is_ascii_digit}
use Rattle.std.specs.List.{list_all}
use Rattle.std.specs.Str.{bytes_eq}
use Rattle.clap.specs.Words.{App, Kinds, Text, fault_of, first_of, matches_of}
use Rattle.gd_base.specs.Names.{name_fault}
use Rattle.gd_base.specs.declared.errors.Format.{Format}
use Rattle.gd_base.specs.declared.errors.Format.TheVariants.{Standard, Numsync}
use Rattle.gd_lang.specs.declared.commands.Opening.{Opening}
use Rattle.gd_lang.specs.declared.commands.Opening.TheVariants.{NewDb, WrCreat, Reader}
use Rattle.gd_words.specs.Commands.{dump_app, load_app, tool_app}
use Rattle.gd_words.specs.declared.dump.DumpWords.{DumpWords}
use Rattle.gd_words.specs.declared.dump.Form.{Form}
use Rattle.gd_words.specs.declared.dump.Form.TheVariants.{Ascii, Binary}
use Rattle.gd_words.specs.declared.load.LoadWords.{LoadWords}
use Rattle.gd_words.specs.declared.tool.ToolWords.{ToolWords}

-- ---- numbers, flags and names

-- the number that digits write when they follow those of n
abbrev pub read_on : ℕ → Text → ℕ
read_on n [] = n
read_on n (c ∷ cs) = read_on (10 * n + (c - 48)) cs

-- 1 to 10 decimal digits
abbrev pub is_number : Text → Bool
is_number text = nat_lt 0 (length text) && (nat_le (length text) 10 && list_all is_ascii_digit text)

abbrev pub number_of : Text → Option ℕ
number_of text = if is_number text then Some (read_on 0 text) else None

abbrev pub within : ℕ → ℕ → Option ℕ → Option ℕ
within least most None = None
within least most (Some n) = if nat_le least n && nat_le n most then Some n else None

-- a number in a range, or its default where none is given
abbrev pub number_or : ℕ → ℕ → ℕ → Option Text → Option ℕ
number_or least most default None = Some default
number_or least most default (Some text) = within least most (number_of text)

-- the size of a block, and that of the cache
abbrev pub block_of : Option Text → Option ℕ
block_of text = number_or 0 1048576 0 text

abbrev pub cache_of : Option Text → Option ℕ
cache_of text = number_or 1 4096 100 text

-- sizes within the limits
pub record IsSized (block cache : ℕ) : Type 0 where
  pub block_most : block ≤ 1048576
  pub cache_least : 1 ≤ cache
  pub cache_most : cache ≤ 4096

-- was a flag given?
abbrev pub is_true : Option Text → Bool
is_true None = false
is_true (Some text) = bytes_eq text (codes "true")

-- a text that is a name
abbrev pub named : Text → Option Text
named text = if is_some (name_fault text) then None else Some text

abbrev pub named_or_none : Option Text → Option (Option Text)
named_or_none None = Some None
named_or_none (Some text) = option_map (λ name. Some name) (named text)

-- ---- gdbm_dump

abbrev pub form_named : Text → Option Form
form_named text = if bytes_eq text (codes "ascii") || bytes_eq text (codes "1") then Some Ascii
    else (if bytes_eq text (codes "binary") || bytes_eq text (codes "0") then Some Binary else None)

abbrev pub form_of : Option Text → Option Form
form_of None = Some Ascii
form_of (Some text) = form_named text

abbrev pub dump_with : Form → Option Text → Option (Option Text) → Option DumpWords
dump_with form (Some db) (Some file) = Some (record { form = form; db = db; file = file })
dump_with form _ _ = None

abbrev pub dump_from : Option Form → Option Text → Option Text → Option DumpWords
dump_from (Some form) (Some db) file = dump_with form (named db) (named_or_none file)
dump_from _ _ file = None

-- by the value that each option and operand has
abbrev pub dump_options : (Text → Option Text) → Option DumpWords
dump_options value = dump_from (form_of (value (codes "format"))) (value (codes "db")) (value (codes "file"))

-- ---- gdbm_load

-- the file of a dump; a dash stands for standard input
abbrev pub source_of : Text → Option (Option Text)
source_of text = if bytes_eq text (codes "-") then Some None else option_map (λ name. Some name) (named text)

abbrev pub load_with : ℕ → ℕ → Bool → Bool → Option (Option Text) → Option (Option Text) → Option LoadWords
load_with block cache replace update (Some input) (Some db) = Some (record { block = block; cache = cache; replace = replace; update = update; input = input; db = db })
load_with block cache replace update _ _ = None

abbrev pub load_from : Option ℕ → Option ℕ → Bool → Bool → Option Text → Option Text → Option LoadWords
load_from (Some block) (Some cache) replace update (Some input) db = load_with block cache replace update (source_of input) (named_or_none db)
load_from _ _ replace update _ db = None

abbrev pub load_options : (Text → Option Text) → Option LoadWords
load_options value = load_from (block_of (value (codes "block"))) (cache_of (value (codes "cache")))
    (is_true (value (codes "replace"))) (is_true (value (codes "update"))) (value (codes "input")) (value (codes "db"))

-- ---- gdbmtool

-- -r and -n exclude each other
abbrev pub opening_by : (reader newdb : Bool) → Option Opening
opening_by true true = None
opening_by true false = Some Reader
opening_by false true = Some NewDb
opening_by false false = Some WrCreat

abbrev pub format_by : (extended : Bool) → Format
format_by extended = if extended then Numsync else Standard

abbrev pub tool_from : Option ℕ → Option ℕ → Option Opening → Format → Option Text → Option ToolWords
tool_from (Some block) (Some cache) (Some opening) format (Some db) = Some (record { block = block; cache = cache; opening = opening; format = format; db = db })
tool_from _ _ _ format _ = None

abbrev pub tool_options : (Text → Option Text) → Option ToolWords
tool_options value = tool_from (block_of (value (codes "block"))) (cache_of (value (codes "cache")))
    (opening_by (is_true (value (codes "reader"))) (is_true (value (codes "newdb")))) (format_by (is_true (value (codes "extended"))))
    (named (unwrap_or (value (codes "db")) (codes "junk.gdbm")))

-- ---- the readings: the matches that `clap` defines for the tool's name and the words behind it

abbrev pub unless_faulty : {X : Type 0} → Kinds → Option X → Option X
unless_faulty [] x = x
unless_faulty (k ∷ ks) x = None

-- what the matches of a command mean, or nothing where it refuses the words
abbrev pub reading_by : {X : Type 0} → App → ((Text → Option Text) → Option X) → List Text → Option X
reading_by app options words = unless_faulty (fault_of app words) (options (λ id. first_of id (matches_of app words)))

abbrev pub dump_reading : List Text → Option DumpWords
dump_reading words = reading_by dump_app dump_options (codes "gdbm_dump" ∷ words)

abbrev pub load_reading : List Text → Option LoadWords
load_reading words = reading_by load_app load_options (codes "gdbm_load" ∷ words)

abbrev pub tool_reading : List Text → Option ToolWords
tool_reading words = reading_by tool_app tool_options (codes "gdbmtool" ∷ words)
