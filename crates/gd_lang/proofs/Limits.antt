-- Each command of a line is within the limits of the language.
use Rattle.std.proofs.Common.{◌≡◌, ℕ, zero, suc, ◌≤◌, ◌-◌, ◌^◌, ◌==◌, Bool, true, false, ◌&&◌, if◌then◌else◌, nat_le, List, [], ◌∷◌, length, drop, codes, Option, Some, None, is_none, option_map, Result, Ok, Err, IfOk, refl, sym, ap, subst, ◌∙◌, arith, nat_eq, nat_lt, ◌||◌}
use Rattle.std.proofs.lemmas.Bool.{leb-true, ltb-false}
use Rattle.std.specs.List.{starts_with}
use Rattle.std.specs.Str.{bytes_eq, is_utf8}
use Rattle.gd_base.specs.Names.{ends_reserved, has_zero, name_fault}
use Rattle.gd_lang.specs.Commands.{and_then, both, command_of, each_name, each_setting, ended, found_command, lone_word, maybe_data, maybe_name, maybe_setting, named_command, number_of, one_data, row_command, two_data, two_numbers, wanted, word_in}
use Rattle.gd_lang.specs.Values.{block_setting, cache_of, cache_setting, delim_setting, format_setting, if_at_most, if_not_zero, is_name, is_number, name_of, named_setting, number_up_to, open_setting, setting_of, value_of}
use Rattle.gd_lang.specs.Refusals.{Answers}
use Rattle.gd_lang.specs.Rows.{command_names, row_of}
use Rattle.gd_types.specs.Lookups.{found_in}
use Rattle.gd_types.specs.declared.tables.Found.{Found}
use Rattle.gd_types.specs.declared.tables.Found.TheVariants.{Missing, One, Several}
use Rattle.gd_lang.specs.declared.commands.Command.{Command}
use Rattle.gd_lang.specs.declared.commands.Command.TheVariants as commands
use Rattle.gd_lang.specs.declared.commands.Setting.{Setting}
use Rattle.gd_lang.specs.declared.commands.Setting.TheVariants.{BlockSize, CacheSize, Delim1, Format, Opening}
use Rattle.gd_lang.specs.declared.errors.LangError.{LangError}
use Rattle.gd_lang.specs.declared.errors.LangError.TheVariants.{UnknownCommand, Ambiguous, Arguments, Unbuilt}
use Rattle.gd_lang.specs.declared.rows.Row.{Row}
use Rattle.gd_lang.specs.declared.rows.Row.TheVariants as rows
use Rattle.gd_lang.specs.declared.tokens.Token.{Token}
use Rattle.gd_lang.specs.declared.tokens.Token.TheVariants.{Word, LeftBrace, RightBrace, Comma}
use Rattle.gd_lang.specs.Limits.{IsProper, IsProperName, IsProperOption, IsProperSetting}

-- ---- what is known of an answer, and what follows for the next one

pub record Good {A : Type 0} (P : A → Type 0) (r : Result A LangError) : Type 0 where
  pub holds : (x : A) → r ≡ Ok x → P x

good_ok : {A : Type 0} (P : A → Type 0) (x : A) → P x → Good P (Ok x)
good_ok {A = A} P x h = record { holds = λ y is. let same : x ≡ y = cc in subst P same h }

good_err : {A : Type 0} (P : A → Type 0) (e : LangError) → Good P (Err e)
good_err P e = record { holds = λ y is. cc }

good_then : {A B : Type 0} (P : A → Type 0) (Q : B → Type 0) (r : Result A LangError) (next : A → Result B LangError) → Good P r → ((x : A) → P x → Good Q (next x)) → Good Q (and_then r next)
good_then P Q (Ok x) next g h = h x (g.holds x refl)
good_then P Q (Err e) next g h = good_err Q e

abbrev Any : {A : Type 0} → A → Type 0
Any x = Unit {0}

any : {A : Type 0} (r : Result A LangError) → Good Any r
any r = record { holds = λ x is. tt }

good_ended : {A : Type 0} (P : A → Type 0) (x : A) (rest : List Token) → P x → Good P (ended x rest)
good_ended P x [] h = good_ok P x h
good_ended P x (token ∷ rest) h = good_err P Arguments

-- ---- options

pub record Fits {A : Type 0} (P : A → Type 0) (o : Option A) : Type 0 where
  pub holds : (x : A) → o ≡ Some x → P x

fits_none : {A : Type 0} (P : A → Type 0) → Fits P None
fits_none P = record { holds = λ y is. cc }

fits_some : {A : Type 0} (P : A → Type 0) (x : A) → P x → Fits P (Some x)
fits_some {A = A} P x h = record { holds = λ y is. let same : x ≡ y = cc in subst P same h }

fits_if : {A : Type 0} (P : A → Type 0) (b : Bool) (x : A) → (b ≡ true → P x) → Fits P (if b then Some x else None)
fits_if P true x h = fits_some P x (h refl)
fits_if P false x h = fits_none P

fits_case : {A : Type 0} (P : A → Type 0) (b : Bool) (o p : Option A) → Fits P o → Fits P p → Fits P (if b then o else p)
fits_case P true o p h k = h
fits_case P false o p h k = k

good_wanted : {A : Type 0} (P : A → Type 0) (o : Option A) → Fits P o → Good P (wanted o)
good_wanted P (Some x) h = good_ok P x (h.holds x refl)
good_wanted P None h = good_err P Arguments

-- ---- numbers

abbrev AtMost : ℕ → ℕ → Type 0
AtMost highest n = n ≤ highest

number_fits : (highest : ℕ) (word : List ℕ) → Fits (AtMost highest) (number_up_to highest word)
number_fits highest word =
    fits_case (AtMost highest) (is_number word) (if_at_most highest (value_of word)) None
    (fits_if (AtMost highest) (nat_le (value_of word) highest) (value_of word) (λ h. leb-true (value_of word) highest h))
    (fits_none (AtMost highest))

token_fits : (highest : ℕ) (token : Token) → Fits (AtMost highest) (number_of highest token)
token_fits highest (Word word) = number_fits highest word
token_fits highest LeftBrace = fits_none (AtMost highest)
token_fits highest RightBrace = fits_none (AtMost highest)
token_fits highest Comma = fits_none (AtMost highest)

abbrev FewRecords : ℕ × ℕ → Type 0
FewRecords numbers = numbers.1 ≤ 1000000

good_both : (start count : Option ℕ) → Fits (AtMost 1000000) count → Good FewRecords (both start count)
good_both None count h = good_err FewRecords Arguments
good_both (Some start) None h = good_err FewRecords Arguments
good_both (Some start) (Some count) h = good_ok FewRecords (start, count) (h.holds count refl)

good_numbers : (arguments : List Token) → Good FewRecords (two_numbers arguments)
good_numbers [] = good_err FewRecords Arguments
good_numbers (start ∷ []) = good_err FewRecords Arguments
good_numbers (start ∷ count ∷ []) = good_both (number_of (2 ^ 64 - 1) start) (number_of 1000000 count) (token_fits 1000000 count)
good_numbers (start ∷ count ∷ other ∷ rest) = good_err FewRecords Arguments

-- ---- names

abbrev IsShort : List ℕ → Type 0
IsShort word = length word ≤ 4000

second_fails : {E : Type 0} (a b : Bool) (x y : E) (rest : Option E) → is_none (if a then Some x else (if b then Some y else rest)) ≡ true → b ≡ false
second_fails true b x y rest h = cc
second_fails false true x y rest h = cc
second_fails false false x y rest h = refl

no_fault : (word : List ℕ) → is_none (name_fault word) ≡ true → IsShort word
no_fault word h = ltb-false 4000 (length word) (second_fails (length word == 0) (nat_lt 4000 (length word)) _ _ _ h)

second_of : (a b : Bool) → a && b ≡ true → b ≡ true
second_of true b h = h
second_of false b h = cc

name_fits : (word : List ℕ) → Fits IsShort (name_of word)
name_fits word = fits_if IsShort (is_name word) word (λ h. no_fault word (second_of (is_utf8 word) (is_none (name_fault word)) h))

good_name : (word : Option (List ℕ)) → Good IsProperName (each_name word)
good_name None = good_ok IsProperName None tt
good_name (Some word) =
    good_then IsShort IsProperName (wanted (name_of word)) (λ name. Ok (Some name)) (good_wanted IsShort (name_of word) (name_fits word)) (λ name h. good_ok IsProperName (Some name) h)

-- ---- settings

one_at_least : (n : ℕ) → (n == 0) ≡ false → 1 ≤ n
one_at_least zero h = cc
one_at_least (suc n) h = omega arith

block_fits : (n : Option ℕ) → Fits (AtMost 1048576) n → Fits IsProperSetting (option_map BlockSize n)
block_fits None h = fits_none IsProperSetting
block_fits (Some n) h = fits_some IsProperSetting (BlockSize n) (h.holds n refl)

cache_by : (zero : Bool) (n : ℕ) → (n == 0) ≡ zero → n ≤ 4096 → Fits IsProperSetting (if zero then None else Some (CacheSize n))
cache_by true n is few = fits_none IsProperSetting
cache_by false n is few = let some : 1 ≤ n = one_at_least n is in fits_some IsProperSetting (CacheSize n) (some, few)

cache_fits : (n : Option ℕ) → Fits (AtMost 4096) n → Fits IsProperSetting (cache_of n)
cache_fits None h = fits_none IsProperSetting
cache_fits (Some n) h = cache_by (n == 0) n refl (h.holds n refl)

format_fits : (value : List ℕ) → Fits IsProperSetting (format_setting value)
format_fits value =
    fits_case IsProperSetting (bytes_eq value (codes "standard")) _ _ (fits_some IsProperSetting _ tt)
    (fits_case IsProperSetting (bytes_eq value (codes "numsync")) _ _ (fits_some IsProperSetting _ tt) (fits_none IsProperSetting))

open_fits : (value : List ℕ) → Fits IsProperSetting (open_setting value)
open_fits value =
    fits_case IsProperSetting (bytes_eq value (codes "newdb")) _ _ (fits_some IsProperSetting _ tt)
    (fits_case IsProperSetting (bytes_eq value (codes "wrcreat") || bytes_eq value (codes "rw")) _ _ (fits_some IsProperSetting _ tt)
    (fits_case IsProperSetting (bytes_eq value (codes "reader") || bytes_eq value (codes "readonly")) _ _ (fits_some IsProperSetting _ tt) (fits_none IsProperSetting)))

named_fits : (word : List ℕ) → Fits IsProperSetting (named_setting word)
named_fits word =
    fits_case IsProperSetting (starts_with nat_eq word (codes "format=")) _ _ (format_fits (drop 7 word))
    (fits_case IsProperSetting (starts_with nat_eq word (codes "open=")) _ _ (open_fits (drop 5 word)) (fits_none IsProperSetting))

setting_fits : (word : List ℕ) → Fits IsProperSetting (setting_of word)
setting_fits word =
    fits_case IsProperSetting (starts_with nat_eq word (codes "blocksize=")) _ _ (block_fits (number_up_to 1048576 (drop 10 word)) (number_fits 1048576 (drop 10 word)))
    (fits_case IsProperSetting (starts_with nat_eq word (codes "cachesize=")) _ _ (cache_fits (number_up_to 4096 (drop 10 word)) (number_fits 4096 (drop 10 word)))
    (fits_case IsProperSetting (starts_with nat_eq word (codes "delim1=")) _ _
    (fits_if IsProperSetting (nat_le (length (drop 7 word)) 16) (Delim1 (drop 7 word)) (λ h. tt)) (named_fits word)))

good_setting : (word : Option (List ℕ)) → Good IsProperOption (each_setting word)
good_setting None = good_ok IsProperOption None tt
good_setting (Some word) =
    good_then IsProperSetting IsProperOption (wanted (setting_of word)) (λ setting. Ok (Some setting)) (good_wanted IsProperSetting (setting_of word) (setting_fits word))
    (λ setting h. good_ok IsProperOption (Some setting) h)

-- ---- commands

row_good : (row : Row) (arguments : List Token) → Good IsProper (row_command row arguments)
row_good rows.Unbuilt arguments = good_err IsProper Unbuilt
row_good rows.Close arguments = good_ended IsProper commands.Close arguments tt
row_good rows.Count arguments = good_ended IsProper commands.Count arguments tt
row_good rows.Delete arguments = good_then Any IsProper (one_data arguments) (λ key. Ok (commands.Delete key)) (any (one_data arguments)) (λ key h. good_ok IsProper (commands.Delete key) tt)
row_good rows.Fetch arguments = good_then Any IsProper (one_data arguments) (λ key. Ok (commands.Fetch key)) (any (one_data arguments)) (λ key h. good_ok IsProper (commands.Fetch key) tt)
row_good rows.Fill arguments = good_then FewRecords IsProper (two_numbers arguments) (λ numbers. Ok (commands.Fill numbers.0 numbers.1)) (good_numbers arguments) (λ numbers h. good_ok IsProper (commands.Fill numbers.0 numbers.1) h)
row_good rows.First arguments = good_ended IsProper commands.First arguments tt
row_good rows.Insert arguments = good_then Any IsProper (two_data arguments) (λ pair. Ok (commands.Insert pair.0 pair.1)) (any (two_data arguments)) (λ pair h. good_ok IsProper (commands.Insert pair.0 pair.1) tt)
row_good rows.ListAll arguments = good_ended IsProper commands.List arguments tt
row_good rows.Next arguments = good_then Any IsProper (maybe_data arguments) (λ key. Ok (commands.Next key)) (any (maybe_data arguments)) (λ key h. good_ok IsProper (commands.Next key) tt)
row_good rows.Open arguments =
    good_then IsProperName IsProper (maybe_name arguments) (λ name. Ok (commands.Open name))
    (good_then Any IsProperName (lone_word arguments) each_name (any (lone_word arguments)) (λ word h. good_name word)) (λ name h. good_ok IsProper (commands.Open name) h)
row_good rows.Quit arguments = good_ended IsProper commands.Quit arguments tt
row_good rows.Set arguments =
    good_then IsProperOption IsProper (maybe_setting arguments) (λ setting. Ok (commands.Set setting))
    (good_then Any IsProperOption (lone_word arguments) each_setting (any (lone_word arguments)) (λ word h. good_setting word)) (λ setting h. good_ok IsProper (commands.Set setting) h)
row_good rows.Store arguments = good_then Any IsProper (two_data arguments) (λ pair. Ok (commands.Store pair.0 pair.1)) (any (two_data arguments)) (λ pair h. good_ok IsProper (commands.Store pair.0 pair.1) tt)
row_good rows.Version arguments = good_ended IsProper commands.Version arguments tt

found_good : (found : Found) (arguments : List Token) → Good IsProper (found_command found arguments)
found_good Missing arguments = good_err IsProper UnknownCommand
found_good Several arguments = good_err IsProper Ambiguous
found_good (One row) arguments = row_good (row_of row) arguments

named_good : (word : Option (List ℕ)) (arguments : List Token) → Good IsProper (named_command word arguments)
named_good None arguments = good_err IsProper UnknownCommand
named_good (Some word) arguments = found_good (found_in command_names word) arguments

pub tokens_good : (tokens : List Token) → Good IsProper (command_of tokens)
tokens_good [] = good_ok IsProper commands.Nothing tt
tokens_good (first ∷ arguments) = named_good (word_in first) arguments

pub each_proper : (tokens : List Token) (command : Command) → command_of tokens ≡ Ok command → IsProper command
each_proper tokens command is = (tokens_good tokens).holds command is

-- what is parsed is what is due
pub parsed_proper : (r due : Result Command LangError) → Answers r due → Good IsProper due → IfOk r IsProper
parsed_proper (Ok command) due h g = g.holds command h
parsed_proper (Err e) due h g = tt
