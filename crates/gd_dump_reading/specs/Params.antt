-- The parameters of a dump's head, which stand behind "#:".
use Rattle.std.specs.Prelude.{ℕ, zero, suc, ◌+◌, ◌==◌, ◌||◌, not, List, [], ◌∷◌, length, take, drop, codes, Option, Some, None, Result, Ok, Err, Bool, true, false, eqb, if◌then◌else◌}
use Rattle.std.specs.Char.{is_ascii_alphabetic}
use Rattle.std.specs.List.{prefix_len, starts_with}
use Rattle.std.specs.Str.{bytes_eq}
use Rattle.gd_base.specs.declared.errors.Format.{Format}
use Rattle.gd_base.specs.declared.errors.Format.TheVariants.{Standard, Numsync}
use Rattle.gd_dump_reading.specs.Lines.{is_overlong}
use Rattle.gd_dump_reading.specs.declared.items.DumpKind.{DumpKind}
use Rattle.gd_dump_reading.specs.declared.items.DumpKind.TheVariants.{Version, Parameter}

-- one parameter of a line
pub record Param : Type 0 where
  pub name : List ℕ
  pub value : List ℕ

-- what the parameters have said so far: whether there was a version, and the last format and file
pub record Named : Type 0 where
  pub version : Bool
  pub format : Option Format
  pub file : Option (List ℕ)

-- ---- the form of a line: name=value, parted by commas

-- a value and what stands behind it
abbrev pub onto : ℕ → Option (List ℕ × List ℕ) → Option (List ℕ × List ℕ)
onto b None = None
onto b (Some (value, rest)) = Some (b ∷ value, rest)

-- behind a double quote: the bytes up to the next one, where a backslash takes the byte behind it as it is
unfoldable pub quoted : List ℕ → Option (List ℕ × List ℕ)
quoted [] = None
quoted (b ∷ []) = if b == 34 then Some ([], []) else None
quoted (b ∷ c ∷ cs) = if b == 34 then Some ([], c ∷ cs) else (if b == 92 then onto c (quoted cs) else onto b (quoted (c ∷ cs)))

-- the bytes up to the next comma
abbrev pub plain : List ℕ → List ℕ × List ℕ
plain text = let n = prefix_len (λ b. not (b == 44)) text in (take n text, drop n text)

abbrev pub value_in : List ℕ → Option (List ℕ × List ℕ)
value_in text = if starts_with eqb text (codes "\"") then quoted (drop 1 text) else Some (plain text)

-- a parameter in front of others
abbrev pub one_more : Param → Option (List Param) → Option (List Param)
one_more p None = None
one_more p (Some ps) = Some (p ∷ ps)

-- behind a value comes a comma and more parameters, or the line's end
abbrev pub with_value : List ℕ → Option (List ℕ × List ℕ) → (List ℕ → Option (List Param)) → Option (List Param)
with_value name None more = None
with_value name (Some (value, [])) more = Some ((record { name = name; value = value }) ∷ [])
with_value name (Some (value, b ∷ rest)) more = if b == 44 then one_more (record { name = name; value = value }) (more rest) else None

-- no name, which is one or more letters, and '=' behind it
abbrev pub is_unnamed : List ℕ → Bool
is_unnamed text = let n = prefix_len is_ascii_alphabetic text in n == 0 || not (starts_with eqb (drop n text) (codes "="))

-- at most n parameters
unfoldable pub some_params : ℕ → List ℕ → Option (List Param)
some_params zero text = None
some_params (suc n) text =
    let k = prefix_len is_ascii_alphabetic text in
    if is_unnamed text then None else with_value (take k text) (value_in (drop (k + 1) text)) (some_params n)

-- no text has more parameters than bytes
abbrev pub params_in : List ℕ → Option (List Param)
params_in text = some_params (length text) text

-- ---- what the parameters say

abbrev pub no_names : Named
no_names = record { version = false; format = None; file = None }

abbrev pub with_version : Named → List ℕ → Result Named DumpKind
with_version named value = if bytes_eq value (codes "1.0") || bytes_eq value (codes "1.1") then Ok (record named { version = true }) else Err Version

abbrev pub with_format : Named → List ℕ → Result Named DumpKind
with_format named value =
    if bytes_eq value (codes "standard") then Ok (record named { format = Some Standard })
    else (if bytes_eq value (codes "numsync") then Ok (record named { format = Some Numsync }) else Err Parameter)

-- other names are ignored
abbrev pub with_param : Named → Param → Result Named DumpKind
with_param named p =
    if bytes_eq p.name (codes "version") then with_version named p.value
    else (if bytes_eq p.name (codes "format") then with_format named p.value
    else (if bytes_eq p.name (codes "file") then Ok (record named { file = Some p.value }) else Ok named))

abbrev pub unless_refused : Result Named DumpKind → (Named → Result Named DumpKind) → Result Named DumpKind
unless_refused (Ok named) next = next named
unless_refused (Err kind) next = Err kind

-- one after another, up to the first that is refused
abbrev pub with_params : Named → List Param → Result Named DumpKind
with_params named [] = Ok named
with_params named (p ∷ ps) = unless_refused (with_param named p) (λ n. with_params n ps)

abbrev pub if_params : Named → Option (List Param) → Result Named DumpKind
if_params named None = Err Parameter
if_params named (Some ps) = with_params named ps

-- a line that begins with "#:", in a head that said this before
abbrev pub with_line : Named → Bool → List ℕ → Result Named DumpKind
with_line named ended line = if is_overlong ended line then Err Parameter else if_params named (params_in (drop 2 line))
