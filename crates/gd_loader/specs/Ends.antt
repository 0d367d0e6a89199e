-- How a run of the loader ends: what it says, and its status.
use Rattle.std.specs.Prelude.{◌≡◌, ◌⊎◌, ℕ, List, [], ◌∷◌, ◌++◌, Option, codes}
use Rattle.std.specs.Fmt.{decimal}
use Rattle.gd_base.specs.Causes.{Rose}
use Rattle.gd_base.specs.Errors.{error_text}
use Rattle.gd_base.specs.Streams.{WritesFront, and_then}
use Rattle.gd_dump_reading.specs.declared.items.DumpKind.{DumpKind}
use Rattle.gd_dump_reading.specs.declared.items.DumpKind.TheVariants.{Version, Parameter, Length, Base64, Count, Truncated, TooLarge}
use Rattle.gd_loader.specs.declared.ending.RunEnd.{RunEnd}
use Rattle.gd_loader.specs.declared.ending.RunEnd.TheVariants.{Loaded, Misused, Refused, Damaged, InputFailed, TooLong, Starved}

abbrev pub Text : Type 0
Text = List ℕ

-- ---- what is said on standard error

abbrev pub kind_text : DumpKind → Text
kind_text Version = codes "Version"
kind_text Parameter = codes "Parameter"
kind_text Length = codes "Length"
kind_text Base64 = codes "Base64"
kind_text Count = codes "Count"
kind_text Truncated = codes "Truncated"
kind_text TooLarge = codes "TooLarge"

-- the kind of a dump's refusal and its place, and the end of the line
unfoldable pub place_text : DumpKind → ℕ → Text
place_text kind place = kind_text kind ++ (codes " at " ++ (decimal place ++ 10 ∷ []))

abbrev pub line_of : RunEnd → Text
line_of Loaded = []
line_of Misused = codes "gdbm_load: usage error\n"
line_of (Refused e) = codes "gdbm_load: " ++ (error_text e ++ 10 ∷ [])
line_of (Damaged kind place) = codes "gdbm_load: dump error " ++ place_text kind place
line_of InputFailed = codes "gdbm_load: input fault\n"
line_of TooLong = codes "gdbm_load: input too long\n"
line_of Starved = codes "gdbm_load: out of memory\n"

-- ---- the status

abbrev pub status_of : RunEnd → ℕ
status_of Loaded = 0
status_of Misused = 3
status_of Starved = 4
status_of e = 1

-- the status where the line could not be written
abbrev pub status_untold : RunEnd → ℕ
status_untold Misused = 3
status_untold e = 1

-- a line was written and the status is that of the ending, or standard error failed in it
abbrev pub Says : RunEnd → (status : ℕ) (before now : ℕ) (err0 err1 : Option Text) → Type 0
Says e status before now err0 err1 =
    ((status ≡ status_of e) × (now ≡ before) × (err1 ≡ and_then err0 (line_of e)))
    ⊎ ((status ≡ status_untold e) × Rose before now × WritesFront err0 err1 (line_of e))
