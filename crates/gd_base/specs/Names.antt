-- Which texts are names, and which refusal another text has.
use Rattle.std.specs.Prelude.{◌≡◌, ◌==◌, eqb, ◌||◌, ℕ, Bool, List, length, nat_lt, codes, if◌then◌else◌, Option, Some, None, Result, Ok, Err}
use Rattle.std.specs.List.{ends_with, list_any}
use Rattle.gd_base.specs.declared.names.NameError.{NameError}
use Rattle.gd_base.specs.declared.names.NameError.TheVariants.{Empty, TooLong, Nul, Reserved, OutOfMemory}

abbrev pub ends_reserved : List ℕ → Bool
ends_reserved text = ends_with eqb text (codes ".mode") || ends_with eqb text (codes ".gdbm-scratch")

abbrev pub has_zero : List ℕ → Bool
has_zero text = list_any (λ b. b == 0) text

-- why a text is no name: the first that holds
abbrev pub name_fault : List ℕ → Option NameError
name_fault text = if length text == 0 then Some Empty
    else (if nat_lt 4000 (length text) then Some TooLong
    else (if has_zero text then Some Nul
    else (if ends_reserved text then Some Reserved else None)))

-- memory is wanted only for a text without a fault
abbrev pub RefusesName : NameError → Option NameError → Type 0
RefusesName OutOfMemory fault = fault ≡ None
RefusesName e fault = fault ≡ Some e

abbrev pub MakesName : List ℕ → Result (List ℕ) NameError → Type 0
MakesName text (Ok name) = (name ≡ text) × (name_fault text ≡ None)
MakesName text (Err e) = RefusesName e (name_fault text)
