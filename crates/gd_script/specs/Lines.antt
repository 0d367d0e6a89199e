-- The lines of an input and their commands.
use Rattle.std.specs.Prelude.{ℕ, ◌==◌, ◌||◌, Bool, true, false, if◌then◌else◌, List, [], ◌∷◌, ◌++◌, map, Result, Ok}
use Rattle.gd_lang.specs.Commands.{command_of_line}
use Rattle.gd_lang.specs.declared.commands.Command.{Command}
use Rattle.gd_lang.specs.declared.commands.Command.TheVariants as commands
use Rattle.gd_lang.specs.declared.errors.LangError.{LangError}

-- the command of a line, or its refusal
abbrev pub Line : Type 0
Line = Result Command LangError

-- the lines that end with a line feed, behind the front of the first one
unfoldable pub whole_from : (front bytes : List ℕ) → List (List ℕ)
whole_from front [] = []
whole_from front (b ∷ bytes) = if b == 10 then front ∷ whole_from [] bytes else whole_from (front ++ b ∷ []) bytes

-- what stands behind the last line feed
unfoldable pub rest_from : (front bytes : List ℕ) → List ℕ
rest_from front [] = front
rest_from front (b ∷ bytes) = if b == 10 then rest_from [] bytes else rest_from (front ++ b ∷ []) bytes

abbrev pub unless_empty : List ℕ → List (List ℕ)
unless_empty [] = []
unless_empty line = line ∷ []

abbrev pub whole_lines : (bytes : List ℕ) → List (List ℕ)
whole_lines bytes = whole_from [] bytes

-- all the lines; the last one may lack its line feed
abbrev pub lines_of : (bytes : List ℕ) → List (List ℕ)
lines_of bytes = whole_from [] bytes ++ unless_empty (rest_from [] bytes)

abbrev pub is_quit : Line → Bool
is_quit (Ok commands.Quit) = true
is_quit line = false

-- a line behind `quit` is none
unfoldable pub up_to_quit : List Line → List Line
up_to_quit [] = []
up_to_quit (line ∷ lines) = if is_quit line then line ∷ [] else line ∷ up_to_quit lines

abbrev pub commands_in : List (List ℕ) → List Line
commands_in lines = up_to_quit (map command_of_line lines)

-- the commands of an input; their numbers are their places, from 1
abbrev pub commands_of : (bytes : List ℕ) → List Line
commands_of bytes = commands_in (lines_of bytes)

-- those whose line feed stands there
abbrev pub whole_commands : (bytes : List ℕ) → List Line
whole_commands bytes = commands_in (whole_lines bytes)

abbrev pub has_feed : List ℕ → Bool
has_feed [] = false
has_feed (b ∷ bytes) = b == 10 || has_feed bytes
