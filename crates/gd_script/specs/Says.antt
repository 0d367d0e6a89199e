-- What is said on standard error.
use Rattle.std.specs.Prelude.{ℕ, ◌+◌, List, [], ◌∷◌, ◌++◌, codes}
use Rattle.std.specs.Fmt.{decimal}
use Rattle.gd_base.specs.Errors.{error_text}
use Rattle.gd_lang.specs.declared.errors.LangError.{LangError}
use Rattle.gd_lang.specs.declared.errors.LangError.TheVariants as lang
use Rattle.gd_session.specs.declared.reply.Reply.TheVariants.{Refused, Typed}
use Rattle.gd_types.specs.declared.errors.TypeError.{TypeError}
use Rattle.gd_types.specs.declared.errors.TypeError.TheVariants as types
use Rattle.gd_script.specs.declared.turns.Answer.{Answer}
use Rattle.gd_script.specs.declared.turns.Answer.TheVariants.{Command, Lang}
use Rattle.gd_script.specs.declared.turns.Turn.{Turn}

abbrev pub lang_text : LangError → List ℕ
lang_text lang.UnknownCommand = codes "UnknownCommand"
lang_text lang.Ambiguous = codes "Ambiguous"
lang_text lang.Arguments = codes "Arguments"
lang_text lang.Quote = codes "Quote"
lang_text lang.Escape = codes "Escape"
lang_text lang.Unbuilt = codes "Unbuilt"
lang_text lang.OutOfMemory = codes "OutOfMemory"

abbrev pub type_text : TypeError → List ℕ
type_text types.FloatMember = codes "type error FloatMember"
type_text types.Range = codes "type error Range"
type_text types.Short = codes "type error Short"
type_text types.Trailing = codes "type error Trailing"
type_text types.Text = codes "type error Text"

-- a line with the number of the refused one
unfoldable pub numbered : ℕ → List ℕ → List ℕ
numbered number text = codes "gdbmtool: " ++ (decimal number ++ (codes ": " ++ (text ++ 10 ∷ [])))

-- what is said of a refusal
abbrev pub answer_text : Answer → List ℕ
answer_text (Lang e) = lang_text e
answer_text (Command (Refused e)) = error_text e
answer_text (Command (Typed e)) = type_text e
answer_text x = []

-- the error line of an answer, where it is a refusal
abbrev pub error_line : (number : ℕ) → Answer → List ℕ
error_line number (Lang e) = numbered number (lang_text e)
error_line number (Command (Refused e)) = numbered number (error_text e)
error_line number (Command (Typed e)) = numbered number (type_text e)
error_line number x = []

-- the error lines of turns, the first of which has this number
unfoldable pub error_lines : (number : ℕ) → List Turn → List ℕ
error_lines number [] = []
error_lines number (t ∷ ts) = error_line number t.answer ++ error_lines (number + 1) ts
