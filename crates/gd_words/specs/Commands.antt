-- The three command lines, as commands of `clap`: their options and operands.
use Rattle.std.specs.Prelude.{ℕ, true, List, Some, codes}
use Rattle.clap.specs.Words.{App, Rule, Text, new_app, new_rule, with_rule}
use Rattle.clap.specs.declared.builder.action.ArgAction.TheVariants.{SetTrue}

-- an option with a value, by its short and its long name
abbrev pub option_rule : Text → ℕ → Text → Rule
option_rule id short long = record (new_rule id) { short = Some short; long = Some long }

-- an option without one
abbrev pub flag_rule : Text → ℕ → Text → Rule
flag_rule id short long = record (option_rule id short long) { action = Some SetTrue }

-- an operand that has to be there
abbrev pub operand_rule : Text → Rule
operand_rule id = record (new_rule id) { required = true }

-- -H F, --format=F; DB, and a FILE that may be left out
abbrev pub dump_app : App
dump_app = with_rule (with_rule (with_rule (new_app (codes "gdbm_dump")) (option_rule (codes "format") 72 (codes "format")))
    (operand_rule (codes "db"))) (new_rule (codes "file"))

-- -b N, --block-size=N; -c N, --cache-size=N
abbrev pub with_numbers : App → App
with_numbers a = with_rule (with_rule a (option_rule (codes "block") 98 (codes "block-size"))) (option_rule (codes "cache") 99 (codes "cache-size"))

-- -n, --no-meta; -r, --replace; -U, --update
abbrev pub with_storing : App → App
with_storing a = with_rule (with_rule (with_rule a (flag_rule (codes "nometa") 110 (codes "no-meta")))
    (flag_rule (codes "replace") 114 (codes "replace"))) (flag_rule (codes "update") 85 (codes "update"))

-- FILE, and a DB that may be left out
abbrev pub load_app : App
load_app = with_rule (with_rule (with_storing (with_numbers (new_app (codes "gdbm_load")))) (operand_rule (codes "input"))) (new_rule (codes "db"))

-- -r, --read-only; -n, --newdb; -x, --extended
abbrev pub with_opening : App → App
with_opening a = with_rule (with_rule (with_rule a (flag_rule (codes "reader") 114 (codes "read-only")))
    (flag_rule (codes "newdb") 110 (codes "newdb"))) (flag_rule (codes "extended") 120 (codes "extended"))

-- -N, --norc; -q, --quiet
abbrev pub with_ignored : App → App
with_ignored a = with_rule (with_rule a (flag_rule (codes "norc") 78 (codes "norc"))) (flag_rule (codes "quiet") 113 (codes "quiet"))

-- a DB that may be left out
abbrev pub tool_app : App
tool_app = with_rule (with_ignored (with_opening (with_numbers (new_app (codes "gdbmtool"))))) (new_rule (codes "db"))
