-- What the words of gdbm_dump ask for.
use Rattle.std.specs.Prelude.{ℕ, List, Option, Some, None, is_some, option_and_then, if◌then◌else◌}
use Rattle.gd_words.specs.Meaning.{dump_reading}
use Rattle.gd_words.specs.declared.dump.DumpWords.{DumpWords}

abbrev pub Text : Type 0
Text = List ℕ

-- a second word, which would name a file for the dump, is refused
abbrev pub to_output : DumpWords → Option DumpWords
to_output w = if is_some w.file then None else Some w

-- a form and a database, or nothing where the words are refused
abbrev pub reading : List Text → Option DumpWords
reading words = option_and_then to_output (dump_reading words)
