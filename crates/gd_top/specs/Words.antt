-- The words of a command line.
use Rattle.std.specs.Prelude.{ℕ, List}

abbrev pub Text : Type 0
Text = List ℕ
