-- The run of each program.
use Rattle.std.specs.Prelude.{◌≡◌, ℕ, List, None}
use Rattle.gd_dumping.specs.Words.{reading}
use Rattle.gd_script.specs.declared.turns.Turn.{Turn}
use Rattle.gd_words.specs.Meaning.{load_reading, tool_reading}
use Rattle.gd_top.specs.Devices.{Devices}
use Rattle.gd_top.specs.Dump.{Dumps}
use Rattle.gd_top.specs.Load.{Loads}
use Rattle.gd_top.specs.Tool.{Scripts}
use Rattle.gd_top.specs.Words.{Text}
use Rattle.gd_top.specs.declared.Tool.{Tool}
use Rattle.gd_top.specs.declared.Tool.TheVariants.{Dump, Gdbmtool, Load}

-- status 3 says that the words are refused
abbrev pub IsRefused : Tool → List Text → Type 0
IsRefused Dump words = reading words ≡ None
IsRefused Load words = load_reading words ≡ None
IsRefused Gdbmtool words = tool_reading words ≡ None

abbrev pub Runs : Tool → List Text → (status : ℕ) → List Turn → (old new : Devices) → Type 0
Runs Dump words status turns old new = Dumps words status turns old new
Runs Load words status turns old new = Loads words status turns old new
Runs Gdbmtool words status turns old new = Scripts words status turns old new
