-- Commands whose names, numbers and values are within the limits of the language.
use Rattle.std.specs.Prelude.{◌≤◌, ℕ, List, length, Option, Some, None}
use Rattle.gd_lang.specs.declared.commands.Command.{Command}
use Rattle.gd_lang.specs.declared.commands.Command.TheVariants as commands
use Rattle.gd_lang.specs.declared.commands.Setting.{Setting}
use Rattle.gd_lang.specs.declared.commands.Setting.TheVariants as variables

abbrev pub IsProperSetting : Setting → Type 0
IsProperSetting (variables.BlockSize n) = n ≤ 1048576
IsProperSetting (variables.CacheSize n) = (1 ≤ n) × (n ≤ 4096)
IsProperSetting setting = Unit {0}

abbrev pub IsProperOption : Option Setting → Type 0
IsProperOption None = Unit {0}
IsProperOption (Some setting) = IsProperSetting setting

abbrev pub IsProperName : Option (List ℕ) → Type 0
IsProperName None = Unit {0}
IsProperName (Some name) = length name ≤ 4000

-- each command of a line is one
abbrev pub IsProper : Command → Type 0
IsProper (commands.Open name) = IsProperName name
IsProper (commands.Set setting) = IsProperOption setting
IsProper (commands.Fill start n) = n ≤ 1000000
IsProper command = Unit {0}
