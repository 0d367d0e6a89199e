-- What is known of the files of a vault that tells its content.
use Rattle.std.specs.Prelude.{◌≡◌, ◌≤◌, ℕ, ◌+◌, length, Option, Some}
use Rattle.gd_format.specs.Field.{u32_at}
use Rattle.gd_vault.specs.Content.{File}
use Rattle.gd_vault.specs.Views.{View, IsAt}
use Rattle.gd_snap.specs.declared.choices.Choice.{Choice}
use Rattle.gd_snap.specs.Choices.{numsync_of}

-- n is the number of the 4 bytes at a place of the file f, where it has them
abbrev pub IsField : View → ℕ → ℕ → ℕ → Type 0
IsField v f at n =
    IsAt v (λ c. (x : File) → c.files f ≡ Some x → at + 4 ≤ length x.bytes → n ≡ u32_at x.bytes at)

-- n is the numsync of the file f
abbrev pub IsNumsync : View → ℕ → Option ℕ → Type 0
IsNumsync v f n = IsAt v (λ c. (x : File) → c.files f ≡ Some x → n ≡ numsync_of x.bytes)

-- the choice is that of a rule for the files even and odd
abbrev pub IsChoice : (File → File → Choice) → View → ℕ → ℕ → Choice → Type 0
IsChoice rule v even odd choice =
    IsAt v (λ c. (x y : File) → c.files even ≡ Some x → c.files odd ≡ Some y → choice ≡ rule x y)
