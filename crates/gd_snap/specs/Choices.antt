-- Which of two snapshots is the newer one.
use Rattle.std.specs.Prelude.{ℕ, ◌+◌, ◌%◌, ◌^◌, Bool, true, false, ◌&&◌, ◌==◌, nat_lt, nat_le, if◌then◌else◌, List, length, Option, Some, None, Result, Ok, Err}
use Rattle.std.specs.Option.{unwrap_or}
use Rattle.gd_base.specs.declared.errors.Which.TheVariants as which
use Rattle.gd_format.specs.Field.{u32_at}
use Rattle.gd_format.specs.HeaderFault.{is_numsync}
use Rattle.gd_vault.specs.declared.vaults.Mode.{Mode}
use Rattle.gd_vault.specs.declared.vaults.Mode.TheVariants.{ReadOnly, WriteOnly, Both}
use Rattle.gd_vault.specs.Content.{File, Content, named_in}
use Rattle.gd_snap.specs.declared.choices.Choice.{Choice}
use Rattle.gd_snap.specs.declared.choices.Choice.TheVariants.{Even, Odd, Bad, Same, Suspicious}
use Rattle.gd_snap.specs.declared.choices.LatestError.{LatestError}
use Rattle.gd_snap.specs.declared.choices.LatestError.TheVariants.{Absent}

-- may a file of this mode be read?
abbrev pub is_readable : Mode → Bool
is_readable ReadOnly = true
is_readable WriteOnly = false
is_readable Both = true

-- the numsync of a file that has the magic of the numsync format and at least 72 bytes
abbrev pub numsync_of : List ℕ → Option ℕ
numsync_of bytes = if nat_le 72 (length bytes) && is_numsync (u32_at bytes 0) then Some (u32_at bytes 44) else None

-- the number that follows n, modulo 2^32
abbrev pub number_after : ℕ → ℕ
number_after n = (n + 1) % 2 ^ 32

-- the greater stamp is the newer one
abbrev pub by_stamps : ℕ → ℕ → Choice
by_stamps even odd = if nat_lt odd even then Even else (if nat_lt even odd then Odd else Same)

-- the numsync that follows the other is the newer one; None: the stamps choose
abbrev pub by_numsyncs : Option ℕ → Option ℕ → Option Choice
by_numsyncs (Some a) (Some b) =
    if a == number_after b
    then Some Even
    else (if b == number_after a then Some Odd else (if a == b then None else Some Suspicious))
by_numsyncs (Some a) None = None
by_numsyncs None b = None

-- the newer one of two files that may be read
abbrev pub newer_of : File → File → Choice
newer_of x y = unwrap_or (by_numsyncs (numsync_of x.bytes) (numsync_of y.bytes)) (by_stamps x.stamp y.stamp)

-- the newer one of those that may be read
abbrev pub choice_of : File → File → Choice
choice_of x y =
    if is_readable x.mode
    then (if is_readable y.mode then newer_of x y else Even)
    else (if is_readable y.mode then Odd else Bad)

-- the choice between two files, where both are there
abbrev pub choose_files : Option File → Option File → Result Choice LatestError
choose_files None y = Err (Absent which.Even)
choose_files (Some x) None = Err (Absent which.Odd)
choose_files (Some x) (Some y) = Ok (choice_of x y)

-- the choice between the files of two names
abbrev pub choose : Content → List ℕ → List ℕ → Result Choice LatestError
choose c even odd = choose_files (named_in c even) (named_in c odd)
