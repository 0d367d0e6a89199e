-- What may be answered in the place of room.
use Rattle.std.specs.Prelude.{Bool, true, false}
use Rattle.gd_base.specs.declared.errors.DbError.{DbError}
use Rattle.gd_base.specs.declared.errors.DbError.TheVariants.{BadDirEntry, BadBucket, BadAvail, VaultFault}

-- a fault of the vault, free space, an entry of the directory or a bucket that is none
abbrev pub is_growth_error : DbError → Bool
is_growth_error VaultFault = true
is_growth_error (BadAvail at) = true
is_growth_error (BadDirEntry index) = true
is_growth_error (BadBucket at) = true
is_growth_error _ = false
