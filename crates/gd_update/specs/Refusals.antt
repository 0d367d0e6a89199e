-- The errors of the database that stand for those of an update.
use Rattle.gd_base.specs.declared.errors.DbError.{DbError}
use Rattle.gd_base.specs.declared.errors.DbError.TheVariants as db
use Rattle.gd_update.specs.declared.errors.UpdateError.{UpdateError}
use Rattle.gd_update.specs.declared.errors.UpdateError.TheVariants.{VaultFault, BadAvail, BadDirEntry}

abbrev pub error_of : UpdateError → DbError
error_of VaultFault = db.VaultFault
error_of (BadAvail at) = db.BadAvail at
error_of (BadDirEntry index) = db.BadDirEntry index
