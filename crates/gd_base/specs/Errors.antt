-- The numbers and the names of the errors, as programs print them.
use Rattle.std.specs.Prelude.{ℕ, List, [], ◌∷◌, ◌++◌, codes}
use Rattle.std.specs.Fmt.{decimal}
use Rattle.gd_base.specs.declared.errors.Which.{Which}
use Rattle.gd_base.specs.declared.errors.Which.TheVariants.{Only, Even, Odd}
use Rattle.gd_base.specs.declared.errors.DbError.{DbError}
use Rattle.gd_base.specs.declared.errors.DbError.TheVariants.{Absent, BlockSize, ShortFile, BadMagic, ByteSwapped, WrongOffset, BadHeader, BadDirEntry, BadBucket, BadHashTable, BadHashEntry, BadAvail, NeedRecovery, ReaderCant, ItemNotFound, CannotReplace, DirOverflow, TooLarge, FileFull, Exists, InUse, NotNumsync, AlreadyAtomic, SameName, InEpoch, NotOpen, VaultFault, ClockFault, OutOfMemory, ClockStood}

abbrev pub number_of : DbError → ℕ
number_of Absent = 1
number_of BlockSize = 2
number_of ShortFile = 3
number_of BadMagic = 4
number_of ByteSwapped = 5
number_of WrongOffset = 6
number_of BadHeader = 7
number_of (BadDirEntry index) = 8
number_of (BadBucket at) = 9
number_of (BadHashTable at) = 10
number_of (BadHashEntry at slot) = 11
number_of (BadAvail at) = 12
number_of NeedRecovery = 13
number_of ReaderCant = 14
number_of ItemNotFound = 15
number_of CannotReplace = 16
number_of DirOverflow = 17
number_of TooLarge = 18
number_of FileFull = 19
number_of (Exists which) = 20
number_of InUse = 21
number_of NotNumsync = 22
number_of AlreadyAtomic = 23
number_of SameName = 24
number_of InEpoch = 25
number_of NotOpen = 26
number_of VaultFault = 27
number_of ClockFault = 28
number_of OutOfMemory = 29
number_of (ClockStood old new) = 30

abbrev pub name_of : DbError → List ℕ
name_of Absent = codes "Absent"
name_of BlockSize = codes "BlockSize"
name_of ShortFile = codes "ShortFile"
name_of BadMagic = codes "BadMagic"
name_of ByteSwapped = codes "ByteSwapped"
name_of WrongOffset = codes "WrongOffset"
name_of BadHeader = codes "BadHeader"
name_of (BadDirEntry index) = codes "BadDirEntry"
name_of (BadBucket at) = codes "BadBucket"
name_of (BadHashTable at) = codes "BadHashTable"
name_of (BadHashEntry at slot) = codes "BadHashEntry"
name_of (BadAvail at) = codes "BadAvail"
name_of NeedRecovery = codes "NeedRecovery"
name_of ReaderCant = codes "ReaderCant"
name_of ItemNotFound = codes "ItemNotFound"
name_of CannotReplace = codes "CannotReplace"
name_of DirOverflow = codes "DirOverflow"
name_of TooLarge = codes "TooLarge"
name_of FileFull = codes "FileFull"
name_of (Exists which) = codes "Exists"
name_of InUse = codes "InUse"
name_of NotNumsync = codes "NotNumsync"
name_of AlreadyAtomic = codes "AlreadyAtomic"
name_of SameName = codes "SameName"
name_of InEpoch = codes "InEpoch"
name_of NotOpen = codes "NotOpen"
name_of VaultFault = codes "VaultFault"
name_of ClockFault = codes "ClockFault"
name_of OutOfMemory = codes "OutOfMemory"
name_of (ClockStood old new) = codes "ClockStood"

-- a number after a space
abbrev pub spaced : ℕ → List ℕ
spaced n = 32 ∷ decimal n

-- which file is meant, where there are two
abbrev pub which_text : Which → List ℕ
which_text Only = []
which_text Even = codes " even"
which_text Odd = codes " odd"

-- the values of an error, each after a space
abbrev pub values_text : DbError → List ℕ
values_text (BadDirEntry index) = spaced index
values_text (BadBucket at) = spaced at
values_text (BadHashTable at) = spaced at
values_text (BadHashEntry at slot) = spaced at ++ spaced slot
values_text (BadAvail at) = spaced at
values_text (Exists which) = which_text which
values_text (ClockStood old new) = spaced old ++ spaced new
values_text e = []

-- the error as programs print it: its number, its name and its values
unfoldable pub error_text : DbError → List ℕ
error_text e = codes "error" ++ (spaced (number_of e) ++ (32 ∷ name_of e ++ values_text e))
