-- What the refusal of a file, or of a walk, says where it is no want of memory.
use Rattle.std.proofs.Common.{◌≡◌, ◌≢◌, true, refl}
use Rattle.gd_base.specs.declared.errors.DbError.{DbError}
use Rattle.gd_base.specs.declared.errors.DbError.TheVariants.{Absent, BlockSize, ShortFile, BadMagic, ByteSwapped, WrongOffset, BadHeader, BadDirEntry, BadBucket, BadHashTable, BadHashEntry, BadAvail, NeedRecovery, ReaderCant, ItemNotFound, CannotReplace, DirOverflow, TooLarge, FileFull, Exists, InUse, NotNumsync, AlreadyAtomic, SameName, InEpoch, NotOpen, VaultFault, ClockFault, OutOfMemory, ClockStood}
use Rattle.gd_readable.specs.Asks.{Refuses, is_of_readable}
use Rattle.gd_dumping.specs.Dump.{FaultOr, is_refusal}

pub fault_or : (e : DbError) (fault kind refusal : Type 0) → Refuses e fault refusal → Refuses e (Unit {0}) kind → e ≢ OutOfMemory → FaultOr e (kind × refusal)
fault_or Absent fault kind refusal h k other = (k, h)
fault_or BlockSize fault kind refusal h k other = (k, h)
fault_or ShortFile fault kind refusal h k other = (k, h)
fault_or BadMagic fault kind refusal h k other = (k, h)
fault_or ByteSwapped fault kind refusal h k other = (k, h)
fault_or WrongOffset fault kind refusal h k other = (k, h)
fault_or BadHeader fault kind refusal h k other = (k, h)
fault_or (BadDirEntry i) fault kind refusal h k other = (k, h)
fault_or (BadBucket a) fault kind refusal h k other = (k, h)
fault_or (BadHashTable a) fault kind refusal h k other = (k, h)
fault_or (BadHashEntry a s) fault kind refusal h k other = (k, h)
fault_or (BadAvail a) fault kind refusal h k other = (k, h)
fault_or NeedRecovery fault kind refusal h k other = (k, h)
fault_or ReaderCant fault kind refusal h k other = (k, h)
fault_or ItemNotFound fault kind refusal h k other = (k, h)
fault_or CannotReplace fault kind refusal h k other = (k, h)
fault_or DirOverflow fault kind refusal h k other = (k, h)
fault_or TooLarge fault kind refusal h k other = (k, h)
fault_or FileFull fault kind refusal h k other = (k, h)
fault_or (Exists w) fault kind refusal h k other = (k, h)
fault_or InUse fault kind refusal h k other = (k, h)
fault_or NotNumsync fault kind refusal h k other = (k, h)
fault_or AlreadyAtomic fault kind refusal h k other = (k, h)
fault_or SameName fault kind refusal h k other = (k, h)
fault_or InEpoch fault kind refusal h k other = (k, h)
fault_or NotOpen fault kind refusal h k other = (k, h)
fault_or VaultFault fault kind refusal h k other = tt
fault_or ClockFault fault kind refusal h k other = (k, h)
fault_or OutOfMemory fault kind refusal h k other = absurd (other refl)
fault_or (ClockStood o n) fault kind refusal h k other = (k, h)

pub fault_or_map : (e : DbError) (a b : Type 0) → (a → b) → FaultOr e a → FaultOr e b
fault_or_map Absent j k g h = g h
fault_or_map BlockSize j k g h = g h
fault_or_map ShortFile j k g h = g h
fault_or_map BadMagic j k g h = g h
fault_or_map ByteSwapped j k g h = g h
fault_or_map WrongOffset j k g h = g h
fault_or_map BadHeader j k g h = g h
fault_or_map (BadDirEntry i) j k g h = g h
fault_or_map (BadBucket a) j k g h = g h
fault_or_map (BadHashTable a) j k g h = g h
fault_or_map (BadHashEntry a s) j k g h = g h
fault_or_map (BadAvail a) j k g h = g h
fault_or_map NeedRecovery j k g h = g h
fault_or_map ReaderCant j k g h = g h
fault_or_map ItemNotFound j k g h = g h
fault_or_map CannotReplace j k g h = g h
fault_or_map DirOverflow j k g h = g h
fault_or_map TooLarge j k g h = g h
fault_or_map FileFull j k g h = g h
fault_or_map (Exists w) j k g h = g h
fault_or_map InUse j k g h = g h
fault_or_map NotNumsync j k g h = g h
fault_or_map AlreadyAtomic j k g h = g h
fault_or_map SameName j k g h = g h
fault_or_map InEpoch j k g h = g h
fault_or_map NotOpen j k g h = g h
fault_or_map VaultFault j k g h = tt
fault_or_map ClockFault j k g h = g h
fault_or_map OutOfMemory j k g h = g h
fault_or_map (ClockStood o n) j k g h = g h

pub also_refusal : (e : DbError) → is_of_readable e ≡ true → is_refusal e ≡ true
also_refusal Absent kind = refl
also_refusal BlockSize kind = kind
also_refusal ShortFile kind = kind
also_refusal BadMagic kind = kind
also_refusal ByteSwapped kind = kind
also_refusal WrongOffset kind = kind
also_refusal BadHeader kind = kind
also_refusal (BadDirEntry i) kind = kind
also_refusal (BadBucket a) kind = kind
also_refusal (BadHashTable a) kind = kind
also_refusal (BadHashEntry a s) kind = kind
also_refusal (BadAvail a) kind = kind
also_refusal NeedRecovery kind = kind
also_refusal ReaderCant kind = kind
also_refusal ItemNotFound kind = kind
also_refusal CannotReplace kind = kind
also_refusal DirOverflow kind = kind
also_refusal TooLarge kind = kind
also_refusal FileFull kind = kind
also_refusal (Exists w) kind = kind
also_refusal InUse kind = kind
also_refusal NotNumsync kind = kind
also_refusal AlreadyAtomic kind = kind
also_refusal SameName kind = kind
also_refusal InEpoch kind = kind
also_refusal NotOpen kind = kind
also_refusal VaultFault kind = kind
also_refusal ClockFault kind = kind
also_refusal OutOfMemory kind = kind
also_refusal (ClockStood o n) kind = kind
