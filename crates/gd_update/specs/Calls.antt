-- What a change of one key does to a vault that tells its content.
use Rattle.std.specs.Prelude.{◌≡◌, ℕ, List, Some}
use Rattle.gd_base.specs.declared.errors.DbError.{DbError}
use Rattle.gd_base.specs.declared.errors.DbError.TheVariants as db
use Rattle.gd_format.specs.declared.Header.{Header}
use Rattle.gd_format.specs.declared.Extent.{Extent}
use Rattle.gd_format.specs.declared.Slot.{Slot}
use Rattle.gd_format.specs.Avail.{Avail}
use Rattle.gd_format.specs.Bucket.{Bucket}
use Rattle.gd_format.specs.FreeSide.{FreeLists, StackBlock, IsFreeSide, free_extents}
use Rattle.gd_map_laws.specs.Maps.{PairMap}
use Rattle.gd_space.specs.Calls.{free_lists}
use Rattle.gd_space.specs.declared.stack.SpaceError.{SpaceError}
use Rattle.gd_space.specs.declared.stack.SpaceError.TheVariants.{VaultFault, FileFull, BadAvail, OutOfMemory}
use Rattle.gd_vault.specs.Content.{File, Content}
use Rattle.gd_vault.specs.Views.{View, content_of}
use Rattle.gd_open.specs.Files.{FileBecomes}
use Rattle.gd_update.specs.Open.{IsOpen, IsHere, MayGoBack}
use Rattle.gd_update.specs.Writes.{RecordPut, GivenBack, BlocksPut}
use Rattle.gd_update.specs.KeepSound.{IsNext}

abbrev pub db_error_of : SpaceError → DbError
db_error_of VaultFault = db.VaultFault
db_error_of FileFull = db.FileFull
db_error_of (BadAvail at) = db.BadAvail at
db_error_of OutOfMemory = db.OutOfMemory

-- room was taken for a record, which was put there
pub record AfterRecord (new : View) (f : ℕ) (x : File) (h h' : Header) (top top' : ℕ) (s : FreeLists) (table' bucket' : List Extent) (at : ℕ) (pair : List ℕ) : Type 0 where
  pub content : Content
  pub file : File
  pub blocks : List StackBlock
  pub told : content_of new.told ≡ Some content
  pub there : content.files f ≡ Some file
  pub put : RecordPut x.bytes file.bytes h h' top top' s (free_lists table' blocks bucket') at pair 32

abbrev pub PutsRecord : (old new : View) (f : ℕ) (h h' : Header) (table table' : Avail) (bucket bucket' : List Extent) (at : ℕ) (pair : List ℕ) → Type 0
PutsRecord old new f h h' table table' bucket bucket' at pair =
    (c : Content) (x : File) (blocks : List StackBlock) → content_of old.told ≡ Some c → c.files f ≡ Some x → IsFreeSide x.bytes h table.next_block (free_lists table.extents blocks bucket)
    → AfterRecord new f x h h' table.next_block table'.next_block (free_lists table.extents blocks bucket) table'.extents bucket' at pair

-- the record of a slot was given back
pub record AfterBack (new : View) (f : ℕ) (x : File) (h h' : Header) (top top' : ℕ) (s : FreeLists) (table' bucket' : List Extent) (gone : Slot) : Type 0 where
  pub content : Content
  pub file : File
  pub blocks : List StackBlock
  pub told : content_of new.told ≡ Some content
  pub there : content.files f ≡ Some file
  pub back : GivenBack x.bytes file.bytes h h' top top' s (free_lists table' blocks bucket') gone

abbrev pub GivesBack : (old new : View) (f : ℕ) (h h' : Header) (table table' : Avail) (bucket bucket' : List Extent) (gone : Slot) → Type 0
GivesBack old new f h h' table table' bucket bucket' gone =
    (c : Content) (x : File) (blocks : List StackBlock) → content_of old.told ≡ Some c → c.files f ≡ Some x → IsFreeSide x.bytes h table.next_block (free_lists table.extents blocks bucket)
    → MayGoBack h.next_block (free_extents (free_lists table.extents blocks bucket)) gone
    → AfterBack new f x h h' table.next_block table'.next_block (free_lists table.extents blocks bucket) table'.extents bucket' gone

-- and then the blocks of bucket and header were written
pub record AfterLast (new : View) (f : ℕ) (x : File) (h h' : Header) (top : ℕ) (s : FreeLists) (table' : Avail) (at : ℕ) (bucket' : Bucket) (gone : Slot) : Type 0 where
  pub content : Content
  pub file : File
  pub mid : List ℕ
  pub blocks : List StackBlock
  pub told : content_of new.told ≡ Some content
  pub there : content.files f ≡ Some file
  pub back : GivenBack x.bytes mid h h' top table'.next_block s (free_lists table'.extents blocks bucket'.free) gone
  pub last : BlocksPut mid file.bytes h' table' at bucket'

abbrev pub Finishes : (old new : View) (f : ℕ) (h h' : Header) (table table' : Avail) (at : ℕ) (bucket bucket' : Bucket) (gone : Slot) → Type 0
Finishes old new f h h' table table' at bucket bucket' gone =
    (c : Content) (x : File) (blocks : List StackBlock) → content_of old.told ≡ Some c → c.files f ≡ Some x → IsFreeSide x.bytes h table.next_block (free_lists table.extents blocks bucket.free)
    → MayGoBack h.next_block (free_extents (free_lists table.extents blocks bucket.free)) gone
    → AfterLast new f x h h' table.next_block (free_lists table.extents blocks bucket.free) table' at bucket' gone

-- where the content is told, the file is open, and the bucket of a key, which its bytes tell, stands at the address
abbrev pub CanChange : View → ℕ → Header → Avail → ℕ → Bucket → (List ℕ → List ℕ) → Type 0
CanChange v f h table at bucket key = (c : Content) (x : File) → content_of v.told ≡ Some c → c.files f ≡ Some x → IsOpen x.bytes h table × IsHere x.bytes h at bucket (key x.bytes)

-- so it is afterwards, with a map and what is lost at most, by the bytes before
abbrev pub Changes : (old new : View) (f : ℕ) (h' : Header) (table' : Avail) (at : ℕ) (bucket' : Bucket) (key : List ℕ → List ℕ) (map : List ℕ → PairMap) (more : ℕ) → Type 0
Changes old new f h' table' at bucket' key map more = FileBecomes old new f (λ x y. IsNext x y h' table' at bucket' (key x) (map x) more)
