-- What is told of the file of an open database, and what calls make of it.
use Rattle.std.specs.Prelude.{◌≡◌, ℕ, ◌≤◌, ◌<◌, List, length, get_or, Some}
use Rattle.gd_vault.specs.Content.{File, Content}
use Rattle.gd_vault.specs.Views.{View, content_of}

-- where the content is told, P holds of the bytes of a file
abbrev pub AtFile : View → ℕ → (List ℕ → Type 0) → Type 0
AtFile v f P = (c : Content) (x : File) → content_of v.told ≡ Some c → c.files f ≡ Some x → P x.bytes

-- the file afterwards
pub record FileAfter (new : View) (f : ℕ) (P : List ℕ → Type 0) : Type 0 where
  pub content : Content
  pub file : File
  pub told : content_of new.told ≡ Some content
  pub there : content.files f ≡ Some file
  pub holds : P file.bytes

-- where the content is told, the bytes of the file become such ones
abbrev pub FileBecomes : (old new : View) (f : ℕ) (R : List ℕ → List ℕ → Type 0) → Type 0
FileBecomes old new f R = (c : Content) (x : File) → content_of old.told ≡ Some c → c.files f ≡ Some x → FileAfter new f (R x.bytes)

-- the file has as many bytes as before, and all but so many at its front are as before
pub record KeepsBehind (size : ℕ) (old new : List ℕ) : Type 0 where
  pub as_long : size ≤ length old → length new ≡ length old
  pub bytes : (k : ℕ) → size ≤ k → k < length old → get_or new k 0 ≡ get_or old k 0
