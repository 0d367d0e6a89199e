-- What is told of the file of an open database, and what calls make of it.
use Rattle.std.specs.Prelude.{◌≡◌, ℕ, List, Some, None}
use Rattle.gd_format.specs.declared.Header.{Header}
use Rattle.gd_format.specs.File.{file_fault, front_of}
use Rattle.gd_format.specs.HeaderFault.{header_of}
use Rattle.gd_vault.specs.Content.{File, Content}
use Rattle.gd_vault.specs.Views.{View, content_of}

-- a readable file, and its header
pub record IsOpen (file : List ℕ) (h : Header) : Type 0 where
  pub readable : file_fault file ≡ None
  pub header : h ≡ header_of (front_of file)

-- where the content is told, P holds of the bytes of a file
abbrev pub AtFile : View → ℕ → (List ℕ → Type 0) → Type 0
AtFile v f P = (c : Content) (x : File) → content_of v.told ≡ Some c → c.files f ≡ Some x → P x.bytes

-- where the content is told, the file is readable and has this header
pub record OfFile (v : View) (f : ℕ) (h : Header) : Type 0 where
  pub is_open : AtFile v f (λ file. IsOpen file h)

-- the file afterwards
pub record FileAfter (new : View) (f : ℕ) (P : List ℕ → Type 0) : Type 0 where
  pub content : Content
  pub file : File
  pub told : content_of new.told ≡ Some content
  pub there : content.files f ≡ Some file
  pub holds : P file.bytes

-- where the content is told, the bytes of the file become such ones
abbrev pub FileBecomes : (old new : View) (f : ℕ) (R : List ℕ → List ℕ → Type 0) → Type 0
FileBecomes old new f R = (c : Content) (x : File) → content_of old.told ≡ Some c → c.files f ≡ Some x → FileAfter new f (R x.bytes)
