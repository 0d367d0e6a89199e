-- A file of a vault that tells its content.
use Rattle.std.specs.Prelude.{◌≡◌, ℕ, List, Some}
use Rattle.gd_vault.specs.Content.{File, Content}
use Rattle.gd_vault.specs.Views.{View, content_of}

-- the content is told, and the id has this file
pub record Stands (v : View) (f : ℕ) (x : File) : Type 0 where
  pub content : Content
  pub told : content_of v.told ≡ Some content
  pub there : content.files f ≡ Some x

-- where the id has a file, and that is told, it has afterwards what a function makes of its bytes, and the same mode and stamp
abbrev pub Becomes : (old new : View) → ℕ → (List ℕ → List ℕ) → Type 0
Becomes old new f change = (x : File) → Stands old f x → Stands new f (record x { bytes = change x.bytes })
