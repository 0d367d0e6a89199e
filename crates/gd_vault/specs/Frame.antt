-- What calls leave alone.
use Rattle.std.specs.Prelude.{◌≡◌, ◌⊎◌, ◌≤◌, ℕ, List, [], ◌∷◌, ◌++◌, Some, None}
use Rattle.gd_vault.specs.Content.{File, Content}
use Rattle.gd_vault.specs.Events.{Event, content_after}
use Rattle.gd_vault.specs.Effects.{file_of, DoesOrMayDo}
use Rattle.gd_vault.specs.History.{Renames, IsProper, FileLeft, NameLeft}
use Rattle.gd_vault.specs.Views.{View, Told}
use Rattle.gd_vault.specs.Views.Told.{Nothing, Tells, Records}

-- an event that touches none but these files and names, and files that were not there at the start
pub record Touches (mine : ℕ → Type 0) (named : List ℕ → Type 0) (start before : Content) (e : Event) : Type 0 where
  pub by_call : DoesOrMayDo e.ok e.call before e.after
  pub file : (f : ℕ) → file_of e.call ≡ Some f → mine f ⊎ (start.files f ≡ None)
  pub name : (n : List ℕ) → Renames e.call n → named n

abbrev pub Along : (ℕ → Type 0) → (List ℕ → Type 0) → Content → List Event → List Event → Type 0
Along mine named first es [] = Unit {0}
Along mine named first es (e ∷ more) = Along mine named first es more × Touches mine named (content_after first es) (content_after first (more ++ es)) e

-- each other file and name reads as before, and no file goes away
pub record Reads (mine : ℕ → Type 0) (named : List ℕ → Type 0) (c d : Content) : Type 0 where
  pub files : (f : ℕ) (x : File) → (mine f → ⊥) → c.files f ≡ Some x → d.files f ≡ Some x
  pub names : (n : List ℕ) → (named n → ⊥) → d.names n ≡ c.names n
  pub stay : (f : ℕ) (x : File) → c.files f ≡ Some x → (y : File) × (d.files f ≡ Some y)

-- calls that touch none but these files and names, and files that they make
abbrev pub Frame : (ℕ → Type 0) → (List ℕ → Type 0) → Told → Told → Type 0
Frame mine named Nothing t = t ≡ Nothing
Frame mine named (Tells c) t = (d : Content) × (t ≡ Tells d) × Reads mine named c d
Frame mine named (Records first es) t = (more : List Event) × (t ≡ Records first (more ++ es)) × Along mine named first es more

abbrev pub NoFile : ℕ → Type 0
NoFile f = ⊥

abbrev pub NoName : List ℕ → Type 0
NoName n = ⊥

abbrev pub OneFile : ℕ → ℕ → Type 0
OneFile f g = g ≡ f

-- an image has, at each other file and name, only what an image at the start may have
pub record AsAtStart (mine : ℕ → Type 0) (named : List ℕ → Type 0) (first : Content) (es : List Event) (image : Content) : Type 0 where
  pub proper : IsProper image
  pub files : (f : ℕ) (x y : File) → (mine f → ⊥) → (content_after first es).files f ≡ Some x → image.files f ≡ Some y → FileLeft first es f y
  pub names : (n : List ℕ) → (named n → ⊥) → NameLeft first es n (image.names n)

-- all of what a call does lies in a frame
pub record Within (mine : ℕ → Type 0) (named : List ℕ → Type 0) (old new : View) : Type 0 where
  pub told : Frame mine named old.told new.told
  pub faults : old.faults ≤ new.faults
