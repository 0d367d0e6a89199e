-- What is known of one file or one name, as it reads and in what a crash may leave.
use Rattle.std.specs.Prelude.{◌≡◌, ℕ, List, Option, Some}
use Rattle.gd_vault.specs.Content.{File, Content}
use Rattle.gd_vault.specs.Events.{Event, content_after}
use Rattle.gd_vault.specs.History.{FileLeft, NameLeft}
use Rattle.gd_vault.specs.Views.{Told}
use Rattle.gd_vault.specs.Views.Told.{Records}

-- the file reads as R, and a crash leaves it as L
pub record FileStands (first : Content) (es : List Event) (f : ℕ) (R L : File → Type 0) : Type 0 where
  pub reads : (x : File) × ((content_after first es).files f ≡ Some x) × R x
  pub left : (x : File) → FileLeft first es f x → L x

-- the name stands for this id, and so a crash leaves it
pub record NameStands (first : Content) (es : List Event) (n : List ℕ) (id : ℕ) : Type 0 where
  pub reads : (content_after first es).names n ≡ Some id
  pub left : (z : Option ℕ) → NameLeft first es n z → z ≡ Some id

abbrev pub Is : File → File → Type 0
Is x y = y ≡ x

-- where the history is told, a crash leaves the file as it reads
abbrev pub IsDurable : Told → ℕ → Type 0
IsDurable t f = (first : Content) (es : List Event) → t ≡ Records first es → (x : File) × FileStands first es f (Is x) (Is x)
