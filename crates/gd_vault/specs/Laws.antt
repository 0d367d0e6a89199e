-- The laws of a history and of frames.
use Rattle.std.specs.Prelude.{◌≡◌, ◌≢◌, ◌↔◌, ◌+◌, ◌≤◌, ℕ, Bool, IsTrue, List, ◌∷◌, ◌++◌, Some, None}
use Rattle.gd_vault.specs.Content.{Content}
use Rattle.gd_vault.specs.Events.{Event, Call, content_after, moment_after}
use Rattle.gd_vault.specs.Effects.{file_of}
use Rattle.gd_vault.specs.History.{was, left, LeavesSince}
use Rattle.gd_vault.specs.Views.{Told, View}
use Rattle.gd_vault.specs.Views.Told.{Records}
use Rattle.gd_vault.specs.Changes.{TellsAfter}
use Rattle.gd_vault.specs.Frame.{Frame, Within, AsAtStart, Reads}
use Rattle.gd_vault.specs.Lawful.{IsLawful}

-- more events change nothing at a moment up to the one at which they begin
pub record SamePast (first : Content) (es more : List Event) (t : ℕ) : Type 0 where
  pub was : was first (more ++ es) t ≡ was first es t
  pub left : (image : Content) → left first (more ++ es) t image ↔ left first es t image

abbrev pub PastStays : Type 0
PastStays = (first : Content) (es more : List Event) (t : ℕ) → t ≤ moment_after es → SamePast first es more t

-- a changing call only adds to the history
abbrev pub CallsAdd : Type 0
CallsAdd = (call : Call) (ok : Bool) (first : Content) (es : List Event) (t : Told) → TellsAfter call ok (Records first es) t → (more : List Event) × (t ≡ Records first (more ++ es))

-- what a vault reads now is what it was at the present moment
abbrev pub ReadsNow : Type 0
ReadsNow = (first : Content) (es : List Event) → was first es (moment_after es) ≡ content_after first es

-- a crash may leave what the vault was
abbrev pub WasIsLeft : Type 0
WasIsLeft = (first : Content) (es : List Event) → IsLawful first es → (t : ℕ) → t ≤ moment_after es → left first es t (was first es t)

-- the file that the call names, if any, is there
abbrev pub HasItsFile : Content → Call → Type 0
HasItsFile c call = (f : ℕ) → file_of call ≡ Some f → c.files f ≢ None

-- inside a call a crash may leave what the call makes, whether it succeeds or fails
abbrev pub AfterIsLeft : Type 0
AfterIsLeft = (first : Content) (es : List Event) (e : Event) → IsLawful first (e ∷ es) → HasItsFile (content_after first es) e.call → left first (e ∷ es) (moment_after es + 1) e.after

-- the files and names that two tests tell
abbrev pub Inside : (ℕ → Bool) → (List ℕ → Bool) → View → View → Type 0
Inside mine named old new = Within (λ f. IsTrue (mine f)) (λ n. IsTrue (named n)) old new

abbrev pub FrameReflexive : Type 0
FrameReflexive = (mine : ℕ → Bool) (named : List ℕ → Bool) (v : View) → Inside mine named v v

abbrev pub FrameTransitive : Type 0
FrameTransitive = (mine : ℕ → Bool) (named : List ℕ → Bool) (u v w : View) → Inside mine named u v → Inside mine named v w → Inside mine named u w

-- from the start of a frame on an image has elsewhere what one at the start may have
abbrev pub FrameImages : Type 0
FrameImages = (mine : ℕ → Bool) (named : List ℕ → Bool) (first : Content) (es now : List Event) → Frame (λ f. IsTrue (mine f)) (λ n. IsTrue (named n)) (Records first es) (Records first now) → LeavesSince first now (moment_after es) (λ t image. AsAtStart (λ f. IsTrue (mine f)) (λ n. IsTrue (named n)) first es image)

-- at the end of a frame each other file and name reads as at its start
abbrev pub FrameReads : Type 0
FrameReads = (mine : ℕ → Bool) (named : List ℕ → Bool) (first : Content) (es now : List Event) → Frame (λ f. IsTrue (mine f)) (λ n. IsTrue (named n)) (Records first es) (Records first now) → Reads (λ f. IsTrue (mine f)) (λ n. IsTrue (named n)) (content_after first es) (content_after first now)
