-- A file of a vault as a source and as a sink.
use Rattle.std.specs.Prelude.{◌≡◌, ◌≢◌, ◌≤◌, ◌-◌, ◌^◌, ℕ, List, Option, Some, None, option_map, length, take, drop, refl}
use Rattle.std.proofs.Common.{◌∙◌}
use Rattle.std.proofs.Math.Nat.{le_refl, le_trans}
use Rattle.std.specs.Option.{option_and_then}
use Rattle.gd_vault.specs.Content.{File, Content}
use Rattle.gd_vault.specs.Views.{View, content_of}
use Rattle.gd_vault.specs.Frame.{Within, OneFile, NoName}
use Rattle.gd_vault.specs.FrameLaws.{frame_refl, frame_trans}

-- no file is longer
abbrev pub longest : ℕ
longest = 2 ^ 63 - 1

-- the file, where the content is told
abbrev pub file_at : View → ℕ → Option File
file_at v f = option_and_then (λ (c : Content). c.files f) (content_of v.told)

-- its bytes from a place on
abbrev pub left_at : View → ℕ → ℕ → Option (List ℕ)
left_at v f at = option_map (λ (x : File). drop at (take longest x.bytes)) (file_at v f)

-- its bytes before a place
abbrev pub written_before : View → ℕ → ℕ → Option (List ℕ)
written_before v f at = option_map (λ (x : File). take at x.bytes) (file_at v f)

-- where the content is told, the id has a file; there is one proof of this at most
abbrev pub IsThere : View → ℕ → Type 0
IsThere v f = (c : Content) → content_of v.told ≡ Some c → c.files f ≢ None

-- where the content is told, the place is in the file, or at its end
abbrev pub IsPlace : View → ℕ → ℕ → Type 0
IsPlace v f at = (c : Content) (x : File) → content_of v.told ≡ Some c → c.files f ≡ Some x → at ≤ length x.bytes

-- the file's mode and stamp read as before
abbrev pub SameMarks : ℕ → View → View → Type 0
SameMarks f old new = (c : Content) (x : File) → content_of old.told ≡ Some c → c.files f ≡ Some x → (d : Content) × (content_of new.told ≡ Some d) × ((y : File) × (d.files f ≡ Some y) × (y.mode ≡ x.mode) × (y.stamp ≡ x.stamp))

-- writes to one file
pub record OnlyWrites (f : ℕ) (old new : View) : Type 0 where
  pub within : Within (OneFile f) NoName old new
  pub marks : SameMarks f old new

pub only_writes_nothing : (f : ℕ) (v : View) → OnlyWrites f v v
only_writes_nothing f v = record {
  within = record { told = frame_refl (OneFile f) NoName v.told; faults = le_refl v.faults };
  marks = λ c x told is. (c, told, (x, is, refl, refl));
}

pub only_writes_more : (f : ℕ) (u v w : View) → OnlyWrites f u v → OnlyWrites f v w → OnlyWrites f u w
only_writes_more f u v w one two = record {
  within = record { told = frame_trans (OneFile f) NoName u.told v.told w.told one.within.told two.within.told; faults = le_trans one.within.faults two.within.faults };
  marks = λ c x told is.
      let d = one.marks c x told is in
      let e = two.marks d.0 d.2.0 d.1 d.2.1 in
      (e.0, e.1, (e.2.0, e.2.1, e.2.2 ∙ d.2.2, e.2.3 ∙ d.2.3));
}
