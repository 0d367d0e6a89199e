-- What a write does to the file that it names.
use Rattle.std.proofs.Common.{◌≡◌, ◌≢◌, ◌⊎◌, inl, inr, ⊎_elim, ℕ, ◌+◌, ◌<◌, ◌≤◌, Bool, true, false, List, ◌++◌, length, take, Option, Some, None, Result, Ok, Err, is_ok, refl, sym, ap, ◌∙◌, arith}
use Rattle.std.specs.Option.{option_and_then, option_map}
use Rattle.std.proofs.lemmas.List.{ext_get_or, get_or-take, length-take}
use Rattle.std.proofs.lemmas.Grind.{common_steps}
use Rattle.gd_base.specs.Streams.{and_then}
use Rattle.gd_vault.specs.Content.{File, Content}
use Rattle.gd_vault.specs.Events.{content_after}
use Rattle.gd_vault.specs.Events.Call.{Write}
use Rattle.gd_vault.specs.Effects.{written, Torn, DoesOrMayDo}
use Rattle.gd_vault.specs.Views.{Told, View, HasFile, content_of}
use Rattle.gd_vault.specs.Views.Told.{Nothing, Tells, Records}
use Rattle.gd_vault.specs.Changes.{TellsAfter, Wrote}
use Rattle.gd_vault.specs.Streams.{IsThere, IsPlace, OnlyWrites, file_at, written_before}
use Rattle.gd_vault.proofs.Content.{content_step}
use Rattle.gd_vault.proofs.Within.{within_wrote}

some_of : {A : Type 0} (o : Option A) → o ≢ None → (x : A) × (o ≡ Some x)
some_of None some = absurd (some refl)
some_of (Some x) some = (x, refl)

pub has_file : (v : View) (f : ℕ) → IsThere v f → HasFile v f
has_file v f there c is = some_of (c.files f) (there c is)

-- how a write changed the file
abbrev pub WroteTo : Bool → ℕ → List ℕ → File → File → Type 0
WroteTo true at bytes x y = y ≡ record x { bytes = written x.bytes at bytes }
WroteTo false at bytes x y = Torn at (length bytes) x.bytes y.bytes × (y.mode ≡ x.mode) × (y.stamp ≡ x.stamp)

by_change : (ok : Bool) (f at : ℕ) (bytes : List ℕ) (c d : Content) (x : File) → DoesOrMayDo ok (Write f at bytes) c d → c.files f ≡ Some x → (y : File) × (d.files f ≡ Some y) × WroteTo ok at bytes x y
by_change true f at bytes c d x h is = h.file x is
by_change false f at bytes c d x h is = h.file x is

-- the file before and after the write, where the content is told
pub record FileWritten (f at : ℕ) (bytes : List ℕ) (ok : Bool) (u v : View) (x y : File) : Type 0 where
  pub before : file_at u f ≡ Some x
  pub after : file_at v f ≡ Some y
  pub wrote : WroteTo ok at bytes x y

untold_after : (ok : Bool) (f at : ℕ) (bytes : List ℕ) (old new : Told) → TellsAfter (Write f at bytes) ok old new → content_of old ≡ None → content_of new ≡ None
untold_after ok f at bytes Nothing new t is = ap content_of t
untold_after ok f at bytes (Tells c) new t is = absurd (let wrong : Some c ≡ None = is in cc)
untold_after ok f at bytes (Records first es) new t is = absurd (let wrong : Some (content_after first es) ≡ None = is in cc)

pub FilesAfter : (f at : ℕ) (bytes : List ℕ) (ok : Bool) (u v : View) → Type 0
FilesAfter f at bytes ok u v = ((file_at u f ≡ None) × (file_at v f ≡ None)) ⊎ ((x y : File) × FileWritten f at bytes ok u v x y)

by_told : (f at : ℕ) (bytes : List ℕ) (ok : Bool) (u v : View) (o : Option Content) → content_of u.told ≡ o → TellsAfter (Write f at bytes) ok u.told v.told → IsThere u f → FilesAfter f at bytes ok u v
unfolding FilesAfter
by_told f at bytes ok u v None is t there = inl (ap (option_and_then (λ (c : Content). c.files f)) is, ap (option_and_then (λ (c : Content). c.files f)) (untold_after ok f at bytes u.told v.told t is))
by_told f at bytes ok u v (Some c) is t there =
    let x = some_of (c.files f) (there c is) in
    let d = content_step (Write f at bytes) ok u.told v.told t c is in
    let y = by_change ok f at bytes c d.0 x.0 d.2 x.1 in
    inr (
      x.0,
      y.0,
      record {
        before = ap (option_and_then (λ (c : Content). c.files f)) is ∙ x.1;
        after = ap (option_and_then (λ (c : Content). c.files f)) d.1 ∙ y.1;
        wrote = y.2;
      },
    )

pub file_written : (f at : ℕ) (bytes : List ℕ) (ok : Bool) (u v : View) → TellsAfter (Write f at bytes) ok u.told v.told → IsThere u f → FilesAfter f at bytes ok u v
file_written f at bytes ok u v t there = by_told f at bytes ok u v (content_of u.told) refl t there

-- what stands before the range of a write that failed
torn_front : (at n : ℕ) (old new : List ℕ) → Torn at n old new → at ≤ length old → take at new ≡ take at old
torn_front at n old new torn le =
    ext_get_or 0 (take at new) (take at old) (omega (arith, length-take {A = ℕ}, torn.no_shorter))
    (λ i lt. let below : i < at = omega (arith, length-take {A = ℕ}) in get_or-take at new i 0 below ∙ torn.same i (omega arith) (inl below) ∙ sym (get_or-take at old i 0 below))

written_front : (at : ℕ) (old bytes : List ℕ) → at ≤ length old → take (at + length bytes) (written old at bytes) ≡ take at old ++ bytes
written_front at old bytes le = grind (arith, common_steps)

place_in : (u : View) (f at : ℕ) (x : File) → IsPlace u f at → file_at u f ≡ Some x → at ≤ length x.bytes
place_in u f at x place is = in_told (content_of u.told) (λ c told here. place c x told here) is
  where
    in_told : (o : Option Content) → ((c : Content) → o ≡ Some c → c.files f ≡ Some x → at ≤ length x.bytes) → option_and_then (λ (c : Content). c.files f) o ≡ Some x → at ≤ length x.bytes
    in_told None h here = absurd (let wrong : None ≡ Some x = here in cc)
    in_told (Some c) h here = h c refl here

-- after a failed write, what stands before its place is as before
stays_before : (f at : ℕ) (bytes : List ℕ) (u v : View) → TellsAfter (Write f at bytes) false u.told v.told → IsThere u f → IsPlace u f at → written_before v f at ≡ written_before u f at
unfolding FilesAfter
stays_before f at bytes u v t there place =
    ⊎_elim
    (λ (h : (file_at u f ≡ None) × (file_at v f ≡ None)). ap (option_map (λ (x : File). take at x.bytes)) (h.1 ∙ sym h.0))
    (λ (h : (x y : File) × FileWritten f at bytes false u v x y).
    ap (option_map (λ (x : File). take at x.bytes)) h.2.after
    ∙ ap Some (torn_front at (length bytes) h.0.bytes h.1.bytes h.2.wrote.0 (place_in u f at h.0 place h.2.before))
    ∙ sym (ap (option_map (λ (x : File). take at x.bytes)) h.2.before))
    (file_written f at bytes false u v t there)

-- after a write, its bytes follow
follows_before : (f at : ℕ) (bytes : List ℕ) (u v : View) → TellsAfter (Write f at bytes) true u.told v.told → IsThere u f → IsPlace u f at → written_before v f (at + length bytes) ≡ and_then (written_before u f at) bytes
unfolding FilesAfter
follows_before f at bytes u v t there place =
    ⊎_elim
    (λ (h : (file_at u f ≡ None) × (file_at v f ≡ None)).
    ap (option_map (λ (x : File). take (at + length bytes) x.bytes)) h.1 ∙ sym (ap (λ (o : Option File). and_then (option_map (λ (x : File). take at x.bytes) o) bytes) h.0))
    (λ (h : (x y : File) × FileWritten f at bytes true u v x y).
    ap (option_map (λ (x : File). take (at + length bytes) x.bytes)) h.2.after
    ∙ ap (λ (x : File). Some (take (at + length bytes) x.bytes)) h.2.wrote
    ∙ ap Some (written_front at h.0.bytes bytes (place_in u f at h.0 place h.2.before))
    ∙ sym (ap (λ (o : Option File). and_then (option_map (λ (x : File). take at x.bytes) o) bytes) h.2.before))
    (file_written f at bytes true u v t there)

pub written_stays : {T E : Type 0} {f at size : ℕ} {bytes : List ℕ} {e : E} {u v : View} → Wrote {T = T} {E = E} (Write f at bytes) size (Err e) u v → IsThere u f → IsPlace u f at → written_before v f at ≡ written_before u f at
written_stays {f = f} {at = at} {bytes = bytes} {u = u} {v = v} h there place = stays_before f at bytes u v h.told there place

pub written_more : {T E : Type 0} {f at size : ℕ} {bytes : List ℕ} {x : T} {u v : View} → Wrote {T = T} {E = E} (Write f at bytes) size (Ok x) u v → IsThere u f → IsPlace u f at → written_before v f (at + length bytes) ≡ and_then (written_before u f at) bytes
written_more {f = f} {at = at} {bytes = bytes} {u = u} {v = v} h there place = follows_before f at bytes u v h.told there place

marks_kept : (ok : Bool) (at : ℕ) (bytes : List ℕ) (x y : File) → WroteTo ok at bytes x y → (y.mode ≡ x.mode) × (y.stamp ≡ x.stamp)
marks_kept true at bytes x y h = (ap (λ (z : File). z.mode) h, ap (λ (z : File). z.stamp) h)
marks_kept false at bytes x y h = (h.1, h.2)

pub only_wrote : {T E : Type 0} {f at size : ℕ} {bytes : List ℕ} {result : Result T E} {u v : View} → Wrote (Write f at bytes) size result u v → OnlyWrites f u v
only_wrote {f = f} {at = at} {bytes = bytes} {result = result} {u = u} {v = v} h = record {
  within = within_wrote h;
  marks = λ c x told is.
      let d = content_step (Write f at bytes) (is_ok result) u.told v.told h.told c told in
      let y = by_change (is_ok result) f at bytes c d.0 x d.2 is in
      let marks = marks_kept (is_ok result) at bytes x y.0 y.2 in
      (d.0, d.1, (y.0, y.1, marks.0, marks.1));
}

-- the content that has the file
pub file_told : (u : View) (f : ℕ) (x : File) → file_at u f ≡ Some x → (c : Content) × (content_of u.told ≡ Some c) × (c.files f ≡ Some x)
file_told u f x is = in_told (content_of u.told) is
  where
    in_told : (o : Option Content) → option_and_then (λ (c : Content). c.files f) o ≡ Some x → (c : Content) × (o ≡ Some c) × (c.files f ≡ Some x)
    in_told None here = absurd (let wrong : None ≡ Some x = here in cc)
    in_told (Some c) here = (c, refl, here)
