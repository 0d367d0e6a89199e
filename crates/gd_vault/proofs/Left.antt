-- How images follow events.
use Rattle.std.proofs.Common.{◌≡◌, ◌≢◌, ◌⊎◌, inl, inr, ⊎_elim, ℕ, ◌+◌, ◌<◌, ◌≤◌, Bool, true, false, List, [], ◌∷◌, Option, Some, None, refl, sym, ap, subst, ◌∙◌, arith}
use Rattle.std.proofs.lemmas.Bool.{cases_lt}
use Rattle.gd_vault.specs.Content.{File, Content}
use Rattle.gd_vault.specs.Events.{Call, Event, content_after, moment_after}
use Rattle.gd_vault.specs.Effects.{Unfinished, file_of}
use Rattle.gd_vault.specs.History.{FileLeft, NameLeft, FileInside, LeftAfter, LeftInside, LeftStep, left, LeavesSince, Renames, MayName}
use Rattle.gd_vault.specs.Events.Call.{Create, Write, Truncate, Clone_into, Set_mode, Sync, Sync_names, Replace, Remove, Idle}

-- what is left at the moment of the end
pub left_now : (first : Content) (es : List Event) (image : Content) → left first es (moment_after es) image → LeftAfter first es image
left_now first [] image l = l
left_now first (e ∷ es) image l = l.after (omega arith)

pub since_now : (first : Content) (es : List Event) (P : ℕ → Content → Type 0) → ((image : Content) → LeftAfter first es image → P (moment_after es) image) → LeavesSince first es (moment_after es) P
since_now first es P here = record {
  later = omega arith;
  each = λ t image a b l.
      let e : t ≡ moment_after es = omega arith in
      subst (λ u. P u image) (sym e) (here image (left_now first es image (subst (λ u. left first es u image) e l)));
}

-- one event more
module _ (first : Content) (e : Event) (es : List Event) (start : ℕ) (P : ℕ → Content → Type 0) where
  at_moment : LeavesSince first es start P → ((image : Content) → LeftInside first es e.call image → P (moment_after es + 1) image) → ((image : Content) → LeftAfter first (e ∷ es) image → P (moment_after es + 2) image)
      → (t : ℕ) (image : Content) → start ≤ t → t ≤ moment_after (e ∷ es) → LeftStep first e es (left first es t image) t image → P t image
  at_moment so_far inside after t image a b l =
      ⊎_elim
      (λ (lt : t < moment_after es + 1). so_far.each t image a (omega arith) (l.earlier (omega arith)))
      (λ (ge : moment_after es + 1 ≤ t). ⊎_elim
      (λ (lt : t < moment_after es + 2).
      let is : t ≡ moment_after es + 1 = omega arith in
      subst (λ u. P u image) (sym is) (inside image (l.inside is)))
      (λ (ge : moment_after es + 2 ≤ t).
      let is : t ≡ moment_after es + 2 = omega arith in
      subst (λ u. P u image) (sym is) (after image (l.after is)))
      (cases_lt t (moment_after es + 2)))
      (cases_lt t (moment_after es + 1))

  pub since_more : LeavesSince first es start P → ((image : Content) → LeftInside first es e.call image → P (moment_after es + 1) image) → ((image : Content) → LeftAfter first (e ∷ es) image → P (moment_after es + 2) image)
      → LeavesSince first (e ∷ es) start P
  since_more so_far inside after = record {
    later = omega (arith, so_far.later);
    each = λ t image a b l. at_moment so_far inside after t image a b l;
  }

module _ (first : Content) (es : List Event) (e : Event) (f : ℕ) (x : File) (exists : (content_after first es).files f ≢ None) where
  pub other_kept : file_of e.call ≢ Some f → FileLeft first (e ∷ es) f x → FileLeft first es f x
  other_kept ne l =
      let s = l.step (λ p. absurd (ne (ap file_of p))) exists in
      subst (FileLeft first es f) (sym (s.2.other ne)) s.1

  pub other_inside : file_of e.call ≢ Some f → FileInside (content_after first es) e.call f (FileLeft first es f) x → FileLeft first es f x
  other_inside ne l =
      let s = l.step exists in
      subst (FileLeft first es f) (sym (s.2.other ne)) s.1

  pub own_kept : file_of e.call ≡ Some f → (e.call ≡ Sync f → e.ok ≡ false) → FileLeft first (e ∷ es) f x → (y : File) × FileLeft first es f y × Unfinished e.call y x
  own_kept is failed l = let s = l.step failed exists in (s.0, s.1, s.2.own is)

  pub own_inside : file_of e.call ≡ Some f → FileInside (content_after first es) e.call f (FileLeft first es f) x → (y : File) × FileLeft first es f y × Unfinished e.call y x
  own_inside is l = let s = l.step exists in (s.0, s.1, s.2.own is)

named : (c : Content) (call : Call) (n : List ℕ) (z : Option ℕ) → MayName c call n z → Renames call n
named c (Create name mode) n z h = h.0
named c (Write f at bytes) n z h = h
named c (Truncate f) n z h = h
named c (Clone_into f src stamp) n z h = h
named c (Set_mode f mode) n z h = h
named c (Sync f) n z h = h
named c Sync_names n z h = h
named c (Replace from to) n z h = ⊎_elim (λ (p : (n ≡ to) × (z ≡ c.names from)). inr p.0) (λ (p : (n ≡ from) × (from ≢ to) × (z ≡ None)). inl p.0) h
named c (Remove name) n z h = h.0
named c Idle n z h = h

-- a names' sync that succeeded, or none
pub names_synced : (call : Call) (ok : Bool) → ((call ≡ Sync_names) × (ok ≡ true)) ⊎ (call ≡ Sync_names → ok ≡ false)
names_synced (Create name mode) ok = inr (λ e. cc)
names_synced (Write f at bytes) ok = inr (λ e. cc)
names_synced (Truncate f) ok = inr (λ e. cc)
names_synced (Clone_into f src stamp) ok = inr (λ e. cc)
names_synced (Set_mode f mode) ok = inr (λ e. cc)
names_synced (Sync f) ok = inr (λ e. cc)
names_synced Sync_names true = inl (refl, refl)
names_synced Sync_names false = inr (λ e. refl)
names_synced (Replace from to) ok = inr (λ e. cc)
names_synced (Remove name) ok = inr (λ e. cc)
names_synced Idle ok = inr (λ e. cc)

module _ (first : Content) (es : List Event) (n : List ℕ) (P : Option ℕ → Type 0) (now : (z : Option ℕ) → NameLeft first es n z → P z) (reads : P ((content_after first es).names n)) where
  pub name_kept : (e : Event) → e.after.names n ≡ (content_after first es).names n → (z : Option ℕ) → NameLeft first (e ∷ es) n z → P z
  name_kept e same z l =
      let as_now : z ≡ e.after.names n → P z = λ is. subst P (sym (is ∙ same)) reads in
      ⊎_elim
      (λ (h : (e.call ≡ Sync_names) × (e.ok ≡ true)). as_now (l.synced h.0 h.1))
      (λ (h : e.call ≡ Sync_names → e.ok ≡ false). ⊎_elim (λ (was : NameLeft first es n z). now z was) (λ (is : z ≡ e.after.names n). as_now is) (l.step h))
      (names_synced e.call e.ok)

  pub name_inside : (call : Call) → (Renames call n → ⊥) → (z : Option ℕ) → NameLeft first es n z ⊎ MayName (content_after first es) call n z → P z
  name_inside call not z l = ⊎_elim (λ (h : NameLeft first es n z). now z h) (λ (h : MayName (content_after first es) call n z). absurd (not (named (content_after first es) call n z h))) l
