-- Facts of opening a database.
use Rattle.std.proofs.Common.{◌≡◌, ◌≢◌, ◌⊎◌, ⊎_elim, ℕ, ◌<◌, true, false, List, length, Some, None, Result, Ok, Err, refl, sym, ap, subst, ◌∙◌, arith}
use Rattle.std.specs.Prelude.{IfOk, IfErr}
use Rattle.gd_base.specs.Causes.{Rose}
use Rattle.gd_base.specs.declared.errors.DbError.{DbError}
use Rattle.gd_base.specs.declared.errors.DbError.TheVariants.{Absent, VaultFault}
use Rattle.gd_readable.specs.Asks.{IsAnswer, Refuses}
use Rattle.gd_readable.proofs.Refusals.{refuses_map}
use Rattle.gd_format.specs.declared.Header.{Header}
use Rattle.gd_format.specs.Avail.{Avail, avail_at, is_avail}
use Rattle.gd_format.specs.File.{file_fault, front_of}
use Rattle.gd_format.specs.HeaderFault.{header_of}
use Rattle.gd_format.specs.Sound.{IsSound, sound_fault, most_of, table_of}
use Rattle.gd_file_laws.proofs.Headers.{header_in}
use Rattle.gd_file_laws.proofs.Points.{sound_parts}
use Rattle.gd_vault.specs.Content.{File}
use Rattle.gd_vault.specs.Views.{Read, Told, View, Asked, IsAt}
use Rattle.gd_store.specs.declared.access.Access.{Access}
use Rattle.gd_store.specs.declared.access.Access.TheVariants.{Reader, Writer}
use Rattle.gd_store.specs.Opened.{OnFile, IsRightFor, fault_for, is_for, is_of_opening}

abbrev Right : View → ℕ → Access → Header → Type 0
Right v f access h = OnFile v f (λ file. (fault_for access file ≡ None) × (h ≡ header_of (front_of file)))

pub reader_right : (r : Result Header DbError) (v : View) (f : ℕ) (access : Access) → access ≡ Reader → IfOk r (λ h. IsAt v (λ c. (x : File) → c.files f ≡ Some x → (file_fault x.bytes ≡ None) × (h ≡ header_of (front_of x.bytes)))) → IfOk r (λ h. Right v f access h)
reader_right (Ok h) v f access is told = λ c x t there. let k = told c t x there in (subst (λ (a : Access). fault_for a x.bytes ≡ None) (sym is) k.0, k.1)
reader_right (Err e) v f access is told = tt

pub writer_right : (r : Result Header DbError) (v : View) (f : ℕ) (access : Access) → access ≡ Writer → IfOk r (λ h. IsAt v (λ c. (x : File) → c.files f ≡ Some x → (sound_fault x.bytes ≡ None) × (h ≡ header_of (front_of x.bytes)))) → IfOk r (λ h. Right v f access h)
writer_right (Ok h) v f access is told = λ c x t there. let k = told c t x there in (subst (λ (a : Access). fault_for a x.bytes ≡ None) (sym is) k.0, k.1)
writer_right (Err e) v f access is told = tt

-- the table of a sound file is right, and its header's block lies in it
table_right : (file : List ℕ) → IsSound file → (is_avail (table_of file (header_of (front_of file))) (header_of (front_of file)).avail_size ≡ false) ⊎ (length file < (header_of (front_of file)).block) → ⊥
table_right file sound bad =
    let p = sound_parts file sound in
    let sizes = header_in (front_of file) (length file) p.header in
    ⊎_elim (λ wrong. (let no : true ≡ false = sym p.points.table ∙ wrong in absurd cc)) (λ (short : length file < (header_of (front_of file)).block). (let fits = sizes.fits in absurd (omega (arith, fits, short)))) bad

pub no_bad_table : (v : View) (f : ℕ) (h : Header) → IsAt v (λ c. (x : File) → c.files f ≡ Some x → (is_avail (table_of x.bytes h) h.avail_size ≡ false) ⊎ (length x.bytes < h.block)) → OnFile v f (λ file. h ≡ header_of (front_of file) → sound_fault file ≢ None)
no_bad_table v f h bad c x told there is none =
    table_right x.bytes none (subst (λ (k : Header). (is_avail (table_of x.bytes k) k.avail_size ≡ false) ⊎ (length x.bytes < k.block)) is (bad c told x there))

abbrev Refused : {T : Type 0} → Result T DbError → View → View → ℕ → Header → Access → Type 0
Refused r u v f h access = IfErr r (λ e. Refuses e (Rose u.faults v.faults) (OnFile u f (λ file. h ≡ header_of (front_of file) → fault_for access file ≢ None)))

pub refused_for : {T : Type 0} (r : Result T DbError) (u v : View) (f : ℕ) (h : Header) (access : Access) → access ≡ Writer → Refused r u v f h Writer → Refused r u v f h access
refused_for r u v f h access is refused = subst (λ (a : Access). Refused r u v f h a) (sym is) refused

-- what is kept is right for the access
pub right_for : (access : Access) (h : Header) (table : Avail) (file : List ℕ) → fault_for access file ≡ None → (access ≡ Writer → table ≡ avail_at (table_of file h) (most_of h)) → IsRightFor access h table file
right_for Reader h table file none t = none
right_for Writer h table file none t = (none, t refl)

-- ---- which errors may come, and what they leave

pub kind_for : {T : Type 0} (r : Result T DbError) (access a : Access) → access ≡ a → IfErr r (λ e. IsAnswer (is_for a) e) → IfErr r (λ e. IsAnswer (is_for access) e)
kind_for r access a is kind = subst (λ (b : Access). IfErr r (λ e. IsAnswer (is_for b) e)) (sym is) kind

opening_kind : (access : Access) (e : DbError) → is_for access e ≡ true → is_of_opening access e ≡ true
opening_kind access Absent kind = refl
opening_kind access e kind = kind

pub opening_answer : (access : Access) (e : DbError) → IsAnswer (is_for access) e → IsAnswer (is_of_opening access) e
opening_answer access e h = refuses_map e _ _ _ _ (λ x. x) (opening_kind access e) h

pub named_answer : (access : Access) (e : DbError) → (e ≡ VaultFault) ⊎ (e ≡ Absent) → IsAnswer (is_of_opening access) e
named_answer access e h = ⊎_elim (λ (is : e ≡ VaultFault). rw is tt) (λ (is : e ≡ Absent). rw is refl) h

absent_for : (access : Access) → is_for access Absent ≡ true → ⊥
absent_for Reader h = absurd cc
absent_for Writer h = absurd cc

-- no check of a file answers Absent
pub not_absent : (access : Access) (e : DbError) → IsAnswer (is_for access) e → e ≢ Absent
not_absent access e h is = absent_for access (subst (λ (d : DbError). IsAnswer (is_for access) d) is h)

-- a call that asks, reads nothing and is answered leaves all that is seen
pub asked_same : {T E : Type 0} (x : T) (u v : View) → Asked {T = T} {E = E} (Ok x) u v → v ≡ u
asked_same x u v a =
    ap (λ (t : Told). record v { told = t }) a.told
    ∙ ap (λ (n : ℕ). record v { told = u.told; faults = n }) a.cause.answered
    ∙ ap (λ (n : ℕ). record v { told = u.told; faults = u.faults; bytes_written = n }) a.bytes_written
    ∙ ap (λ (n : ℕ). record v { told = u.told; faults = u.faults; bytes_written = u.bytes_written; clones = n }) a.clones
    ∙ ap (λ (rs : List Read). record u { reads = rs }) a.reads
