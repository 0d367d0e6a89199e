-- What a call that opens a database owes.
use Rattle.std.specs.Prelude.{◌≡◌, ◌≤◌, ℕ, Bool, List, Some, Result, Ok, Err, is_ok, true}
use Rattle.gd_base.specs.Causes.{Rose}
use Rattle.gd_base.specs.declared.errors.DbError.{DbError}
use Rattle.gd_base.specs.declared.errors.DbError.TheVariants.{Absent, Exists, VaultFault}
use Rattle.gd_readable.specs.Asks.{Refuses, is_of_sound}
use Rattle.gd_store.specs.Opened.{Opened}
use Rattle.gd_vault.specs.Content.{Content}
use Rattle.gd_vault.specs.Views.{View, content_of}
use Rattle.gd_session.specs.Calls.{IsOpen}
use Rattle.gd_session.specs.Opens.{Opens, OpensOrMakes, Spoils, SpoilsAt}
use Rattle.gd_session.specs.State.{Db, Held, Text, db_of}
use Rattle.gd_session.specs.declared.phase.Phase as real
use Rattle.gd_session.specs.declared.phase.Phase.TheVariants as phases
use Rattle.gd_session.specs.declared.settings.Settings.{Settings}

-- how an opening relates the content before, its result and the content after
abbrev pub Relation : Type 1
Relation = Content → Result Db DbError → Content → Type 0

abbrev pub OpensByName : Settings → Relation
OpensByName s c r d = OpensOrMakes (c.names s.file) s c r d

-- the database was opened
pub record IsOpened (opens : Relation) (name : Text) (o : Opened) (u v : View) : Type 0 where
  pub is_open : IsOpen v name o
  pub opened : (c : Content) → content_of u.told ≡ Some c → (d : Content) × (content_of v.told ≡ Some d) × opens c (Ok (db_of o)) d

-- what a fault may have changed
abbrev pub Spoiling : Type 1
Spoiling = Content → Content → Type 0

abbrev pub SpoilsByName : Settings → Spoiling
SpoilsByName s c d = SpoilsAt (c.names s.file) s c d

pub record Faulted (spoils : Spoiling) (u v : View) : Type 0 where
  pub rose : Rose u.faults v.faults
  pub spoiled : (c : Content) → content_of u.told ≡ Some c → (d : Content) × (content_of v.told ≡ Some d) × spoils c d

-- another refusal changes nothing
abbrev pub IsRefusedOpening : Relation → Spoiling → DbError → View → View → Type 0
IsRefusedOpening opens spoils VaultFault u v = Faulted spoils u v
IsRefusedOpening opens spoils e u v = (c : Content) → content_of u.told ≡ Some c → (content_of v.told ≡ Some c) × opens c (Err e) c

abbrev pub IsOpening : Relation → Spoiling → Text → Result Opened DbError → View → View → Type 0
IsOpening opens spoils name (Ok o) u v = IsOpened opens name o u v
IsOpening opens spoils name (Err e) u v = IsRefusedOpening opens spoils e u v

-- the first opening: of a session in which none was opened yet
abbrev pub FirstOf : real.Phase → Held → Held → Result (Unit {0}) DbError → View → View → Type 0
FirstOf phases.Fresh h g (Ok x) u v = (o : Opened) × (g ≡ record h { phase = phases.Open o }) × IsOpened (Opens h.settings) h.settings.file o u v × (u.faults ≤ v.faults)
FirstOf phases.Fresh h g (Err e) u v = (g ≡ h) × IsRefusedOpening (Opens h.settings) (Spoils h.settings) e u v
FirstOf p h g r u v = (is_ok r ≡ true) × (g ≡ h) × (v ≡ u)

abbrev pub First : Held → Held → Result (Unit {0}) DbError → View → View → Type 0
First h g r u v = FirstOf h.phase h g r u v

-- which refusals an opening has, whatever the vault tells: a fault that was counted, want of memory, and those of the name and
-- the file
abbrev pub is_of_named : DbError → Bool
is_of_named (Exists which) = true
is_of_named Absent = true
is_of_named e = is_of_sound e

abbrev pub IsOpeningCause : DbError → ℕ → ℕ → Type 0
IsOpeningCause e before now = Refuses e (Rose before now) (is_of_named e ≡ true)
