-- What closing a database owes.
use Rattle.std.specs.Prelude.{◌≡◌, ℕ, Bool, false, Some, Result, Ok, Err}
use Rattle.gd_base.specs.Causes.{Rose}
use Rattle.gd_base.specs.declared.errors.DbError.{DbError}
use Rattle.gd_base.specs.declared.errors.DbError.TheVariants.{VaultFault}
use Rattle.gd_lang.specs.declared.commands.Command.{Command}
use Rattle.gd_lang.specs.declared.commands.Command.TheVariants as commands
use Rattle.gd_lang.specs.declared.commands.Opening.{Opening}
use Rattle.gd_store.specs.Opened.{Opened}
use Rattle.gd_store.specs.declared.access.Access.{Access}
use Rattle.gd_store.specs.declared.access.Access.TheVariants.{Writer}
use Rattle.gd_vault.specs.Changes.{Changed}
use Rattle.gd_vault.specs.Content.{Content}
use Rattle.gd_vault.specs.Events.Call.{Sync}
use Rattle.gd_vault.specs.Views.{View, HasFile, content_of}
use Rattle.gd_session.specs.Frames.{OpensWithin}
use Rattle.gd_session.specs.Rows.{Syncs}
use Rattle.gd_session.specs.State.{Held, Text, named, phase_of}
use Rattle.gd_session.specs.declared.phase.Phase as real
use Rattle.gd_session.specs.declared.phase.Phase.TheVariants as phases
use Rattle.gd_session.specs.declared.reply.Reply.{Reply}
use Rattle.gd_session.specs.declared.reply.Reply.TheVariants.{Done, Refused}

abbrev pub CanClose : View → real.Phase → Type 0
CanClose v phases.Fresh = Unit {0}
CanClose v (phases.Open store) = HasFile v store.file
CanClose v phases.Shut = Unit {0}

-- nothing that is read changes
abbrev pub SameContent : View → View → Type 0
SameContent u v = (c : Content) → content_of u.told ≡ Some c → content_of v.told ≡ Some c

abbrev pub IsClosing : real.Phase → Result (Unit {0}) DbError → View → View → Type 0
IsClosing p (Ok x) u v = SameContent u v
IsClosing p (Err e) u v = SameContent u v × (e ≡ VaultFault) × Rose u.faults v.faults × Syncs (phase_of p)

-- one that is open to write and not broken is made durable, by one call, and its failure is the refusal; any other is left alone
abbrev pub SyncsAs : (broken : Bool) → Access → ℕ → Result (Unit {0}) DbError → View → View → Type 0
SyncsAs false Writer f r u v = Changed (Sync f) r u v
SyncsAs broken access f r u v = (r ≡ Ok tt) × (v ≡ u)

abbrev pub SyncsStore : Opened → Result (Unit {0}) DbError → View → View → Type 0
SyncsStore store r u v = SyncsAs store.broken store.access store.file r u v

-- the database that is open is closed; where none is, nothing happens
abbrev pub SyncsOpen : real.Phase → Result (Unit {0}) DbError → View → View → Type 0
SyncsOpen phases.Fresh r u v = (r ≡ Ok tt) × (v ≡ u)
SyncsOpen (phases.Open store) r u v = SyncsStore store r u v
SyncsOpen phases.Shut r u v = (r ≡ Ok tt) × (v ≡ u)

-- the same by the reply
abbrev pub ClosesSynced : real.Phase → Reply → View → View → Type 0
ClosesSynced p Done u v = SyncsOpen p (Ok tt) u v
ClosesSynced p (Refused e) u v = (e ≡ VaultFault) × SyncsOpen p (Err e) u v
ClosesSynced p reply u v = ⊥

-- after the closing: an opening of the name, but nothing where it failed
abbrev pub Behind : Result (Unit {0}) DbError → Opening → Text → Reply → View → View → Type 0
Behind (Ok x) way name reply mid v = OpensWithin way name mid v
Behind (Err e) way name reply mid v = (e ≡ VaultFault) × (reply ≡ Refused e) × (v ≡ mid)

-- the database that is open is closed before another one is opened, and nothing else happens
pub record ClosesFirst (p : real.Phase) (way : Opening) (name : Text) (reply : Reply) (u v : View) : Type 0 where
  pub mid : View
  pub result : Result (Unit {0}) DbError
  pub closes : SyncsOpen p result u mid
  pub behind : Behind result way name reply mid v

-- what a command does to the database that was open, where it closes it
abbrev pub ClosesIn : Command → Held → Reply → View → View → Type 0
ClosesIn commands.Close h reply u v = ClosesSynced h.phase reply u v
ClosesIn (commands.Open name) h reply u v = ClosesFirst h.phase h.settings.opening (named name h.settings.file) reply u v
ClosesIn command h reply u v = Unit {0}
