-- Why a command was answered so, whatever the vault and the output tell.
use Rattle.std.specs.Prelude.{◌≡◌, ◌⊎◌, ℕ, Bool, true, false, List, Option, Some, None, Result, Ok, Err}
use Rattle.gd_base.specs.Causes.{Rose}
use Rattle.gd_base.specs.declared.errors.DbError.TheVariants.{ClockFault, NeedRecovery, NotOpen, OutOfMemory, ReaderCant, VaultFault}
use Rattle.gd_lang.specs.declared.commands.Command.{Command}
use Rattle.gd_lang.specs.declared.commands.Command.TheVariants as commands
use Rattle.gd_lang.specs.declared.commands.Setting.{Setting}
use Rattle.gd_store.specs.declared.access.Access.{Access}
use Rattle.gd_store.specs.declared.access.Access.TheVariants.{Reader, Writer}
use Rattle.gd_types.specs.Encoding.{typed_bytes}
use Rattle.gd_types.specs.declared.errors.TypeError.{TypeError}
use Rattle.gd_session.specs.Calls.{Scene}
use Rattle.gd_session.specs.State.{Db, Phase, State}
use Rattle.gd_session.specs.State.Phase.{Fresh, Open, Shut}
use Rattle.gd_session.specs.declared.reply.Reply.{Reply}
use Rattle.gd_session.specs.declared.reply.Reply.TheVariants.{Quit, Refused, SinkFault, Typed}

-- ---- the refusal that is due by the session and the command alone, from the last to the first

-- a command that asks has none of its own
abbrev pub ask_due : Db → Option Reply
ask_due db = None

-- a database that is open to read refuses a change
abbrev pub access_due : Access → Option Reply
access_due Reader = Some (Refused ReaderCant)
access_due Writer = None

abbrev pub write_due : Db → Option Reply
write_due db = access_due db.access

-- a broken database refuses
abbrev pub broken_due : Bool → Option Reply → Option Reply
broken_due true own = Some (Refused NeedRecovery)
broken_due false own = own

-- a command that needs a database: one may be open, and the first such command opens it
abbrev pub phase_due : (Db → Option Reply) → Phase → Option Reply
phase_due own Fresh = None
phase_due own (Open db) = broken_due db.broken (own db)
phase_due own Shut = Some (Refused NotOpen)

-- an argument that does not fit its definition comes first
abbrev pub typed_due : Result (List ℕ) TypeError → Option Reply → Option Reply
typed_due (Ok bytes) own = own
typed_due (Err e) own = Some (Typed e)

abbrev pub key_due : List (List ℕ) → (Db → Option Reply) → State → Option Reply
key_due words own s = typed_due (typed_bytes s.key_form words) (phase_due own s.phase)

abbrev pub content_due : List (List ℕ) → (Db → Option Reply) → State → Option Reply
content_due words own s = typed_due (typed_bytes s.content_form words) (phase_due own s.phase)

abbrev pub pair_due : (key content : List (List ℕ)) → State → Option Reply
pair_due key content s = typed_due (typed_bytes s.key_form key) (content_due content write_due s)

abbrev pub due : Command → State → Option Reply
due commands.Count s = phase_due ask_due s.phase
due (commands.Fetch key) s = key_due key ask_due s
due commands.First s = phase_due ask_due s.phase
due (commands.Next None) s = phase_due ask_due s.phase
due (commands.Next (Some key)) s = key_due key ask_due s
due commands.List s = phase_due ask_due s.phase
due (commands.Store key content) s = pair_due key content s
due (commands.Insert key content) s = pair_due key content s
due (commands.Delete key) s = key_due key write_due s
due (commands.Fill start n) s = phase_due write_due s.phase
due command s = None

-- ---- which answers a command has

-- does it ask the vault; does it print; has it typed arguments or prints typed data; does it end the run?
pub record Kind : Type 0 where
  pub asks : Bool
  pub prints : Bool
  pub types : Bool
  pub quits : Bool

abbrev pub counting : Kind
counting = record { asks = true; prints = true; types = false; quits = false }

abbrev pub showing : Kind
showing = record { asks = true; prints = true; types = true; quits = false }

abbrev pub changing : Kind
changing = record { asks = true; prints = false; types = true; quits = false }

abbrev pub moving : Kind
moving = record { asks = true; prints = false; types = false; quits = false }

abbrev pub telling : Kind
telling = record { asks = false; prints = true; types = false; quits = false }

abbrev pub silent : Kind
silent = record { asks = false; prints = false; types = false; quits = false }

abbrev pub ending : Kind
ending = record { asks = false; prints = false; types = false; quits = true }

abbrev pub set_kind : Option Setting → Kind
set_kind None = telling
set_kind (Some setting) = silent

abbrev pub kind_of : Command → Kind
kind_of commands.Nothing = silent
kind_of (commands.Open name) = moving
kind_of commands.Close = moving
kind_of commands.Quit = ending
kind_of commands.Version = telling
kind_of (commands.Set setting) = set_kind setting
kind_of commands.Count = counting
kind_of (commands.Fetch key) = showing
kind_of commands.First = showing
kind_of (commands.Next key) = showing
kind_of commands.List = showing
kind_of (commands.Store key content) = changing
kind_of (commands.Insert key content) = changing
kind_of (commands.Delete key) = changing
kind_of (commands.Fill start n) = counting

-- ---- causes

-- the refusal that is due, or want of memory; nothing happened
pub record RefusedEarly (due : Reply) (old new : Scene) (r : Reply) : Type 0 where
  pub reply : (r ≡ due) ⊎ (r ≡ Refused OutOfMemory)
  pub stays : new ≡ old

-- a refusal that is due comes, and NotOpen only where it is due; a fault of the vault or of the output comes only from a
-- command that asks it or prints, and where its count of faults rose; no command asks the clock
pub record Causes (due : Option Reply) (kind : Kind) (old new : Scene) (r : Reply) : Type 0 where
  pub early : (e : Reply) → due ≡ Some e → RefusedEarly e old new r
  pub shut : r ≡ Refused NotOpen → due ≡ Some (Refused NotOpen)
  pub vault : r ≡ Refused VaultFault → (kind.asks ≡ true) × Rose old.view.faults new.view.faults
  pub clock : r ≡ Refused ClockFault → ⊥
  pub out : r ≡ SinkFault → (kind.prints ≡ true) × Rose old.failed new.failed
  pub typed : (e : TypeError) → r ≡ Typed e → kind.types ≡ true
  pub quit : r ≡ Quit → kind.quits ≡ true
  pub quits : kind.quits ≡ true → r ≡ Quit

abbrev pub CausedBy : Command → Scene → Scene → Reply → Type 0
CausedBy command old new r = Causes (due command old.state) (kind_of command) old new r
