-- Which answers a command has that needs no open database, and which session it leaves, whatever the vault tells.
use Rattle.std.specs.Prelude.{◌≡◌, ◌⊎◌, ℕ, Bool, true, false, ◌||◌, Option, Some, None}
use Rattle.gd_base.specs.declared.errors.DbError.{DbError}
use Rattle.gd_base.specs.declared.errors.DbError.TheVariants.{Exists, OutOfMemory, VaultFault}
use Rattle.gd_base.specs.declared.errors.Which.TheVariants.{Only}
use Rattle.gd_lang.specs.declared.commands.Command.{Command}
use Rattle.gd_lang.specs.declared.commands.Command.TheVariants as commands
use Rattle.gd_lang.specs.declared.commands.Opening.{Opening}
use Rattle.gd_lang.specs.declared.commands.Opening.TheVariants as ways
use Rattle.gd_lang.specs.declared.commands.Setting.{Setting}
use Rattle.gd_store.specs.Opened.{is_of_opening}
use Rattle.gd_store.specs.declared.access.Access.{Access}
use Rattle.gd_store.specs.declared.access.Access.TheVariants.{Reader, Writer}
use Rattle.gd_session.specs.Rows.{Syncs}
use Rattle.gd_session.specs.Said.{Sets}
use Rattle.gd_session.specs.State.{Db, State, Text, at_phase, naming, shut}
use Rattle.gd_session.specs.State.Phase.{Open}
use Rattle.gd_session.specs.declared.reply.Reply.{Reply}
use Rattle.gd_session.specs.declared.reply.Reply.TheVariants.{Done, Quit, Refused}
use Rattle.gd_session.specs.declared.settings.Settings.{Settings}

-- from a session, by a reply, to a session
abbrev pub Move : Type 1
Move = State → Reply → State → Type 0

-- ---- errors

-- a refusal is one of these
abbrev pub IsError : (DbError → Bool) → Reply → Type 0
IsError kinds (Refused e) = kinds e ≡ true
IsError kinds reply = Unit {0}

-- a fault, want of memory, and these
abbrev pub or_failed : (DbError → Bool) → DbError → Bool
or_failed kinds VaultFault = true
or_failed kinds OutOfMemory = true
or_failed kinds e = kinds e

-- a file is made: Exists comes over a vault that contradicts itself
abbrev pub is_of_making : DbError → Bool
is_of_making (Exists Only) = true
is_of_making e = false

-- the refusals of an opening, by its way
abbrev pub is_of_way : Opening → DbError → Bool
is_of_way ways.NewDb e = is_of_making e
is_of_way ways.WrCreat e = is_of_making e || is_of_opening Writer e
is_of_way ways.Reader e = is_of_opening Reader e

-- ---- openings

abbrev pub access_of : Opening → Access
access_of ways.NewDb = Writer
access_of ways.WrCreat = Writer
access_of ways.Reader = Reader

-- a database that was just opened
pub record IsNew (access : Access) (cache : ℕ) (db : Db) : Type 0 where
  pub access_is : db.access ≡ access
  pub cache_is : db.cache ≡ cache
  pub whole : db.broken ≡ false

-- one that was opened by the variables
abbrev pub IsFirst : Settings → Db → Type 0
IsFirst s db = IsNew (access_of s.opening) s.cache db

-- ---- moves

-- the session stays, and nothing is refused
abbrev pub Plain : Move
Plain s r t = IsError (λ e. false) r × (t ≡ s)

abbrev pub SetMove : Option Setting → Move
SetMove None s r t = Plain s r t
SetMove (Some setting) s r t = Sets setting s t r

-- only a database that is open to write and not broken may fail to be closed
abbrev pub Closes : Move
Closes s r t = ((r ≡ Done) ⊎ ((r ≡ Refused VaultFault) × Syncs s.phase)) × (t ≡ shut s)

-- one was opened, or none is open
abbrev pub KeepsOpened : Reply → State → State → Type 0
KeepsOpened Done s t = (db : Db) × IsFirst s.settings db × (t ≡ at_phase s (Open db))
KeepsOpened reply s t = t ≡ s

abbrev pub Reopens : Option Text → Move
Reopens name s r t = IsError (or_failed (is_of_way s.settings.opening)) r × KeepsOpened r (shut (naming name s)) t

-- ---- commands

-- those that need an open database have theirs by their rows
abbrev pub CommandMoves : Command → Move
CommandMoves commands.Nothing s r t = (r ≡ Done) × (t ≡ s)
CommandMoves (commands.Open name) s r t = Reopens name s r t
CommandMoves commands.Close s r t = Closes s r t
CommandMoves commands.Quit s r t = (r ≡ Quit) × (t ≡ s)
CommandMoves commands.Version s r t = Plain s r t
CommandMoves (commands.Set setting) s r t = SetMove setting s r t
CommandMoves command s r t = Unit {0}
