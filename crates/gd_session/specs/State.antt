-- A session as contracts see it.
use Rattle.std.specs.Prelude.{ℕ, Bool, true, List, [], Option, Some, None}
use Rattle.gd_store.specs.declared.access.Access.{Access}
use Rattle.gd_store.specs.Opened.{Opened}
use Rattle.gd_types.specs.Members.{Defined}
use Rattle.gd_session.specs.declared.settings.Settings.{Settings}
use Rattle.gd_session.specs.declared.phase.Phase as real
use Rattle.gd_session.specs.declared.phase.Phase.TheVariants as variants

abbrev pub Text : Type 0
Text = List ℕ

-- an open database: the id of its file, for what it was opened, whether it is broken, and how many buckets may be kept
pub record Db : Type 0 where
  pub file : ℕ
  pub access : Access
  pub broken : Bool
  pub cache : ℕ

-- no database was opened yet; one is open; none is
pub data Phase : Type 0 where
  Fresh : Phase
  Open : (db : Db) → Phase
  Shut : Phase

-- the settings have the variables, and the name last used
pub record State : Type 0 where
  pub phase : Phase
  pub settings : Settings
  pub key_form : Defined
  pub content_form : Defined
  pub last : Option Text

-- what is kept of a session, with all that is kept of its database
pub record Held : Type 0 where
  pub phase : real.Phase
  pub settings : Settings
  pub key_form : Defined
  pub content_form : Defined
  pub last : Option Text

abbrev pub db_of : Opened → Db
db_of s = record { file = s.file; access = s.access; broken = s.broken; cache = s.cache }

abbrev pub phase_of : real.Phase → Phase
phase_of variants.Fresh = Fresh
phase_of (variants.Open store) = Open (db_of store)
phase_of variants.Shut = Shut

abbrev pub seen : Held → State
seen h = record { phase = phase_of h.phase; settings = h.settings; key_form = h.key_form; content_form = h.content_form; last = h.last }

-- with another phase
abbrev pub at_phase : State → Phase → State
at_phase s p = record s { phase = p }

-- no database is open any more, and no key is kept
abbrev pub shut : State → State
shut s = record s { phase = Shut; last = None }

-- a name, or else the one last used
abbrev pub named : Option Text → Text → Text
named None file = file
named (Some name) file = name

-- a name is the one last used
abbrev pub naming : Option Text → State → State
naming name s = record s { settings = record s.settings { file = named name s.settings.file } }

abbrev pub broken_db : Db → Db
broken_db db = record db { broken = true }
