-- How a run of the database tool goes.
use Rattle.std.specs.Prelude.{◌≡◌, ◌⊎◌, ℕ, Bool, List, [], Option, Some, None, codes, if◌then◌else◌, MatchBool}
use Rattle.gd_base.specs.Causes.{Rose}
use Rattle.gd_base.specs.Streams.{WritesFront, and_then}
use Rattle.gd_script.specs.Answers.{scene}
use Rattle.gd_script.specs.Script.{Scripted}
use Rattle.gd_script.specs.Sessions.{session_rules}
use Rattle.gd_script.specs.Turns.{Objects, objects}
use Rattle.gd_script.specs.declared.turns.Turn.{Turn}
use Rattle.gd_session.specs.Calls.{string_form}
use Rattle.gd_session.specs.State.{Held}
use Rattle.gd_session.specs.declared.phase.Phase.TheVariants as phases
use Rattle.gd_words.specs.Meaning.{tool_reading}
use Rattle.gd_words.specs.Reads as reads
use Rattle.gd_words.specs.declared.matching.Refusal.{Refusal}
use Rattle.gd_words.specs.declared.matching.Refusal.TheVariants.{Usage, Memory}
use Rattle.gd_words.specs.declared.tool.ToolWords.{ToolWords}
use Rattle.gd_top.specs.Devices.{Devices}
use Rattle.gd_top.specs.Words.{Text}

-- ---- no session is begun

abbrev pub refusal_line : Refusal → Text
refusal_line Usage = codes "gdbmtool: usage error\n"
refusal_line Memory = codes "gdbmtool: out of memory\n"

-- by whether the line was said whole
abbrev pub refusal_status : Refusal → (said : Bool) → ℕ
refusal_status Usage said = 3
refusal_status Memory said = if said then 4 else 1

-- a refusal is said, whole or in part, and the status is that of it
pub record SaysRefusal (refusal : Refusal) (status before now : ℕ) (err0 err1 : Option Text) : Type 0 where
  pub said : Bool
  pub status_is : status ≡ refusal_status refusal said
  pub says : MatchBool said
      ((err1 ≡ and_then err0 (refusal_line refusal)) × (now ≡ before))
      (WritesFront err0 err1 (refusal_line refusal) × Rose before now)

-- the words are refused, or no memory was found: this is said, and nothing else is done
pub record Unbegun (words : List Text) (status : ℕ) (turns : List Turn) (old new : Devices) : Type 0 where
  pub refusal : Refusal
  pub why : reads.Refuses refusal (tool_reading words)
  pub says : SaysRefusal refusal status old.err_faults new.err_faults old.said new.said
  pub stays : new ≡ record old { said = new.said; err_faults = new.err_faults }
  pub turns_none : turns ≡ []

-- ---- a session runs the script

-- the session before its first command: the variables are those of the words, and no database was opened yet
abbrev pub begun : ToolWords → Held
begun w = record {
  phase = phases.Fresh;
  settings = record { file = w.db; opening = w.opening; block = w.block; cache = w.cache; format = w.format; delim = codes "," };
  key_form = string_form;
  content_form = string_form;
  last = None;
}

-- the objects of a script with a session
abbrev pub with_session : Held → Devices → Objects Held
with_session held d = objects (scene held d.view d.written d.out_faults d.told d.clock_faults) d.left d.input_faults d.said d.err_faults

-- the session that the words ask for has run the script of the input
pub record Begun (words : List Text) (status : ℕ) (turns : List Turn) (old new : Devices) : Type 0 where
  pub meant : ToolWords
  pub reads : tool_reading words ≡ Some meant
  pub after : Held
  pub scripted : Scripted session_rules status turns
      (with_session (begun meant) old) (with_session after new)

-- ---- the run

-- the words are refused, or no memory was found, or a session runs the script of the input
abbrev pub Scripts : List Text → (status : ℕ) → List Turn → (old new : Devices) → Type 0
Scripts words status turns old new = Unbegun words status turns old new ⊎ Begun words status turns old new
