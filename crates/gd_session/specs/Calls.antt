-- What a call on a session owes.
use Rattle.gd_types.specs.Members.{Defined}
use Rattle.gd_types.specs.declared.members.Member.TheVariants.{Row}
use Rattle.std.specs.Prelude.{◌≡◌, ◌≤◌, ℕ, Bool, true, false, [], ◌∷◌, List, Option, Some, None, Result}
use Rattle.gd_base.specs.Streams.{and_then}
use Rattle.gd_base.specs.declared.errors.DbError.TheVariants as db
use Rattle.gd_types.specs.declared.errors.EncodeError.{EncodeError}
use Rattle.gd_types.specs.declared.errors.EncodeError.TheVariants as encoding
use Rattle.gd_session.specs.declared.reply.Reply.TheVariants as replies
use Rattle.gd_store.specs.Opened.{Fits, Opened, StandsFor}
use Rattle.gd_vault.specs.Content.{Content}
use Rattle.gd_vault.specs.Views.{View, HasFile, content_of}
use Rattle.gd_session.specs.Answers.{Answer, Faults}
use Rattle.gd_session.specs.State.{Held, State, Text, seen}
use Rattle.gd_session.specs.declared.phase.Phase as real
use Rattle.gd_session.specs.declared.phase.Phase.TheVariants as phases
use Rattle.gd_session.specs.declared.reply.Reply.{Reply}

-- the reading that a clock gave in a call, and its count of faults before and after
pub record Clocked : Type 0 where
  pub reading : Option ℕ
  pub counted : ℕ
  pub counts : ℕ

-- what is seen before or after a call: the session, the vault, and what the output tells and how often it has failed
pub record Scene : Type 0 where
  pub state : State
  pub view : View
  pub written : Option Text
  pub failed : ℕ

abbrev pub answer_in : Scene → Scene → Clocked → Content → Reply → Text → Content → Answer
answer_in old new k c reply text d = record {
  old = old.state;
  before = c;
  counted = record { vault = old.view.faults; clock = k.counted; out = old.failed };
  reading = k.reading;
  reply = reply;
  text = text;
  new = new.state;
  after = d;
  counts = record { vault = new.view.faults; clock = k.counts; out = new.failed };
}

-- a call printed a text, and its answer is of the row
pub record Answered (row : Answer → Type 0) (old new : Scene) (k : Clocked) (c : Content) (reply : Reply) : Type 0 where
  pub text : Text
  pub after : Content
  pub told : content_of new.view.told ≡ Some after
  pub written : new.written ≡ and_then old.written text
  pub is : row (answer_in old new k c reply text after)

-- where the content is told, the answer is of the row, by the reading of the clock and its counts
abbrev pub AnswersWith : (Answer → Type 0) → Scene → Scene → Clocked → Reply → Type 0
AnswersWith row old new k reply = (c : Content) → content_of old.view.told ≡ Some c → Answered row old new k c reply

-- the same whatever the clock did; its count doesn't fall
abbrev pub Answers : (Answer → Type 0) → Scene → Scene → Reply → Type 0
Answers row old new reply = (k : Clocked) → k.counted ≤ k.counts → AnswersWith row old new k reply

-- ---- the condition of the calls

-- an open database's file is there, it is that of its file, and the name last used stands for it
pub record IsOpen (v : View) (name : Text) (store : Opened) : Type 0 where
  pub there : HasFile v store.file
  pub fits : Fits v store
  pub named : store.broken ≡ false → StandsFor v name store.file

abbrev pub IsPhaseReady : View → Text → real.Phase → Type 0
IsPhaseReady v name phases.Fresh = Unit {0}
IsPhaseReady v name (phases.Open store) = IsOpen v name store
IsPhaseReady v name phases.Shut = Unit {0}

abbrev pub IsReady : View → Held → Type 0
IsReady v s = IsPhaseReady v s.settings.file s.phase

abbrev pub is_fresh : real.Phase → Bool
is_fresh phases.Fresh = true
is_fresh phase = false

abbrev pub scene : Held → View → Option Text → ℕ → Scene
scene h v out failed = record { state = seen h; view = v; written = out; failed = failed }

-- the file of the database that is open
abbrev pub OpenFile : real.Phase → ℕ → Type 0
OpenFile phases.Fresh g = ⊥
OpenFile (phases.Open store) g = g ≡ store.file
OpenFile phases.Shut g = ⊥

-- why words were not encoded, as a reply
abbrev pub words_reply : EncodeError → Reply
words_reply (encoding.Typed e) = replies.Typed e
words_reply encoding.OutOfMemory = replies.Refused db.OutOfMemory

-- a clock that wasn't asked
abbrev pub unasked : ℕ → Clocked
unasked count = record { reading = None; counted = count; counts = count }

-- all that a call may do to a vault: no file goes away, and the history is added to
abbrev pub AnyFile : ℕ → Type 0
AnyFile f = Unit {0}

abbrev pub AnyName : Text → Type 0
AnyName name = Unit {0}

-- the definition of one text
abbrev pub string_form : Defined
string_form = record { members = Row 9 ∷ []; braces = false }
