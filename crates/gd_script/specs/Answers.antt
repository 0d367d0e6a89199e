-- What an answer to a command, and to a line, is; T is what is seen of the interpreter.
use Rattle.std.specs.Prelude.{◌≡◌, ◌⊎◌, ◌≤◌, ℕ, List, [], ◌∷◌, ◌++◌, Option, Some, None, Ok, Err}
use Rattle.gd_base.specs.Causes.{Rose}
use Rattle.gd_base.specs.Clocks.{Readings}
use Rattle.gd_base.specs.Streams.{and_then}
use Rattle.gd_base.specs.declared.errors.DbError.TheVariants.{ClockFault, VaultFault}
use Rattle.gd_lang.specs.declared.commands.Command.{Command}
use Rattle.gd_lang.specs.declared.commands.Command.TheVariants as commands
use Rattle.gd_session.specs.declared.reply.Reply.{Reply}
use Rattle.gd_session.specs.declared.reply.Reply.TheVariants.{Done, Refused, SinkFault}
use Rattle.gd_vault.specs.Content.{Content}
use Rattle.gd_vault.specs.Frame.{Within}
use Rattle.gd_vault.specs.Views.{View, content_of}
use Rattle.gd_script.specs.Lines.{Line}
use Rattle.gd_script.specs.declared.turns.Answer as given
use Rattle.gd_script.specs.declared.turns.Answer.TheVariants as answer

abbrev pub Text : Type 0
Text = List ℕ

-- how often the vault, the clock and the output have failed
pub record Counts : Type 0 where
  pub vault : ℕ
  pub clock : ℕ
  pub out : ℕ

-- interpreter, content and counts of faults before a command, the reading of the clock, the reply and what is printed, and
-- interpreter, content and counts after it
pub record Answered (T : Type 0) : Type 0 where
  pub old : T
  pub before : Content
  pub counted : Counts
  pub reading : Option ℕ
  pub reply : Reply
  pub text : Text
  pub new : T
  pub after : Content
  pub counts : Counts

-- what is seen before or after a command: the interpreter, the vault, the output and the clock
pub record Scene (T : Type 0) : Type 0 where
  pub held : T
  pub view : View
  pub written : Option Text
  pub out_faults : ℕ
  pub told : Option Readings
  pub clock_faults : ℕ

abbrev pub scene : {T : Type 0} → T → View → Option Text → ℕ → Option Readings → ℕ → Scene T
scene held view written out_faults told clock_faults = record { held = held; view = view; written = written; out_faults = out_faults; told = told; clock_faults = clock_faults }

abbrev pub counts_in : {T : Type 0} → Scene T → Counts
counts_in s = record { vault = s.view.faults; clock = s.clock_faults; out = s.out_faults }

abbrev pub answered_in : {T : Type 0} → Scene T → Scene T → Content → Option ℕ → Reply → Text → Content → Answered T
answered_in old new c reading reply text d = record {
  old = old.held;
  before = c;
  counted = counts_in old;
  reading = reading;
  reply = reply;
  text = text;
  new = new.held;
  after = d;
  counts = counts_in new;
}

-- ---- what an interpreter owes

pub record Rules (T : Type 0) : Type 1 where
  -- an answer to a command, where the content is told
  pub step : Command → Answered T → Type 0
  -- the same over every vault, by what is seen before and after it, the reply and the reading of the clock
  pub owes : Command → (old new : Scene T) → Reply → Option ℕ → Type 0
  -- whether no answer asks the clock
  pub clockless : Type 0
  -- the closing at the end, where the content is told
  pub closes : Answered T → Type 0
  -- how the closing makes durable what it closes, over every vault
  pub syncs : T → Reply → (old new : View) → Type 0

-- ---- the answer to a command

abbrev pub AnyFile : ℕ → Type 0
AnyFile f = Unit {0}

abbrev pub AnyName : Text → Type 0
AnyName name = Unit {0}

-- the readings of one turn
abbrev pub given_in : Option ℕ → List ℕ
given_in None = []
given_in (Some r) = r ∷ []

-- a clock that tells its readings gave these ones
abbrev pub GivesMore : Option Readings → Option Readings → List ℕ → Type 0
GivesMore old new readings = (r : Readings) → old ≡ Some r → (next : ℕ) × (new ≡ Some (record { given = r.given ++ readings; next = next }))

-- a fault is answered only where the count of its object rose
abbrev pub ReplyCause : Reply → (old new : Counts) → Type 0
ReplyCause (Refused VaultFault) old new = Rose old.vault new.vault
ReplyCause (Refused ClockFault) old new = Rose old.clock new.clock
ReplyCause SinkFault old new = Rose old.out new.out
ReplyCause reply old new = Unit {0}

-- no count falls
pub record CountsLater (old new : Counts) : Type 0 where
  pub vault : old.vault ≤ new.vault
  pub clock : old.clock ≤ new.clock
  pub out : old.out ≤ new.out

-- the answer over a content that is told: a text was printed, and the answer is of the row
pub record Told {T : Type 0} (row : Answered T → Type 0) (old new : Scene T) (reply : Reply) (reading : Option ℕ) (c : Content) : Type 0 where
  pub text : Text
  pub after : Content
  pub content : content_of new.view.told ≡ Some after
  pub written : new.written ≡ and_then old.written text
  pub is : row (answered_in old new c reading reply text after)

-- the answer to a command, whatever is told
pub record Steps {T : Type 0} (rules : Rules T) (command : Command) (old new : Scene T) (reply : Reply) (reading : Option ℕ) : Type 0 where
  pub grows : Within AnyFile AnyName old.view new.view
  pub later : CountsLater (counts_in old) (counts_in new)
  pub clock : GivesMore old.told new.told (given_in reading)
  pub cause : ReplyCause reply (counts_in old) (counts_in new)
  pub owes : rules.owes command old new reply reading
  pub told : (c : Content) → content_of old.view.told ≡ Some c → Told (rules.step command) old new reply reading c

-- ---- the closing

-- a scene in which the output and the clock do not matter
abbrev pub still : {T : Type 0} → T → View → Scene T
still held view = scene held view None 0 None 0

-- what is open is closed, or the vault failed; nothing is printed
pub record Closing {T : Type 0} (rules : Rules T) (old new : T) (u v : View) (reply : Reply) : Type 0 where
  pub grows : Within AnyFile AnyName u v
  pub cause : (reply ≡ Done) ⊎ ((reply ≡ Refused VaultFault) × Rose u.faults v.faults)
  pub durable : rules.syncs old reply u v
  pub told : (c : Content) → content_of u.told ≡ Some c → (d : Content) × (content_of v.told ≡ Some d) × rules.closes (answered_in (still old u) (still new v) c None reply [] d)

-- ---- the answer to a line

-- nothing changes, and nothing is printed
pub record Stays {T : Type 0} (a : Answered T) : Type 0 where
  pub held : a.new ≡ a.old
  pub content : a.after ≡ a.before
  pub text : a.text ≡ []

-- a command is answered by its step; a refused line changes nothing, and neither does one without words
abbrev pub LineAnswers : {T : Type 0} → Rules T → Line → given.Answer → Answered T → Type 0
LineAnswers rules (Err e) x a = (x ≡ answer.Lang e) × Stays a
LineAnswers rules (Ok commands.Nothing) x a = (x ≡ answer.Nothing) × Stays a
LineAnswers rules (Ok command) x a = (x ≡ answer.Command a.reply) × rules.step command a

-- no object of a command is asked, and the clock gives no reading
pub record AsksNone {T : Type 0} (old new : Scene T) (reading : Option ℕ) : Type 0 where
  pub same : new ≡ old
  pub none : reading ≡ None

-- an answer fits its line, over every vault: that of a line that is no command is its error, and nothing is asked; that of a
-- command is a reply that the command owes
abbrev pub Fits : {T : Type 0} → Rules T → Line → given.Answer → (old new : Scene T) → Option ℕ → Type 0
Fits rules (Err e) x old new reading = (x ≡ answer.Lang e) × AsksNone old new reading
Fits rules (Ok commands.Nothing) x old new reading = (x ≡ answer.Nothing) × AsksNone old new reading
Fits rules (Ok command) x old new reading = (reply : Reply) × (x ≡ answer.Command reply) × rules.owes command old new reply reading

abbrev pub AnswerCause : given.Answer → (old new : Counts) → Type 0
AnswerCause (answer.Command reply) old new = ReplyCause reply old new
AnswerCause x old new = Unit {0}

pub record LineTold {T : Type 0} (rules : Rules T) (line : Line) (x : given.Answer) (reading : Option ℕ) (old new : Scene T) (c : Content) : Type 0 where
  pub reply : Reply
  pub text : Text
  pub after : Content
  pub content : content_of new.view.told ≡ Some after
  pub written : new.written ≡ and_then old.written text
  pub is : LineAnswers rules line x (answered_in old new c reading reply text after)

pub record LineSteps {T : Type 0} (rules : Rules T) (line : Line) (x : given.Answer) (reading : Option ℕ) (old new : Scene T) : Type 0 where
  pub grows : Within AnyFile AnyName old.view new.view
  pub later : CountsLater (counts_in old) (counts_in new)
  pub clock : GivesMore old.told new.told (given_in reading)
  pub cause : AnswerCause x (counts_in old) (counts_in new)
  pub fits : Fits rules line x old new reading
  pub told : (c : Content) → content_of old.view.told ≡ Some c → LineTold rules line x reading old new c
