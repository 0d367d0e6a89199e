-- The turns of a run: each is a step from where the one before ended.
use Rattle.std.specs.Prelude.{◌≡◌, ◌≢◌, ◌≤◌, ℕ, false, List, [], ◌∷◌, ◌++◌}
use Rattle.gd_session.specs.declared.reply.Reply.{Reply}
use Rattle.gd_session.specs.declared.reply.Reply.TheVariants.{SinkFault}
use Rattle.gd_vault.specs.Content.{Content}
use Rattle.gd_vault.specs.Views.{IsMoment}
use Rattle.gd_script.specs.Answers.{Answered, AnswerCause, Counts, Fits, LineAnswers, Rules, Scene, Text, counts_in, given_in}
use Rattle.gd_script.specs.Lines.{Line, is_quit}
use Rattle.gd_script.specs.declared.turns.Answer.TheVariants as answer
use Rattle.gd_script.specs.declared.turns.Faults.{Faults}
use Rattle.gd_script.specs.declared.turns.Turn.{Turn}

-- where a run stands: the interpreter, the vault's moment, the counts of faults, what was printed, and the readings that the
-- clock gave
pub record Now (T : Type 0) : Type 0 where
  pub held : T
  pub moment : ℕ
  pub faults : Faults
  pub out : Text
  pub readings : List ℕ

abbrev pub counts_of : Faults → Counts
counts_of f = record { vault = f.vault; clock = f.clock; out = f.out }

-- no count falls
pub record NeverFall (f g : Faults) : Type 0 where
  pub input : f.input ≤ g.input
  pub out : f.out ≤ g.out
  pub err : f.err ≤ g.err
  pub vault : f.vault ≤ g.vault
  pub clock : f.clock ≤ g.clock

-- the answer that a turn has, with the contents at the moments around it
abbrev pub answered_at : {T : Type 0} → (ℕ → Content) → Turn → Now T → Now T → Reply → Text → Answered T
answered_at was t n m reply text = record {
  old = n.held;
  before = was n.moment;
  counted = counts_of n.faults;
  reading = t.reading;
  reply = reply;
  text = text;
  new = m.held;
  after = was m.moment;
  counts = counts_of m.faults;
}

-- one turn: from the end of the one before it, over the reading of its line, its step and its error line
pub record Link {T : Type 0} (rules : Rules T) (was : ℕ → Content) (line : Line) (t : Turn) (n m : Now T) : Type 0 where
  pub done : m.moment ≡ t.done
  pub counts : m.faults ≡ t.faults
  pub later : n.moment ≤ m.moment
  pub never_fall : NeverFall n.faults m.faults
  pub reply : Reply
  pub text : Text
  pub printed : m.out ≡ n.out ++ text
  pub reading : m.readings ≡ n.readings ++ given_in t.reading
  pub answers : LineAnswers rules line t.answer (answered_at was t n m reply text)

-- turns, one a line; lines may be left
unfoldable pub Chain : {T : Type 0} → Rules T → (ℕ → Content) → List Line → List Turn → Now T → Now T → Type 0
Chain rules was lines [] n m = m ≡ n
Chain rules was [] (t ∷ ts) n m = ⊥
Chain {T = T} rules was (line ∷ lines) (t ∷ ts) n m = (mid : Now T) × Link rules was line t n mid × Chain rules was lines ts mid m

-- counts never fall from turn to turn, and a fault is answered only where its object's count rose; over every vault
unfoldable pub Counted : Faults → List Turn → Faults → Type 0
Counted f [] g = g ≡ f
Counted f (t ∷ ts) g = NeverFall f t.faults × AnswerCause t.answer (counts_of f) (counts_of t.faults) × Counted t.faults ts g

-- ---- what is owed over every vault

-- a turn: its answer fits its line, and its counts and its moment are those at its end
pub record Fitted {T : Type 0} (rules : Rules T) (line : Line) (t : Turn) (old new : Scene T) : Type 0 where
  pub counts : counts_of t.faults ≡ counts_in new
  pub moment : IsMoment new.view t.done
  pub fits : Fits rules line t.answer old new t.reading

-- turns, one a line, each from what is seen at the end of the one before
unfoldable pub Fitting : {T : Type 0} → Rules T → List Line → List Turn → (old new : Scene T) → Type 0
Fitting rules [] [] old new = new ≡ old
Fitting rules [] (t ∷ ts) old new = ⊥
Fitting rules (line ∷ lines) [] old new = ⊥
Fitting {T = T} rules (line ∷ lines) (t ∷ ts) old new = (mid : Scene T) × Fitted rules line t old mid × Fitting rules lines ts mid new

-- ---- behind which turns another one may come, over every vault

-- the line is not that of `quit`, and neither the input, the output nor standard error failed in the turn
pub record IsCalm (f : Faults) (line : Line) (t : Turn) : Type 0 where
  pub goes_on : is_quit line ≡ false
  pub answered : t.answer ≢ answer.Command SinkFault
  pub input : t.faults.input ≡ f.input
  pub out : t.faults.out ≡ f.out
  pub err : t.faults.err ≡ f.err

-- all turns are such ones, one a line
unfoldable pub Calm : Faults → List Line → List Turn → Type 0
Calm f [] [] = Unit {0}
Calm f [] (t ∷ ts) = ⊥
Calm f (line ∷ lines) [] = ⊥
Calm f (line ∷ lines) (t ∷ ts) = IsCalm f line t × Calm t.faults lines ts

-- all turns before the last one are such ones
pub record LastTurn (f : Faults) (ds : List Line) (turns : List Turn) : Type 0 where
  pub lines : List Line
  pub line : Line
  pub before : List Turn
  pub turn : Turn
  pub ds_is : ds ≡ lines ++ line ∷ []
  pub turns_is : turns ≡ before ++ turn ∷ []
  pub calm : Calm f lines before
