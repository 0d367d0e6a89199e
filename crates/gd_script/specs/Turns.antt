-- What one line does to the turns of a run.
use Rattle.std.specs.Prelude.{◌≡◌, ◌≢◌, ◌⊎◌, ◌≤◌, ◌+◌, ℕ, Bool, true, false, List, [], ◌∷◌, ◌++◌, length, Option, Some, None, Result, Ok, Err, is_ok}
use Rattle.gd_base.specs.Causes.{Rose}
use Rattle.gd_base.specs.Streams.{WritesFront, and_then}
use Rattle.gd_base.specs.declared.errors.Failed.{Failed}
use Rattle.gd_base.specs.declared.errors.OutOfMemory.{OutOfMemory}
use Rattle.gd_lang.specs.declared.errors.LangError.{LangError}
use Rattle.gd_lang.specs.declared.errors.LangError.TheVariants as lang
use Rattle.gd_session.specs.declared.reply.Reply.TheVariants.{SinkFault}
use Rattle.gd_vault.specs.Views.{IsMoment}
use Rattle.gd_script.specs.Answers.{LineSteps, Rules, Scene, Text}
use Rattle.gd_script.specs.Lines.{Line, is_quit}
use Rattle.gd_script.specs.Reading.{FailsOnce}
use Rattle.gd_script.specs.Says.{error_line}
use Rattle.gd_script.specs.declared.answering.LineAnswer.{LineAnswer}
use Rattle.gd_script.specs.declared.ending.Ending.{Ending}
use Rattle.gd_script.specs.declared.ending.Ending.TheVariants.{Read, OutputFailed, ErrorFailed, Starved}
use Rattle.gd_script.specs.declared.turns.Answer as given
use Rattle.gd_script.specs.declared.turns.Answer.TheVariants as answer
use Rattle.gd_script.specs.declared.turns.Faults.{Faults}
use Rattle.gd_script.specs.declared.turns.Turn.{Turn}

-- the objects of a run: those of a command, the input and standard error
pub record Objects (T : Type 0) : Type 0 where
  pub scene : Scene T
  pub left : Option Text
  pub input_faults : ℕ
  pub said : Option Text
  pub err_faults : ℕ

abbrev pub objects : {T : Type 0} → Scene T → Option Text → ℕ → Option Text → ℕ → Objects T
objects scene left input_faults said err_faults = record { scene = scene; left = left; input_faults = input_faults; said = said; err_faults = err_faults }

abbrev pub faults_of : {T : Type 0} → Objects T → Faults
faults_of o = record { input = o.input_faults; out = o.scene.out_faults; err = o.err_faults; vault = o.scene.view.faults; clock = o.scene.clock_faults }

-- a turn more: the line was answered, and its error line said, at least in part
pub record Turned {T : Type 0} (rules : Rules T) (line : Line) (turns turns' : List Turn) (old new : Objects T) : Type 0 where
  pub turn : Turn
  pub pushed : turns' ≡ turns ++ turn ∷ []
  pub counts : turn.faults ≡ faults_of new
  pub moment : IsMoment new.scene.view turn.done
  pub steps : LineSteps rules line turn.answer turn.reading old.scene new.scene
  pub left : new.left ≡ old.left
  pub input_faults : new.input_faults ≡ old.input_faults
  pub err_later : old.err_faults ≤ new.err_faults
  pub said : WritesFront old.said new.said (error_line (length turns + 1) turn.answer)

-- neither the output nor standard error failed in it, and its error line was said whole
pub record IsCalmTurn {T : Type 0} (number : ℕ) (x : given.Answer) (old new : Objects T) : Type 0 where
  pub answered : x ≢ answer.Command SinkFault
  pub out : new.scene.out_faults ≡ old.scene.out_faults
  pub err : new.err_faults ≡ old.err_faults
  pub said : new.said ≡ and_then old.said (error_line number x)

-- a turn more, behind which another may come
pub record CalmTurned {T : Type 0} (rules : Rules T) (line : Line) (quits : Bool) (turns turns' : List Turn) (old new : Objects T) : Type 0 where
  pub turned : Turned rules line turns turns' old new
  pub calm : IsCalmTurn (length turns + 1) turned.turn.answer old new
  pub quits_is : is_quit line ≡ quits

-- a turn more, in which the output failed
pub record OutTurned {T : Type 0} (rules : Rules T) (line : Line) (turns turns' : List Turn) (old new : Objects T) : Type 0 where
  pub turned : Turned rules line turns turns' old new
  pub rose : Rose old.scene.out_faults new.scene.out_faults
  pub err : new.err_faults ≡ old.err_faults
  pub said : new.said ≡ and_then old.said (error_line (length turns + 1) turned.turn.answer)

-- a turn more, in which standard error failed once
pub record ErrTurned {T : Type 0} (rules : Rules T) (line : Line) (turns turns' : List Turn) (old new : Objects T) : Type 0 where
  pub turned : Turned rules line turns turns' old new
  pub fails : FailsOnce old.err_faults new.err_faults

-- nothing happened
pub record Untouched {T : Type 0} (turns turns' : List Turn) (old new : Objects T) : Type 0 where
  pub kept : turns' ≡ turns
  pub same : new ≡ old

-- what a line does, and how the run ends in it
abbrev pub TurnEnds : {T : Type 0} → Rules T → Line → Option Ending → (turns turns' : List Turn) → (old new : Objects T) → Type 0
TurnEnds rules line None turns turns' old new = CalmTurned rules line false turns turns' old new
TurnEnds rules line (Some Read) turns turns' old new = CalmTurned rules line true turns turns' old new
TurnEnds rules line (Some OutputFailed) turns turns' old new = OutTurned rules line turns turns' old new
TurnEnds rules line (Some ErrorFailed) turns turns' old new = ErrTurned rules line turns turns' old new
TurnEnds rules line (Some Starved) turns turns' old new = Untouched turns turns' old new
TurnEnds rules line (Some ending) turns turns' old new = ⊥

-- ---- the answer to a line

-- a line is answered, or no memory was found and nothing happened
abbrev pub LineEnds : {T : Type 0} → Rules T → Line → Result LineAnswer OutOfMemory → (old new : Scene T) → Type 0
LineEnds rules line (Ok x) old new = LineSteps rules line x.answer x.reading old new × (x.quits ≡ is_quit line)
LineEnds rules line (Err e) old new = new ≡ old

abbrev pub RefusedLine : LangError → Result LineAnswer OutOfMemory → Type 0
RefusedLine e (Ok x) = (x ≡ record { answer = answer.Lang e; reading = None; quits = false }) × (e ≢ lang.OutOfMemory)
RefusedLine e (Err x) = e ≡ lang.OutOfMemory

-- ---- the end of a run with a line

abbrev pub is_sink_fault : given.Answer → Bool
is_sink_fault (answer.Command SinkFault) = true
is_sink_fault x = false

-- neither the output nor standard error failed
pub record IsCalmEnd (x : given.Answer) (said : Result (Unit {0}) Failed) (before after : ℕ) : Type 0 where
  pub spoken : is_ok said ≡ true
  pub answered : is_sink_fault x ≡ false
  pub out : after ≡ before

abbrev pub EndIs : Option Ending → given.Answer → (quits : Bool) → Result (Unit {0}) Failed → (before after : ℕ) → Type 0
EndIs None x quits said before after = IsCalmEnd x said before after × (quits ≡ false)
EndIs (Some Read) x quits said before after = IsCalmEnd x said before after × (quits ≡ true)
EndIs (Some OutputFailed) x quits said before after = (is_ok said ≡ true) × ((is_sink_fault x ≡ true) ⊎ (after ≢ before))
EndIs (Some ErrorFailed) x quits said before after = is_ok said ≡ false
EndIs (Some ending) x quits said before after = ⊥

-- how a run ends with the last line
abbrev pub last_ending : Option Ending → Ending
last_ending None = Read
last_ending (Some ending) = ending
