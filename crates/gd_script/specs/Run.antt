-- A run over the lines of a script.
use Rattle.std.specs.Prelude.{◌≡◌, ◌⊎◌, ◌≤◌, ◌+◌, ◌^◌, ℕ, true, List, [], ◌++◌, length, Option, Some, option_map, Result, Ok, Err}
use Rattle.gd_base.specs.Causes.{Rose}
use Rattle.gd_base.specs.Sources.{IsAtEnd}
use Rattle.gd_base.specs.Streams.{and_then}
use Rattle.gd_lang.specs.Commands.{command_of_line}
use Rattle.gd_session.specs.Answers.{IsFront}
use Rattle.gd_vault.specs.Content.{Content}
use Rattle.gd_vault.specs.Events.{Event, moment_after}
use Rattle.gd_vault.specs.History.{was}
use Rattle.gd_vault.specs.Views.{View}
use Rattle.gd_vault.specs.Views.Told.{Records}
use Rattle.gd_script.specs.Answers.{GivesMore, Rules, Text}
use Rattle.gd_script.specs.Chain.{Calm, Chain, Counted, Fitting, LastTurn, Now}
use Rattle.gd_script.specs.Lines.{Line, commands_of, is_quit, whole_commands}
use Rattle.gd_script.specs.Reading.{FailsOnce, Gives, Reading, reading}
use Rattle.gd_script.specs.Says.{error_line, error_lines}
use Rattle.gd_script.specs.Turns.{Objects, TurnEnds, Untouched, faults_of, last_ending}
use Rattle.gd_script.specs.declared.ending.Ending.{Ending}
use Rattle.gd_script.specs.declared.ending.Ending.TheVariants.{Read, InputFailed, TooLong, OutputFailed, ErrorFailed, Starved}
use Rattle.gd_script.specs.declared.reader.Lines.{Lines}
use Rattle.gd_script.specs.declared.reader.Next.{Next}
use Rattle.gd_script.specs.declared.reader.Next.TheVariants as next
use Rattle.gd_script.specs.declared.turns.Turn.{Turn}

-- ---- the turns

-- the state of a run, where the history is told
abbrev pub now_of : {T : Type 0} → Objects T → List Event → Text → List ℕ → Now T
now_of o es out readings = record {
  held = o.scene.held;
  moment = moment_after es;
  faults = faults_of o;
  out = out;
  readings = readings;
}

-- the turns are linked to the commands from the start to where the run stands; the history goes on
pub record Ran {T : Type 0} (rules : Rules T) (ds : List Line) (turns : List Turn) (first : Content) (es : List Event) (old new : Objects T) : Type 0 where
  pub more : List Event
  pub told : new.scene.view.told ≡ Records first (more ++ es)
  pub out : Text
  pub written : new.scene.written ≡ and_then old.scene.written out
  pub readings : List ℕ
  pub clock : GivesMore old.scene.told new.scene.told readings
  pub chain : Chain rules (was first (more ++ es)) ds turns (now_of old es [] []) (now_of new (more ++ es) out readings)

-- where the history is told
abbrev pub Runs : {T : Type 0} → Rules T → (ds : List Line) (turns : List Turn) (old new : Objects T) → Type 0
Runs rules ds turns old new = (first : Content) (es : List Event) → old.scene.view.told ≡ Records first es → Ran rules ds turns first es old new

-- ---- the commands

-- what was taken of an input has these commands, and behind them those of what waits
pub record Cut (ds : List Line) (taken waiting : List ℕ) : Type 0 where
  pub whole : (more : List ℕ) → whole_commands (taken ++ more) ≡ ds ++ whole_commands (waiting ++ more)
  pub all : (more : List ℕ) → commands_of (taken ++ more) ≡ ds ++ commands_of (waiting ++ more)

-- ---- where a run stands before a line

pub record Standing {T : Type 0} (rules : Rules T) (ready : View → T → Type 0) (r : Reading) (turns : List Turn) (old new : Objects T) : Type 0 where
  pub is_ready : ready new.scene.view new.scene.held
  pub ds : List Line
  pub taken : List ℕ
  pub took : old.left ≡ option_map (λ xs. taken ++ xs) new.left
  pub many : r.taken ≡ length taken
  pub few : length turns + length r.waiting ≤ r.taken
  pub cut : Cut ds taken r.waiting
  pub same : length ds ≡ length turns
  pub ran : Runs rules ds turns old new
  pub counted : Counted (faults_of old) turns (faults_of new)
  pub fitting : Fitting rules ds turns old.scene new.scene
  pub calm : Calm (faults_of old) ds turns
  pub said : new.said ≡ and_then old.said (error_lines 1 turns)
  pub input_calm : new.input_faults ≡ old.input_faults
  pub out_calm : new.scene.out_faults ≡ old.scene.out_faults
  pub err_calm : new.err_faults ≡ old.err_faults

-- ---- the next line

-- the input alone was asked
abbrev pub reread : {T : Type 0} → (old new : Objects T) → Objects T
reread old new = record old { left = new.left; input_faults = new.input_faults }

-- what is done with what comes next
abbrev pub AfterNext : {T : Type 0} → Rules T → Result Next Ending → Option Ending → (turns turns' : List Turn) → (mid new : Objects T) → Type 0
AfterNext rules (Ok (next.Line line)) end turns turns' mid new = TurnEnds rules (command_of_line line.items) end turns turns' mid new
AfterNext rules (Ok (next.Last line)) end turns turns' mid new = (e : Option Ending) × TurnEnds rules (command_of_line line.items) e turns turns' mid new × (end ≡ Some (last_ending e))
AfterNext rules (Ok next.End) end turns turns' mid new = (end ≡ Some Read) × Untouched turns turns' mid new
AfterNext rules (Err ending) end turns turns' mid new = (end ≡ Some ending) × Untouched turns turns' mid new

pub record Nexts {T : Type 0} (rules : Rules T) (end : Option Ending) (turns turns' : List Turn) (a b : Lines) (old new : Objects T) : Type 0 where
  pub next : Result Next Ending
  pub gives : Gives next (reading a old.left old.input_faults) (reading b new.left new.input_faults)
  pub after : AfterNext rules next end turns turns' (reread old new) new

-- ---- how a run ends

-- ds are the first of these commands
abbrev pub Begins : (all ds : List Line) → Type 0
Begins all ds = (rest : List Line) × (all ≡ ds ++ rest)

-- the count of the input: a failed read is not tried again
abbrev pub InputFor : Ending → (before now : ℕ) → Type 0
InputFor InputFailed before now = FailsOnce before now
InputFor ending before now = now ≡ before

-- behind each turn another one might come, and its error line was said
pub record AllCalm {T : Type 0} (ds : List Line) (turns : List Turn) (old mid : Objects T) : Type 0 where
  pub calm : Calm (faults_of old) ds turns
  pub out : mid.scene.out_faults ≡ old.scene.out_faults
  pub err : mid.err_faults ≡ old.err_faults
  pub said : mid.said ≡ and_then old.said (error_lines 1 turns)

-- the input was read to its end
pub record ReadsAll {T : Type 0} (ds : List Line) (taken : List ℕ) (turns : List Turn) (old mid new : Objects T) : Type 0 where
  pub calm : AllCalm ds turns old mid
  pub end : IsAtEnd new.left
  pub all : commands_of taken ≡ ds

-- the last line is that of `quit`: what stands behind it is not answered
pub record Quits {T : Type 0} (ds : List Line) (taken : List ℕ) (turns : List Turn) (old mid new : Objects T) : Type 0 where
  pub last : LastTurn (faults_of old) ds turns
  pub quits : is_quit last.line ≡ true
  pub out : mid.scene.out_faults ≡ old.scene.out_faults
  pub err : mid.err_faults ≡ old.err_faults
  pub said : mid.said ≡ and_then old.said (error_lines 1 turns)
  pub all : (rest : List ℕ) → new.left ≡ Some rest → commands_of (taken ++ rest) ≡ ds

-- the output failed in the last turn, whose error line was said too
pub record OutFails {T : Type 0} (ds : List Line) (turns : List Turn) (old mid : Objects T) : Type 0 where
  pub last : LastTurn (faults_of old) ds turns
  pub rose : Rose old.scene.out_faults mid.scene.out_faults
  pub err : mid.err_faults ≡ old.err_faults
  pub said : mid.said ≡ and_then old.said (error_lines 1 turns)

-- standard error failed once, in the error line of the last turn: a front of this line was said, and all lines before it
pub record ErrFails {T : Type 0} (ds : List Line) (turns : List Turn) (old mid : Objects T) : Type 0 where
  pub last : LastTurn (faults_of old) ds turns
  pub fails : FailsOnce old.err_faults mid.err_faults
  pub front : List ℕ
  pub is_front : IsFront front (error_line (length last.before + 1) last.turn.answer)
  pub said : mid.said ≡ and_then old.said (error_lines 1 last.before ++ front)

-- why a run ended, and which commands it answered
abbrev pub EndsFor : {T : Type 0} → Ending → (ds : List Line) (taken : List ℕ) (turns : List Turn) (old mid new : Objects T) → Type 0
EndsFor Read ds taken turns old mid new = ReadsAll ds taken turns old mid new ⊎ Quits ds taken turns old mid new
EndsFor InputFailed ds taken turns old mid new = AllCalm ds turns old mid × (whole_commands taken ≡ ds)
EndsFor TooLong ds taken turns old mid new = AllCalm ds turns old mid × (whole_commands taken ≡ ds) × (length taken ≡ 2 ^ 32)
EndsFor OutputFailed ds taken turns old mid new = OutFails ds turns old mid
EndsFor ErrorFailed ds taken turns old mid new = ErrFails ds turns old mid
EndsFor Starved ds taken turns old mid new = AllCalm ds turns old mid

-- the turns of the commands, from the start to the end of the last turn; from there on the input alone was asked
pub record Ended {T : Type 0} (rules : Rules T) (ending : Ending) (turns : List Turn) (old new : Objects T) : Type 0 where
  pub mid : Objects T
  pub scene : new.scene ≡ mid.scene
  pub said_same : new.said ≡ mid.said
  pub err_same : new.err_faults ≡ mid.err_faults
  pub input_calm : mid.input_faults ≡ old.input_faults
  pub input : InputFor ending old.input_faults new.input_faults
  pub ds : List Line
  pub taken : List ℕ
  pub took : old.left ≡ option_map (λ xs. taken ++ xs) new.left
  pub same : length ds ≡ length turns
  pub begins : (rest : List ℕ) → new.left ≡ Some rest → Begins (commands_of (taken ++ rest)) ds
  pub ran : Runs rules ds turns old mid
  pub counted : Counted (faults_of old) turns (faults_of mid)
  pub fitting : Fitting rules ds turns old.scene mid.scene
  pub why : EndsFor ending ds taken turns old mid new
