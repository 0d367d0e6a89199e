-- The run of a script: its lines, the closing, what is said of its end, and the status.
use Rattle.std.specs.Prelude.{◌≡◌, ◌≤◌, ◌||◌, ℕ, Bool, true, false, not, List, [], ◌∷◌, ◌++◌, codes, if◌then◌else◌, MatchBool}
use Rattle.std.specs.List.{list_any}
use Rattle.gd_base.specs.Errors.{error_text}
use Rattle.gd_base.specs.Streams.{WritesFront, and_then}
use Rattle.gd_base.specs.declared.errors.DbError.{DbError}
use Rattle.gd_base.specs.declared.errors.DbError.TheVariants.{ClockFault, OutOfMemory, VaultFault}
use Rattle.gd_session.specs.declared.reply.Reply.{Reply}
use Rattle.gd_session.specs.declared.reply.Reply.TheVariants.{Refused, SinkFault, Typed}
use Rattle.gd_script.specs.Answers.{Closing, Rules}
use Rattle.gd_script.specs.Reading.{FailsOnce}
use Rattle.gd_script.specs.Run.{Ended}
use Rattle.gd_script.specs.Turns.{Objects}
use Rattle.gd_script.specs.declared.ending.Ending.{Ending}
use Rattle.gd_script.specs.declared.ending.Ending.TheVariants.{Read, InputFailed, TooLong, OutputFailed, ErrorFailed, Starved}
use Rattle.gd_script.specs.declared.turns.Answer.{Answer}
use Rattle.gd_script.specs.declared.turns.Answer.TheVariants as answer
use Rattle.gd_script.specs.declared.turns.Turn.{Turn}

-- ---- the status

abbrev pub is_fault : Answer → Bool
is_fault (answer.Command (Refused VaultFault)) = true
is_fault (answer.Command (Refused ClockFault)) = true
is_fault (answer.Command SinkFault) = true
is_fault x = false

abbrev pub is_starved : Answer → Bool
is_starved (answer.Command (Refused OutOfMemory)) = true
is_starved x = false

abbrev pub is_refusal : Answer → Bool
is_refusal (answer.Lang e) = true
is_refusal (answer.Command (Refused e)) = true
is_refusal (answer.Command (Typed e)) = true
is_refusal x = false

-- a device failed, or the input is too long
abbrev pub has_failed : Ending → Bool
has_failed Read = false
has_failed Starved = false
has_failed ending = true

abbrev pub has_starved : Ending → Bool
has_starved Starved = true
has_starved ending = false

abbrev pub is_closing_refused : Reply → Bool
is_closing_refused (Refused e) = true
is_closing_refused reply = false

-- the first that holds of a fault, want of memory and a refusal
abbrev pub status_by : (fault starved refused : Bool) → ℕ
status_by fault starved refused = if fault then 1 else (if starved then 4 else (if refused then 2 else 0))

-- by how the lines ended, the closing, the answers, and whether the end was said whole
abbrev pub status_of : Ending → (closing : Reply) → List Turn → (said : Bool) → ℕ
status_of ending closing turns said = status_by
    (((has_failed ending || is_closing_refused closing) || list_any (λ t. is_fault t.answer) turns) || not said)
    (has_starved ending || list_any (λ t. is_starved t.answer) turns)
    (list_any (λ t. is_refusal t.answer) turns)

-- ---- what is said of the end

-- what ended the run early
abbrev pub ending_line : Ending → List ℕ
ending_line Read = []
ending_line InputFailed = codes "gdbmtool: input fault\n"
ending_line TooLong = codes "gdbmtool: input too long\n"
ending_line OutputFailed = codes "gdbmtool: output fault\n"
ending_line ErrorFailed = []
ending_line Starved = codes "gdbmtool: out of memory\n"

abbrev pub named_error : DbError → List ℕ
named_error e = codes "gdbmtool: " ++ (error_text e ++ 10 ∷ [])

-- the refusal of the closing
abbrev pub closing_line : Reply → List ℕ
closing_line (Refused e) = named_error e
closing_line reply = []

-- nothing more is said once standard error has failed
abbrev pub last_lines : Ending → Reply → List ℕ
last_lines ErrorFailed closing = []
last_lines ending closing = ending_line ending ++ closing_line closing

-- ---- the run

-- the lines were answered, what is open was closed, and how it ended was said, whole or in part
pub record Scripted {T : Type 0} (rules : Rules T) (status : ℕ) (turns : List Turn) (old new : Objects T) : Type 0 where
  pub ending : Ending
  pub closing : Reply
  pub said : Bool
  pub behind : Objects T
  pub ended : Ended rules ending turns old behind
  pub closed : Closing rules behind.scene.held new.scene.held behind.scene.view new.scene.view closing
  pub written : new.scene.written ≡ behind.scene.written
  pub out_faults : new.scene.out_faults ≡ behind.scene.out_faults
  pub told : new.scene.told ≡ behind.scene.told
  pub clock_faults : new.scene.clock_faults ≡ behind.scene.clock_faults
  pub left : new.left ≡ behind.left
  pub input_faults : new.input_faults ≡ behind.input_faults
  pub says : MatchBool said
      ((new.said ≡ and_then behind.said (last_lines ending closing)) × (new.err_faults ≡ behind.err_faults))
      (WritesFront behind.said new.said (last_lines ending closing) × FailsOnce behind.err_faults new.err_faults)
  pub err_later : behind.err_faults ≤ new.err_faults
  pub status_is : status ≡ status_of ending closing turns said
