-- The command of a line, and its answer.
use Rattle.std.proofs.Common.{◌≡◌, ◌≢◌, ℕ, [], Option, None, Result, Ok, Err, false, refl, sym, ap, subst, ◌∙◌, arith}
use Rattle.gd_base.proofs.Writes.{put-nothing}
use Rattle.gd_base.specs.declared.errors.OutOfMemory.{OutOfMemory}
use Rattle.gd_lang.specs.Commands.{and_then}
use Rattle.gd_lang.specs.Refusals.{Refuses}
use Rattle.gd_lang.specs.declared.commands.Command.{Command}
use Rattle.gd_lang.specs.declared.commands.Command.TheVariants as commands
use Rattle.gd_lang.specs.declared.errors.LangError.{LangError}
use Rattle.gd_lang.specs.declared.errors.LangError.TheVariants as lang
use Rattle.gd_session.specs.declared.reply.Reply.{Reply}
use Rattle.gd_session.specs.declared.reply.Reply.TheVariants.{Done}
use Rattle.gd_vault.proofs.Within.{within_refl}
use Rattle.gd_script.specs.Answers.{Answered, AnswerCause, Fits, LineAnswers, LineSteps, Rules, Scene, Steps, answered_in, counts_in}
use Rattle.gd_script.specs.Lines.{Line, is_quit}
use Rattle.gd_script.specs.Turns.{LineEnds, RefusedLine}
use Rattle.gd_script.specs.declared.answering.LineAnswer.{LineAnswer}
use Rattle.gd_script.specs.declared.turns.Answer as given
use Rattle.gd_script.specs.declared.turns.Answer.TheVariants as answer
use Rattle.gd_script.proofs.Chains.{gives_none}

pub refuses_then : {A B : Type 0} (e : LangError) (due : Result A LangError) (next : A → Result B LangError) → Refuses e due → Refuses e (and_then due next)
refuses_then lang.OutOfMemory due next h = h
refuses_then lang.UnknownCommand due next h = ap (λ d. and_then d next) h
refuses_then lang.Ambiguous due next h = ap (λ d. and_then d next) h
refuses_then lang.Arguments due next h = ap (λ d. and_then d next) h
refuses_then lang.Quote due next h = ap (λ d. and_then d next) h
refuses_then lang.Escape due next h = ap (λ d. and_then d next) h
refuses_then lang.Unbuilt due next h = ap (λ d. and_then d next) h

due_is : (e : LangError) (due : Line) → e ≢ lang.OutOfMemory → Refuses e due → due ≡ Err e
due_is lang.OutOfMemory due calm h = absurd (calm refl)
due_is lang.UnknownCommand due calm h = h
due_is lang.Ambiguous due calm h = h
due_is lang.Arguments due calm h = h
due_is lang.Quote due calm h = h
due_is lang.Escape due calm h = h
due_is lang.Unbuilt due calm h = h

-- a line at which nothing happens
quiet_line : {T : Type 0} (rules : Rules T) (line : Line) (x : given.Answer) (o : Scene T)
    → ((a : Answered T) → a.new ≡ a.old → a.after ≡ a.before → a.text ≡ [] → LineAnswers rules line x a) → AnswerCause x (counts_in o) (counts_in o) → Fits rules line x o o None
    → LineSteps rules line x None o o
quiet_line rules line x o is cause fits = record {
  grows = within_refl o.view;
  later = record { vault = omega arith; clock = omega arith; out = omega arith };
  clock = gives_none o.told;
  cause = cause;
  fits = fits;
  told = λ c told. record { reply = Done; text = []; after = c; content = told; written = put-nothing o.written; is = is _ refl refl refl };
}

refused_steps : {T : Type 0} (rules : Rules T) (line : Line) (e : LangError) (o : Scene T) → line ≡ Err e → LineSteps rules line (answer.Lang e) None o o
refused_steps {T = T} rules line e o is =
    subst (λ (l : Line). LineSteps rules l (answer.Lang e) None o o) (sym is)
    (quiet_line rules (Err e) (answer.Lang e) o (λ a s c t. (refl, record { held = s; content = c; text = t })) tt (refl, record { same = refl; none = refl }))

refused_quits : (line : Line) (e : LangError) → line ≡ Err e → false ≡ is_quit line
refused_quits line e is = ap is_quit (sym is)

-- a line that is no command
pub refused_line : {T : Type 0} (rules : Rules T) (line : Line) (e : LangError) (o : Scene T) (r : Result LineAnswer OutOfMemory) → Refuses e line → RefusedLine e r → LineEnds rules line r o o
refused_line rules line e o (Ok x) h is =
    let due = due_is e line is.1 h in (
      subst (λ (y : LineAnswer). LineSteps rules line y.answer y.reading o o) (sym is.0) (refused_steps rules line e o due),
      ap (λ (y : LineAnswer). y.quits) is.0 ∙ refused_quits line e due,
    )
refused_line rules line e o (Err x) h is = refl

-- a line without words
pub empty_line : {T : Type 0} (rules : Rules T) (command : Command) (o : Scene T) → command ≡ commands.Nothing → LineSteps rules (Ok command) answer.Nothing None o o
empty_line {T = T} rules command o is =
    subst (λ (d : Command). LineSteps rules (Ok d) answer.Nothing None o o) (sym is)
    (quiet_line rules (Ok commands.Nothing) answer.Nothing o (λ a s c t. (refl, record { held = s; content = c; text = t })) tt (refl, record { same = refl; none = refl }))

pub empty_quits : (command : Command) → command ≡ commands.Nothing → false ≡ is_quit (Ok command)
empty_quits command is = ap (λ (d : Command). is_quit (Ok d)) (sym is)

command_line : {T : Type 0} (rules : Rules T) (command : Command) (x : given.Answer) (a : Answered T) → command ≢ commands.Nothing → x ≡ answer.Command a.reply → rules.step command a → LineAnswers rules (Ok command) x a
command_line rules commands.Nothing x a calm is s = absurd (calm refl)
command_line rules command x a calm is s = (is, s)

command_fits : {T : Type 0} (rules : Rules T) (command : Command) (reply : Reply) (reading : Option ℕ) (old new : Scene T) → command ≢ commands.Nothing → rules.owes command old new reply reading
    → Fits rules (Ok command) (answer.Command reply) old new reading
command_fits rules commands.Nothing reply reading old new calm o = absurd (calm refl)
command_fits rules command reply reading old new calm o = (reply, refl, o)

-- a command that was answered by a step
pub stepped_line : {T : Type 0} (rules : Rules T) (command : Command) (reply : Reply) (reading : Option ℕ) (old new : Scene T) → command ≢ commands.Nothing
    → Steps rules command old new reply reading → LineSteps rules (Ok command) (answer.Command reply) reading old new
stepped_line rules command reply reading old new calm s = record {
  grows = s.grows;
  later = s.later;
  clock = s.clock;
  cause = s.cause;
  fits = command_fits rules command reply reading old new calm s.owes;
  told = λ c told. let a = s.told c told in record {
    reply = reply;
    text = a.text;
    after = a.after;
    content = a.content;
    written = a.written;
    is = command_line rules command (answer.Command reply) (answered_in old new c reading reply a.text a.after) calm refl a.is;
  };
}
