-- One line, and its turn.
use Rattle.std.proofs.Common.{◌≡◌, ◌≢◌, ◌⊎◌, inl, inr, ℕ, ◌+◌, ◌≤◌, Bool, true, false, List, [], ◌∷◌, ◌++◌, length, Option, Some, None, Result, Ok, Err, is_ok, sym, ap, subst, ◌∙◌, arith}
use Rattle.std.proofs.Math.Seq.{take-length}
use Rattle.gd_base.specs.Causes.{HasCause, Rose}
use Rattle.gd_base.specs.Streams.{Puts, WritesFront, and_then}
use Rattle.gd_base.specs.declared.errors.Failed.{Failed}
use Rattle.gd_session.specs.declared.reply.Reply.TheVariants.{Done, Quit, Refused, Typed, SinkFault}
use Rattle.gd_vault.specs.Views.{IsMoment}
use Rattle.gd_script.specs.Answers.{AnswerCause, Counts, LineSteps, Rules, Text, counts_in}
use Rattle.gd_script.specs.Lines.{Line, is_quit}
use Rattle.gd_script.specs.Reading.{FailsOnce}
use Rattle.gd_script.specs.Says.{error_line}
use Rattle.gd_script.specs.Turns.{CalmTurned, EndIs, IsCalmEnd, Objects, TurnEnds, Turned, faults_of, is_sink_fault}
use Rattle.gd_script.specs.declared.answering.LineAnswer.{LineAnswer}
use Rattle.gd_script.specs.declared.ending.Ending.{Ending}
use Rattle.gd_script.specs.declared.ending.Ending.TheVariants.{Read, InputFailed, TooLong, OutputFailed, ErrorFailed, Starved}
use Rattle.gd_script.specs.declared.turns.Answer as given
use Rattle.gd_script.specs.declared.turns.Answer.TheVariants as answer
use Rattle.gd_script.specs.declared.turns.Faults.{Faults}
use Rattle.gd_script.specs.declared.turns.Turn.{Turn}

said_whole : (a b : Option Text) (r : Result (Unit {0}) Failed) (bytes : Text) → is_ok r ≡ true → Puts a b r bytes → b ≡ and_then a bytes
said_whole a b (Ok x) bytes h p = p
said_whole a b (Err e) bytes h p = cc

said_front : (a b : Option Text) (r : Result (Unit {0}) Failed) (bytes : Text) → Puts a b r bytes → WritesFront a b bytes
said_front a b (Ok x) bytes p = (length bytes, omega arith, p ∙ ap (and_then a) (sym (take-length bytes)))
said_front a b (Err e) bytes p = p

calm_err : (before now : ℕ) (r : Result (Unit {0}) Failed) → is_ok r ≡ true → HasCause before now r → now ≡ before
calm_err before now (Ok x) h c = c.answered
calm_err before now (Err e) h c = cc

fails_err : (before now : ℕ) (r : Result (Unit {0}) Failed) → is_ok r ≡ false → HasCause before now r → FailsOnce before now
fails_err before now (Ok x) h c = cc
fails_err before now (Err e) h c = record { rose = c.failed; later = c.later; once = c.once }

no_sink_fault : (x : given.Answer) → is_sink_fault x ≡ false → x ≢ answer.Command SinkFault
no_sink_fault x h = λ is. let t : is_sink_fault x ≡ true = ap is_sink_fault is in let bad : true ≡ false = sym t ∙ h in cc

sink_rose : (x : given.Answer) (old new : Counts) → is_sink_fault x ≡ true → AnswerCause x old new → Rose old.out new.out
sink_rose (answer.Command SinkFault) old new h c = c
sink_rose (answer.Command Done) old new h c = cc
sink_rose (answer.Command Quit) old new h c = cc
sink_rose (answer.Command (Refused e)) old new h c = cc
sink_rose (answer.Command (Typed e)) old new h c = cc
sink_rose answer.Nothing old new h c = cc
sink_rose (answer.Lang e) old new h c = cc

rose_by : (before now : ℕ) → before ≤ now → now ≢ before → Rose before now
rose_by before now le h = omega arith

-- what happened in a turn
pub record Happened {T : Type 0} (rules : Rules T) (line : Line) (x : given.Answer) (quits : Bool) (reading : Option ℕ) (done : ℕ) (faults : Faults) (turns turns' : List Turn) (said : Result (Unit {0}) Failed) (old new : Objects T) : Type 0 where
  pub steps : LineSteps rules line x reading old.scene new.scene
  pub quits_is : quits ≡ is_quit line
  pub pushed : turns' ≡ turns ++ (record { answer = x; done = done; faults = faults; reading = reading }) ∷ []
  pub counts : faults ≡ faults_of new
  pub moment : IsMoment new.scene.view done
  pub left : new.left ≡ old.left
  pub input_faults : new.input_faults ≡ old.input_faults
  pub says : Puts old.said new.said said (error_line (length turns + 1) x)
  pub cause : HasCause old.err_faults new.err_faults said

turned : {T : Type 0} (rules : Rules T) (line : Line) (x : given.Answer) (quits : Bool) (reading : Option ℕ) (done : ℕ) (faults : Faults) (turns turns' : List Turn) (said : Result (Unit {0}) Failed) (old new : Objects T)
    → Happened rules line x quits reading done faults turns turns' said old new → Turned rules line turns turns' old new
turned rules line x quits reading done faults turns turns' said old new h = record {
  turn = record { answer = x; done = done; faults = faults; reading = reading };
  pushed = h.pushed;
  counts = h.counts;
  moment = h.moment;
  steps = h.steps;
  left = h.left;
  input_faults = h.input_faults;
  err_later = h.cause.later;
  said = said_front old.said new.said said (error_line (length turns + 1) x) h.says;
}

calm : {T : Type 0} (rules : Rules T) (line : Line) (x : given.Answer) (quits ends : Bool) (reading : Option ℕ) (done : ℕ) (faults : Faults) (turns turns' : List Turn) (said : Result (Unit {0}) Failed) (old new : Objects T) (before after : ℕ)
    → IsCalmEnd x said before after → quits ≡ ends → before ≡ old.scene.out_faults → after ≡ new.scene.out_faults
    → Happened rules line x quits reading done faults turns turns' said old new → CalmTurned rules line ends turns turns' old new
unfolding turned
calm rules line x quits ends reading done faults turns turns' said old new before after k e b a h = record {
  turned = turned rules line x quits reading done faults turns turns' said old new h;
  calm = record {
    answered = no_sink_fault x k.answered;
    out = sym a ∙ (k.out ∙ b);
    err = calm_err old.err_faults new.err_faults said k.spoken h.cause;
    said = said_whole old.said new.said said (error_line (length turns + 1) x) k.spoken h.says;
  };
  quits_is = sym h.quits_is ∙ e;
}

out_rose : {T : Type 0} (x : given.Answer) (old new : Objects T) (before after : ℕ) → before ≡ old.scene.out_faults → after ≡ new.scene.out_faults → old.scene.out_faults ≤ new.scene.out_faults
    → AnswerCause x (counts_in old.scene) (counts_in new.scene) → (is_sink_fault x ≡ true) ⊎ (after ≢ before) → Rose old.scene.out_faults new.scene.out_faults
out_rose x old new before after b a le c (inl is) = sink_rose x (counts_in old.scene) (counts_in new.scene) is c
out_rose x old new before after b a le c (inr ne) = rose_by old.scene.out_faults new.scene.out_faults le (λ is. ne (a ∙ (is ∙ sym b)))

pub turn_ends : {T : Type 0} (rules : Rules T) (line : Line) (end : Option Ending) (x : given.Answer) (quits : Bool) (reading : Option ℕ) (done : ℕ) (faults : Faults) (turns turns' : List Turn) (said : Result (Unit {0}) Failed) (old new : Objects T) (before after : ℕ)
    → EndIs end x quits said before after → before ≡ old.scene.out_faults → after ≡ new.scene.out_faults
    → Happened rules line x quits reading done faults turns turns' said old new → TurnEnds rules line end turns turns' old new
unfolding turned
turn_ends rules line None x quits reading done faults turns turns' said old new before after e b a h =
    calm rules line x quits false reading done faults turns turns' said old new before after e.0 e.1 b a h
turn_ends rules line (Some Read) x quits reading done faults turns turns' said old new before after e b a h =
    calm rules line x quits true reading done faults turns turns' said old new before after e.0 e.1 b a h
turn_ends rules line (Some OutputFailed) x quits reading done faults turns turns' said old new before after e b a h = record {
  turned = turned rules line x quits reading done faults turns turns' said old new h;
  rose = out_rose x old new before after b a h.steps.later.out h.steps.cause e.1;
  err = calm_err old.err_faults new.err_faults said e.0 h.cause;
  said = said_whole old.said new.said said (error_line (length turns + 1) x) e.0 h.says;
}
turn_ends rules line (Some ErrorFailed) x quits reading done faults turns turns' said old new before after e b a h = record {
  turned = turned rules line x quits reading done faults turns turns' said old new h;
  fails = fails_err old.err_faults new.err_faults said e h.cause;
}
turn_ends rules line (Some InputFailed) x quits reading done faults turns turns' said old new before after e b a h = absurd e
turn_ends rules line (Some TooLong) x quits reading done faults turns turns' said old new before after e b a h = absurd e
turn_ends rules line (Some Starved) x quits reading done faults turns turns' said old new before after e b a h = absurd e

-- the same by the calls of a turn
pub turn_happens : {T : Type 0} (rules : Rules T) (line : Line) (end : Option Ending) (found : LineAnswer) (done : ℕ) (faults : Faults) (turns turns' : List Turn) (said : Result (Unit {0}) Failed) (old new : Objects T) (before len : ℕ)
    → EndIs end found.answer found.quits said before faults.out → before ≡ old.scene.out_faults
    → LineSteps rules line found.answer found.reading old.scene new.scene × (found.quits ≡ is_quit line)
    → turns' ≡ turns ++ (record { answer = found.answer; done = done; faults = faults; reading = found.reading }) ∷ []
    → faults ≡ faults_of new → IsMoment new.scene.view done → new.left ≡ old.left → new.input_faults ≡ old.input_faults
    → len ≡ length turns → Puts old.said new.said said (error_line (len + 1) found.answer) → HasCause old.err_faults new.err_faults said
    → TurnEnds rules line end turns turns' old new
turn_happens rules line end found done faults turns turns' said old new before len e b steps pushed counts moment left input long says cause =
    turn_ends rules line end found.answer found.quits found.reading done faults turns turns' said old new before faults.out e b (ap (λ (f : Faults). f.out) counts)
    (record {
      steps = steps.0;
      quits_is = steps.1;
      pushed = pushed;
      counts = counts;
      moment = moment;
      left = left;
      input_faults = input;
      says = subst (λ (k : ℕ). Puts old.said new.said said (error_line (k + 1) found.answer)) long says;
      cause = cause;
    })
