-- A session as an interpreter.
use Rattle.std.specs.Prelude.{◌≡◌, ℕ, Option, None}
use Rattle.gd_lang.specs.declared.commands.Command.{Command}
use Rattle.gd_session.specs.Answers as session
use Rattle.gd_session.specs.Calls as calls
use Rattle.gd_session.specs.Closing.{ClosesIn, ClosesSynced}
use Rattle.gd_session.specs.Due.{CausedBy}
use Rattle.gd_session.specs.Rows.{Closes}
use Rattle.gd_session.specs.State.{Held, seen}
use Rattle.gd_session.specs.Step.{Stepped}
use Rattle.gd_session.specs.declared.reply.Reply.{Reply}
use Rattle.gd_script.specs.Answers.{Answered, Rules, Scene}

-- what is seen of the session
abbrev pub in_session : Answered Held → session.Answer
in_session a = record {
  old = seen a.old;
  before = a.before;
  counted = record { vault = a.counted.vault; clock = a.counted.clock; out = a.counted.out };
  reading = a.reading;
  reply = a.reply;
  text = a.text;
  new = seen a.new;
  after = a.after;
  counts = record { vault = a.counts.vault; clock = a.counts.clock; out = a.counts.out };
}

-- the same of what is seen before or after a command
abbrev pub of_session : Scene Held → calls.Scene
of_session s = calls.scene s.held s.view s.written s.out_faults

-- an answer over every vault: its cause, how the database that was open was closed, and that the clock was not asked
pub record Owes (command : Command) (old new : Scene Held) (reply : Reply) (reading : Option ℕ) : Type 0 where
  pub caused : CausedBy command (of_session old) (of_session new) reply
  pub closes : ClosesIn command old.held reply old.view new.view
  pub none : reading ≡ None
  pub told : new.told ≡ old.told
  pub clock_faults : new.clock_faults ≡ old.clock_faults

-- what a session owes
abbrev pub session_rules : Rules Held
session_rules = record {
  step = λ command a. Stepped command (in_session a);
  owes = Owes;
  clockless = Unit {0};
  closes = λ a. Closes (in_session a);
  syncs = λ held reply u v. ClosesSynced held.phase reply u v;
}
