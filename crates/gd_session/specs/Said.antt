-- What a call that prints owes, by the ending that is due.
use Rattle.std.specs.Prelude.{◌≡◌, ◌≢◌, ◌⊎◌, ℕ, [], Option, Some, None, Result, Ok, Err}
use Rattle.gd_base.specs.Causes.{Rose}
use Rattle.gd_base.specs.Streams.{WritesFront, and_then}
use Rattle.gd_types.specs.declared.errors.TypeError.{TypeError}
use Rattle.gd_session.specs.Answers.{Ending, IsFront}
use Rattle.gd_session.specs.Calls.{Scene}
use Rattle.gd_lang.specs.declared.commands.Setting.{Setting}
use Rattle.gd_base.specs.declared.errors.DbError.TheVariants.{OutOfMemory}
use Rattle.gd_session.specs.Rows.{with_setting}
use Rattle.gd_session.specs.State.{State, Text}
use Rattle.gd_session.specs.Texts.{line}
use Rattle.gd_session.specs.declared.reply.Reply.{Reply}
use Rattle.gd_session.specs.declared.reply.Reply.TheVariants.{Done, Refused, SinkFault, Typed}

-- a text was written whole, or the output failed in it
abbrev pub Said : Text → Reply → (out out' : Option Text) → (failed failed' : ℕ) → Type 0
Said text r out out' failed failed' =
    ((r ≡ Done) × (out' ≡ and_then out text))
    ⊎ ((r ≡ SinkFault) × Rose failed failed' × WritesFront out out' text)

-- a line was written of a text, or nothing where there is none
abbrev pub Shows : Result Text TypeError → Reply → (out out' : Option Text) → (failed failed' : ℕ) → Type 0
Shows (Ok text) r out out' failed failed' = Said (line text) r out out' failed failed'
Shows (Err e) r out out' failed failed' = (r ≡ Typed e) × (out' ≡ out)

-- the refusal of a record: that of its key, or else that of its content
abbrev pub misfit_of : Option TypeError → Option TypeError → Option TypeError
misfit_of None content = content
misfit_of (Some e) content = Some e

-- the ending, or a failure of the output in its text
pub record Shown (e : Ending) (old new : Scene) (r : Reply) : Type 0 where
  pub text : Text
  pub written : new.written ≡ and_then old.written text
  pub how : ((r ≡ e.reply) × (text ≡ e.text) × (new.state ≡ e.session))
      ⊎ ((r ≡ SinkFault) × Rose old.failed new.failed × IsFront text e.text × (new.state ≡ old.state) × (e.text ≢ []))

-- a variable was set, or memory was wanted and all stays
abbrev pub Sets : Setting → State → State → Reply → Type 0
Sets setting s t r = ((r ≡ Done) × (t ≡ with_setting s setting)) ⊎ ((r ≡ Refused OutOfMemory) × (t ≡ s))
