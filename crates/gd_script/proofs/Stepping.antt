-- The answers of a session as those of an interpreter.
use Rattle.std.proofs.Common.{◌≡◌, ◌⊎◌, ℕ, ◌≤◌, List, [], Option, Some, None, refl, sym, subst, arith}
use Rattle.gd_base.specs.Causes.{Rose}
use Rattle.gd_base.specs.Clocks.{Readings}
use Rattle.gd_base.specs.declared.errors.DbError.TheVariants.{ClockFault, VaultFault}
use Rattle.gd_lang.specs.declared.commands.Command.{Command}
use Rattle.gd_lang.specs.Limits as lang
use Rattle.gd_lang.specs.declared.commands.Command.TheVariants as commands
use Rattle.gd_lang.specs.declared.commands.Setting.{Setting}
use Rattle.gd_lang.specs.declared.commands.Setting.TheVariants.{BlockSize, CacheSize, Delim1, Format, Opening}
use Rattle.gd_session.specs.Calls as session
use Rattle.gd_session.specs.Proper as session_limits
use Rattle.gd_session.specs.Calls.{Answers, AnswersWith, unasked}
use Rattle.gd_session.specs.Rows.{Closes}
use Rattle.gd_session.specs.Closing.{ClosesIn, ClosesSynced}
use Rattle.gd_session.specs.Due.{CausedBy, Causes, Kind, due, kind_of}
use Rattle.gd_session.specs.State.{Held, seen}
use Rattle.gd_session.specs.Step.{Stepped}
use Rattle.gd_session.specs.declared.reply.Reply.{Reply}
use Rattle.gd_session.specs.declared.reply.Reply.TheVariants.{Done, Quit, Refused, Typed, SinkFault}
use Rattle.gd_vault.specs.Frame.{Within}
use Rattle.gd_vault.specs.Views.{View}
use Rattle.gd_script.specs.Answers.{AnyFile, AnyName, Closing, ReplyCause, Steps, Text, counts_in, scene}
use Rattle.gd_script.specs.Sessions.{session_rules}
use Rattle.gd_script.proofs.Chains.{gives_none}

cause_of : (due : Option Reply) (kind : Kind) (r : Reply) (old new : Held) (u v : View) (w w' : Option Text) (f f' : ℕ) (t : Option Readings) (k : ℕ)
    → Causes due kind (session.scene old u w f) (session.scene new v w' f') r → ReplyCause r (counts_in (scene old u w f t k)) (counts_in (scene new v w' f' t k))
cause_of due kind (Refused VaultFault) old new u v w w' f f' t k c = (c.vault refl).1
cause_of due kind (Refused ClockFault) old new u v w w' f f' t k c = absurd (c.clock refl)
cause_of due kind (Refused e) old new u v w w' f f' t k c = tt
cause_of due kind SinkFault old new u v w w' f f' t k c = (c.out refl).1
cause_of due kind Done old new u v w w' f f' t k c = tt
cause_of due kind Quit old new u v w w' f f' t k c = tt
cause_of due kind (Typed e) old new u v w w' f f' t k c = tt

-- a step of a session
pub session_steps : (command : Command) (r : Reply) (old new : Held) (u v : View) (w w' : Option Text) (f f' : ℕ) (t t' : Option Readings) (k k' : ℕ)
    → Within AnyFile AnyName u v → f ≤ f' → t' ≡ t → k' ≡ k
    → AnswersWith (Stepped command) (session.scene old u w f) (session.scene new v w' f') (unasked k) r → CausedBy command (session.scene old u w f) (session.scene new v w' f') r
    → ClosesIn command old r u v → Steps session_rules command (scene old u w f t k) (scene new v w' f' t' k') r None
session_steps command r old new u v w w' f f' t t' k k' grows out told clock answer cause closes =
    subst (λ (o : Option Readings). Steps session_rules command (scene old u w f t k) (scene new v w' f' o k') r None) (sym told)
    (subst (λ (n : ℕ). Steps session_rules command (scene old u w f t k) (scene new v w' f' t n) r None) (sym clock) record {
      grows = grows;
      later = record { vault = grows.faults; clock = omega arith; out = out };
      clock = gives_none t;
      cause = cause_of (due command (seen old)) (kind_of command) r old new u v w w' f f' t k cause;
      owes = record { caused = cause; closes = closes; none = refl; told = refl; clock_faults = refl };
      told = λ c is. let a = answer c is in record { text = a.text; after = a.after; content = a.told; written = a.written; is = a.is };
    })

-- gd_lang's limits are those that a session asks for
setting_same : (s : Setting) → lang.IsProperSetting s → session_limits.IsProperSetting s
setting_same (BlockSize n) h = h
setting_same (CacheSize n) h = h
setting_same (Delim1 d) h = h
setting_same (Format f) h = h
setting_same (Opening o) h = h

option_same : (o : Option Setting) → lang.IsProperOption o → session_limits.IsProperOption o
option_same None h = h
option_same (Some s) h = setting_same s h

name_same : (o : Option (List ℕ)) → lang.IsProperName o → session_limits.IsProperName o
name_same None h = h
name_same (Some n) h = h

pub proper_same : (command : Command) → lang.IsProper command → session_limits.IsProper command
proper_same (commands.Open name) h = name_same name h
proper_same (commands.Set setting) h = option_same setting h
proper_same (commands.Fill start n) h = h
proper_same commands.Nothing h = tt
proper_same commands.Close h = tt
proper_same commands.Quit h = tt
proper_same commands.Version h = tt
proper_same commands.Count h = tt
proper_same (commands.Fetch key) h = tt
proper_same commands.First h = tt
proper_same (commands.Next key) h = tt
proper_same commands.List h = tt
proper_same (commands.Store key content) h = tt
proper_same (commands.Insert key content) h = tt
proper_same (commands.Delete key) h = tt

-- the closing of a session
pub session_closes : (r : Reply) (old new : Held) (u v : View) → Within AnyFile AnyName u v
    → ((out : Option Text) (failed : ℕ) → Answers Closes (session.scene old u out failed) (session.scene new v out failed) r)
    → (r ≡ Done) ⊎ ((r ≡ Refused VaultFault) × Rose u.faults v.faults) → ClosesSynced old.phase r u v → Closing session_rules old new u v r
session_closes r old new u v grows answers cause synced =
    let none : Text = [] in record {
      grows = grows;
      cause = cause;
      durable = synced;
      told = λ c is.
          let a = answers (Some none) 0 (unasked 0) (omega arith) c is in
          let text : a.text ≡ [] = let both : Some none ≡ Some a.text = a.written in cc in (
            a.after,
            a.told,
            subst (λ (t : Text). Closes (session.answer_in (session.scene old u (Some none) 0) (session.scene new v (Some none) 0) (unasked 0) c r t a.after)) text a.is,
          );
    }
