-- Which session a command leaves that needs no open database.
use Rattle.std.proofs.Common.{◌≡◌, ⊎_elim, inl, inr, ℕ, Bool, true, false, ◌||◌, Option, Some, None, Result, Ok, Err, refl, sym, ap, subst}
use Rattle.std.specs.Prelude.{IfErr, IfOk}
use Rattle.gd_base.specs.Causes.{Rose}
use Rattle.gd_base.specs.Streams.{WritesFront, and_then}
use Rattle.gd_base.specs.declared.errors.DbError.{DbError}
use Rattle.gd_base.specs.declared.errors.DbError.TheVariants.{Exists, OutOfMemory, VaultFault}
use Rattle.gd_base.specs.declared.errors.Which.TheVariants.{Only}
use Rattle.gd_lang.specs.declared.commands.Command.{Command}
use Rattle.gd_lang.specs.declared.commands.Opening.{Opening}
use Rattle.gd_lang.specs.declared.commands.Opening.TheVariants as ways
use Rattle.gd_lang.specs.declared.commands.Setting.{Setting}
use Rattle.gd_readable.specs.Asks.{IsAnswer, Refuses}
use Rattle.gd_store.specs.Opened.{Opened, OpenedAs, is_of_opening}
use Rattle.gd_store.specs.declared.access.Access.{Access}
use Rattle.gd_store.specs.declared.access.Access.TheVariants.{Writer}
use Rattle.gd_vault.specs.Views.{View}
use Rattle.gd_session.specs.Closing.{IsClosing}
use Rattle.gd_session.specs.Moves.{Closes, CommandMoves, IsError, IsFirst, IsNew, Reopens, SetMove, access_of, is_of_making, is_of_way, or_failed}
use Rattle.gd_session.specs.Rows.{Syncs}
use Rattle.gd_session.specs.Said.{Said, Sets}
use Rattle.gd_session.specs.State.{Phase, State, Text, at_phase, db_of, naming, phase_of, shut}
use Rattle.gd_session.specs.State.Phase.{Open}
use Rattle.gd_session.specs.declared.phase.Phase as real
use Rattle.gd_session.specs.declared.reply.Reply.{Reply}
use Rattle.gd_session.specs.declared.reply.Reply.TheVariants.{Done, Refused, SinkFault}
use Rattle.gd_session.specs.declared.settings.Settings.{Settings}
use Rattle.gd_session.proofs.Changed.{refuses_map}

-- ---- errors

failed_kind : (kinds : DbError → Bool) (fault : Type 0) (e : DbError) → Refuses e fault (kinds e ≡ true) → or_failed kinds e ≡ true
failed_kind kinds fault VaultFault why = refl
failed_kind kinds fault OutOfMemory why = refl
failed_kind kinds fault e why = why

failed_wider : (kinds more : DbError → Bool) (e : DbError) → ((x : DbError) → kinds x ≡ true → more x ≡ true) → or_failed kinds e ≡ true → or_failed more e ≡ true
failed_wider kinds more VaultFault wide is = refl
failed_wider kinds more OutOfMemory wide is = refl
failed_wider kinds more e wide is = wide e is

or_left : (a b : Bool) → a ≡ true → (a || b) ≡ true
or_left true b is = refl
or_left false b is = absurd (let no_ : false ≡ true = is in cc)

or_right : (a b : Bool) → b ≡ true → (a || b) ≡ true
or_right true b is = refl
or_right false b is = is

pub said_error : (kinds : DbError → Bool) (text : Text) (r : Reply) (o n : Option Text) (f k : ℕ) → Said text r o n f k → IsError kinds r
said_error kinds text r o n f k h =
    ⊎_elim
    (λ (d : (r ≡ Done) × (n ≡ and_then o text)). subst (λ (x : Reply). IsError kinds x) (sym d.0) tt)
    (λ (d : (r ≡ SinkFault) × Rose f k × WritesFront o n text). subst (λ (x : Reply). IsError kinds x) (sym d.0) tt)
    h

-- ---- openings

pub opened_new : (v : View) (name : Text) (access : Access) (size : ℕ) (r : Result Opened DbError) → IfOk r (λ o. OpenedAs v name access size o) → IfOk r (λ o. IsNew access size (db_of o))
opened_new v name access size (Ok o) h = record { access_is = h.access; cache_is = h.cache; whole = h.whole }
opened_new v name access size (Err e) h = tt

pub answer_errors : (kinds : DbError → Bool) (r : Result Opened DbError) → IfErr r (λ e. IsAnswer kinds e) → IfErr r (λ e. or_failed kinds e ≡ true)
answer_errors kinds (Ok o) h = tt
answer_errors kinds (Err e) h = failed_kind kinds (Unit {0}) e h

pub making_errors : (fault P : Type 0) (r : Result Opened DbError) → IfErr r (λ e. Refuses e fault ((e ≡ Exists Only) × P)) → IfErr r (λ e. or_failed is_of_making e ≡ true)
making_errors fault P (Ok o) h = tt
making_errors fault P (Err e) h = failed_kind is_of_making fault e (refuses_map fault ((e ≡ Exists Only) × P) (is_of_making e ≡ true) e (λ x. ap is_of_making x.0) h)

pub opened_or_made : (r : Result Opened DbError) → IfErr r (λ e. or_failed (is_of_opening Writer) e ≡ true) → IfErr r (λ e. or_failed (is_of_way ways.WrCreat) e ≡ true)
opened_or_made (Ok o) h = tt
opened_or_made (Err e) h = failed_wider (is_of_opening Writer) (is_of_way ways.WrCreat) e (λ x k. or_right (is_of_making x) (is_of_opening Writer x) k) h

pub made_or_opened : (r : Result Opened DbError) → IfErr r (λ e. or_failed is_of_making e ≡ true) → IfErr r (λ e. or_failed (is_of_way ways.WrCreat) e ≡ true)
made_or_opened (Ok o) h = tt
made_or_opened (Err e) h = failed_wider is_of_making (is_of_way ways.WrCreat) e (λ x k. or_left (is_of_making x) (is_of_opening Writer x) k) h

pub by_way : (way : Opening) (s : Settings) (r : Result Opened DbError) → s.opening ≡ way → IfOk r (λ o. IsNew (access_of way) s.cache (db_of o)) → IfOk r (λ o. IsFirst s (db_of o))
by_way way s r is h = subst (λ (w : Opening). IfOk r (λ o. IsNew (access_of w) s.cache (db_of o))) (sym is) h

pub errors_by_way : (way : Opening) (s : Settings) (r : Result Opened DbError) → s.opening ≡ way → IfErr r (λ e. or_failed (is_of_way way) e ≡ true) → IfErr r (λ e. or_failed (is_of_way s.opening) e ≡ true)
errors_by_way way s r is h = subst (λ (w : Opening). IfErr r (λ e. or_failed (is_of_way w) e ≡ true)) (sym is) h

-- ---- closing and opening

pub closes_done : (s t : State) → t ≡ shut s → Closes s Done t
closes_done s t is = (inl refl, is)

pub closes_failed : (s t : State) (p : real.Phase) (e : DbError) (u v : View) → phase_of p ≡ s.phase → t ≡ shut s → IsClosing p (Err e) u v → Closes s (Refused e) t
closes_failed s t p e u v phase is h = (inr (ap Refused h.1, subst (λ (q : Phase). Syncs q) phase h.3), is)

pub reopens_unclosed : (name : Option Text) (s t : State) (p : real.Phase) (e : DbError) (u v : View) → t ≡ shut (naming name s) → IsClosing p (Err e) u v → Reopens name s (Refused e) t
reopens_unclosed name s t p e u v is h = (subst (λ (x : DbError). or_failed (is_of_way s.settings.opening) x ≡ true) (sym h.1) refl, is)

pub reopens_refused : (name : Option Text) (s t : State) (file : Settings) (e : DbError) → file ≡ (naming name s).settings → t ≡ shut (naming name s) → or_failed (is_of_way file.opening) e ≡ true → Reopens name s (Refused e) t
reopens_refused name s t file e same is h = (subst (λ (x : Settings). or_failed (is_of_way x.opening) e ≡ true) same h, is)

pub reopens_done : (name : Option Text) (s t : State) (file : Settings) (o : Opened) → file ≡ (naming name s).settings → t ≡ at_phase (shut (naming name s)) (Open (db_of o)) → IsFirst file (db_of o) → Reopens name s Done t
reopens_done name s t file o same is h = (tt, (db_of o, subst (λ (x : Settings). IsFirst x (db_of o)) same h, is))

-- ---- commands

pub set_none : (o : Option Setting) (text : Text) (s t : State) (r : Reply) (a b : Option Text) (f k : ℕ) → o ≡ None → Said text r a b f k → t ≡ s → SetMove o s r t
set_none o text s t r a b f k is said same = subst (λ (x : Option Setting). SetMove x s r t) (sym is) (said_error (λ e. false) text r a b f k said, same)

pub set_some : (o : Option Setting) (setting : Setting) (s t : State) (r : Reply) → o ≡ Some setting → Sets setting s t r → SetMove o s r t
set_some o setting s t r is sets = subst (λ (x : Option Setting). SetMove x s r t) (sym is) sets

pub command_moves : (command kind : Command) (s : State) (r : Reply) (t : State) → command ≡ kind → CommandMoves kind s r t → CommandMoves command s r t
command_moves command kind s r t is h = subst (λ (x : Command). CommandMoves x s r t) (sym is) h
