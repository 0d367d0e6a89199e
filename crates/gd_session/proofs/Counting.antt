-- Counts of faults over a command.
use Rattle.std.proofs.Common.{◌≡◌, ⊎_elim, ℕ, ◌≤◌, Bool, true, false, List, Option, Some, None, Result, Ok, Err, refl, sym, ap, subst, ◌∙◌}
use Rattle.gd_base.specs.Causes.{Rose}
use Rattle.gd_base.specs.Streams.{WritesFront, and_then}
use Rattle.gd_base.specs.declared.errors.DbError.{DbError}
use Rattle.gd_base.specs.declared.errors.DbError.TheVariants.{CannotReplace, NeedRecovery, NotOpen, ReaderCant, VaultFault}
use Rattle.gd_lang.specs.declared.commands.Command.{Command}
use Rattle.gd_lang.specs.declared.commands.Setting.{Setting}
use Rattle.gd_readable.specs.Asks.{Counts}
use Rattle.gd_store.specs.declared.access.Access.{Access}
use Rattle.gd_store.specs.declared.access.Access.TheVariants.{Reader, Writer}
use Rattle.gd_types.specs.declared.errors.EncodeError.{EncodeError}
use Rattle.gd_types.specs.declared.errors.EncodeError.TheVariants as encoding
use Rattle.gd_types.specs.declared.errors.TypeError.{TypeError}
use Rattle.gd_session.specs.Calls.{Scene, words_reply}
use Rattle.gd_session.specs.Counted.{CommandCounts, ListCounts, OutCounts, RequestCounts, StepCounts, VaultCounts}
use Rattle.gd_session.specs.Due.{Causes, Kind, access_due, broken_due, phase_due, set_kind, write_due}
use Rattle.gd_session.specs.Requests.{keyed_request}
use Rattle.gd_session.specs.Said.{Said, Shows}
use Rattle.gd_session.specs.State.{Phase, Text}
use Rattle.gd_session.specs.State.Phase.{Fresh, Open, Shut}
use Rattle.gd_session.specs.Texts.{line}
use Rattle.gd_session.specs.declared.reply.Reply.{Reply}
use Rattle.gd_session.specs.declared.reply.Reply.TheVariants.{Done, Quit, Refused, SinkFault, Typed}
use Rattle.gd_session.specs.declared.request.Request.{Request}
use Rattle.gd_session.specs.declared.request.Request.TheVariants as requests
use Rattle.gd_session.specs.declared.request.Keyed.{Keyed}
use Rattle.gd_session.specs.declared.request.Keyed.TheVariants as keyed

-- ---- single answers

-- what printed a text did not ask the vault
pub said_counts : (text : Text) (r : Reply) (o n : Option Text) (f k before now : ℕ) → Said text r o n f k → now ≡ before → VaultCounts r before now
said_counts text r o n f k before now said same =
    ⊎_elim
    (λ (h : (r ≡ Done) × (n ≡ and_then o text)). subst (λ (x : Reply). VaultCounts x before now) (sym h.0) same)
    (λ (h : (r ≡ SinkFault) × Rose f k × WritesFront o n text). subst (λ (x : Reply). VaultCounts x before now) (sym h.0) same)
    said

pub shows_counts : (text : Result Text TypeError) (r : Reply) (o n : Option Text) (f k before now : ℕ) → Shows text r o n f k → now ≡ before → VaultCounts r before now
shows_counts (Ok text) r o n f k before now shows same = said_counts (line text) r o n f k before now shows same
shows_counts (Err e) r o n f k before now shows same = subst (λ (x : Reply). VaultCounts x before now) (sym shows.0) same

-- what was answered behind calls that left the count
pub counts_from : (r : Reply) (before middle now : ℕ) → middle ≡ before → VaultCounts r middle now → VaultCounts r before now
counts_from r before middle now same h = subst (λ (n : ℕ). VaultCounts r n now) same h

pub out_from : (r : Reply) (before middle now : ℕ) → middle ≡ before → OutCounts r middle now → OutCounts r before now
out_from r before middle now same h = subst (λ (n : ℕ). OutCounts r n now) same h

-- a reply that is another one
pub counts_as : (r s : Reply) (before now : ℕ) → r ≡ s → VaultCounts s before now → VaultCounts r before now
counts_as r s before now is h = subst (λ (x : Reply). VaultCounts x before now) (sym is) h

pub out_as : (r s : Reply) (before now : ℕ) → r ≡ s → OutCounts s before now → OutCounts r before now
out_as r s before now is h = subst (λ (x : Reply). OutCounts x before now) (sym is) h

-- an answer that left the count
pub counts_done : (r : Reply) (before now : ℕ) → r ≡ Done → VaultCounts r before now → now ≡ before
counts_done r before now is h = subst (λ (x : Reply). VaultCounts x before now) is h

pub words_counts : (e : EncodeError) (r : Reply) (n : ℕ) → r ≡ words_reply e → VaultCounts r n n
words_counts (encoding.Typed e) r n is = counts_as r (Typed e) n n is refl
words_counts encoding.OutOfMemory r n is = subst (λ (x : Reply). VaultCounts x n n) (sym is) refl

pub words_out : (e : EncodeError) (r : Reply) (n : ℕ) → r ≡ words_reply e → OutCounts r n n
words_out (encoding.Typed e) r n is = out_as r (Typed e) n n is refl
words_out encoding.OutOfMemory r n is = subst (λ (x : Reply). OutCounts x n n) (sym is) refl

-- ---- lists

pub list_counts : (r : Reply) (before now : ℕ) → before ≤ now → VaultCounts r before now → ListCounts r before now
list_counts SinkFault before now later h = later
list_counts Done before now later h = h
list_counts Quit before now later h = h
list_counts (Refused e) before now later h = h
list_counts (Typed e) before now later h = h

pub list_from : (r : Reply) (before middle now : ℕ) → middle ≡ before → ListCounts r middle now → ListCounts r before now
list_from r before middle now same h = subst (λ (n : ℕ). ListCounts r n now) same h

-- an answer that is no fault of the output leaves its count
pub out_stays : (r : Reply) (before now : ℕ) → (r ≡ SinkFault → ⊥) → OutCounts r before now → now ≡ before
out_stays SinkFault before now other h = absurd (other refl)
out_stays Done before now other h = h
out_stays Quit before now other h = h
out_stays (Refused e) before now other h = h
out_stays (Typed e) before now other h = h

pub out_by : (r : Reply) (before now : ℕ) → (r ≡ SinkFault → ⊥) → now ≡ before → OutCounts r before now
out_by SinkFault before now other h = absurd (other refl)
out_by Done before now other h = h
out_by Quit before now other h = h
out_by (Refused e) before now other h = h
out_by (Typed e) before now other h = h

-- ---- requests and commands

pub request_counts : (request kind : Request) (r : Reply) (before now : ℕ) → request ≡ kind → RequestCounts kind r before now → RequestCounts request r before now
request_counts request kind r before now is h = subst (λ (x : Request). RequestCounts x r before now) (sym is) h

pub request_from : (request : Request) (r : Reply) (before middle now : ℕ) → middle ≡ before → RequestCounts request r middle now → RequestCounts request r before now
request_from request r before middle now same h = subst (λ (n : ℕ). RequestCounts request r n now) same h

-- a refusal before a request is asked
pub request_refused : (request : Request) (e : DbError) (before now : ℕ) → Counts e before now → RequestCounts request (Refused e) before now
request_refused requests.List e before now h = h
request_refused requests.Count e before now h = h
request_refused (requests.Fetch key) e before now h = h
request_refused requests.First e before now h = h
request_refused (requests.Next key) e before now h = h
request_refused (requests.Store how key content) e before now h = h
request_refused (requests.Delete key) e before now h = h
request_refused (requests.Fill start n) e before now h = h

keyed_counts_as : (k : Keyed) (key : List ℕ) (r : Reply) (before now : ℕ) → RequestCounts (keyed_request k key) r before now → VaultCounts r before now
keyed_counts_as keyed.Fetch key r before now h = h
keyed_counts_as keyed.Next key r before now h = h
keyed_counts_as keyed.Delete key r before now h = h

pub keyed_counts : (k : Keyed) (request : Request) (key : List ℕ) (r : Reply) (before now : ℕ) → request ≡ keyed_request k key → RequestCounts request r before now → VaultCounts r before now
keyed_counts k request key r before now is h = keyed_counts_as k key r before now (subst (λ (x : Request). RequestCounts x r before now) is h)

pub step_counts : (command kind : Command) (r : Reply) (vault vault' out out' : ℕ) → command ≡ kind → CommandCounts kind r vault vault' → OutCounts r out out' → StepCounts command r vault vault' out out'
step_counts command kind r vault vault' out out' is v o = record { asked = subst (λ (x : Command). CommandCounts x r vault vault') (sym is) v; printed = o }

-- ---- what asks no object

vault_never : (e : DbError) (n : ℕ) → (e ≡ VaultFault → ⊥) → Counts e n n
vault_never VaultFault n never = absurd (never refl)
vault_never e n never = refl

vault_by : (r : Reply) (n : ℕ) → (r ≡ Refused VaultFault → ⊥) → VaultCounts r n n
vault_by (Refused e) n never = vault_never e n (λ is. never (ap Refused is))
vault_by Done n never = refl
vault_by Quit n never = refl
vault_by (Typed e) n never = refl
vault_by SinkFault n never = refl

-- a command that does not print
pub out_none : (due : Option Reply) (k : Kind) (old new : Scene) (r : Reply) (n : ℕ) → k.prints ≡ false → Causes due k old new r → OutCounts r n n
out_none due k old new r n prints c = out_by r n n (λ is. (let no_ : false ≡ true = sym prints ∙ (c.out is).0 in cc)) refl

-- a command that does not ask the vault
pub vault_none : (due : Option Reply) (k : Kind) (old new : Scene) (r : Reply) (n : ℕ) → k.asks ≡ false → Causes due k old new r → VaultCounts r n n
vault_none due k old new r n asks c = vault_by r n (λ is. (let no_ : false ≡ true = sym asks ∙ (c.vault is).0 in cc))

pub set_asks : (o : Option Setting) → (set_kind o).asks ≡ false
set_asks None = refl
set_asks (Some setting) = refl

-- ---- lists of pairs

access_counts : (a : Access) (r : Reply) (n : ℕ) → access_due a ≡ Some r → VaultCounts r n n × OutCounts r n n
access_counts Reader r n is = let same : Refused ReaderCant ≡ r = (let both : Some (Refused ReaderCant) ≡ Some r = is in cc) in subst (λ (x : Reply). VaultCounts x n n × OutCounts x n n) same (refl, refl)
access_counts Writer r n is = absurd (let no_ : None ≡ Some r = is in cc)

broken_counts : (b : Bool) (a : Access) (r : Reply) (n : ℕ) → broken_due b (access_due a) ≡ Some r → VaultCounts r n n × OutCounts r n n
broken_counts true a r n is = let same : Refused NeedRecovery ≡ r = (let both : Some (Refused NeedRecovery) ≡ Some r = is in cc) in subst (λ (x : Reply). VaultCounts x n n × OutCounts x n n) same (refl, refl)
broken_counts false a r n is = access_counts a r n is

-- the refusal that is due of a change
due_counts : (p : Phase) (r : Reply) (n : ℕ) → phase_due write_due p ≡ Some r → VaultCounts r n n × OutCounts r n n
due_counts Fresh r n is = absurd (let no_ : None ≡ Some r = is in cc)
due_counts (Open db) r n is = broken_counts db.broken db.access r n is
due_counts Shut r n is = let same : Refused NotOpen ≡ r = (let both : Some (Refused NotOpen) ≡ Some r = is in cc) in subst (λ (x : Reply). VaultCounts x n n × OutCounts x n n) same (refl, refl)

pub early_counts : (p : Phase) (r : Reply) (o : Option Reply) (n : ℕ) → o ≡ phase_due write_due p → o ≡ Some r → VaultCounts r n n
early_counts p r o n is some = (due_counts p r n (sym is ∙ some)).0

pub early_out : (p : Phase) (r : Reply) (o : Option Reply) (n : ℕ) → o ≡ phase_due write_due p → o ≡ Some r → OutCounts r n n
early_out p r o n is some = (due_counts p r n (sym is ∙ some)).1

-- an insertion that was refused because the key is there
pub counts_there : (r : Reply) (before now : ℕ) → r ≡ Refused CannotReplace → VaultCounts r before now → now ≡ before
counts_there r before now is h = subst (λ (x : Reply). VaultCounts x before now) is h
