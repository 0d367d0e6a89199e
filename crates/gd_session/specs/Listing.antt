-- What the lines of records owe.
use Rattle.std.specs.Prelude.{◌≡◌, ◌≢◌, ℕ, List, [], ◌++◌, take, true, Option}
use Rattle.gd_base.specs.Causes.{Rose}
use Rattle.gd_base.specs.Streams.{WritesFront, and_then}
use Rattle.gd_base.specs.declared.errors.DbError.{DbError}
use Rattle.gd_base.specs.declared.errors.DbError.TheVariants.{OutOfMemory, VaultFault}
use Rattle.gd_readable.specs.Asks.{Refuses, is_of_bucket}
use Rattle.gd_session.specs.Rows.{done, list_row, typed}
use Rattle.gd_session.specs.State.{State, Text}
use Rattle.gd_session.specs.Texts.{Pair}
use Rattle.gd_session.specs.declared.reply.Reply.{Reply}
use Rattle.gd_session.specs.declared.reply.Reply.TheVariants.{Done, Quit, Refused, SinkFault, Typed}

-- what was printed of the lines of records, by the answer: all of them; those before the one that is refused; after a fault or
-- without memory those of some first records
abbrev pub IsListed : State → List Pair → Reply → Text → Type 0
IsListed s pairs Done text = list_row s pairs ≡ done s text
IsListed s pairs (Typed e) text = list_row s pairs ≡ record (typed s e) { text = text }
IsListed s pairs (Refused VaultFault) text = (n : ℕ) × (list_row s (take n pairs) ≡ done s text)
IsListed s pairs (Refused OutOfMemory) text = (n : ℕ) × (list_row s (take n pairs) ≡ done s text)
IsListed s pairs reply text = ⊥

-- such a text was put behind what waited, of which a front is written
pub record Waiting (s : State) (pairs : List Pair) (reply : Reply) (old : Option Text) (waited : Text) (new : Option Text) (waits : Text) : Type 0 where
  pub text : Text
  pub front : Text
  pub written : new ≡ and_then old front
  pub rest : front ++ waits ≡ waited ++ text
  pub listed : IsListed s pairs reply text

-- lines were put, or the output failed in all that waited and would have come
abbrev pub Lists : State → List Pair → Reply → (old : Option Text) (waited : Text) (new : Option Text) (waits : Text) → Type 0
Lists s pairs SinkFault old waited new waits = WritesFront old new (waited ++ (list_row s pairs).text) × ((list_row s pairs).text ≢ [])
Lists s pairs reply old waited new waits = Waiting s pairs reply old waited new waits

-- such a text was written
pub record Wrote (s : State) (pairs : List Pair) (reply : Reply) (old new : Option Text) : Type 0 where
  pub text : Text
  pub written : new ≡ and_then old text
  pub listed : IsListed s pairs reply text

-- lines were written, or the output failed in them
abbrev pub Listed : State → List Pair → Reply → Option Text → Option Text → Type 0
Listed s pairs SinkFault old new = WritesFront old new (list_row s pairs).text × ((list_row s pairs).text ≢ [])
Listed s pairs reply old new = Wrote s pairs reply old new

-- why lines were not printed
abbrev pub IsListCause : Reply → (vault vault' out out' : ℕ) → Type 0
IsListCause Done vault vault' out out' = Unit {0}
IsListCause (Typed e) vault vault' out out' = Unit {0}
IsListCause SinkFault vault vault' out out' = Rose out out'
IsListCause (Refused e) vault vault' out out' = Refuses e (Rose vault vault') (is_of_bucket e ≡ true)
IsListCause Quit vault vault' out out' = ⊥
