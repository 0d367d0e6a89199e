-- The record that a command prints, found by its key.
use Rattle.std.specs.Prelude.{◌≡◌, ◌≢◌, false, List, ℕ, Option, Some, Result, Ok, Err}
use Rattle.gd_base.specs.declared.errors.DbError.{DbError}
use Rattle.gd_format.specs.File.{records}
use Rattle.gd_store.specs.Opened.{Opened, OnFile}
use Rattle.gd_store.specs.Replies.{value_of}
use Rattle.gd_vault.specs.Views.{View}
use Rattle.gd_session.specs.Answers.{Ending}
use Rattle.gd_session.specs.Calls.{Answers, scene}
use Rattle.gd_session.specs.Due.{Causes, ask_due, phase_due, showing}
use Rattle.gd_session.specs.Rows.{Asks, Needs, printed}
use Rattle.gd_session.specs.State.{Held, State, Text, seen}
use Rattle.gd_session.specs.Texts.{Pair}
use Rattle.gd_session.specs.declared.phase.Phase as real
use Rattle.gd_session.specs.declared.phase.Phase.TheVariants as phases
use Rattle.gd_session.specs.declared.reply.Reply.TheVariants.{Refused}

abbrev pub Row : Type 0
Row = State → List Pair → Ending

-- the record of the key, with the value that the map has, is the one that is printed
pub record IsNext (row : Row) (s : State) (key file : List ℕ) : Type 0 where
  pub content : List ℕ
  pub in_map : value_of (records file) key ≡ Some content
  pub is : row s (records file) ≡ printed s (Some (key, content))

-- a database is open and not broken, and its file is such a one
pub record FindsIn (P : List ℕ → Type 0) (v : View) (p : real.Phase) : Type 0 where
  pub store : Opened
  pub phase : p ≡ phases.Open store
  pub whole : store.broken ≡ false
  pub is : OnFile v store.file P

abbrev pub IsNextAt : Row → Held → View → List ℕ → Type 0
IsNextAt row h v key = FindsIn (IsNext row (seen h) key) v h.phase

-- a refusal is the answer
pub record FindsNone (row : Row) (h : Held) (u v : View) (e : DbError) : Type 0 where
  pub answer : (out : Option Text) (failed : ℕ) → Answers (Needs (Asks row)) (scene h u out failed) (scene h v out failed) (Refused e)
  pub cause : (out : Option Text) (failed : ℕ) → Causes (phase_due ask_due (seen h).phase) showing (scene h u out failed) (scene h v out failed) (Refused e)

-- the key of the record that is printed, or why there is none
abbrev pub Finds : Row → Held → View → View → Result (List ℕ) DbError → Type 0
Finds row h u v (Ok key) = IsNextAt row h u key
Finds row h u v (Err e) = FindsNone row h u v e
