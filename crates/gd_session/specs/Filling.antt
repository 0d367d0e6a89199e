-- A list of stores in a loop.
use Rattle.std.specs.Prelude.{◌≡◌, ◌≢◌, ℕ, Bool, is_some, Option, None, Some, Result, Ok, Err}
use Rattle.gd_format.specs.File.{records}
use Rattle.gd_map_laws.specs.Maps.{pair_map}
use Rattle.gd_store.specs.Replies.{value_of}
use Rattle.gd_vault.specs.Content.{Content, File}
use Rattle.gd_vault.specs.Views.{View, content_of}
use Rattle.gd_session.specs.Answers.{Faults}
use Rattle.gd_session.specs.Calls.{scene}
use Rattle.gd_session.specs.Due.{Causes, moving}
use Rattle.gd_session.specs.Rows.{Row, Steps, StoreStep, part_of}
use Rattle.gd_session.specs.State.{Db, Held, State, Text, seen}
use Rattle.gd_session.specs.State.Phase.{Open}
use Rattle.gd_session.specs.Texts.{Pair, counts_of, fill_pairs, none_counted}
use Rattle.gd_session.specs.declared.counts.Counts.{Counts}
use Rattle.gd_session.specs.declared.reply.Reply.{Reply}
use Rattle.gd_session.specs.declared.reply.Reply.TheVariants.{Done}

-- the counts of faults, where neither the clock nor the output is asked
abbrev pub faults_at : View → (clock out : ℕ) → Faults
faults_at v clock out = record { vault = v.faults; clock = clock; out = out }

-- a refusal, or Done
abbrev pub reply_to : {T : Type 0} → Result T Reply → Reply
reply_to (Ok x) = Done
reply_to (Err reply) = reply

-- a database is open, and its file is there
pub record OpenWith (h : Held) (c : Content) (db : Db) (x : File) : Type 0 where
  pub phase : (seen h).phase ≡ Open db
  pub there : c.files db.file ≡ Some x

-- a pair replaced another one exactly where its key had a value
abbrev pub Replaced : Pair → File → Result Bool Reply → Type 0
Replaced p x (Ok replaced) = replaced ≡ is_some (value_of (records x.bytes) p.0)
Replaced p x (Err reply) = reply ≢ Done

-- one step
pub record Added (p : Pair) (h g : Held) (u v : View) (clock out : ℕ) (c : Content) (r : Result Bool Reply) : Type 0 where
  pub after : Content
  pub told : content_of v.told ≡ Some after
  pub db : Db
  pub file : File
  pub opened : OpenWith h c db file
  pub step : StoreStep p db (part_of (seen h) (faults_at u clock out) c (reply_to r) (seen g) (faults_at v clock out) after)
  pub replaced : Replaced p file r

abbrev pub Adds : Pair → Held → Held → View → View → Result Bool Reply → Type 0
Adds p h g u v r = (clock out : ℕ) (c : Content) → content_of u.told ≡ Some c → Added p h g u v clock out c r

-- what was counted of all of them, or why they ended
abbrev pub IsCounted : (start n : ℕ) → File → Result Counts Reply → Type 0
IsCounted start n x (Ok counts) = counts ≡ counts_of (pair_map (records x.bytes)) (fill_pairs start n) none_counted
IsCounted start n x (Err reply) = reply ≢ Done

-- the steps over all pairs
pub record Filled (start n : ℕ) (h g : Held) (u v : View) (clock out : ℕ) (c : Content) (r : Result Counts Reply) : Type 0 where
  pub after : Content
  pub told : content_of v.told ≡ Some after
  pub db : Db
  pub file : File
  pub opened : OpenWith h c db file
  pub steps : Steps (λ p. StoreStep p db) (fill_pairs start n) (seen h) (faults_at u clock out) c (reply_to r) (seen g) (faults_at v clock out) after
  pub counted : IsCounted start n file r

abbrev pub FilledFrom : (start n : ℕ) → Held → Held → View → View → Result Counts Reply → Type 0
FilledFrom start n h g u v r = (clock out : ℕ) (c : Content) → content_of u.told ≡ Some c → Filled start n h g u v clock out c r

-- why a list of stores ended
abbrev pub FillCause : Held → Held → View → View → Reply → Type 0
FillCause h g u v reply = (out : Option Text) (failed : ℕ) → Causes None moving (scene h u out failed) (scene g v out failed) reply

-- on the way, with so many pairs left: what comes behind them makes the steps over all of them, and their counts those of all
pub record SoFar (start n x left : ℕ) (counts : Counts) (h g : Held) (u v : View) (clock out : ℕ) (c : Content) : Type 0 where
  pub mid : Content
  pub told : content_of v.told ≡ Some mid
  pub db : Db
  pub file : File
  pub now : File
  pub opened : OpenWith h c db file
  pub opened_now : OpenWith g mid db now
  pub on : (r : Reply) (t : State) (j : Faults) (d : Content) → Steps (λ p. StoreStep p db) (fill_pairs x left) (seen g) (faults_at v clock out) mid r t j d → Steps (λ p. StoreStep p db) (fill_pairs start n) (seen h) (faults_at u clock out) c r t j d
  pub counted : counts_of (pair_map (records now.bytes)) (fill_pairs x left) counts ≡ counts_of (pair_map (records file.bytes)) (fill_pairs start n) none_counted
