-- The step of one command: each command by its row.
use Rattle.std.specs.Prelude.{Some, None}
use Rattle.gd_lang.specs.declared.commands.Command.{Command}
use Rattle.gd_lang.specs.declared.commands.Command.TheVariants as commands
use Rattle.gd_store.specs.declared.access.How.TheVariants.{Insert, Replace}
use Rattle.gd_session.specs.Answers.{Answer, Replies}
use Rattle.gd_session.specs.Rows.{Alone, Asks, Closes, Deletes, Fills, Lists, Needs, Reopens, Row, Stores, ToWrite, WithKey, WithPair, count_row, fetch_row, first_row, next_row, set_row, version_row}
use Rattle.gd_session.specs.declared.reply.Reply.TheVariants.{Done, Quit}

abbrev pub step : Command → Row
step commands.Nothing = Replies Done
step (commands.Open name) = Reopens name
step commands.Close = Closes
step commands.Quit = Replies Quit
step commands.Version = Alone version_row
step (commands.Set setting) = Alone (set_row setting)
step commands.Count = Needs (Asks count_row)
step (commands.Fetch key) = WithKey key (λ k. Needs (Asks (fetch_row k)))
step commands.First = Needs (Asks first_row)
step (commands.Next None) = Needs (λ db a. Asks (next_row a.old.last) db a)
step (commands.Next (Some key)) = WithKey key (λ k. Needs (Asks (next_row (Some k))))
step commands.List = Needs Lists
step (commands.Store key content) = WithPair key content (λ k v. Needs (ToWrite (Stores Replace k v)))
step (commands.Insert key content) = WithPair key content (λ k v. Needs (ToWrite (Stores Insert k v)))
step (commands.Delete key) = WithKey key (λ k. Needs (ToWrite (Deletes k)))
step (commands.Fill start n) = Needs (ToWrite (Fills start n))

-- the same, closed, for what goes over many commands
pub record Stepped (command : Command) (a : Answer) : Type 0 where
  pub is : step command a
