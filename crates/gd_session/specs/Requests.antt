-- What is asked of a database, and by which row it is answered.
use Rattle.std.specs.Prelude.{◌≤◌, ℕ, List, Option, Some, None}
use Rattle.gd_store.specs.declared.access.How.TheVariants.{Replace, Insert}
use Rattle.gd_session.specs.Due.{Kind, ask_due, changing, counting, showing, write_due}
use Rattle.gd_session.specs.Rows.{Asks, DbRow, Deletes, Fills, Lists, Stores, ToWrite, count_row, fetch_row, first_row, next_row}
use Rattle.gd_session.specs.State.{Db}
use Rattle.gd_session.specs.declared.reply.Reply.{Reply}
use Rattle.gd_session.specs.declared.request.Request.{Request}
use Rattle.gd_session.specs.declared.request.Request.TheVariants as requests
use Rattle.gd_session.specs.declared.request.Keyed.{Keyed}
use Rattle.gd_session.specs.declared.request.Keyed.TheVariants as keyed

abbrev pub keyed_request : Keyed → List ℕ → Request
keyed_request keyed.Fetch key = requests.Fetch key
keyed_request keyed.Next key = requests.Next (Some key)
keyed_request keyed.Delete key = requests.Delete key

abbrev pub request_row : Request → DbRow
request_row requests.Count = Asks count_row
request_row (requests.Fetch key) = Asks (fetch_row key)
request_row requests.First = Asks first_row
request_row (requests.Next None) = λ db a. Asks (next_row a.old.last) db a
request_row (requests.Next (Some key)) = Asks (next_row (Some key))
request_row requests.List = Lists
request_row (requests.Store how key content) = ToWrite (Stores how key content)
request_row (requests.Delete key) = ToWrite (Deletes key)
request_row (requests.Fill start n) = ToWrite (Fills start n)

-- its refusal that is due by the database alone
abbrev pub own_due : Request → Db → Option Reply
own_due (requests.Store how key content) = write_due
own_due (requests.Delete key) = write_due
own_due (requests.Fill start n) = write_due
own_due request = ask_due

abbrev pub request_kind : Request → Kind
request_kind requests.Count = counting
request_kind (requests.Store how key content) = changing
request_kind (requests.Delete key) = changing
request_kind (requests.Fill start n) = counting
request_kind request = showing

abbrev pub keyed_due : Keyed → Db → Option Reply
keyed_due keyed.Fetch = ask_due
keyed_due keyed.Next = ask_due
keyed_due keyed.Delete = write_due

abbrev pub keyed_kind : Keyed → Kind
keyed_kind keyed.Fetch = showing
keyed_kind keyed.Next = showing
keyed_kind keyed.Delete = changing

-- no more pairs than the language takes
abbrev pub IsProperRequest : Request → Type 0
IsProperRequest (requests.Fill start n) = n ≤ 1000000
IsProperRequest request = Unit {0}
