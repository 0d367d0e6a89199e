-- What a dump tells: its items, each with the number of bytes up to its end, and the refusal that ends it where there is one.
use Rattle.std.specs.Prelude.{◌≡◌, ℕ, ◌+◌, ◌<◌, ◌≤◌, List, [], ◌∷◌, ◌++◌, drop, length, Option, Some, None, Result, Ok, Err}
use Rattle.gd_dump_reading.specs.declared.items.DumpKind.{DumpKind}
use Rattle.gd_dump_reading.specs.declared.items.DumpError.{DumpError}
use Rattle.gd_dump_reading.specs.declared.items.DumpError.TheVariants.{Bad, OutOfMemory}
use Rattle.gd_dump_reading.specs.declared.items.Item.{Item}
use Rattle.gd_dump_reading.specs.declared.items.Item.TheVariants.{Pair}
use Rattle.gd_dump_reading.specs.declared.items.Fed.{Fed}
use Rattle.gd_dump_reading.specs.declared.items.Refusal.{Refusal}

pub record Told : Type 0 where
  pub items : List (Item × ℕ)
  pub refusal : Option (DumpKind × ℕ)

-- nothing more
abbrev pub nothing : Told
nothing = record { items = []; refusal = None }

abbrev pub refused : DumpKind → ℕ → Told
refused kind place = record { items = []; refusal = Some (kind, place) }

-- an item that ends there, and what follows it
abbrev pub given : Item → ℕ → Told → Told
given item end told = record { items = (item, end) ∷ told.items; refusal = told.refusal }

-- the same, where there is an item
abbrev pub given_if : Option Item → ℕ → Told → Told
given_if None end told = told
given_if (Some item) end told = given item end told

abbrev pub pairs_of : List (Item × ℕ) → List (List ℕ × List ℕ)
pairs_of [] = []
pairs_of ((Pair key value, end) ∷ items) = (key, value) ∷ pairs_of items
pairs_of ((item, end) ∷ items) = pairs_of items

-- each item ends behind that place
abbrev pub EndBehind : ℕ → List (Item × ℕ) → Type 0
EndBehind place [] = Unit {0}
EndBehind place (i ∷ items) = (place < i.1) × EndBehind place items

-- no item ends in the bytes up to that place, whatever comes behind them
abbrev pub NoneEnds : (List ℕ → Told) → ℕ → Type 0
NoneEnds told place = (rest : List ℕ) → 0 < length rest → EndBehind place (told rest).items

-- ---- one step of a reader, of which old and new say what it still gives, before and after, for each rest of the input

abbrev pub Steps : (List ℕ → Told) → (List ℕ → Told) → ℕ → ℕ → List ℕ → Result Fed Refusal → Type 0
Steps old new before after piece (Ok fed) = (fed.taken ≤ length piece) × (after ≡ before + fed.taken)
    × ((rest : List ℕ) → old (piece ++ rest) ≡ given_if fed.item after (new (drop fed.taken piece ++ rest)))
Steps old new before after piece (Err stop) = (rest : List ℕ) → old (piece ++ rest) ≡ refused stop.kind stop.place

-- without an item nothing is taken only of an empty piece
abbrev pub GoesOn : List ℕ → Result Fed Refusal → Type 0
GoesOn piece (Ok fed) = fed.item ≡ None → fed.taken ≡ 0 → length piece ≡ 0
GoesOn piece (Err stop) = Unit {0}

-- where nothing is taken and no item given, none ends before more comes
abbrev pub Waits : (List ℕ → Told) → ℕ → Result Fed Refusal → Type 0
Waits new after (Ok fed) = fed.item ≡ None → fed.taken ≡ 0 → NoneEnds new after
Waits new after (Err stop) = Unit {0}

-- steps up to the first item, or to the end of the piece
abbrev pub Runs : (List ℕ → Told) → (List ℕ → Told) → ℕ → ℕ → List ℕ → Result Fed Refusal → Type 0
Runs old new before after piece (Ok fed) = Steps old new before after piece (Ok fed) × (fed.item ≡ None → fed.taken ≡ length piece)
Runs old new before after piece (Err stop) = (rest : List ℕ) → old (piece ++ rest) ≡ refused stop.kind stop.place

-- nothing more comes: the next item, if there is one
abbrev pub Ends : (List ℕ → Told) → (List ℕ → Told) → ℕ → ℕ → Result (Option Item) Refusal → Type 0
Ends old new before after (Ok (Some item)) = (after ≡ before) × (old [] ≡ given item after (new []))
Ends old new before after (Ok None) = (after ≡ before) × (old [] ≡ nothing) × (new [] ≡ nothing)
Ends old new before after (Err stop) = old [] ≡ refused stop.kind stop.place

-- what is held has an item, whatever comes
abbrev pub GivesPair : (List ℕ → Told) → (List ℕ → Told) → ℕ → Item → Type 0
GivesPair old new end item = (rest : List ℕ) → old rest ≡ given item end (new rest)

abbrev pub RefusedWith : Told → Refusal → Type 0
RefusedWith told stop = told ≡ refused stop.kind stop.place

-- ---- the calls of a reader

-- Of the piece some bytes were taken: all, or those up to the end of the item that is given. Or the dump is refused, and so is each later call.
-- After want of memory all is as before.
abbrev pub Feeds : (List ℕ → Told) → (List ℕ → Told) → ℕ → ℕ → List ℕ → Result Fed DumpError → Type 0
Feeds old new before after piece (Ok fed) = (fed.taken ≤ length piece) × (after ≡ before + fed.taken)
    × ((rest : List ℕ) → old (piece ++ rest) ≡ given_if fed.item after (new (drop fed.taken piece ++ rest)))
Feeds old new before after piece (Err (Bad kind place)) = (after ≡ 0) × ((rest : List ℕ) → (old (piece ++ rest) ≡ refused kind place) × (new rest ≡ refused kind place))
Feeds old new before after piece (Err OutOfMemory) = (after ≡ before) × ((rest : List ℕ) → new rest ≡ old rest)

-- nothing more comes: the next item, if there is one; no memory is taken
abbrev pub Finishes : (List ℕ → Told) → (List ℕ → Told) → ℕ → ℕ → Result (Option Item) DumpError → Type 0
Finishes old new before after (Ok (Some item)) = (after ≡ before) × (old [] ≡ given item after (new []))
Finishes old new before after (Ok None) = (after ≡ before) × (old [] ≡ nothing) × (new [] ≡ nothing)
Finishes old new before after (Err (Bad kind place)) = (after ≡ 0) × (old [] ≡ refused kind place) × ((rest : List ℕ) → new rest ≡ refused kind place)
Finishes old new before after (Err OutOfMemory) = ⊥

-- the refusal that a reader has answered, before and after a call: it is answered again
abbrev pub Repeats : {T : Type 0} → Option Refusal → Option Refusal → Result T DumpError → Type 0
Repeats (Some stop) new r = (r ≡ Err (Bad stop.kind stop.place)) × (new ≡ Some stop)
Repeats None new (Ok x) = new ≡ None
Repeats None new (Err (Bad kind place)) = new ≡ Some (record { kind = kind; place = place })
Repeats None new (Err OutOfMemory) = new ≡ None
