-- The reading of lines from a source, by pieces.
use Rattle.std.specs.Prelude.{◌≡◌, ◌<◌, ◌≤◌, ◌+◌, ◌^◌, ℕ, Bool, true, false, List, [], ◌∷◌, ◌++◌, length, take, drop, Option, Some, None, option_map, Result, Ok, Err}
use Rattle.gd_base.specs.Causes.{Rose}
use Rattle.gd_base.specs.Sources.{IsAtEnd}
use Rattle.gd_script.specs.Lines.{has_feed}
use Rattle.gd_script.specs.declared.ending.Ending.{Ending}
use Rattle.gd_script.specs.declared.ending.Ending.TheVariants.{InputFailed, TooLong, Starved}
use Rattle.gd_script.specs.declared.reader.Lines.{Lines}
use Rattle.gd_script.specs.declared.reader.Next.{Next}
use Rattle.gd_script.specs.declared.reader.Next.TheVariants.{Line, Last, End}

-- the bytes that were taken and are in no line yet, how many were taken, what is left of the source, and how often it failed
pub record Reading : Type 0 where
  pub waiting : List ℕ
  pub taken : ℕ
  pub left : Option (List ℕ)
  pub faults : ℕ

abbrev pub reading : Lines → Option (List ℕ) → ℕ → Reading
reading l left faults = record { waiting = drop l.at l.piece.items; taken = l.taken; left = left; faults = faults }

-- one call failed: a count rose by one, up to its last value
pub record FailsOnce (before now : ℕ) : Type 0 where
  pub rose : Rose before now
  pub later : before ≤ now
  pub once : now ≤ before + 1

-- the place lies in the piece, and no more was taken than may be
pub record IsWithin (l : Lines) : Type 0 where
  pub place : l.at ≤ length l.piece.items
  pub taken : l.taken ≤ 2 ^ 32

-- bytes were taken from the source
pub record Takes (got : List ℕ) (old new : Reading) : Type 0 where
  pub left : old.left ≡ option_map (λ xs. got ++ xs) new.left
  pub taken : new.taken ≡ old.taken + length got

-- the front of what waits went into the line: up to a line feed, or all of it
abbrev pub TakesFront : Option ℕ → (rest line line' : List ℕ) → Type 0
TakesFront None rest line line' = (has_feed rest ≡ false) × (line' ≡ line ++ rest)
TakesFront (Some n) rest line line' = (n < length rest) × (has_feed (take n rest) ≡ false) × (rest ≡ take n rest ++ 10 ∷ drop (n + 1) rest) × (line' ≡ line ++ take n rest)

-- the same with the place behind the front
abbrev pub PartsFront : Bool → (waiting waiting' line line' : List ℕ) → Type 0
PartsFront true waiting waiting' line line' = (part : List ℕ) × (has_feed part ≡ false) × (waiting ≡ part ++ 10 ∷ waiting') × (line' ≡ line ++ part)
PartsFront false waiting waiting' line line' = (has_feed waiting ≡ false) × (waiting' ≡ []) × (line' ≡ line ++ waiting)

-- a piece was taken from the source, or its end was met, or it failed, or has too many bytes
abbrev pub Refills : Result Bool Ending → (old new : Reading) → Type 0
Refills (Ok true) old new = Takes new.waiting old new × (0 < length new.waiting) × (new.faults ≡ old.faults)
Refills (Ok false) old new = Takes [] old new × (new.waiting ≡ []) × IsAtEnd new.left × (new.faults ≡ old.faults)
Refills (Err InputFailed) old new = Takes [] old new × FailsOnce old.faults new.faults
Refills (Err TooLong) old new = (new ≡ old) × (new.taken ≡ 2 ^ 32)
Refills (Err ending) old new = ⊥

-- what is known of the next line when these bytes were taken
abbrev pub NextIs : Result Next Ending → List ℕ → (old new : Reading) → Type 0
NextIs (Ok (Line line)) got old new = (old.waiting ++ got ≡ line.items ++ 10 ∷ new.waiting) × (has_feed line.items ≡ false) × (new.faults ≡ old.faults)
NextIs (Ok (Last line)) got old new = (old.waiting ++ got ≡ line.items) × (has_feed line.items ≡ false) × (0 < length line.items) × IsAtEnd new.left × (new.faults ≡ old.faults)
NextIs (Ok End) got old new = (old.waiting ++ got ≡ []) × IsAtEnd new.left × (new.faults ≡ old.faults)
NextIs (Err InputFailed) got old new = (has_feed (old.waiting ++ got) ≡ false) × FailsOnce old.faults new.faults
NextIs (Err TooLong) got old new = (has_feed (old.waiting ++ got) ≡ false) × (new.taken ≡ 2 ^ 32) × (new.faults ≡ old.faults)
NextIs (Err Starved) got old new = new.faults ≡ old.faults
NextIs (Err ending) got old new = ⊥

-- the next line
pub record Gives (result : Result Next Ending) (old new : Reading) : Type 0 where
  pub got : List ℕ
  pub takes : Takes got old new
  pub is : NextIs result got old new

-- the front of a line, of which more may come
pub record Began (line : List ℕ) (old new : Reading) : Type 0 where
  pub got : List ℕ
  pub takes : Takes got old new
  pub is : old.waiting ++ got ≡ line ++ new.waiting
  pub plain : has_feed line ≡ false
  pub faults : new.faults ≡ old.faults

-- the bytes behind the last line feed are a line, unless there are none
abbrev pub LastIs : Next → List ℕ → Type 0
LastIs (Last line) bytes = (line.items ≡ bytes) × (0 < length bytes)
LastIs End bytes = bytes ≡ []
LastIs (Line line) bytes = ⊥
