-- What the steps of a reader of ASCII dumps answer.
use Rattle.std.specs.Prelude.{◌≡◌, ℕ, List, [], Option, Bool, false, Result, Ok, Err}
use Rattle.gd_dump_reading.specs.AsciiItems.{Line, Section, section_step}
use Rattle.gd_dump_reading.specs.AsciiHeld.{HasRoom}
use Rattle.gd_dump_reading.specs.AsciiLeft.{told_in}
use Rattle.gd_dump_reading.specs.Told.{given_if, refused}
use Rattle.gd_dump_reading.specs.declared.ascii_machine.AsciiMachine.{AsciiMachine}
use Rattle.gd_dump_reading.specs.declared.items.Refusal.{Refusal}
use Rattle.gd_dump_reading.specs.declared.items.Item.{Item}

-- the line that is held was followed, whatever lines come behind it; ended says whether a line feed stands behind it
abbrev pub Follows : AsciiMachine → AsciiMachine → Bool → ℕ → Result (Option Item) Refusal → Type 0
Follows old new ended end (Ok item) = (new.line.items ≡ []) × (new.inside ≡ false) × (new.place ≡ end)
    × ((lines : List Line × List Section) → told_in old (section_step (record { text = old.line.items; ended = ended }) lines) ≡ given_if item end (told_in new lines))
Follows old new ended end (Err stop) = (lines : List Line × List Section) → told_in old (section_step (record { text = old.line.items; ended = ended }) lines) ≡ refused stop.kind stop.place

-- all but the line and its place stand
pub record SameBut (old new : AsciiMachine) : Type 0 where
  pub phase : new.phase ≡ old.phase
  pub names : new.names ≡ old.names
  pub value : new.value ≡ old.value
  pub count : new.count ≡ old.count
  pub waits : new.waits ≡ old.waits
  pub key : new.key ≡ old.key
  pub text : new.text ≡ old.text

-- the room stays
abbrev pub KeepsRoom : AsciiMachine → AsciiMachine → Type 0
KeepsRoom old new = (n : ℕ) → HasRoom old n → HasRoom new n
