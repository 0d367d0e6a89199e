-- Lines between data that begin with '#'.
use Rattle.std.proofs.Common.{◌≡◌, ◌∙◌, ap, refl, ℕ, ◌+◌, ◌^◌, ◌<◌, ◌≤◌, Bool, true, false, ◌&&◌, List, [], ◌∷◌, drop, Option, cond, eqb}
use Rattle.std.specs.Prelude.{◌==◌, codes, nat_lt, not}
use Rattle.std.specs.List.{starts_with}
use Rattle.std.proofs.lemmas.Bool.{cond-true, cond-false, le-ltb, lt-ltb}
use Rattle.gd_dump_reading.specs.AsciiItems.{Line, Section, data_told, datum_in, end_told, is_some_section, is_whole, joined, key_size, section_step, size_of, sizes, unless_body, with_datum}
use Rattle.gd_dump_reading.specs.AsciiLeft.{key_of, told_by, told_in}
use Rattle.gd_dump_reading.specs.Said.{named_in}
use Rattle.gd_dump_reading.specs.Numbers.{is_number, value_of}
use Rattle.gd_dump_reading.specs.Told.{refused}
use Rattle.gd_dump_reading.specs.declared.items.DumpKind.TheVariants.{Parameter, TooLarge, Count}
use Rattle.gd_dump_reading.specs.declared.ascii_machine.AsciiMachine.{AsciiMachine}
use Rattle.gd_dump_reading.specs.declared.ascii_machine.AsciiPhase.TheVariants.{Data}

pub data-line : (m : AsciiMachine) (ended : Bool) (lines : List Line × List Section) → m.phase ≡ Data → starts_with eqb m.line.items (codes "#") ≡ true
    → told_in m (section_step (record { text = m.line.items; ended = ended }) lines)
    ≡ data_told m.count (key_of m.waits m.key.items) m.place ((record { line = record { text = m.line.items; ended = ended }; body = lines.0 }) ∷ lines.1)
data-line m ended lines is hash =
    ap (λ (g : List Line × List Section). told_in m g) (cond-true (starts_with eqb m.line.items (codes "#")) _ _ hash)
    ∙ ap (λ p. told_by p (named_in m.names) m.count (key_of m.waits m.key.items) m.text m.place [] ((record { line = record { text = m.line.items; ended = ended }; body = lines.0 }) ∷ lines.1)) is

pub unless-not : {X : Type 0} (b : Bool) (x y : X) → b ≡ true → cond (not b) x y ≡ y
unless-not true x y e = refl
unless-not false x y e = absurd (cc)

pub when-not : {X : Type 0} (b : Bool) (x y : X) → b ≡ false → cond (not b) x y ≡ x
when-not true x y e = absurd (cc)
when-not false x y e = refl

-- a line that announces a datum
pub len-fine : (count : ℕ) (key : Option (List ℕ)) (place : ℕ) (s : Section) (ss : List Section) → starts_with eqb s.line.text (codes "#:len=") ≡ true → is_number 10 (drop 6 s.line.text) ≡ true
    → key_size key + value_of (drop 6 s.line.text) ≤ 2 ^ 30
    → data_told count key place (s ∷ ss)
    ≡ with_datum count key (place + size_of s.line + sizes s.body) (datum_in (value_of (drop 6 s.line.text)) place (joined s.body) (is_some_section ss) (place + size_of s.line + sizes s.body))
    (λ c k. data_told c k (place + size_of s.line + sizes s.body) ss)
len-fine count key place s ss len number fits =
    cond-true (starts_with eqb s.line.text (codes "#:len=")) _ _ len
    ∙ unless-not _ (refused Parameter place) _ number
    ∙ cond-false (nat_lt (2 ^ 30) (key_size key + value_of (drop 6 s.line.text))) _ _ (le-ltb _ _ fits)

pub len-large : (count : ℕ) (key : Option (List ℕ)) (place : ℕ) (s : Section) (ss : List Section) → starts_with eqb s.line.text (codes "#:len=") ≡ true → is_number 10 (drop 6 s.line.text) ≡ true
    → 2 ^ 30 < key_size key + value_of (drop 6 s.line.text) → data_told count key place (s ∷ ss) ≡ refused TooLarge place
len-large count key place s ss len number large =
    cond-true (starts_with eqb s.line.text (codes "#:len=")) _ _ len
    ∙ unless-not _ (refused Parameter place) _ number
    ∙ cond-true (nat_lt (2 ^ 30) (key_size key + value_of (drop 6 s.line.text))) _ _ (lt-ltb _ _ large)

pub count-fine : (count : ℕ) (key : Option (List ℕ)) (place : ℕ) (s : Section) (ss : List Section) → starts_with eqb s.line.text (codes "#:len=") ≡ false → starts_with eqb s.line.text (codes "#:count=") ≡ true
    → (is_number 20 (drop 8 s.line.text) && is_whole key) ≡ true → (value_of (drop 8 s.line.text) == count) ≡ true
    → data_told count key place (s ∷ ss) ≡ unless_body (place + size_of s.line) s.body (end_told (place + size_of s.line) ss)
count-fine count key place s ss other is number same =
    cond-false (starts_with eqb s.line.text (codes "#:len=")) _ _ other
    ∙ cond-true (starts_with eqb s.line.text (codes "#:count=")) _ _ is
    ∙ unless-not _ (refused Parameter place) _ number
    ∙ cond-true (value_of (drop 8 s.line.text) == count) _ _ same

pub count-odd : (count : ℕ) (key : Option (List ℕ)) (place : ℕ) (s : Section) (ss : List Section) → starts_with eqb s.line.text (codes "#:len=") ≡ false → starts_with eqb s.line.text (codes "#:count=") ≡ true
    → (is_number 20 (drop 8 s.line.text) && is_whole key) ≡ false → data_told count key place (s ∷ ss) ≡ refused Parameter place
count-odd count key place s ss other is number =
    cond-false (starts_with eqb s.line.text (codes "#:len=")) _ _ other
    ∙ cond-true (starts_with eqb s.line.text (codes "#:count=")) _ _ is
    ∙ when-not _ (refused Parameter place) _ number

pub count-differs : (count : ℕ) (key : Option (List ℕ)) (place : ℕ) (s : Section) (ss : List Section) → starts_with eqb s.line.text (codes "#:len=") ≡ false → starts_with eqb s.line.text (codes "#:count=") ≡ true
    → (is_number 20 (drop 8 s.line.text) && is_whole key) ≡ true → (value_of (drop 8 s.line.text) == count) ≡ false → data_told count key place (s ∷ ss) ≡ refused Count place
count-differs count key place s ss other is number same =
    cond-false (starts_with eqb s.line.text (codes "#:len=")) _ _ other
    ∙ cond-true (starts_with eqb s.line.text (codes "#:count=")) _ _ is
    ∙ unless-not _ (refused Parameter place) _ number
    ∙ cond-false (value_of (drop 8 s.line.text) == count) _ _ same
