-- A reader in a datum's text.
use Rattle.std.proofs.Common.{◌≡◌, ◌∙◌, ap, ap₂, sym, refl, ℕ, zero, suc, ◌+◌, ◌<◌, ◌≤◌, Bool, false, List, [], ◌∷◌, ◌++◌, length, take, drop, get_or, Option, Err, arith, eqb, true}
use Rattle.std.specs.Prelude.{codes}
use Rattle.std.specs.List.{starts_with}
use Rattle.std.proofs.lemmas.List.{append_assoc, length-append, length-take-le}
use Rattle.gd_dump_reading.specs.AsciiHeld.{HasRoom}
use Rattle.gd_dump_reading.specs.AsciiItems.{Line, Section, before, data_told, is_some_section, joined, lines_in, parted, size_of, sizes, with_datum}
use Rattle.gd_dump_reading.specs.AsciiLeft.{attach, datum_left, lines_left, parted_if}
use Rattle.gd_dump_reading.specs.Base64.{base64_text}
use Rattle.gd_dump_reading.specs.AsciiRooms.{line_room}
use Rattle.gd_dump_reading.specs.Lines.{NoFeed}
use Rattle.gd_dump_reading.specs.Params.{Named}
use Rattle.gd_dump_reading.specs.TextLeft.{text_left}
use Rattle.gd_dump_reading.specs.Told.{Told, refused}
use Rattle.gd_dump_reading.specs.declared.ascii_machine.AsciiMachine.{AsciiMachine}
use Rattle.gd_dump_reading.specs.declared.ascii_machine.AsciiPhase.{AsciiPhase}
use Rattle.gd_dump_reading.specs.declared.ascii_machine.AsciiPhase.TheVariants as phases
use Rattle.gd_dump_reading.specs.declared.items.DumpKind.{DumpKind}
use Rattle.gd_dump_reading.specs.declared.items.DumpKind.TheVariants.{Length, Truncated}
use Rattle.gd_dump_reading.specs.declared.text.Text.{Text}
use Rattle.gd_dump_reading.proofs.LineParts.{told_at}
use Rattle.gd_dump_reading.proofs.TextLines.{attach-part, behind_first, first_ended, first_text, hash-cut, hash-front, part-cut}
use Rattle.gd_dump_reading.proofs.TextParts.{text-end}

-- no line is kept there
pub none-kept : (p : AsciiPhase) (n : ℕ) → p ≡ phases.Datum → n ≤ line_room p n → n ≡ 0
none-kept phases.Head n is room = absurd (cc)
none-kept phases.Data n is room = absurd (cc)
none-kept phases.Datum n is room = omega (arith, room)
none-kept phases.Counted n is room = absurd (cc)
none-kept phases.Ended n is room = absurd (cc)

pub datum-at : (p : AsciiPhase) (named : Named) (count : ℕ) (key : Option (List ℕ)) (text : Text) (place : ℕ) (inside : Bool) (line : List ℕ) (ls : List Line) → p ≡ phases.Datum → length line ≡ 0
    → let g = parted_if inside ls in told_at p named count key text place (lines_left p inside (attach line ls)) ≡ datum_left count key text place g.0 g.1
datum-at phases.Head named count key text place inside line ls is none = absurd (cc)
datum-at phases.Data named count key text place inside line ls is none = absurd (cc)
datum-at phases.Datum named count key text place inside [] ls is none = refl
datum-at phases.Datum named count key text place inside (c ∷ line) ls is none = absurd (omega (arith, none))
datum-at phases.Counted named count key text place inside line ls is none = absurd (cc)
datum-at phases.Ended named count key text place inside line ls is none = absurd (cc)

pub take-less : (a b : ℕ) (xs : List ℕ) → a ≤ b → take a (take b xs) ≡ take a xs
take-less zero b xs le = refl
take-less (suc a) zero xs le = absurd (omega (arith, le))
take-less (suc a) (suc b) [] le = refl
take-less (suc a) (suc b) (x ∷ xs) le = ap (λ (t : List ℕ). x ∷ t) (take-less a b xs (omega (arith, le)))

-- a text that is too long is refused, whatever comes
over-told : (count : ℕ) (key : Option (List ℕ)) (t : Text) (place at : ℕ) (inside : Bool) (xs : List ℕ) (ls : List Line) → 0 < length xs → (inside ≡ false → starts_with eqb xs (codes "#") ≡ false)
    → ((rest : List ℕ) (follows : Bool) (end : ℕ) → text_left t (xs ++ rest) follows end ≡ Err (Length, at))
    → let g = parted_if inside (attach xs ls) in datum_left count key t place g.0 g.1 ≡ refused Length at
over-told count key t place at inside [] ls some no_hash over = absurd (omega (arith, some))
over-told count key t place at inside (c ∷ line) ls some no_hash over =
    let xs = c ∷ line in
    let body = (parted (behind_first ls)).0 in
    let ss = (parted (behind_first ls)).1 in
    let end = place + (size_of (record { text = xs ++ first_text ls; ended = first_ended ls }) + sizes body) in
    ap (λ (g : List Line × List Section). datum_left count key t place g.0 g.1) (part-cut inside c line ls no_hash)
    ∙ ap (λ r. with_datum count key end r (λ x k. data_told x k end ss))
    (ap (λ (y : List ℕ). text_left t y (is_some_section ss) end) (append_assoc xs (first_text ls) (joined body)) ∙ over (first_text ls ++ joined body) (is_some_section ss) end)

pub text-over : (count : ℕ) (key : Option (List ℕ)) (t : Text) (place at n : ℕ) (inside : Bool) (piece rest : List ℕ) → 0 < n → n ≤ length piece → NoFeed piece n → (inside ≡ false → starts_with eqb piece (codes "#") ≡ false)
    → ((chars more : List ℕ) (follows : Bool) (end : ℕ) → n ≤ length chars → text_left t (chars ++ more) follows end ≡ Err (Length, at))
    → let g = parted_if inside (lines_in (piece ++ rest)) in datum_left count key t place g.0 g.1 ≡ refused Length at
text-over count key t place at n inside piece rest some within none no_hash over =
    let len = length-take-le n piece within in
    ap (λ (ls : List Line). datum_left count key t place (parted_if inside ls).0 (parted_if inside ls).1) (attach-part [] piece rest n within none)
    ∙ over-told count key t place at inside (take n piece) (lines_in (drop n piece ++ rest)) (omega (arith, len, some)) (λ e. hash-front piece n some within ∙ no_hash e)
    (λ more follows end. over (take n piece) more follows end (omega (arith, len)))

-- the input ends
inside-none : (inside : Bool) → parted_if inside [] ≡ ([], [])
inside-none false = refl
inside-none true = refl

pub cut-told : (p : AsciiPhase) (named : Named) (count : ℕ) (key : Option (List ℕ)) (text : Text) (place : ℕ) (inside : Bool) → (p ≡ phases.Ended → ⊥) → told_at p named count key text place (lines_left p inside []) ≡ refused Truncated place
cut-told phases.Head named count key text place inside going = refl
cut-told phases.Data named count key text place inside going = refl
cut-told phases.Datum named count key text place inside going =
    ap (λ (g : List Line × List Section). datum_left count key text place g.0 g.1) (inside-none inside)
    ∙ ap (λ r. with_datum count key (place + 0) r (λ c k. data_told c k (place + 0) [])) (text-end text.bad text.size text.at text.len (place + 0) _ text.short (λ good. text.counted good ∙ sym (length-append (base64_text text.bytes.items) text.quad.items)))
    ∙ ap (refused Truncated) (omega arith)
cut-told phases.Counted named count key text place inside going = refl
cut-told phases.Ended named count key text place inside going = absurd (going refl)

-- less room is there too
pub room-less : (m : AsciiMachine) (n k : ℕ) → HasRoom m n → k ≤ n → HasRoom m k
room-less m n k room less = record {
  line = room.line;
  values = room.values;
  text = let t = room.text in omega (arith, t, less);
  key = λ first. let k = room.key first in omega (arith, k, less);
}

-- the '#' that ended a text begins a line between data
pub hash-left : (p : AsciiPhase) (named : Named) (count : ℕ) (key : Option (List ℕ)) (text : Text) (place : ℕ) (inside : Bool) (line : List ℕ) (ls : List Line) (s : Section) (ss : List Section) (c : ℕ) (k : Option (List ℕ)) (at : ℕ)
    → p ≡ phases.Data → line ≡ codes "#" → parted (before 35 ls) ≡ ([], s ∷ ss) → count ≡ c → key ≡ k → place ≡ at → told_at p named count key text place (lines_left p inside (attach line ls)) ≡ data_told c k at (s ∷ ss)
hash-left phases.Head named count key text place inside line ls s ss c k at is begins shape ec ek ea = absurd (cc)
hash-left phases.Data named count key text place inside line ls s ss c k at is begins shape ec ek ea =
    ap (λ (l : List ℕ). told_at phases.Data named count key text place (parted (attach l ls))) begins
    ∙ ap (told_at phases.Data named count key text place) shape
    ∙ ap₂ (λ x y. data_told x y place (s ∷ ss)) ec ek
    ∙ ap (λ n. data_told c k n (s ∷ ss)) ea
hash-left phases.Datum named count key text place inside line ls s ss c k at is begins shape ec ek ea = absurd (cc)
hash-left phases.Counted named count key text place inside line ls s ss c k at is begins shape ec ek ea = absurd (cc)
hash-left phases.Ended named count key text place inside line ls s ss c k at is begins shape ec ek ea = absurd (cc)

-- the lines where a '#' begins the next one
pub hash-told : (count : ℕ) (key : Option (List ℕ)) (t : Text) (place : ℕ) (inside : Bool) (piece rest : List ℕ) (s : Section) (ss : List Section) → inside ≡ false → 0 < length piece → get_or piece 0 0 ≡ 35
    → parted (before 35 (lines_in (drop 1 piece ++ rest))) ≡ ([], s ∷ ss) → let g = parted_if inside (lines_in (piece ++ rest)) in datum_left count key t place g.0 g.1 ≡ datum_left count key t place [] (s ∷ ss)
hash-told count key t place inside piece rest s ss begins some hash shape =
    ap (λ b. datum_left count key t place (parted_if b (lines_in (piece ++ rest))).0 (parted_if b (lines_in (piece ++ rest))).1) begins
    ∙ ap (λ (ls : List Line). datum_left count key t place (parted ls).0 (parted ls).1) (hash-cut piece rest some hash)
    ∙ ap (λ (g : List Line × List Section). datum_left count key t place g.0 g.1) shape
