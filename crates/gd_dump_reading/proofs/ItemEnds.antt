-- Where the items of an ASCII dump end.
use Rattle.std.proofs.Common.{◌≡◌, ◌∙◌, ap, refl, subst, ℕ, ◌+◌, ◌<◌, ◌≤◌, Bool, true, false, List, [], ◌∷◌, length, Option, Some, None, Result, Ok, Err, arith, cond, eqb}
use Rattle.std.specs.Prelude.{◌^◌, ◌==◌, ◌&&◌, codes, drop, nat_lt, not}
use Rattle.std.specs.List.{starts_with}
use Rattle.gd_dump_reading.specs.AsciiItems.{Line, Section, and_named, before, data_told, datum_in, end_told, joined, is_comment, is_some_section, is_whole, key_size, lines_in, named_told, parted, size_of, sizes, unless_body, with_datum}
use Rattle.gd_dump_reading.specs.Numbers.{is_number, value_of}
use Rattle.gd_dump_reading.specs.Params.{with_line}
use Rattle.std.specs.Str.{bytes_eq}
use Rattle.gd_dump_reading.specs.declared.items.DumpKind.TheVariants.{Count, Parameter, TooLarge, Version}
use Rattle.gd_dump_reading.specs.AsciiLeft.{attach, lines_left, parted_if, told_by}
use Rattle.gd_dump_reading.specs.Told.{EndBehind, Told, given, refused}
use Rattle.gd_dump_reading.specs.declared.items.DumpKind.{DumpKind}
use Rattle.gd_dump_reading.specs.declared.items.Item.{Item}
use Rattle.gd_dump_reading.specs.Params.{Named}
use Rattle.gd_dump_reading.specs.AsciiRooms.{line_room}
use Rattle.gd_dump_reading.specs.declared.ascii_machine.AsciiPhase.{AsciiPhase}
use Rattle.gd_dump_reading.specs.declared.ascii_machine.AsciiPhase.TheVariants as phases
use Rattle.gd_dump_reading.specs.declared.text.Text.{Text}

-- ---- what is told

pub record Behind (n : ℕ) (t : Told) : Type 0 where
  pub ends : EndBehind n t.items

pub no-items : (n : ℕ) (kind : DumpKind) (place : ℕ) → Behind n (refused kind place)
no-items n kind place = record { ends = tt }

pub first-item : (n : ℕ) (item : Item) (end : ℕ) (t : Told) → n < end → Behind n t → Behind n (given item end t)
first-item n item end t less rest = record { ends = (less, rest.ends) }

pub either : (n : ℕ) (b : Bool) (x y : Told) → Behind n x → Behind n y → Behind n (cond b x y)
either n true x y first second = first
either n false x y first second = second

no-body : (n place : ℕ) (body : List Line) (t : Told) → Behind n t → Behind n (unless_body place body t)
no-body n place [] t ends = ends
no-body n place (l ∷ ls) t ends = no-items n _ place

after-datum : (n count : ℕ) (key : Option (List ℕ)) (end : ℕ) (read : Result (List ℕ) (DumpKind × ℕ)) (next : ℕ → Option (List ℕ) → Told) → n ≤ end
    → ((c : ℕ) (k : Option (List ℕ)) → Behind n (next c k)) → Behind n (with_datum count key end read next)
after-datum n count key end (Err refusal) next less ends = no-items n _ _
after-datum n count None end (Ok bytes) next less ends = ends count (Some bytes)
after-datum n count (Some k) end (Ok bytes) next less ends = first-item n _ (end + 1) _ (omega (arith, less)) (ends (count + 1) None)

after-names : (n place : ℕ) (read : Result Named DumpKind) (next : Named → Told) → ((h : Named) → Behind n (next h)) → Behind n (and_named place read next)
after-names n place (Ok named) next ends = ends named
after-names n place (Err kind) next ends = no-items n kind place

-- how long the first line is
first_size : List Section → ℕ
first_size [] = 0
first_size (s ∷ ss) = size_of s.line

-- ---- the sections from a place on, of which the first line ends behind n

ends-in : (n place : ℕ) (ss : List Section) → n < place + first_size ss → Behind n (end_told place ss)
unfolding first_size
ends-in n place [] less = no-items n _ place
ends-in n place (s ∷ ss) less =
    let next = place + size_of s.line in
    either n _ _ _ (first-item n _ next _ less (record { ends = tt })) (either n _ _ _ (no-body n next s.body _ (ends-in n next ss (omega (arith, less)))) (no-items n _ place))

data-in : (n count : ℕ) (key : Option (List ℕ)) (place : ℕ) (ss : List Section) → n < place + first_size ss → Behind n (data_told count key place ss)
unfolding first_size
data-in n count key place [] less = no-items n _ place
data-in n count key place (s ∷ ss) less =
    let next = place + size_of s.line in
    let end = next + sizes s.body in
    let text = s.line.text in
    let size = value_of (drop 6 text) in
    let read = datum_in size place (joined s.body) (is_some_section ss) end in
    either n (starts_with eqb text (codes "#:len=")) _ _
    (either n (not (is_number 10 (drop 6 text))) _ _ (no-items n Parameter place)
    (either n (nat_lt (2 ^ 30) (key_size key + size)) _ _ (no-items n TooLarge place)
    (after-datum n count key end read _ (omega (arith, less)) (λ c k. data-in n c k end ss (omega (arith, less))))))
    (either n (starts_with eqb text (codes "#:count=")) _ _
    (either n (not (is_number 20 (drop 8 text) && is_whole key)) _ _ (no-items n Parameter place)
    (either n (value_of (drop 8 text) == count) _ _ (no-body n next s.body _ (ends-in n next ss (omega (arith, less)))) (no-items n Count place)))
    (either n (not (is_comment text)) _ _ (no-items n Parameter place)
    (either n (bytes_eq text (codes "# End of data")) _ _ (no-items n Count place)
    (no-body n next s.body _ (data-in n count key next ss (omega (arith, less)))))))

named-in : (n : ℕ) (named : Named) (place : ℕ) (ss : List Section) → n < place + first_size ss → Behind n (named_told named place ss)
unfolding first_size
named-in n named place [] less = no-items n _ place
named-in n named place (s ∷ ss) less =
    let next = place + size_of s.line in
    let text = s.line.text in
    either n (not (is_comment text)) _ _
    (after-names n place (with_line named s.line.ended text) _ (λ h. no-body n next s.body _ (named-in n h next ss (omega (arith, less)))))
    (either n (bytes_eq text (codes "# End of header")) _ _
    (either n named.version _ _ (first-item n _ next _ less (no-body n next s.body _ (data-in n 0 None next ss (omega (arith, less))))) (no-items n Version place))
    (no-body n next s.body _ (named-in n named next ss (omega (arith, less)))))

-- ---- what a reader still gives

left-in : (n : ℕ) (p : AsciiPhase) (named : Named) (count : ℕ) (key : Option (List ℕ)) (text : Text) (place : ℕ) (body : List Line) (ss : List Section)
    → n < place + (sizes body + first_size ss) → (p ≡ phases.Datum → n ≤ place + sizes body) → Behind n (told_by p named count key text place body ss)
left-in n phases.Head named count key text place [] ss less datum = named-in n named place ss (omega (arith, less))
left-in n phases.Head named count key text place (l ∷ body) ss less datum = record { ends = tt }
left-in n phases.Data named count key text place [] ss less datum = data-in n count key place ss (omega (arith, less))
left-in n phases.Data named count key text place (l ∷ body) ss less datum = record { ends = tt }
left-in n phases.Datum named count key text place body ss less datum =
    after-datum n count key (place + sizes body) _ _ (datum refl) (λ c k. data-in n c k (place + sizes body) ss (omega (arith, less)))
left-in n phases.Counted named count key text place [] ss less datum = ends-in n place ss (omega (arith, less))
left-in n phases.Counted named count key text place (l ∷ body) ss less datum = record { ends = tt }
left-in n phases.Ended named count key text place body ss less datum = record { ends = tt }

-- ---- the first line, of which a front has come

head_size : List Line → ℕ
head_size [] = 0
head_size (l ∷ ls) = size_of l

begun : (c : ℕ) (line : List ℕ) (ls : List Line) → (l : Line) × (more : List Line) × (t : List ℕ) × (attach (c ∷ line) ls ≡ l ∷ more) × (l.text ≡ c ∷ t) × (size_of l ≡ 1 + length line + head_size ls)
unfolding head_size
begun c [] [] = (record { text = c ∷ []; ended = false }, [], [], refl, refl, omega arith)
begun c [] (l ∷ ls) = (record { text = c ∷ l.text; ended = l.ended }, ls, l.text, refl, refl, omega arith)
begun c (d ∷ line) ls =
    let (l, more, t, is, text, size) = begun d line ls in
    (record { text = c ∷ l.text; ended = l.ended }, more, l.text, ap (before c) is, refl, omega (arith, size))

step-size : (b : Bool) (l : Line) (body : List Line) (ss : List Section)
    → let next = cond {A = List Line × List Section} b ([], (record { line = l; body = body }) ∷ ss) (l ∷ body, ss) in size_of l ≤ sizes next.0 + first_size next.1
unfolding first_size
step-size true l body ss = omega arith
step-size false l body ss = omega arith

parted-size : (ls : List Line) → head_size ls ≤ sizes (parted ls).0 + first_size (parted ls).1
unfolding head_size first_size
parted-size [] = omega arith
parted-size (l ∷ ls) = step-size (starts_with eqb l.text (codes "#")) l (parted ls).0 (parted ls).1

line-size : (line : List ℕ) (ls : List Line) → length line + head_size ls ≤ sizes (parted (attach line ls)).0 + first_size (parted (attach line ls)).1
unfolding head_size
line-size [] ls = omega (arith, parted-size ls)
line-size (c ∷ line) ls =
    let (l, more, t, is, text, size) = begun c line ls in
    omega (arith, size, ap head_size is, parted-size (attach (c ∷ line) ls))

either-size : (b : Bool) (x y : List Line) → 0 < head_size x → 0 < head_size y → 0 < head_size (cond b x y)
either-size true x y first second = first
either-size false x y first second = second

before-size : (b : ℕ) (ls : List Line) → 0 < head_size (before b ls)
unfolding head_size
before-size b [] = omega arith
before-size b (l ∷ ls) = omega arith

some-size : (rest : List ℕ) → 0 < length rest → 0 < head_size (lines_in rest)
unfolding head_size
some-size [] some = absurd (omega (arith, some))
some-size (b ∷ rest) some = either-size (b == 10) ((record { text = []; ended = true }) ∷ lines_in rest) (before b (lines_in rest)) (omega arith) (before-size b (lines_in rest))

-- the lines of a datum's text
inside-size : (inside : Bool) (ls : List Line) → head_size ls ≤ sizes (parted_if inside ls).0 + first_size (parted_if inside ls).1
unfolding head_size
inside-size false ls = parted-size ls
inside-size true [] = omega arith
inside-size true (l ∷ ls) = omega arith

none-inside : (n : ℕ) (named : Named) (count : ℕ) (key : Option (List ℕ)) (text : Text) (place : ℕ) (inside : Bool) (line rest : List ℕ) → length line ≡ 0 → n ≡ place + length line → 0 < length rest
    → let g = parted_if inside (attach line (lines_in rest)) in EndBehind n (told_by phases.Datum named count key text place g.0 g.1).items
none-inside n named count key text place inside [] rest none is some =
    let g = parted_if inside (lines_in rest) in
    (left-in n phases.Datum named count key text place g.0 g.1 (omega (arith, is, inside-size inside (lines_in rest), some-size rest some)) (λ e. omega (arith, is))).ends
none-inside n named count key text place inside (c ∷ line) rest none is some = absurd (omega (arith, none))

none-plain : (n : ℕ) (p : AsciiPhase) (named : Named) (count : ℕ) (key : Option (List ℕ)) (text : Text) (place : ℕ) (line rest : List ℕ) → (p ≡ phases.Datum → ⊥) → n ≡ place + length line → 0 < length rest
    → let g = parted (attach line (lines_in rest)) in EndBehind n (told_by p named count key text place g.0 g.1).items
none-plain n p named count key text place line rest other is some =
    let ls = lines_in rest in
    let g = parted (attach line ls) in
    (left-in n p named count key text place g.0 g.1 (omega (arith, is, line-size line ls, some-size rest some)) (λ e. absurd (other e))).ends

-- no item ends in the bytes that have come
pub none-ends : (p : AsciiPhase) (named : Named) (count : ℕ) (key : Option (List ℕ)) (text : Text) (place : ℕ) (inside : Bool) (line rest : List ℕ) (n : ℕ) → length line ≤ line_room p (length line) → n ≡ place + length line → 0 < length rest
    → let g = lines_left p inside (attach line (lines_in rest)) in EndBehind n (told_by p named count key text place g.0 g.1).items
none-ends phases.Head named count key text place inside line rest n room is some = none-plain n phases.Head named count key text place line rest (λ e. absurd (cc)) is some
none-ends phases.Data named count key text place inside line rest n room is some = none-plain n phases.Data named count key text place line rest (λ e. absurd (cc)) is some
none-ends phases.Datum named count key text place inside line rest n room is some = none-inside n named count key text place inside line rest (omega (arith, room)) is some
none-ends phases.Counted named count key text place inside line rest n room is some = none-plain n phases.Counted named count key text place line rest (λ e. absurd (cc)) is some
none-ends phases.Ended named count key text place inside line rest n room is some = tt
