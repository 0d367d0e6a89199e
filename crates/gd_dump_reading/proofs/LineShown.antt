-- What the front of a line shows of all that may come.
use Rattle.std.proofs.Common.{◌≡◌, ◌∙◌, ap, ap₂, sym, refl, ℕ, ◌+◌, ◌<◌, ◌≤◌, Bool, true, false, ◌&&◌, ◌||◌, List, [], ◌∷◌, ◌++◌, length, drop, Option, Err, arith, cond, eqb}
use Rattle.std.specs.Prelude.{◌==◌, codes, nat_le, not}
use Rattle.std.specs.Char.{is_ascii_digit}
use Rattle.std.specs.List.{list_all, starts_with}
use Rattle.std.specs.Str.{bytes_eq}
use Rattle.std.proofs.lemmas.Bool.{cond-true, cond-false}
use Rattle.std.proofs.lemmas.List.{append_assoc, length-append}
use Rattle.gd_dump_reading.specs.AsciiItems.{Line, Section, and_named, data_told, end_told, is_whole, named_told, parted, size_of, unless_body}
use Rattle.gd_dump_reading.specs.AsciiLeft.{attach, key_of, told_by}
use Rattle.gd_dump_reading.specs.Lines.{is_overlong}
use Rattle.gd_dump_reading.specs.Live.{data_live, ends_in, is_head, line_shown, parameter_shown}
use Rattle.gd_dump_reading.specs.Numbers.{is_number}
use Rattle.gd_dump_reading.specs.Params.{Named, if_params, params_in}
use Rattle.gd_dump_reading.specs.Told.{Told, refused}
use Rattle.gd_dump_reading.specs.declared.ascii_machine.AsciiPhase.{AsciiPhase}
use Rattle.gd_dump_reading.specs.declared.ascii_machine.AsciiPhase.TheVariants as phases
use Rattle.gd_dump_reading.specs.declared.items.DumpKind.{DumpKind}
use Rattle.gd_dump_reading.specs.declared.items.DumpKind.TheVariants.{Parameter, Version}
use Rattle.gd_dump_reading.specs.declared.live.Shown.TheVariants.{Bad, Comment, Open}
use Rattle.gd_dump_reading.specs.declared.text.Text.{Text}
use Rattle.gd_dump_reading.proofs.DataLines.{count-odd, when-not}
use Rattle.gd_dump_reading.proofs.Fronts.{count-off, len-off, live-front, live-short, not-equal, starts-cut, starts-from, starts-more}
use Rattle.gd_dump_reading.proofs.LineCuts.{overlong-more, overlong-short}
use Rattle.gd_dump_reading.proofs.TextLines.{attach-first, behind_first, first_ended, first_text}

-- a phase in which lines are followed
abbrev pub IsOfLines : AsciiPhase → Type 0
IsOfLines phases.Head = Unit {0}
IsOfLines phases.Data = Unit {0}
IsOfLines phases.Datum = ⊥
IsOfLines phases.Counted = Unit {0}
IsOfLines phases.Ended = ⊥

pub of-lines : (p : AsciiPhase) → (p ≡ phases.Datum → ⊥) → (p ≡ phases.Ended → ⊥) → IsOfLines p
of-lines phases.Head datum ended = tt
of-lines phases.Data datum ended = tt
of-lines phases.Datum datum ended = absurd (datum refl)
of-lines phases.Counted datum ended = tt
of-lines phases.Ended datum ended = absurd (ended refl)

-- ---- a line that begins with '#', and those behind it

cut-hash : (c : ℕ) (line : List ℕ) (ls : List Line) → starts_with eqb (c ∷ line) (codes "#") ≡ true
    → parted (attach (c ∷ line) ls) ≡ ([], (record { line = record { text = (c ∷ line) ++ first_text ls; ended = first_ended ls }; body = (parted (behind_first ls)).0 }) ∷ (parted (behind_first ls)).1)
cut-hash c line ls hash = ap parted (attach-first c line ls) ∙ cond-true (starts_with eqb (c ∷ line) (codes "#")) _ _ hash

cut-plain : (c : ℕ) (line : List ℕ) (ls : List Line) → starts_with eqb (c ∷ line) (codes "#") ≡ false
    → parted (attach (c ∷ line) ls) ≡ ((record { text = (c ∷ line) ++ first_text ls; ended = first_ended ls }) ∷ (parted (behind_first ls)).0, (parted (behind_first ls)).1)
cut-plain c line ls plain = ap parted (attach-first c line ls) ∙ cond-false (starts_with eqb (c ∷ line) (codes "#")) _ _ plain

plain-told : (p : AsciiPhase) (named : Named) (count : ℕ) (key : Option (List ℕ)) (text : Text) (place : ℕ) (l : Line) (body : List Line) (ss : List Section) → IsOfLines p
    → told_by p named count key text place (l ∷ body) ss ≡ refused (cond (is_head p && place == 0) Version Parameter) place
plain-told phases.Head named count key text place l body ss of = refl
plain-told phases.Data named count key text place l body ss of = refl
plain-told phases.Datum named count key text place l body ss of = absurd of
plain-told phases.Counted named count key text place l body ss of = refl
plain-told phases.Ended named count key text place l body ss of = absurd of

-- ---- lines that begin with "#:"

not-twice : {X : Type 0} (b : Bool) (x y : X) → b ≡ true → cond (not (not b)) x y ≡ x
not-twice true x y e = refl
not-twice false x y e = absurd (cc)

not-either : {X : Type 0} (b : Bool) (x y : X) → b ≡ false → cond (not (not b)) x y ≡ y
not-either true x y e = absurd (cc)
not-either false x y e = refl

head-long : (named : Named) (place : ℕ) (s : Section) (ss : List Section) → starts_with eqb s.line.text (codes "#:") ≡ true → is_overlong s.line.ended s.line.text ≡ true → named_told named place (s ∷ ss) ≡ refused Parameter place
head-long named place s ss param long =
    let next = λ (h : Named). unless_body (place + size_of s.line) s.body (named_told h (place + size_of s.line) ss) in
    not-twice (starts_with eqb s.line.text (codes "#:")) _ _ param
    ∙ ap (λ r. and_named place r next) (cond-true (is_overlong s.line.ended s.line.text) (Err Parameter) (if_params named (params_in (drop 2 s.line.text))) long)

tests-off : (a b c : Bool) → (b && c) ≡ false → (a && b && c) ≡ false
tests-off true b c e = e
tests-off false b c e = refl

len-dead : (count : ℕ) (key : Option (List ℕ)) (place : ℕ) (s : Section) (ss : List Section) → starts_with eqb s.line.text (codes "#:len=") ≡ true → is_number 10 (drop 6 s.line.text) ≡ false → data_told count key place (s ∷ ss) ≡ refused Parameter place
len-dead count key place s ss len number =
    cond-true (starts_with eqb s.line.text (codes "#:len=")) _ _ len ∙ when-not (is_number 10 (drop 6 s.line.text)) (refused Parameter place) _ number

other-dead : (count : ℕ) (key : Option (List ℕ)) (place : ℕ) (s : Section) (ss : List Section) → starts_with eqb s.line.text (codes "#:len=") ≡ false → starts_with eqb s.line.text (codes "#:count=") ≡ false → starts_with eqb s.line.text (codes "#:") ≡ true
    → data_told count key place (s ∷ ss) ≡ refused Parameter place
other-dead count key place s ss len number param =
    cond-false (starts_with eqb s.line.text (codes "#:len=")) _ _ len
    ∙ cond-false (starts_with eqb s.line.text (codes "#:count=")) _ _ number
    ∙ not-twice (starts_with eqb s.line.text (codes "#:")) (refused Parameter place) _ param

count-dead : (waits : Bool) (key x : List ℕ) → starts_with eqb x (codes "#:count=") ≡ true → data_live waits x ≡ false → (is_number 20 (drop 8 x) && is_whole (key_of waits key)) ≡ false
count-dead true key x begins dead = and-none (is_number 20 (drop 8 x))
  where
    and-none : (b : Bool) → (b && false) ≡ false
    and-none true = refl
    and-none false = refl
count-dead false key x begins dead =
    ap (λ b. b && true) (tests-off (nat_le 1 (length (drop 8 x))) (nat_le (length (drop 8 x)) 20) (list_all is_ascii_digit (drop 8 x)) (count-off x begins dead))

data-dead : (waits : Bool) (count : ℕ) (key : List ℕ) (place : ℕ) (s : Section) (ss : List Section) (a b : Bool) → starts_with eqb s.line.text (codes "#:len=") ≡ a → starts_with eqb s.line.text (codes "#:count=") ≡ b
    → starts_with eqb s.line.text (codes "#:") ≡ true → data_live waits s.line.text ≡ false → data_told count (key_of waits key) place (s ∷ ss) ≡ refused Parameter place
data-dead waits count key place s ss true b len number param dead =
    let x = s.line.text in
    len-dead count (key_of waits key) place s ss len (tests-off (nat_le 1 (length (drop 6 x))) (nat_le (length (drop 6 x)) 10) (list_all is_ascii_digit (drop 6 x)) (len-off waits x len dead))
data-dead waits count key place s ss false true len number param dead = count-odd count (key_of waits key) place s ss len number (count-dead waits key s.line.text number dead)
data-dead waits count key place s ss false false len number param dead = other-dead count (key_of waits key) place s ss len number param

end-dead : (place : ℕ) (s : Section) (ss : List Section) → starts_with eqb s.line.text (codes "#:") ≡ true → end_told place (s ∷ ss) ≡ refused Parameter place
end-dead place s ss param =
    let differs = not-equal s.line.text (codes "# End of data") _ (λ (x : List ℕ). starts_with eqb x (codes "#:")) refl param refl in
    cond-false (bytes_eq s.line.text (codes "# End of data")) _ _ differs
    ∙ cond-false (not (starts_with eqb s.line.text (codes "#:"))) _ _ (ap not param)

-- ---- what is refused, whatever comes

bad-head : (named : Named) (count : ℕ) (key : Option (List ℕ)) (text : Text) (place : ℕ) (line : List ℕ) (ls : List Line) (kind : DumpKind) (long : Bool) → is_overlong true line ≡ long → cond long (Bad Parameter) Open ≡ Bad kind
    → starts_with eqb line (codes "#") ≡ true → starts_with eqb line (codes "#:") ≡ true
    → let g = parted (attach line ls) in told_by phases.Head named count key text place g.0 g.1 ≡ refused kind place
bad-head named count key text place [] ls kind long is bad hash param = absurd (cc)
bad-head named count key text place (c ∷ line) ls kind false is bad hash param = absurd (cc)
bad-head named count key text place (c ∷ line) ls kind true is bad hash param =
    let kind_is : Parameter ≡ kind = cc in
    ap (λ (g : List Line × List Section). told_by phases.Head named count key text place g.0 g.1) (cut-hash c line ls hash)
    ∙ head-long named place (record { line = record { text = (c ∷ line) ++ first_text ls; ended = first_ended ls }; body = (parted (behind_first ls)).0 }) (parted (behind_first ls)).1
    (starts-more (c ∷ line) (first_text ls) (codes "#:") param) (overlong-more (first_ended ls) (c ∷ line) (first_text ls) is)
    ∙ ap (λ k. refused k place) kind_is

bad-data : (waits : Bool) (named : Named) (count : ℕ) (key : List ℕ) (text : Text) (place : ℕ) (line : List ℕ) (ls : List Line) (kind : DumpKind) (live : Bool) → data_live waits line ≡ live → cond live Open (Bad Parameter) ≡ Bad kind
    → starts_with eqb line (codes "#") ≡ true → starts_with eqb line (codes "#:") ≡ true
    → let g = parted (attach line ls) in told_by phases.Data named count (key_of waits key) text place g.0 g.1 ≡ refused kind place
bad-data waits named count key text place [] ls kind live is bad hash param = absurd (cc)
bad-data waits named count key text place (c ∷ line) ls kind true is bad hash param = absurd (cc)
bad-data waits named count key text place (c ∷ line) ls kind false is bad hash param =
    let kind_is : Parameter ≡ kind = cc in
    ap (λ (g : List Line × List Section). told_by phases.Data named count (key_of waits key) text place g.0 g.1) (cut-hash c line ls hash)
    ∙ data-dead waits count key place (record { line = record { text = (c ∷ line) ++ first_text ls; ended = first_ended ls }; body = (parted (behind_first ls)).0 }) (parted (behind_first ls)).1 _ _ refl refl
    (starts-more (c ∷ line) (first_text ls) (codes "#:") param) (live-front waits (c ∷ line) (first_text ls) is)
    ∙ ap (λ k. refused k place) kind_is

bad-end : (named : Named) (count : ℕ) (key : Option (List ℕ)) (text : Text) (place : ℕ) (line : List ℕ) (ls : List Line) (kind : DumpKind) → Bad Parameter ≡ Bad kind → starts_with eqb line (codes "#") ≡ true → starts_with eqb line (codes "#:") ≡ true
    → let g = parted (attach line ls) in told_by phases.Counted named count key text place g.0 g.1 ≡ refused kind place
bad-end named count key text place [] ls kind bad hash param = absurd (cc)
bad-end named count key text place (c ∷ line) ls kind bad hash param =
    let kind_is : Parameter ≡ kind = cc in
    ap (λ (g : List Line × List Section). told_by phases.Counted named count key text place g.0 g.1) (cut-hash c line ls hash)
    ∙ end-dead place (record { line = record { text = (c ∷ line) ++ first_text ls; ended = first_ended ls }; body = (parted (behind_first ls)).0 }) (parted (behind_first ls)).1
    (starts-more (c ∷ line) (first_text ls) (codes "#:") param)
    ∙ ap (λ k. refused k place) kind_is

bad-param : (p : AsciiPhase) (waits : Bool) (named : Named) (count : ℕ) (key : List ℕ) (text : Text) (place : ℕ) (line : List ℕ) (ls : List Line) (kind : DumpKind) → IsOfLines p → parameter_shown p waits line ≡ Bad kind
    → starts_with eqb line (codes "#") ≡ true → starts_with eqb line (codes "#:") ≡ true
    → let g = parted (attach line ls) in told_by p named count (key_of waits key) text place g.0 g.1 ≡ refused kind place
bad-param phases.Head waits named count key text place line ls kind of bad hash param = bad-head named count (key_of waits key) text place line ls kind _ refl bad hash param
bad-param phases.Data waits named count key text place line ls kind of bad hash param = bad-data waits named count key text place line ls kind _ refl bad hash param
bad-param phases.Datum waits named count key text place line ls kind of bad hash param = absurd of
bad-param phases.Counted waits named count key text place line ls kind of bad hash param = bad-end named count (key_of waits key) text place line ls kind bad hash param
bad-param phases.Ended waits named count key text place line ls kind of bad hash param = absurd of

bad-tests : (p : AsciiPhase) (waits : Bool) (named : Named) (count : ℕ) (key : List ℕ) (text : Text) (place : ℕ) (line : List ℕ) (ls : List Line) (kind : DumpKind) (a b e : Bool) → IsOfLines p → 0 < length line
    → starts_with eqb line (codes "#") ≡ a → starts_with eqb line (codes "#:") ≡ b
    → cond (not a) (Bad (cond (is_head p && place == 0) Version Parameter)) (cond b (parameter_shown p waits line) (cond e Open Comment)) ≡ Bad kind
    → let g = parted (attach line ls) in told_by p named count (key_of waits key) text place g.0 g.1 ≡ refused kind place
bad-tests p waits named count key text place [] ls kind a b e of some hash param bad = absurd (omega (arith, some))
bad-tests p waits named count key text place (c ∷ line) ls kind false b e of some hash param bad =
    let kind_is : cond (is_head p && place == 0) Version Parameter ≡ kind = cc in
    ap (λ (g : List Line × List Section). told_by p named count (key_of waits key) text place g.0 g.1) (cut-plain c line ls hash)
    ∙ plain-told p named count (key_of waits key) text place _ _ _ of
    ∙ ap (λ k. refused k place) kind_is
bad-tests p waits named count key text place (c ∷ line) ls kind true true e of some hash param bad = bad-param p waits named count key text place (c ∷ line) ls kind of bad hash param
bad-tests p waits named count key text place (c ∷ line) ls kind true false true of some hash param bad = absurd (cc)
bad-tests p waits named count key text place (c ∷ line) ls kind true false false of some hash param bad = absurd (cc)

pub shown-bad : (p : AsciiPhase) (waits : Bool) (named : Named) (count : ℕ) (key : List ℕ) (text : Text) (place : ℕ) (line : List ℕ) (ls : List Line) (kind : DumpKind) → IsOfLines p → 0 < length line → line_shown p waits place line ≡ Bad kind
    → let g = parted (attach line ls) in told_by p named count (key_of waits key) text place g.0 g.1 ≡ refused kind place
shown-bad p waits named count key text place line ls kind of some bad = bad-tests p waits named count key text place line ls kind _ _ _ of some refl refl bad

-- ---- what is open is short

open-param : (p : AsciiPhase) (waits : Bool) (line : List ℕ) (long live : Bool) → is_overlong true line ≡ long → data_live waits line ≡ live → parameter_shown p waits line ≡ Open → length line ≤ 65537
open-param phases.Head waits line true live is lives shows = let one = sym (ap (λ b. cond b (Bad Parameter) Open) is) ∙ shows in absurd (cc)
open-param phases.Head waits line false live is lives shows = overlong-short line is
open-param phases.Data waits line long true is lives shows = let le = live-short waits line lives in omega (arith, le)
open-param phases.Data waits line long false is lives shows = let one = sym (ap (λ b. cond b Open (Bad Parameter)) lives) ∙ shows in absurd (cc)
open-param phases.Datum waits line long live is lives shows = absurd (cc)
open-param phases.Counted waits line long live is lives shows = absurd (cc)
open-param phases.Ended waits line long live is lives shows = absurd (cc)

front-short : (e line : List ℕ) → starts_with eqb e line ≡ true → length line ≤ length e
front-short e line is = let whole = starts-cut e line is in omega (arith, ap length whole, length-append line (drop (length line) e))

ends-short : (p : AsciiPhase) (line : List ℕ) → ends_in p line ≡ true → length line ≤ 65537
ends-short phases.Head line is = let le = front-short (codes "# End of header") line is in omega (arith, le)
ends-short phases.Data line is = let le = front-short (codes "# End of data") line is in omega (arith, le)
ends-short phases.Datum line is = let le = front-short (codes "# End of data") line is in omega (arith, le)
ends-short phases.Counted line is = let le = front-short (codes "# End of data") line is in omega (arith, le)
ends-short phases.Ended line is = let le = front-short (codes "# End of data") line is in omega (arith, le)

open-tests : (p : AsciiPhase) (waits : Bool) (place : ℕ) (line : List ℕ) (a b e : Bool) → ends_in p line ≡ e
    → cond (not a) (Bad (cond (is_head p && place == 0) Version Parameter)) (cond b (parameter_shown p waits line) (cond e Open Comment)) ≡ Open → length line ≤ 65537
open-tests p waits place line false b e ends shows = absurd (cc)
open-tests p waits place line true true e ends shows = open-param p waits line _ _ refl refl shows
open-tests p waits place line true false true ends shows = ends-short p line ends
open-tests p waits place line true false false ends shows = absurd (cc)

pub shown-open : (p : AsciiPhase) (waits : Bool) (place : ℕ) (line : List ℕ) → line_shown p waits place line ≡ Open → length line ≤ 65537
shown-open p waits place line shows = open-tests p waits place line _ _ _ refl shows

-- ---- comments

abbrev pub last_words : AsciiPhase → List ℕ
last_words phases.Head = codes "# End of header"
last_words p = codes "# End of data"

-- it begins with '#', not with "#:", and is no front of the last line
pub record IsComment (p : AsciiPhase) (line : List ℕ) : Type 0 where
  pub two : 2 ≤ length line
  pub hash : starts_with eqb line (codes "#") ≡ true
  pub plain : starts_with eqb line (codes "#:") ≡ false
  pub other : ends_in p line ≡ false

no-either : (b : Bool) → cond b (Bad Parameter) Open ≡ Comment → ⊥
no-either true e = absurd (cc)
no-either false e = absurd (cc)

no-other : (b : Bool) → cond b Open (Bad Parameter) ≡ Comment → ⊥
no-other true e = absurd (cc)
no-other false e = absurd (cc)

no-comment : (p : AsciiPhase) (waits : Bool) (line : List ℕ) → parameter_shown p waits line ≡ Comment → ⊥
no-comment phases.Head waits line e = no-either (is_overlong true line) e
no-comment phases.Data waits line e = no-other (data_live waits line) e
no-comment phases.Datum waits line e = absurd (cc)
no-comment phases.Counted waits line e = absurd (cc)
no-comment phases.Ended waits line e = absurd (cc)

one-ends : (p : AsciiPhase) → ends_in p (codes "#") ≡ true
one-ends phases.Head = refl
one-ends phases.Data = refl
one-ends phases.Datum = refl
one-ends phases.Counted = refl
one-ends phases.Ended = refl

at-least : (p : AsciiPhase) (line : List ℕ) → 0 < length line → starts_with eqb line (codes "#") ≡ true → ends_in p line ≡ false → 2 ≤ length line
at-least p [] some hash ends = absurd (omega (arith, some))
at-least p (c ∷ []) some hash ends = let one = ap (ends_in p) (starts-cut (c ∷ []) (codes "#") hash) ∙ one-ends p in absurd (cc)
at-least p (c ∷ d ∷ line) some hash ends = omega arith

comment-tests : (p : AsciiPhase) (waits : Bool) (place : ℕ) (line : List ℕ) (a b e : Bool) → 0 < length line → starts_with eqb line (codes "#") ≡ a → starts_with eqb line (codes "#:") ≡ b → ends_in p line ≡ e
    → cond (not a) (Bad (cond (is_head p && place == 0) Version Parameter)) (cond b (parameter_shown p waits line) (cond e Open Comment)) ≡ Comment → IsComment p line
comment-tests p waits place line false b e some hash param ends shows = absurd (cc)
comment-tests p waits place line true true e some hash param ends shows = absurd (no-comment p waits line shows)
comment-tests p waits place line true false true some hash param ends shows = absurd (cc)
comment-tests p waits place line true false false some hash param ends shows = record {
  two = at-least p line some hash ends;
  hash = hash;
  plain = param;
  other = ends;
}

pub shown-comment : (p : AsciiPhase) (waits : Bool) (place : ℕ) (line : List ℕ) → 0 < length line → line_shown p waits place line ≡ Comment → IsComment p line
shown-comment p waits place line some shows = comment-tests p waits place line _ _ _ some refl refl refl shows

other-two : (p : AsciiPhase) → ends_in p (codes "##") ≡ false
other-two phases.Head = refl
other-two phases.Data = refl
other-two phases.Datum = refl
other-two phases.Counted = refl
other-two phases.Ended = refl

pub two-comment : (p : AsciiPhase) → IsComment p (codes "##")
two-comment p = record { two = omega arith; hash = refl; plain = refl; other = other-two p }

front-differs : (e line t : List ℕ) → starts_with eqb e line ≡ false → bytes_eq (line ++ t) e ≡ false
front-differs e line t off = not-equal (line ++ t) e _ (λ (x : List ℕ). starts_with eqb x line) refl (starts-from (line ++ t) line t refl) off

still-plain : (line t : List ℕ) → 2 ≤ length line → starts_with eqb line (codes "#:") ≡ false → starts_with eqb (line ++ t) (codes "#:") ≡ false
still-plain [] t two plain = absurd (omega (arith, two))
still-plain (c ∷ []) t two plain = absurd (omega (arith, two))
still-plain (c ∷ d ∷ line) t two plain = plain

-- what is told behind a comment, whose front ends at a place
behind : AsciiPhase → Named → ℕ → Option (List ℕ) → ℕ → List Line → List Section → Told
behind phases.Head named count key next body ss = unless_body next body (named_told named next ss)
behind phases.Data named count key next body ss = unless_body next body (data_told count key next ss)
behind p named count key next body ss = unless_body next body (end_told next ss)

skip-head : (named : Named) (place : ℕ) (s : Section) (ss : List Section) → starts_with eqb s.line.text (codes "#:") ≡ false → bytes_eq s.line.text (codes "# End of header") ≡ false
    → named_told named place (s ∷ ss) ≡ unless_body (place + size_of s.line) s.body (named_told named (place + size_of s.line) ss)
skip-head named place s ss plain other =
    not-either (starts_with eqb s.line.text (codes "#:")) _ _ plain ∙ cond-false (bytes_eq s.line.text (codes "# End of header")) _ _ other

starts-longer : (x p q : List ℕ) → starts_with eqb x (p ++ q) ≡ true → starts_with eqb x p ≡ true
starts-longer x p q is = starts-from x p (q ++ drop (length (p ++ q)) x) (starts-cut x (p ++ q) is ∙ append_assoc p q (drop (length (p ++ q)) x))

pub not-longer : (x p q : List ℕ) (b : Bool) → starts_with eqb x (p ++ q) ≡ b → starts_with eqb x p ≡ false → b ≡ false
not-longer x p q false is off = refl
not-longer x p q true is off = let holds = starts-longer x p q is in absurd (cc)

skip-data : (count : ℕ) (key : Option (List ℕ)) (place : ℕ) (s : Section) (ss : List Section) → starts_with eqb s.line.text (codes "#:") ≡ false → bytes_eq s.line.text (codes "# End of data") ≡ false
    → data_told count key place (s ∷ ss) ≡ unless_body (place + size_of s.line) s.body (data_told count key (place + size_of s.line) ss)
skip-data count key place s ss plain other =
    cond-false (starts_with eqb s.line.text (codes "#:len=")) _ _ (not-longer s.line.text (codes "#:") (codes "len=") _ refl plain)
    ∙ cond-false (starts_with eqb s.line.text (codes "#:count=")) _ _ (not-longer s.line.text (codes "#:") (codes "count=") _ refl plain)
    ∙ not-either (starts_with eqb s.line.text (codes "#:")) (refused Parameter place) _ plain
    ∙ cond-false (bytes_eq s.line.text (codes "# End of data")) _ _ other

skip-end : (place : ℕ) (s : Section) (ss : List Section) → starts_with eqb s.line.text (codes "#:") ≡ false → bytes_eq s.line.text (codes "# End of data") ≡ false
    → end_told place (s ∷ ss) ≡ unless_body (place + size_of s.line) s.body (end_told (place + size_of s.line) ss)
skip-end place s ss plain other =
    cond-false (bytes_eq s.line.text (codes "# End of data")) _ _ other
    ∙ cond-true (not (starts_with eqb s.line.text (codes "#:"))) _ _ (ap not plain)

skipped : (p : AsciiPhase) (named : Named) (count : ℕ) (key : Option (List ℕ)) (text : Text) (place : ℕ) (line t : List ℕ) (ended : Bool) (body : List Line) (ss : List Section) → IsOfLines p → IsComment p line
    → told_by p named count key text place [] ((record { line = record { text = line ++ t; ended = ended }; body = body }) ∷ ss) ≡ behind p named count key (place + size_of (record { text = line ++ t; ended = ended })) body ss
unfolding behind
skipped phases.Head named count key text place line t ended body ss of is =
    skip-head named place (record { line = record { text = line ++ t; ended = ended }; body = body }) ss (still-plain line t is.two is.plain) (front-differs (codes "# End of header") line t is.other)
skipped phases.Data named count key text place line t ended body ss of is =
    skip-data count key place (record { line = record { text = line ++ t; ended = ended }; body = body }) ss (still-plain line t is.two is.plain) (front-differs (codes "# End of data") line t is.other)
skipped phases.Datum named count key text place line t ended body ss of is = absurd of
skipped phases.Counted named count key text place line t ended body ss of is =
    skip-end place (record { line = record { text = line ++ t; ended = ended }; body = body }) ss (still-plain line t is.two is.plain) (front-differs (codes "# End of data") line t is.other)
skipped phases.Ended named count key text place line t ended body ss of is = absurd of

comment-behind : (p : AsciiPhase) (named : Named) (count : ℕ) (key : Option (List ℕ)) (text : Text) (place end : ℕ) (line : List ℕ) (ls : List Line) → IsOfLines p → IsComment p line → end ≡ place + length line
    → let g = parted (attach line ls) in told_by p named count key text place g.0 g.1
    ≡ behind p named count key (end + size_of (record { text = first_text ls; ended = first_ended ls })) (parted (behind_first ls)).0 (parted (behind_first ls)).1
comment-behind p named count key text place end [] ls of is ends = let two = is.two in absurd (omega (arith, two))
comment-behind p named count key text place end (c ∷ line) ls of is ends =
    let body = (parted (behind_first ls)).0 in
    let ss = (parted (behind_first ls)).1 in
    ap (λ (g : List Line × List Section). told_by p named count key text place g.0 g.1) (cut-hash c line ls is.hash)
    ∙ skipped p named count key text place (c ∷ line) (first_text ls) (first_ended ls) body ss of is
    ∙ ap (λ n. behind p named count key n body ss) (omega (arith, ends, length-append (c ∷ line) (first_text ls)))

-- any comment whose front ends at the same place does as well
pub comment-same : (p : AsciiPhase) (named : Named) (count : ℕ) (key : Option (List ℕ)) (text : Text) (place other : ℕ) (line short : List ℕ) (ls : List Line) → IsOfLines p → IsComment p line → IsComment p short
    → place + length line ≡ other + length short
    → let g = parted (attach line ls) in let h = parted (attach short ls) in told_by p named count key text place g.0 g.1 ≡ told_by p named count key text other h.0 h.1
comment-same p named count key text place other line short ls of is also ends =
    comment-behind p named count key text place (place + length line) line ls of is refl
    ∙ sym (comment-behind p named count key text other (place + length line) short ls of also ends)
