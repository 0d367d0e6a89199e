-- The lines of an input, piece by piece.
use Rattle.std.proofs.Common.{◌≡◌, ℕ, ◌<◌, ◌==◌, ◌||◌, Bool, true, false, if◌then◌else◌, List, [], ◌∷◌, ◌++◌, length, map, refl, sym, ap, ◌∙◌, arith}
use Rattle.std.proofs.lemmas.List.{append-nil, append_assoc}
use Rattle.gd_lang.specs.Commands.{command_of_line}
use Rattle.gd_script.specs.Lines.{Line, commands_in, commands_of, has_feed, is_quit, lines_of, rest_from, unless_empty, up_to_quit, whole_commands, whole_from, whole_lines}
use Rattle.gd_script.specs.Run.{Begins, Cut}

pub or_false : (a b : Bool) → a || b ≡ false → (a ≡ false) × (b ≡ false)
or_false true b h = cc
or_false false b h = (refl, h)

whole_feed : (front part rest : List ℕ) → has_feed part ≡ false → whole_from front (part ++ 10 ∷ rest) ≡ (front ++ part) ∷ whole_from [] rest
unfolding whole_from
whole_feed front [] rest h = ap (λ (f : List ℕ). f ∷ whole_from [] rest) (sym (append-nil front))
whole_feed front (b ∷ part) rest h =
    let o = or_false (b == 10) (has_feed part) h in
    ap (λ (v : Bool). if v then front ∷ whole_from [] (part ++ 10 ∷ rest) else whole_from (front ++ b ∷ []) (part ++ 10 ∷ rest)) o.0
    ∙ (whole_feed (front ++ b ∷ []) part rest o.1 ∙ ap (λ (f : List ℕ). f ∷ whole_from [] rest) (append_assoc front (b ∷ []) part))

rest_feed : (front part rest : List ℕ) → has_feed part ≡ false → rest_from front (part ++ 10 ∷ rest) ≡ rest_from [] rest
unfolding rest_from
rest_feed front [] rest h = refl
rest_feed front (b ∷ part) rest h =
    let o = or_false (b == 10) (has_feed part) h in
    ap (λ (v : Bool). if v then rest_from [] (part ++ 10 ∷ rest) else rest_from (front ++ b ∷ []) (part ++ 10 ∷ rest)) o.0
    ∙ rest_feed (front ++ b ∷ []) part rest o.1

whole_plain : (front part : List ℕ) → has_feed part ≡ false → whole_from front part ≡ []
unfolding whole_from
whole_plain front [] h = refl
whole_plain front (b ∷ part) h =
    let o = or_false (b == 10) (has_feed part) h in
    ap (λ (v : Bool). if v then front ∷ whole_from [] part else whole_from (front ++ b ∷ []) part) o.0 ∙ whole_plain (front ++ b ∷ []) part o.1

rest_plain : (front part : List ℕ) → has_feed part ≡ false → rest_from front part ≡ front ++ part
unfolding rest_from
rest_plain front [] h = sym (append-nil front)
rest_plain front (b ∷ part) h =
    let o = or_false (b == 10) (has_feed part) h in
    ap (λ (v : Bool). if v then rest_from [] part else rest_from (front ++ b ∷ []) part) o.0
    ∙ (rest_plain (front ++ b ∷ []) part o.1 ∙ append_assoc front (b ∷ []) part)

lines_feed : (line rest : List ℕ) → has_feed line ≡ false → lines_of (line ++ 10 ∷ rest) ≡ line ∷ lines_of rest
lines_feed line rest h =
    ap (λ (ls : List (List ℕ)). ls ++ unless_empty (rest_from [] (line ++ 10 ∷ rest))) (whole_feed [] line rest h)
    ∙ ap (λ (bs : List ℕ). (line ∷ whole_from [] rest) ++ unless_empty bs) (rest_feed [] line rest h)

lines_plain : (line : List ℕ) → has_feed line ≡ false → lines_of line ≡ unless_empty line
lines_plain line h =
    ap (λ (ls : List (List ℕ)). ls ++ unless_empty (rest_from [] line)) (whole_plain [] line h)
    ∙ ap unless_empty (rest_plain [] line h)

quit_none : (line : Line) (lines : List Line) → is_quit line ≡ false → up_to_quit (line ∷ lines) ≡ line ∷ up_to_quit lines
unfolding up_to_quit
quit_none line lines h = ap (λ (v : Bool). if v then line ∷ [] else line ∷ up_to_quit lines) h

quit_here : (line : Line) (lines : List Line) → is_quit line ≡ true → up_to_quit (line ∷ lines) ≡ line ∷ []
unfolding up_to_quit
quit_here line lines h = ap (λ (v : Bool). if v then line ∷ [] else line ∷ up_to_quit lines) h

pub begins_by : (b : Bool) (line : Line) (rest : List Line) → Begins (if b then line ∷ [] else line ∷ rest) (line ∷ [])
begins_by true line rest = ([], refl)
begins_by false line rest = (rest, refl)

begins_one : (line : Line) (lines : List Line) → Begins (up_to_quit (line ∷ lines)) (line ∷ [])
unfolding up_to_quit
begins_one line lines = begins_by (is_quit line) line (up_to_quit lines)

one_by : (b : Bool) (line : Line) → (if b then line ∷ [] else line ∷ []) ≡ line ∷ []
one_by true line = refl
one_by false line = refl

one_line : (line : Line) → up_to_quit (line ∷ []) ≡ line ∷ []
unfolding up_to_quit
one_line line = one_by (is_quit line) line

no_lines : up_to_quit [] ≡ []
unfolding up_to_quit
no_lines = refl

-- ---- the bytes that were taken

moved : (waiting got more line rest : List ℕ) → waiting ++ got ≡ line ++ 10 ∷ rest → waiting ++ (got ++ more) ≡ line ++ 10 ∷ (rest ++ more)
moved waiting got more line rest e = sym (append_assoc waiting got more) ∙ (ap (λ (w : List ℕ). w ++ more) e ∙ append_assoc line (10 ∷ rest) more)

-- the commands of all, where these bytes were taken
all_moved : (ds : List Line) (taken waiting got more : List ℕ) → Cut ds taken waiting → commands_of ((taken ++ got) ++ more) ≡ ds ++ commands_of (waiting ++ (got ++ more))
all_moved ds taken waiting got more c = ap commands_of (append_assoc taken got more) ∙ c.all (got ++ more)

whole_moved : (ds : List Line) (taken waiting got more : List ℕ) → Cut ds taken waiting → whole_commands ((taken ++ got) ++ more) ≡ ds ++ whole_commands (waiting ++ (got ++ more))
whole_moved ds taken waiting got more c = ap whole_commands (append_assoc taken got more) ∙ c.whole (got ++ more)

pub cut_none : Cut [] [] []
cut_none = record { whole = λ more. refl; all = λ more. refl }

-- a line was taken that is not the one that ends a run
pub cut_line : (ds : List Line) (taken waiting got line rest : List ℕ) → Cut ds taken waiting → waiting ++ got ≡ line ++ 10 ∷ rest → has_feed line ≡ false
    → is_quit (command_of_line line) ≡ false → Cut (ds ++ command_of_line line ∷ []) (taken ++ got) rest
cut_line ds taken waiting got line rest c e plain goes =
    let d = command_of_line line in record {
      whole = λ more.
          whole_moved ds taken waiting got more c
          ∙ (ap (λ (ls : List (List ℕ)). ds ++ commands_in ls) (ap whole_lines (moved waiting got more line rest e) ∙ whole_feed [] line (rest ++ more) plain)
          ∙ (ap (λ (ls : List Line). ds ++ ls) (quit_none d (map command_of_line (whole_lines (rest ++ more))) goes) ∙ sym (append_assoc ds (d ∷ []) (whole_commands (rest ++ more)))));
      all = λ more.
          all_moved ds taken waiting got more c
          ∙ (ap (λ (ls : List (List ℕ)). ds ++ commands_in ls) (ap lines_of (moved waiting got more line rest e) ∙ lines_feed line (rest ++ more) plain)
          ∙ (ap (λ (ls : List Line). ds ++ ls) (quit_none d (map command_of_line (lines_of (rest ++ more))) goes) ∙ sym (append_assoc ds (d ∷ []) (commands_of (rest ++ more)))));
    }

-- the line that ends a run was taken
pub all_quit : (ds : List Line) (taken waiting got line rest more : List ℕ) → Cut ds taken waiting → waiting ++ got ≡ line ++ 10 ∷ rest → has_feed line ≡ false
    → is_quit (command_of_line line) ≡ true → commands_of ((taken ++ got) ++ more) ≡ ds ++ command_of_line line ∷ []
all_quit ds taken waiting got line rest more c e plain ends =
    all_moved ds taken waiting got more c
    ∙ (ap (λ (ls : List (List ℕ)). ds ++ commands_in ls) (ap lines_of (moved waiting got more line rest e) ∙ lines_feed line (rest ++ more) plain)
    ∙ ap (λ (ls : List Line). ds ++ ls) (quit_here (command_of_line line) (map command_of_line (lines_of (rest ++ more))) ends))

begins_behind : (ds all es : List Line) → Begins all es → Begins (ds ++ all) (ds ++ es)
begins_behind ds all es b = (b.0, ap (λ (ls : List Line). ds ++ ls) b.1 ∙ sym (append_assoc ds es b.0))

begins_same : (all all' ds : List Line) → all ≡ all' → Begins all' ds → Begins all ds
begins_same all all' ds e b = (b.0, e ∙ b.1)

-- a line was taken
pub begins_line : (ds : List Line) (taken waiting got line rest more : List ℕ) → Cut ds taken waiting → waiting ++ got ≡ line ++ 10 ∷ rest → has_feed line ≡ false
    → Begins (commands_of ((taken ++ got) ++ more)) (ds ++ command_of_line line ∷ [])
begins_line ds taken waiting got line rest more c e plain =
    begins_same _ _ _
    (all_moved ds taken waiting got more c
    ∙ ap (λ (ls : List (List ℕ)). ds ++ commands_in ls) (ap lines_of (moved waiting got more line rest e) ∙ lines_feed line (rest ++ more) plain))
    (begins_behind ds _ _ (begins_one (command_of_line line) (map command_of_line (lines_of (rest ++ more)))))

-- no line was taken
pub begins_none : (ds : List Line) (taken waiting got more : List ℕ) → Cut ds taken waiting → Begins (commands_of ((taken ++ got) ++ more)) ds
begins_none ds taken waiting got more c = (commands_of (waiting ++ (got ++ more)), all_moved ds taken waiting got more c)

one_of : (line : List ℕ) → 0 < length line → commands_in (unless_empty line) ≡ command_of_line line ∷ []
one_of [] some = absurd (omega (arith, some))
one_of (b ∷ line) some = one_line (command_of_line (b ∷ line))

-- the last line was taken
pub all_last : (ds : List Line) (taken waiting got line : List ℕ) → Cut ds taken waiting → waiting ++ got ≡ line → has_feed line ≡ false → 0 < length line
    → commands_of ((taken ++ got) ++ []) ≡ ds ++ command_of_line line ∷ []
all_last ds taken waiting got line c e plain some =
    all_moved ds taken waiting got [] c
    ∙ (ap (λ (bs : List ℕ). ds ++ commands_of (waiting ++ bs)) (append-nil got)
    ∙ (ap (λ (bs : List ℕ). ds ++ commands_of bs) e ∙ (ap (λ (ls : List (List ℕ)). ds ++ commands_in ls) (lines_plain line plain) ∙ ap (λ (ls : List Line). ds ++ ls) (one_of line some))))

-- the end was met, and no bytes wait
pub all_end : (ds : List Line) (taken waiting got : List ℕ) → Cut ds taken waiting → waiting ++ got ≡ [] → commands_of ((taken ++ got) ++ []) ≡ ds
unfolding whole_from rest_from
all_end ds taken waiting got c e =
    all_moved ds taken waiting got [] c
    ∙ (ap (λ (bs : List ℕ). ds ++ commands_of (waiting ++ bs)) (append-nil got)
    ∙ (ap (λ (bs : List ℕ). ds ++ commands_of bs) e ∙ (ap (λ (ls : List Line). ds ++ ls) no_lines ∙ append-nil ds)))

-- the front of a line waits
pub whole_front : (ds : List Line) (taken waiting got : List ℕ) → Cut ds taken waiting → has_feed (waiting ++ got) ≡ false → whole_commands (taken ++ got) ≡ ds
whole_front ds taken waiting got c plain =
    c.whole got ∙ (ap (λ (ls : List (List ℕ)). ds ++ commands_in ls) (whole_plain [] (waiting ++ got) plain) ∙ (ap (λ (ls : List Line). ds ++ ls) no_lines ∙ append-nil ds))
