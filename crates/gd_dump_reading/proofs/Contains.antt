-- Where bytes stand in a line.
use Rattle.std.proofs.Common.{◌≡◌, ◌∙◌, ap, sym, ℕ, ◌+◌, ◌<◌, false, ◌||◌, List, length, drop, eqb}
use Rattle.std.proofs.lemmas.List.{drop_more}
use Rattle.std.specs.List.{starts_with}
use Rattle.gd_dump_reading.specs.Lines.{contains}

pub contains-next : (part line : List ℕ) (at : ℕ) → at < length line → starts_with eqb (drop at line) part ≡ false → contains part (drop at line) ≡ contains part (drop (at + 1) line)
contains-next part line at inside differs =
    let cut = drop_more line at 0 inside in
    ap (contains part) cut ∙ ap (λ t. t || contains part (drop (at + 1) line)) (sym (ap (λ b. starts_with eqb b part) cut) ∙ differs)
