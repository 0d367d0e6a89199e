-- Pieces of which some bytes went in before.
use Rattle.std.proofs.Common.{◌≡◌, ◌∙◌, ap, sym, ℕ, ◌+◌, ◌-◌, ◌≤◌, List, ◌++◌, length, take, drop, Option, Some, None, arith}
use Rattle.std.proofs.lemmas.List.{drop-append-le, drop-drop, take_rest}
use Rattle.gd_dump_reading.specs.Told.{EndBehind, Told, given_if}
use Rattle.gd_dump_reading.specs.Readers.{unless, unless_stopped}
use Rattle.gd_dump_reading.specs.declared.items.Item.{Item}
use Rattle.gd_dump_reading.specs.declared.items.Refusal.{Refusal}

pub skip : (piece rest : List ℕ) (ahead n : ℕ) → n ≤ length piece → n ≤ ahead → drop ahead (piece ++ rest) ≡ drop (ahead - n) (drop n piece ++ rest)
skip piece rest ahead n within less =
    sym (ap (drop (ahead - n)) (sym (drop-append-le n piece rest within)) ∙ drop-drop (ahead - n) n (piece ++ rest) ∙ ap (λ k. drop k (piece ++ rest)) (omega (arith, less)))

-- what was fed behind them
pub fed-on : (f g : List ℕ → Told) (item : Option Item) (end ahead n k : ℕ) (piece : List ℕ) → n ≤ length piece → ahead ≡ n
    → ((rest : List ℕ) → f (take (length piece - n) (drop n piece) ++ rest) ≡ given_if item end (g (drop k (take (length piece - n) (drop n piece)) ++ rest)))
    → (rest : List ℕ) → f (drop ahead (piece ++ rest)) ≡ given_if item end (g (drop (n + k) piece ++ rest))
fed-on f g item end ahead n k piece within same fed rest =
    let all = take_rest piece n in
    ap f (ap (λ m. drop m (piece ++ rest)) same ∙ drop-append-le n piece rest within ∙ ap (λ t. t ++ rest) (sym all))
    ∙ fed rest
    ∙ ap (λ t. given_if item end (g (drop k t ++ rest))) all
    ∙ ap (λ t. given_if item end (g (t ++ rest))) (drop-drop k n piece)

pub taken-more : (stop : Option Refusal) (a b n : ℕ) → stop ≡ None → b ≡ a + n → unless_stopped stop b ≡ unless_stopped stop a + n
taken-more None a b n going is = is
taken-more (Some stop) a b n going is = absurd (cc)

-- what a reader that has refused still gives has no item
pub unless-behind : (stop : Option Refusal) (n : ℕ) (t : Told) → EndBehind n t.items → EndBehind (unless_stopped stop n) (unless stop t).items
unless-behind None n t ends = ends
unless-behind (Some stop) n t ends = tt
