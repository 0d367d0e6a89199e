-- What a byte does at its place in a line.
use Rattle.std.proofs.Common.{◌≡◌, ◌≢◌, ◌∙◌, ap, sym, refl, ℕ, ◌+◌, ◌-◌, ◌*◌, ◌<◌, ◌≤◌, true, false, List, [], ◌∷◌, ◌++◌, length, drop, get_or, Option, Some, None, Result, Ok, Err, MatchResult, IsErrAnd, Bor, subst, take, arith}
use Rattle.std.specs.Prelude.{◌==◌}
use Rattle.std.proofs.lemmas.Bool.{cond-true, cond-false, eq-eqb, ne_eqb}
use Rattle.std.proofs.lemmas.List.{take_rest}
use Rattle.gd_lang.specs.Lexing.{Lexed, Place, Between, Inside, Quoted, Escaped, Second, Third, behind, escape_on, is_octal, letter_of, parts, tokens_at, with_mark, with_token, word_on}
use Rattle.gd_lang.specs.Refusals.{Refuses}
use Rattle.gd_lang.specs.declared.errors.LangError.{LangError}
use Rattle.gd_lang.specs.declared.errors.LangError.TheVariants.{UnknownCommand, Ambiguous, Arguments, Quote, Escape, Unbuilt, OutOfMemory}
use Rattle.gd_lang.specs.declared.tokens.Token.{Token}
use Rattle.gd_lang.specs.declared.tokens.Token.TheVariants.{Word}

-- ---- a list by its front

pub fronted : (rest : List ℕ) → 1 ≤ length rest → rest ≡ get_or rest 0 0 ∷ drop 1 rest
fronted [] h = absurd (omega arith)
fronted (b ∷ bs) h = refl

-- what is left behind the front, as a pattern of a slice has it
abbrev pub tail : List ℕ → List ℕ
tail rest = take (length rest - 1) (drop 1 rest)

pub front-and-tail : (rest : List ℕ) → 1 ≤ length rest → rest ≡ get_or rest 0 0 ∷ tail rest
front-and-tail rest h = fronted rest h ∙ ap (λ (l : List ℕ). get_or rest 0 0 ∷ l) (sym (take_rest rest 1))

shorter : (b : ℕ) (bs rest : List ℕ) → rest ≡ b ∷ bs → length bs < length rest
shorter b bs rest e = omega (arith, ap length e)

pub tail-shorter : (rest : List ℕ) → 1 ≤ length rest → length (tail rest) < length rest
tail-shorter rest h = shorter _ _ rest (front-and-tail rest h)

pub emptied : (rest : List ℕ) → length rest < 1 → rest ≡ []
emptied [] h = refl
emptied (b ∷ bs) h = absurd (omega arith)

-- ---- in quotes

pub quoted-end : (word : List ℕ) (b : ℕ) (bs : List ℕ) → b ≡ 34 → tokens_at (Quoted word) (b ∷ bs) ≡ tokens_at (Inside word) bs
unfolding tokens_at
quoted-end word b bs is = cond-true (b == 34) _ _ (eq-eqb b 34 is)

pub quoted-slash : (word : List ℕ) (b : ℕ) (bs : List ℕ) → b ≡ 92 → tokens_at (Quoted word) (b ∷ bs) ≡ tokens_at (Escaped word) bs
unfolding tokens_at
quoted-slash word b bs is = cond-false (b == 34) _ _ (ne_eqb b 34 (λ e. absurd (omega (arith, is, e)))) ∙ cond-true (b == 92) _ _ (eq-eqb b 92 is)

pub quoted-plain : (word : List ℕ) (b : ℕ) (bs : List ℕ) → b ≢ 34 → b ≢ 92 → tokens_at (Quoted word) (b ∷ bs) ≡ tokens_at (Quoted (word ++ b ∷ [])) bs
unfolding tokens_at
quoted-plain word b bs no_quote no_slash = cond-false (b == 34) _ _ (ne_eqb b 34 no_quote) ∙ cond-false (b == 92) _ _ (ne_eqb b 92 no_slash)

pub quoted-cut : (word : List ℕ) → tokens_at (Quoted word) [] ≡ Err Quote
unfolding tokens_at
quoted-cut word = refl

-- ---- behind a backslash

pub escaped-cut : (word : List ℕ) → tokens_at (Escaped word) [] ≡ Err Quote
unfolding tokens_at
escaped-cut word = refl

pub escaped-letter : (word : List ℕ) (b : ℕ) (bs : List ℕ) (byte : ℕ) → letter_of b ≡ Some byte → tokens_at (Escaped word) (b ∷ bs) ≡ tokens_at (Quoted (word ++ byte ∷ [])) bs
unfolding tokens_at
escaped-letter word b bs byte is = ap (λ (l : Option ℕ). escape_on word b l (λ place. tokens_at place bs)) is

pub escaped-octal : (word : List ℕ) (b : ℕ) (bs : List ℕ) → letter_of b ≡ None → is_octal 51 b ≡ true → tokens_at (Escaped word) (b ∷ bs) ≡ tokens_at (Second word (b - 48)) bs
unfolding tokens_at
escaped-octal word b bs is digit = ap (λ (l : Option ℕ). escape_on word b l (λ place. tokens_at place bs)) is ∙ cond-true (is_octal 51 b) _ _ digit

pub escaped-wrong : (word : List ℕ) (b : ℕ) (bs : List ℕ) → letter_of b ≡ None → is_octal 51 b ≡ false → tokens_at (Escaped word) (b ∷ bs) ≡ Err Escape
unfolding tokens_at
escaped-wrong word b bs is digit = ap (λ (l : Option ℕ). escape_on word b l (λ place. tokens_at place bs)) is ∙ cond-false (is_octal 51 b) _ _ digit

pub second-cut : (word : List ℕ) (n : ℕ) → tokens_at (Second word n) [] ≡ Err Quote
unfolding tokens_at
second-cut word n = refl

pub second-digit : (word : List ℕ) (n b : ℕ) (bs : List ℕ) → is_octal 55 b ≡ true → tokens_at (Second word n) (b ∷ bs) ≡ tokens_at (Third word (8 * n + (b - 48))) bs
unfolding tokens_at
second-digit word n b bs digit = cond-true (is_octal 55 b) _ _ digit

pub second-wrong : (word : List ℕ) (n b : ℕ) (bs : List ℕ) → is_octal 55 b ≡ false → tokens_at (Second word n) (b ∷ bs) ≡ Err Escape
unfolding tokens_at
second-wrong word n b bs digit = cond-false (is_octal 55 b) _ _ digit

pub third-cut : (word : List ℕ) (n : ℕ) → tokens_at (Third word n) [] ≡ Err Quote
unfolding tokens_at
third-cut word n = refl

pub third-digit : (word : List ℕ) (n b : ℕ) (bs : List ℕ) → is_octal 55 b ≡ true → tokens_at (Third word n) (b ∷ bs) ≡ tokens_at (Quoted (word ++ (8 * n + (b - 48)) ∷ [])) bs
unfolding tokens_at
third-digit word n b bs digit = cond-true (is_octal 55 b) _ _ digit

pub third-wrong : (word : List ℕ) (n b : ℕ) (bs : List ℕ) → is_octal 55 b ≡ false → tokens_at (Third word n) (b ∷ bs) ≡ Err Escape
unfolding tokens_at
third-wrong word n b bs digit = cond-false (is_octal 55 b) _ _ digit

-- ---- words

pub inside-on : (word : List ℕ) (b : ℕ) (bs : List ℕ) → parts b bs ≡ false → tokens_at (Inside word) (b ∷ bs) ≡ word_on word b (λ place. tokens_at place bs)
unfolding tokens_at
inside-on word b bs on = cond-false (parts b bs) _ _ on

-- a word ends where a byte parts words, and at the line's end
pub inside-parts : (word : List ℕ) (b : ℕ) (bs : List ℕ) → parts b bs ≡ true → tokens_at (Inside word) (b ∷ bs) ≡ with_token (Word word) (tokens_at Between (b ∷ bs))
unfolding tokens_at
inside-parts word b bs ends = cond-true (parts b bs) _ _ ends ∙ ap (with_token (Word word)) (sym (cond-true (parts b bs) _ _ ends))

pub inside-end : (word : List ℕ) → tokens_at (Inside word) [] ≡ with_token (Word word) (tokens_at Between [])
unfolding tokens_at
inside-end word = refl

-- ---- between words

pub between-end : tokens_at Between [] ≡ Ok []
unfolding tokens_at
between-end = refl

pub between-parts : (b : ℕ) (bs : List ℕ) → parts b bs ≡ true → tokens_at Between (b ∷ bs) ≡ with_mark b (tokens_at Between bs)
unfolding tokens_at
between-parts b bs ends = cond-true (parts b bs) _ _ ends

pub between-comment : (b : ℕ) (bs : List ℕ) → parts b bs ≡ false → b ≡ 35 → tokens_at Between (b ∷ bs) ≡ Ok []
unfolding tokens_at
between-comment b bs on is = cond-false (parts b bs) _ _ on ∙ cond-true (b == 35) _ _ (eq-eqb b 35 is)

pub between-word : (b : ℕ) (bs : List ℕ) → parts b bs ≡ false → b ≢ 35 → tokens_at Between (b ∷ bs) ≡ word_on [] b (λ place. tokens_at place bs)
unfolding tokens_at
between-word b bs on other = cond-false (parts b bs) _ _ on ∙ cond-false (b == 35) _ _ (ne_eqb b 35 other)

-- ---- answers

-- the answer to what stands later in a line is that to what stands earlier
pub leads-along : (a b : Lexed) (place : Place) (m n : ℕ) (r : Result (Bor (List ℕ)) LangError) → a ≡ b → m ≤ n
    → MatchResult r (λ left. (b ≡ tokens_at place left.now) × (length left.now ≤ m)) (λ e. Refuses e b)
    → MatchResult r (λ left. (a ≡ tokens_at place left.now) × (length left.now ≤ n)) (λ e. Refuses e a)
leads-along a b place m n (Ok left) same short h = (same ∙ h.0, omega (arith, h.1, short))
leads-along a b place m n (Err e) same short h = subst (λ (l : Lexed). Refuses e l) (sym same) h

pub refuses-along : (a b : Lexed) (e : LangError) → a ≡ b → Refuses e b → Refuses e a
refuses-along a b e same h = subst (λ (l : Lexed). Refuses e l) (sym same) h

-- the exit of a `?`
pub exits-leads : (r : Result (Bor (List ℕ)) LangError) (e : LangError) (a : Lexed) (after : List ℕ → Lexed) (n : ℕ) → IsErrAnd r (λ y. y ≡ e) → Refuses e a
    → MatchResult r (λ left. (a ≡ after left.now) × (length left.now ≤ n)) (λ y. Refuses y a)
exits-leads (Ok left) e a after n is h = absurd is
exits-leads (Err y) e a after n is h = subst (λ (z : LangError). Refuses z a) (sym is) h

-- tokens that came before don't change a refusal
pub refuses-behind : (front : List Token) (rest : Lexed) (e : LangError) → Refuses e rest → Refuses e (behind front rest)
refuses-behind front rest UnknownCommand h = ap (λ (l : Lexed). behind front l) h
refuses-behind front rest Ambiguous h = ap (λ (l : Lexed). behind front l) h
refuses-behind front rest Arguments h = ap (λ (l : Lexed). behind front l) h
refuses-behind front rest Quote h = ap (λ (l : Lexed). behind front l) h
refuses-behind front rest Escape h = ap (λ (l : Lexed). behind front l) h
refuses-behind front rest Unbuilt h = ap (λ (l : Lexed). behind front l) h
refuses-behind front rest OutOfMemory h = tt
