-- Words in braces, and lists of tokens by their front.
use Rattle.std.proofs.Common.{◌≡◌, ◌∙◌, ap, sym, refl, ℕ, ◌-◌, ◌<◌, ◌≤◌, List, [], ◌∷◌, ◌++◌, length, drop, get_or, take, Ok, Err, None, append_assoc, arith}
use Rattle.std.proofs.lemmas.List.{take_rest}
use Rattle.gd_lang.specs.Commands.{Read, braced_of, word_before, word_in}
use Rattle.gd_lang.specs.declared.errors.LangError.TheVariants.{Arguments}
use Rattle.gd_lang.specs.declared.tokens.Token.{Token}
use Rattle.gd_lang.specs.declared.tokens.Token.TheVariants.{Word, LeftBrace, RightBrace, Comma}

-- ---- lists by their front

two-front : (ts : List Token) (a b : Token) → 2 ≤ length ts → a ≡ get_or ts 0 a → b ≡ get_or ts 1 b → ts ≡ a ∷ b ∷ drop 2 ts
two-front [] a b h is other = absurd (omega arith)
two-front (t ∷ []) a b h is other = absurd (omega arith)
two-front (t ∷ u ∷ ts) a b h is other = ap (λ (x : Token). x ∷ u ∷ ts) (sym is) ∙ ap (λ (x : Token). a ∷ x ∷ ts) (sym other)

pub two_fronted : (ts : List Token) (a b : Token) → 2 ≤ length ts → a ≡ get_or ts 0 a → b ≡ get_or ts 1 b → ts ≡ a ∷ b ∷ take (length ts - 2) (drop 2 ts)
two_fronted ts a b h is other = two-front ts a b h is other ∙ ap (λ (l : List Token). a ∷ b ∷ l) (sym (take_rest ts 2))

-- ---- words in braces

-- words before those that are read
abbrev pub before_all : List (List ℕ) → Read → Read
before_all words (Ok (more, rest)) = Ok (words ++ more, rest)
before_all words (Err e) = Err e

before-step : (words : List (List ℕ)) (word : List ℕ) (read : Read) → before_all words (word_before word read) ≡ before_all (words ++ word ∷ []) read
before-step words word (Ok (more, rest)) = ap (λ (l : List (List ℕ)). Ok (l, rest)) (sym (append_assoc words (word ∷ []) more))
before-step words word (Err e) = refl

braced-short : (ts : List Token) → length ts < 2 → braced_of ts ≡ Err Arguments
unfolding braced_of
braced-short [] h = refl
braced-short (Word word ∷ []) h = refl
braced-short (LeftBrace ∷ []) h = refl
braced-short (RightBrace ∷ []) h = refl
braced-short (Comma ∷ []) h = refl
braced-short (t ∷ u ∷ ts) h = absurd (omega arith)

braced-comma : (word : List ℕ) (ts : List Token) → braced_of (Word word ∷ Comma ∷ ts) ≡ word_before word (braced_of ts)
unfolding braced_of
braced-comma word ts = refl

braced-end : (word : List ℕ) (ts : List Token) → braced_of (Word word ∷ RightBrace ∷ ts) ≡ Ok (word ∷ [], ts)
unfolding braced_of
braced-end word ts = refl

braced-other : (word : List ℕ) (mark : Token) (ts : List Token) → (mark ≡ Comma → ⊥) → (mark ≡ RightBrace → ⊥) → braced_of (Word word ∷ mark ∷ ts) ≡ Err Arguments
unfolding braced_of
braced-other word (Word other) ts comma end = refl
braced-other word LeftBrace ts comma end = refl
braced-other word RightBrace ts comma end = absurd (end refl)
braced-other word Comma ts comma end = absurd (comma refl)

braced-mark : (first mark : Token) (ts : List Token) → word_in first ≡ None → braced_of (first ∷ mark ∷ ts) ≡ Err Arguments
unfolding braced_of
braced-mark (Word word) mark ts is = cc
braced-mark LeftBrace mark ts is = refl
braced-mark RightBrace mark ts is = refl
braced-mark Comma mark ts is = refl

pub not_a_word : (token : Token) → ((word : List ℕ) → token ≡ Word word → ⊥) → word_in token ≡ None
not_a_word (Word word) other = absurd (other word refl)
not_a_word LeftBrace other = refl
not_a_word RightBrace other = refl
not_a_word Comma other = refl

module _ (all left : List Token) (words : List (List ℕ)) (so_far : braced_of all ≡ before_all words (braced_of left)) where
  pub braced_is_short : length left < 2 → braced_of all ≡ Err Arguments
  braced_is_short h = so_far ∙ ap (before_all words) (braced-short left h)

  pub braced_without_word : (first mark : Token) (ts : List Token) → left ≡ first ∷ mark ∷ ts → word_in first ≡ None → braced_of all ≡ Err Arguments
  braced_without_word first mark ts is none = so_far ∙ ap (before_all words) (ap braced_of is ∙ braced-mark first mark ts none)

  pub braced_goes_on : (word : List ℕ) (ts : List Token) → left ≡ Word word ∷ Comma ∷ ts → braced_of all ≡ before_all (words ++ word ∷ []) (braced_of ts)
  braced_goes_on word ts is = so_far ∙ ap (before_all words) (ap braced_of is ∙ braced-comma word ts) ∙ before-step words word (braced_of ts)

  pub braced_ends : (word : List ℕ) (ts : List Token) → left ≡ Word word ∷ RightBrace ∷ ts → braced_of all ≡ Ok (words ++ word ∷ [], ts)
  braced_ends word ts is = so_far ∙ ap (before_all words) (ap braced_of is ∙ braced-end word ts)

  pub braced_is_other : (word : List ℕ) (mark : Token) (ts : List Token) → left ≡ Word word ∷ mark ∷ ts → (mark ≡ Comma → ⊥) → (mark ≡ RightBrace → ⊥) → braced_of all ≡ Err Arguments
  braced_is_other word mark ts is comma end = so_far ∙ ap (before_all words) (ap braced_of is ∙ braced-other word mark ts comma end)
