-- A quoted value, byte by byte.
use Rattle.std.proofs.Common.{◌≡◌, ◌≢◌, ◌∙◌, ap, sym, refl, append-nil, ℕ, ◌+◌, ◌<◌, ◌≤◌, Bool, true, false, cond, List, [], ◌∷◌, ◌++◌, length, drop, get_or, Option, Some, None, arith}
use Rattle.std.specs.Prelude.{◌==◌}
use Rattle.std.proofs.lemmas.Bool.{cond-true, cond-false, eq-eqb, eqb-false, eqb-true, ne_eqb}
use Rattle.std.proofs.lemmas.List.{append_assoc, drop_all, drop_more}
use Rattle.gd_dump_reading.specs.Params.{onto, quoted}

-- bytes in front of a value
abbrev pub onto_all : List ℕ → Option (List ℕ × List ℕ) → Option (List ℕ × List ℕ)
onto_all bytes None = None
onto_all bytes (Some (value, rest)) = Some (bytes ++ value, rest)

onto-step : (bytes : List ℕ) (b : ℕ) (read : Option (List ℕ × List ℕ)) → onto_all bytes (onto b read) ≡ onto_all (bytes ++ b ∷ []) read
onto-step bytes b None = refl
onto-step bytes b (Some (value, rest)) = ap (λ (v : List ℕ). Some (v, rest)) (sym (append_assoc bytes (b ∷ []) value))

quoted-end : (b : ℕ) (rest : List ℕ) → b ≡ 34 → quoted (b ∷ rest) ≡ Some ([], rest)
unfolding quoted
quoted-end b [] is = cond-true (b == 34) _ _ (eq-eqb b 34 is)
quoted-end b (c ∷ cs) is = cond-true (b == 34) _ _ (eq-eqb b 34 is)

quoted-plain : (b : ℕ) (rest : List ℕ) → b ≢ 34 → b ≢ 92 → quoted (b ∷ rest) ≡ onto b (quoted rest)
unfolding quoted
quoted-plain b [] no_quote no_slash = cond-false (b == 34) _ _ (ne_eqb b 34 no_quote)
quoted-plain b (c ∷ cs) no_quote no_slash = cond-false (b == 34) _ _ (ne_eqb b 34 no_quote) ∙ cond-false (b == 92) _ _ (ne_eqb b 92 no_slash)

quoted-escape : (b c : ℕ) (rest : List ℕ) → b ≡ 92 → quoted (b ∷ c ∷ rest) ≡ onto c (quoted rest)
unfolding quoted
quoted-escape b c rest is = cond-false (b == 34) _ _ (ne_eqb b 34 (λ e. absurd (omega (arith, is, e)))) ∙ cond-true (b == 92) _ _ (eq-eqb b 92 is)

quoted-cut : (b : ℕ) → b ≡ 92 → quoted (b ∷ []) ≡ None
unfolding quoted
quoted-cut b is = cond-false (b == 34) _ _ (ne_eqb b 34 (λ e. absurd (omega (arith, is, e))))

-- the same at a place of the text
pub quoted_ends : (text bytes : List ℕ) (at : ℕ) → at < length text → get_or text at 0 ≡ 34 → onto_all bytes (quoted (drop at text)) ≡ Some (bytes, drop (at + 1) text)
quoted_ends text bytes at inside is =
    ap (onto_all bytes) (ap quoted (drop_more text at 0 inside) ∙ quoted-end _ _ is) ∙ ap (λ (v : List ℕ). Some (v, drop (at + 1) text)) (append-nil bytes)

quoted_goes_on : (text bytes : List ℕ) (at : ℕ) → at < length text → get_or text at 0 ≢ 34 → get_or text at 0 ≢ 92
    → onto_all bytes (quoted (drop at text)) ≡ onto_all (bytes ++ get_or text at 0 ∷ []) (quoted (drop (at + 1) text))
quoted_goes_on text bytes at inside no_quote no_slash =
    ap (onto_all bytes) (ap quoted (drop_more text at 0 inside) ∙ quoted-plain _ _ no_quote no_slash) ∙ onto-step bytes (get_or text at 0) (quoted (drop (at + 1) text))

quoted_escapes : (text bytes : List ℕ) (at : ℕ) → at + 1 < length text → get_or text at 0 ≡ 92
    → onto_all bytes (quoted (drop at text)) ≡ onto_all (bytes ++ get_or text (at + 1) 0 ∷ []) (quoted (drop (at + 1 + 1) text))
quoted_escapes text bytes at inside is =
    ap (onto_all bytes) (ap quoted (drop_more text at 0 (omega arith) ∙ ap (λ (t : List ℕ). get_or text at 0 ∷ t) (drop_more text (at + 1) 0 inside)) ∙ quoted-escape _ _ _ is)
    ∙ onto-step bytes (get_or text (at + 1) 0) (quoted (drop (at + 1 + 1) text))

quoted_is_cut : (text bytes : List ℕ) (at : ℕ) → at < length text → at + 1 ≡ length text → get_or text at 0 ≡ 92 → onto_all bytes (quoted (drop at text)) ≡ None
quoted_is_cut text bytes at inside last is =
    ap (onto_all bytes) (ap quoted (drop_more text at 0 inside ∙ ap (λ (t : List ℕ). get_or text at 0 ∷ t) (drop_all (at + 1) text (omega (arith, last)))) ∙ quoted-cut _ is)

pub quoted_is_out : (text bytes : List ℕ) (at : ℕ) → length text ≤ at → onto_all bytes (quoted (drop at text)) ≡ None
unfolding quoted
quoted_is_out text bytes at out = ap (λ t. onto_all bytes (quoted t)) (drop_all at text out)

by-slash : (text bytes : List ℕ) (at next : ℕ) (t : Bool) → (get_or text at 0 == 92) ≡ t → next ≡ cond t (at + 1) at → next < length text → get_or text at 0 ≢ 34
    → onto_all bytes (quoted (drop at text)) ≡ onto_all (bytes ++ get_or text next 0 ∷ []) (quoted (drop (next + 1) text))
by-slash text bytes at next true slash is inside no_quote =
    quoted_escapes text bytes at (omega (arith, is, inside)) (eqb-true _ _ slash)
    ∙ ap (λ n. onto_all (bytes ++ get_or text n 0 ∷ []) (quoted (drop (n + 1) text))) (sym is)
by-slash text bytes at next false slash is inside no_quote =
    quoted_goes_on text bytes at (omega (arith, is, inside)) no_quote (eqb-false _ _ slash)
    ∙ ap (λ n. onto_all (bytes ++ get_or text n 0 ∷ []) (quoted (drop (n + 1) text))) (sym is)

pub quoted-next : (text bytes : List ℕ) (at next : ℕ) → next ≡ cond (get_or text at 0 == 92) (at + 1) at → next < length text → get_or text at 0 ≢ 34
    → onto_all bytes (quoted (drop at text)) ≡ onto_all (bytes ++ get_or text next 0 ∷ []) (quoted (drop (next + 1) text))
quoted-next text bytes at next is inside no_quote = by-slash text bytes at next _ refl is inside no_quote

cut-slash : (text bytes : List ℕ) (at next : ℕ) (t : Bool) → (get_or text at 0 == 92) ≡ t → next ≡ cond t (at + 1) at → at < length text → next ≡ length text → onto_all bytes (quoted (drop at text)) ≡ None
cut-slash text bytes at next true slash is inside last = quoted_is_cut text bytes at inside (omega (arith, is, last)) (eqb-true _ _ slash)
cut-slash text bytes at next false slash is inside last = absurd (omega (arith, is, inside, last))

pub quoted-cut_off : (text bytes : List ℕ) (at next : ℕ) → next ≡ cond (get_or text at 0 == 92) (at + 1) at → at < length text → next ≡ length text → onto_all bytes (quoted (drop at text)) ≡ None
quoted-cut_off text bytes at next is inside last = cut-slash text bytes at next _ refl is inside last

pub next-inside : (t : Bool) (at next n : ℕ) → next ≡ cond t (at + 1) at → at < n → next ≢ n → next < n
next-inside true at next n is inside other = omega (arith, is, inside, other)
next-inside false at next n is inside other = omega (arith, is, inside, other)
