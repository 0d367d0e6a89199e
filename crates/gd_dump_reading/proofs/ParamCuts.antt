-- Parameters of a line, one after another.
use Rattle.std.proofs.Common.{◌≡◌, ◌≢◌, ◌∙◌, ap, sym, refl, cond, get_or, ◌-◌, ℕ, zero, suc, ◌+◌, ◌<◌, add-one, true, false, List, [], ◌∷◌, length, take, drop, Option, Some, None, Result, Ok, Err, arith}
use Rattle.std.specs.Prelude.{◌==◌}
use Rattle.std.specs.Char.{is_ascii_alphabetic}
use Rattle.std.specs.List.{prefix_len}
use Rattle.std.proofs.lemmas.Bool.{cond-true, cond-false, eq-eqb, ne_eqb}
use Rattle.std.proofs.lemmas.List.{drop_all, drop_more, drop-drop}
use Rattle.gd_dump_reading.specs.Params.{Named, Param, if_params, is_unnamed, one_more, some_params, unless_refused, value_in, with_param, with_params, with_value}
use Rattle.gd_dump_reading.specs.declared.items.DumpKind.{DumpKind}
use Rattle.gd_dump_reading.specs.declared.items.DumpKind.TheVariants.{Parameter}

pub params-unnamed : (n : ℕ) (text : List ℕ) → is_unnamed text ≡ true → some_params n text ≡ None
unfolding some_params
params-unnamed zero text is = refl
params-unnamed (suc n) text is = cond-true (is_unnamed text) None _ is

pub params-valued : (n k : ℕ) (text : List ℕ) (read : Option (List ℕ × List ℕ)) → is_unnamed text ≡ false → k ≡ prefix_len is_ascii_alphabetic text → value_in (drop (k + 1) text) ≡ read
    → some_params (n + 1) text ≡ with_value (take k text) read (some_params n)
unfolding some_params
params-valued n k text read is same value =
    ap (λ (m : ℕ). some_params m text) (add-one n)
    ∙ cond-false (is_unnamed text) None (with_value (take (prefix_len is_ascii_alphabetic text) text) (value_in (drop (prefix_len is_ascii_alphabetic text + 1) text)) (some_params n)) is
    ∙ ap (λ m. with_value (take m text) (value_in (drop (m + 1) text)) (some_params n)) (sym same)
    ∙ ap (λ v. with_value (take k text) v (some_params n)) value

pub params-valueless : (n k : ℕ) (text : List ℕ) → is_unnamed text ≡ false → k ≡ prefix_len is_ascii_alphabetic text → value_in (drop (k + 1) text) ≡ None → some_params n text ≡ None
unfolding some_params
params-valueless zero k text is same value = refl
params-valueless (suc n) k text is same value = ap (λ (m : ℕ). some_params m text) (sym (add-one n)) ∙ params-valued n k text None is same value

pub value-rest : (text part : List ℕ) (at taken : ℕ) (value : List ℕ) → part ≡ drop at text → value_in part ≡ Some (value, drop taken part) → value_in (drop at text) ≡ Some (value, drop (at + taken) text)
value-rest text part at taken value is read =
    sym (ap value_in is) ∙ read ∙ ap (λ (r : List ℕ). Some (value, r)) (ap (drop taken) is ∙ drop-drop taken at text)

-- ---- more of them

-- what was said so far, and what the other parameters say, where there are some
abbrev pub rest_of : Result Named DumpKind → Option (List Param) → Result Named DumpKind
rest_of read None = Err Parameter
rest_of read (Some ps) = unless_refused read (λ n. with_params n ps)

pub at-first : (named : Named) (ps : Option (List Param)) → if_params named ps ≡ rest_of (Ok named) ps
at-first named None = refl
at-first named (Some ps) = refl

said-more : (read : Result Named DumpKind) (p : Param) (ps : Option (List Param)) → rest_of read (one_more p ps) ≡ rest_of (unless_refused read (λ n. with_param n p)) ps
said-more read p None = refl
said-more (Ok named) p (Some ps) = refl
said-more (Err kind) p (Some ps) = refl

said-last : (read : Result Named DumpKind) (p : Param) → rest_of read (Some (p ∷ [])) ≡ unless_refused read (λ n. with_param n p)
said-last (Ok named) p = last-said (with_param named p)
  where
    last-said : (r : Result Named DumpKind) → unless_refused r (λ n. Ok n) ≡ r
    last-said (Ok n) = refl
    last-said (Err kind) = refl
said-last (Err kind) p = refl

-- what a parameter at the front of the rest gives, where at least one more may come
abbrev pub Begins : List ℕ → Param → ℕ → Type 0
Begins rest p taken = (n : ℕ) → some_params (n + 1) rest ≡ with_value p.name (Some (p.value, drop taken rest)) (some_params n)

begun : (text : List ℕ) (at taken n : ℕ) (p : Param) → 0 < n → Begins (drop at text) p taken
    → some_params n (drop at text) ≡ with_value p.name (Some (p.value, drop (at + taken) text)) (some_params (n - 1))
begun text at taken n p some is =
    ap (λ m. some_params m (drop at text)) (omega (arith, some)) ∙ is (n - 1)
    ∙ ap (λ (r : List ℕ). with_value p.name (Some (p.value, r)) (some_params (n - 1))) (drop-drop taken at text)

pub params-last : (text : List ℕ) (at taken n : ℕ) (p : Param) (read : Result Named DumpKind) → 0 < n → Begins (drop at text) p taken → at + taken ≡ length text
    → rest_of read (some_params n (drop at text)) ≡ unless_refused read (λ m. with_param m p)
params-last text at taken n p read some is end =
    ap (rest_of read) (begun text at taken n p some is ∙ ap (λ (r : List ℕ). with_value p.name (Some (p.value, r)) (some_params (n - 1))) (drop_all (at + taken) text (omega (arith, end))))
    ∙ said-last read p

behind : (text : List ℕ) (b n : ℕ) (p : Param) → b < length text
    → with_value p.name (Some (p.value, drop b text)) (some_params n) ≡ cond (get_or text b 0 == 44) (one_more p (some_params n (drop (b + 1) text))) None
behind text b n p inside = ap (λ (r : List ℕ). with_value p.name (Some (p.value, r)) (some_params n)) (drop_more text b 0 inside)

pub params-stop : (text : List ℕ) (at taken n : ℕ) (p : Param) (read : Result Named DumpKind) → 0 < n → Begins (drop at text) p taken → at + taken < length text → get_or text (at + taken) 0 ≢ 44
    → rest_of read (some_params n (drop at text)) ≡ Err Parameter
params-stop text at taken n p read some is inside other =
    ap (rest_of read) (begun text at taken n p some is ∙ behind text (at + taken) (n - 1) p inside ∙ cond-false (get_or text (at + taken) 0 == 44) _ _ (ne_eqb _ 44 other))

pub params-next : (text : List ℕ) (at taken n : ℕ) (p : Param) (read : Result Named DumpKind) → 0 < n → Begins (drop at text) p taken → at + taken < length text → get_or text (at + taken) 0 ≡ 44
    → rest_of read (some_params n (drop at text)) ≡ rest_of (unless_refused read (λ m. with_param m p)) (some_params (n - 1) (drop (at + taken + 1) text))
params-next text at taken n p read some is inside comma =
    ap (rest_of read) (begun text at taken n p some is ∙ behind text (at + taken) (n - 1) p inside ∙ cond-true (get_or text (at + taken) 0 == 44) _ _ (eq-eqb _ 44 comma))
    ∙ said-more read p (some_params (n - 1) (drop (at + taken + 1) text))
