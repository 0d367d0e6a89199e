-- From the matches to what the words mean.
use Rattle.std.proofs.Common.{◌≡◌, ◌∙◌, subst, refl, sym, ap, inl, inr, true, List, [], ◌∷◌, Option, Result, codes}
use Rattle.clap.specs.Words.{App, HasKind, Kinds, Text, fault_of, first_value, found_of, is_simple_and_free, kind_of, matches_of, rows_of}
use Rattle.clap.specs.Walk.{Row, first_of}
use Rattle.clap.proofs.WalkLemmas.{first_value-rows}
use Rattle.clap.specs.declared.error.Error.{Error}
use Rattle.clap.specs.declared.error.kind.ErrorKind.{ErrorKind}
use Rattle.clap.specs.declared.error.kind.ErrorKind.TheVariants as kind
use Rattle.clap.specs.declared.parser.matches.ArgMatches.{ArgMatches}
use Rattle.gd_words.specs.Commands.{dump_app, load_app, tool_app}
use Rattle.gd_words.specs.Meaning.{dump_options, dump_reading, load_options, load_reading, reading_by, tool_options, tool_reading, unless_faulty}
use Rattle.gd_words.specs.Reads.{FailsAs, ReadsAs, Refuses}
use Rattle.gd_words.specs.declared.dump.DumpWords.{DumpWords}
use Rattle.gd_words.specs.declared.load.LoadWords.{LoadWords}
use Rattle.gd_words.specs.declared.tool.ToolWords.{ToolWords}
use Rattle.gd_words.specs.declared.matching.Refusal.{Refusal}
use Rattle.gd_words.specs.declared.matching.Refusal.TheVariants.{Usage, Memory}

-- an error of another kind than memory comes only where there is a fault
pub fails_as : (kinds : Kinds) (e : Error) (k : ErrorKind) (w : Refusal) → HasKind kinds e → k ≡ kind_of e → (w ≡ Usage → k ≡ kind.OutOfMemory → ⊥) → FailsAs w kinds
fails_as kinds e k Memory h is usage = tt
fails_as [] e k Usage h is usage = elim h [ inl memory ↦ absurd (usage refl (is ∙ memory)) | inr none ↦ absurd none ]
fails_as (x ∷ xs) e k Usage h is usage = tt

refuses : {X : Type 0} (e : Refusal) (kinds : Kinds) (x : Option X) → FailsAs e kinds → Refuses e (unless_faulty kinds x)
refuses Memory kinds x h = tt
refuses Usage [] x h = absurd h
refuses Usage (k ∷ ks) x h = refl

-- words that the command refuses
pub refused_by : {X : Type 0} (e : Refusal) (app own : App) (options : (Text → Option Text) → Option X) (words all : List Text)
    → app ≡ own → all ≡ words → FailsAs e (fault_of app all) → Refuses e (reading_by own options words)
refused_by e app own options words all is same h =
    refuses e (fault_of own words) (options (λ id. first_of id (matches_of own words)))
    (subst (λ (ws : List Text). FailsAs e (fault_of own ws)) same (subst (λ (a : App). FailsAs e (fault_of a all)) is h))

-- words that it takes: the options are those of its matches
taken_by : {X : Type 0} (m : ArgMatches) (app own : App) (options : (Text → Option Text) → Option X) (words all : List Text)
    → ((rows : List Row) → rows_of (found_of m) ≡ rows → options (λ id. first_of id rows) ≡ options (first_value (found_of m)))
    → app ≡ own → all ≡ words → (fault_of app all ≡ []) × (rows_of (found_of m) ≡ matches_of app all)
    → reading_by own options words ≡ options (first_value (found_of m))
taken_by m app own options words all by_rows is same h =
    let none : fault_of own words ≡ [] = ap (fault_of own) (sym same) ∙ (ap (λ (a : App). fault_of a all) (sym is) ∙ h.0) in
    let rows : rows_of (found_of m) ≡ matches_of own words = h.1 ∙ (ap (λ (a : App). matches_of a all) is ∙ ap (matches_of own) same) in
    ap (λ (ks : Kinds). unless_faulty ks (options (λ id. first_of id (matches_of own words)))) none ∙ by_rows _ rows

-- what is read of the options is read of the words
reads : {X : Type 0} (r : Result X Refusal) (x y : Option X) → x ≡ y → ReadsAs r y → ReadsAs r x
reads r x y e h = subst (ReadsAs r) (sym e) h

dump_rows : (m : ArgMatches) (rows : List Row) → rows_of (found_of m) ≡ rows → dump_options (λ id. first_of id rows) ≡ dump_options (first_value (found_of m))
dump_rows m rows e =
    let f = found_of m in
    rw (first_value-rows f (codes "format"), first_value-rows f (codes "db"), first_value-rows f (codes "file"), e) refl

pub dump_taken : (m : ArgMatches) (app : App) (words all : List Text) (r : Result DumpWords Refusal)
    → app ≡ dump_app → all ≡ codes "gdbm_dump" ∷ words → (fault_of app all ≡ []) × (rows_of (found_of m) ≡ matches_of app all)
    → ReadsAs r (dump_options (first_value (found_of m))) → ReadsAs r (dump_reading words)
dump_taken m app words all r is same h options =
    reads r (dump_reading words) _ (taken_by m app dump_app dump_options (codes "gdbm_dump" ∷ words) all (dump_rows m) is same h) options

load_rows : (m : ArgMatches) (rows : List Row) → rows_of (found_of m) ≡ rows → load_options (λ id. first_of id rows) ≡ load_options (first_value (found_of m))
load_rows m rows e =
    let f = found_of m in
    rw (
      first_value-rows f (codes "block"),
      first_value-rows f (codes "cache"),
      first_value-rows f (codes "replace"),
      first_value-rows f (codes "update"),
      first_value-rows f (codes "input"),
      first_value-rows f (codes "db"),
      e,
    ) refl

pub load_taken : (m : ArgMatches) (app : App) (words all : List Text) (r : Result LoadWords Refusal)
    → app ≡ load_app → all ≡ codes "gdbm_load" ∷ words → (fault_of app all ≡ []) × (rows_of (found_of m) ≡ matches_of app all)
    → ReadsAs r (load_options (first_value (found_of m))) → ReadsAs r (load_reading words)
load_taken m app words all r is same h options =
    reads r (load_reading words) _ (taken_by m app load_app load_options (codes "gdbm_load" ∷ words) all (load_rows m) is same h) options

tool_rows : (m : ArgMatches) (rows : List Row) → rows_of (found_of m) ≡ rows → tool_options (λ id. first_of id rows) ≡ tool_options (first_value (found_of m))
tool_rows m rows e =
    let f = found_of m in
    rw (
      first_value-rows f (codes "block"),
      first_value-rows f (codes "cache"),
      first_value-rows f (codes "reader"),
      first_value-rows f (codes "newdb"),
      first_value-rows f (codes "extended"),
      first_value-rows f (codes "db"),
      e,
    ) refl

pub tool_taken : (m : ArgMatches) (app : App) (words all : List Text) (r : Result ToolWords Refusal)
    → app ≡ tool_app → all ≡ codes "gdbmtool" ∷ words → (fault_of app all ≡ []) × (rows_of (found_of m) ≡ matches_of app all)
    → ReadsAs r (tool_options (first_value (found_of m))) → ReadsAs r (tool_reading words)
tool_taken m app words all r is same h options =
    reads r (tool_reading words) _ (taken_by m app tool_app tool_options (codes "gdbmtool" ∷ words) all (tool_rows m) is same h) options
