-- What a reader of words returned, against what the words mean.
use Rattle.std.specs.Prelude.{◌≡◌, Option, Some, None, Result, Ok, Err, List, [], ◌∷◌, map}
use Rattle.std.specs.Borrow.{Bor}
use Rattle.clap.specs.Words.{App, Kinds, Text, fault_of, found_of, matches_of, rows_of}
use Rattle.clap.specs.declared.parser.matches.ArgMatches.{ArgMatches}
use Rattle.gd_words.specs.declared.matching.Refusal.{Refusal}
use Rattle.gd_words.specs.declared.matching.Refusal.TheVariants.{Usage, Memory}

abbrev pub texts : List (Bor Text) → List Text
texts = map (λ s. s.now)

-- `Usage` only where the words are refused; want of memory is free
abbrev pub Refuses : {X : Type 0} → Refusal → Option X → Type 0
Refuses Usage meant = meant ≡ None
Refuses Memory meant = Unit {0}

abbrev pub ReadsAs : {X : Type 0} → Result X Refusal → Option X → Type 0
ReadsAs (Ok x) meant = meant ≡ Some x
ReadsAs (Err e) meant = Refuses e meant

-- there is a fault
abbrev pub IsFaulty : Kinds → Type 0
IsFaulty [] = ⊥
IsFaulty _ = Unit {0}

abbrev pub FailsAs : Refusal → Kinds → Type 0
FailsAs Usage kinds = IsFaulty kinds
FailsAs Memory kinds = Unit {0}

-- the matches that the command defines for the words, or a refusal where it refuses them
abbrev pub ParsesAs : App → List Text → Result ArgMatches Refusal → Type 0
ParsesAs app words (Ok m) = (fault_of app words ≡ []) × (rows_of (found_of m) ≡ matches_of app words)
ParsesAs app words (Err e) = FailsAs e (fault_of app words)
