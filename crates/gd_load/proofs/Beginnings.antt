-- The beginning of a load: what a dump begins with, and what its head makes of the bytes that were read.
use Rattle.std.proofs.Common.{inr, ◌≡◌, ◌∙◌, ap, sym, subst, refl, ℕ, zero, suc, ◌+◌, ◌-◌, ◌≤◌, ◌^◌, List, [], ◌∷◌, ◌++◌, length, length-append, append_assoc, codes, not, Bool, true, false, cond, Option, Some, None, Result, Ok, Err, eqb, arith}
use Rattle.std.specs.Prelude.{option_map}
use Rattle.std.proofs.lemmas.Bool.{cond-true, cond-false}
use Rattle.std.specs.List.{starts_with}
use Rattle.std.specs.Str.{bytes_eq}
use Rattle.gd_dump_reading.specs.AsciiItems.{Line, Section, ascii_items, and_named, from_start, is_comment, lines_in, named_told, parted, size_of, unless_body}
use Rattle.gd_dump_reading.specs.BinaryItems.{binary_items, head_line_told, head_told, pairs_told}
use Rattle.gd_dump_reading.specs.Lines.{first_line}
use Rattle.gd_dump_reading.specs.Params.{Named, no_names, with_line}
use Rattle.gd_dump_reading.specs.Readers.{left_by}
use Rattle.gd_dump_reading.specs.Told.{EndBehind, Told, given, refused}
use Rattle.gd_dump_reading.specs.declared.items.DumpHead.{DumpHead}
use Rattle.gd_dump_reading.specs.declared.items.DumpKind.{DumpKind}
use Rattle.gd_dump_reading.specs.declared.items.Item.{Item}
use Rattle.gd_dump_reading.specs.declared.items.Item.TheVariants.{Head, Pair, End}
use Rattle.gd_dump_reading.specs.declared.machine.Machine.{Ghosts}
use Rattle.gd_load.specs.Front.{Begins, Counted, GivesHead, HasTaken, HeadCame, IsDump, IsHead, Starts, dump_told, front_ended, front_left, front_read, front_stop, front_taken, taken_in}
use Rattle.gd_load.specs.Items.{Counts, EndsWith, Gives, MayCome, ReadOn, StillTold, StopsFor, incoming_left, waiting}
use Rattle.gd_load.specs.declared.front.Begun.{Begun}
use Rattle.gd_load.specs.declared.front.Front.{Front}
use Rattle.gd_load.specs.declared.incoming.Incoming.{Incoming}
use Rattle.gd_load.specs.declared.incoming.Stop.{Stop}
use Rattle.gd_load.specs.declared.incoming.Stop.TheVariants.{Refused, InputFailed, TooLong, Starved}
use Rattle.gd_load.proofs.Pages.{front-then, take-few}

-- ---- a dump begins with a head, or is refused

pub record Dump (t : Told) : Type 0 where
  pub is : IsDump t

no-head : (kind : DumpKind) (place : ℕ) → Dump (refused kind place)
no-head kind place = record { is = tt }

a-head : (h : DumpHead) (end : ℕ) (t : Told) → Dump (given (Head h) end t)
a-head h end t = record { is = tt }

either : (b : Bool) (x y : Told) → Dump x → Dump y → Dump (cond b x y)
either true x y first second = first
either false x y first second = second

no-body : (place : ℕ) (body : List Line) (t : Told) → Dump t → Dump (unless_body place body t)
no-body place [] t dump = dump
no-body place (l ∷ ls) t dump = no-head _ place

after-names : (place : ℕ) (read : Result Named DumpKind) (next : Named → Told) → ((h : Named) → Dump (next h)) → Dump (and_named place read next)
after-names place (Ok named) next dump = dump named
after-names place (Err kind) next dump = no-head kind place

named-dump : (named : Named) (place : ℕ) (ss : List Section) → Dump (named_told named place ss)
named-dump named place [] = no-head _ place
named-dump named place (s ∷ ss) =
    let next = place + size_of s.line in
    let text = s.line.text in
    either (not (is_comment text)) _ _
    (after-names place (with_line named s.line.ended text) _ (λ h. no-body next s.body _ (named-dump h next ss)))
    (either (bytes_eq text (codes "# End of header")) _ _
    (either named.version _ _ (a-head _ next _) (no-head _ place))
    (no-body next s.body _ (named-dump named next ss)))

start-dump : (lines : List Line × List Section) → Dump (from_start lines)
start-dump ([], sections) = named-dump no_names 0 sections
start-dump (l ∷ ls, sections) = no-head _ 0

pub ascii-dump : (bytes : List ℕ) → Dump (ascii_items bytes)
ascii-dump bytes = start-dump (parted (lines_in bytes))

line-dump : (k place : ℕ) (line : List ℕ) (after : Option (List ℕ)) (next : ℕ → List ℕ → Told) → ((p : ℕ) (rest : List ℕ) → Dump (next p rest)) → Dump (head_line_told k place line after next)
line-dump k place line None next dump = either _ _ _ (no-head _ _) (no-head _ _)
line-dump k place line (Some rest) next dump = either _ _ _ (dump _ rest) (no-head _ _)

head-dump : (k place : ℕ) (bytes : List ℕ) → Dump (head_told pairs_told k place bytes)
head-dump zero place bytes = a-head _ place _
head-dump (suc k) place bytes = line-dump k place (first_line bytes).0 (first_line bytes).1 (head_told pairs_told k) (head-dump k)

pub binary-dump : (bytes : List ℕ) → Dump (binary_items bytes)
binary-dump bytes = head-dump 4 0 bytes

-- the first item is a head
some-head : {M : Type 0} {g : Ghosts M} (old new : Incoming M g) (bytes : List ℕ) (item : Item) → ((rest : List ℕ) → IsDump (incoming_left old rest)) → Gives old new bytes (Ok (Some item)) → IsHead item
some-head old new bytes (Head h) dump gives = tt
some-head old new bytes (Pair k v) dump gives = (subst Dump (gives [] (λ ended. refl)) (record { is = dump (bytes ++ []) })).is
some-head old new bytes End dump gives = (subst Dump (gives [] (λ ended. refl)) (record { is = dump (bytes ++ []) })).is

pub is-head : {M : Type 0} {g : Ghosts M} (old new : Incoming M g) (bytes : List ℕ) (found : Option Item) (item : Item) → ((rest : List ℕ) → IsDump (incoming_left old rest)) → found ≡ Some item → Gives old new bytes (Ok found) → IsHead item
is-head old new bytes found item dump is gives = some-head old new bytes item dump (subst (λ (x : Option Item). Gives old new bytes (Ok x)) is gives)

-- and not the end
pub no-end : {M : Type 0} {g : Ghosts M} (old new : Incoming M g) (bytes : List ℕ) (found : Option Item) → ((rest : List ℕ) → IsDump (incoming_left old rest)) → found ≡ None → Gives old new bytes (Ok found) → ⊥
no-end old new bytes found dump is gives = (subst Dump (subst (λ (x : Option Item). Gives old new bytes (Ok x)) is gives).1 (record { is = dump (bytes ++ []) })).is

pub gives-head : {M : Type 0} {g : Ghosts M} (old new : Incoming M g) (before now : Option (List ℕ)) (found : Option Item) (h : DumpHead) (item : Item) → found ≡ Some item → item ≡ Head h
    → ReadOn before now (λ bytes. Counts old new bytes × Gives old new bytes (Ok found)) → ReadOn before now (λ bytes. Counts old new bytes × GivesHead old new bytes (Ok h))
gives-head old new before now found h item is head read = record {
  bytes = read.bytes;
  front = read.front;
  says = (read.says.0, subst (λ (x : Option Item). Gives old new read.bytes (Ok x)) (is ∙ ap (λ (i : Item). Some i) head) read.says.1);
}

-- ---- the first byte chooses

pub binary-chosen : (xs more : List ℕ) → starts_with eqb xs (codes "!") ≡ true → dump_told (xs ++ more) ≡ binary_items (xs ++ more)
binary-chosen [] more is = absurd (cc)
binary-chosen (x ∷ xs) more is = cond-true (starts_with eqb (x ∷ (xs ++ more)) (codes "!")) (binary_items (x ∷ (xs ++ more))) (ascii_items (x ∷ (xs ++ more))) is

pub ascii-chosen : (xs more : List ℕ) → starts_with eqb xs (codes "!") ≡ false → (xs ≡ [] → more ≡ []) → dump_told (xs ++ more) ≡ ascii_items (xs ++ more)
ascii-chosen [] more isnt none = subst (λ (t : List ℕ). dump_told t ≡ ascii_items t) (sym (none refl)) refl
ascii-chosen (x ∷ xs) more isnt none = cond-false (starts_with eqb (x ∷ (xs ++ more)) (codes "!")) (binary_items (x ∷ (xs ++ more))) (ascii_items (x ∷ (xs ++ more))) isnt

-- ---- behind the first page

-- these bytes were read, and are read as a dump of this kind
pub record Chosen {M : Type 0} {g : Ghosts M} (told : List ℕ → Told) (old : Incoming M g) (xs : List ℕ) : Type 0 where
  pub left : (rest : List ℕ) → incoming_left old rest ≡ told (xs ++ rest)
  pub kind : (more : List ℕ) → (old.ended ≡ true → more ≡ []) → dump_told (xs ++ more) ≡ told (xs ++ more)
  pub read : old.read ≡ length xs

told-on : {M : Type 0} {g : Ghosts M} (told : List ℕ → Told) (old n : Incoming M g) (xs bytes rest : List ℕ) → Chosen told old xs → Counts old n bytes → MayCome n.ended rest
    → dump_told ((xs ++ bytes) ++ rest) ≡ incoming_left old (bytes ++ rest)
told-on told old n xs bytes rest chosen counts may =
    ap dump_told (append_assoc xs bytes rest)
    ∙ chosen.kind (bytes ++ rest) (λ is. ap (λ (t : List ℕ). t ++ rest) (counts.stays is).0 ∙ may (counts.stays is).1)
    ∙ sym (chosen.left (bytes ++ rest))

size-on : {M : Type 0} {g : Ghosts M} (told : List ℕ → Told) (old n : Incoming M g) (xs bytes : List ℕ) → Chosen told old xs → Counts old n bytes → n.read ≡ length (xs ++ bytes)
size-on told old n xs bytes chosen counts = omega (arith, chosen.read, counts.read, length-append xs bytes)

pub head-came : {M : Type 0} {g : Ghosts M} (told : List ℕ → Told) (old n : Incoming M g) (xs bytes : List ℕ) (b : Begun) → Chosen told old xs → Counts old n bytes → Gives old n bytes (Ok (Some (Head b.head)))
    → ((rest : List ℕ) → front_left b.front rest ≡ incoming_left n rest) → b.place ≡ taken_in n → front_taken b.front ≡ taken_in n → front_read b.front ≡ n.read → front_ended b.front ≡ n.ended → HeadCame (xs ++ bytes) n.ended b
head-came told old n xs bytes b chosen counts gives left place taken read ended = record {
  told = λ rest may.
      told-on told old n xs bytes rest chosen counts may
      ∙ gives rest may
      ∙ ap (λ (p : ℕ). given (Head b.head) p (incoming_left n rest)) (sym place)
      ∙ ap (given (Head b.head) b.place) (sym (left rest));
  place = place ∙ sym taken;
  read = read ∙ size-on told old n xs bytes chosen counts;
  ended = ended;
}

going-on : (b : Bool) → b ≡ false → b ≡ true → ⊥
going-on true off on = cc
going-on false off on = cc

has-taken : {M : Type 0} {g : Ghosts M} (told : List ℕ → Told) (old n : Incoming M g) (xs bytes : List ℕ) (front : Front) → Chosen told old xs → Counts old n bytes → StillTold old n bytes
    → ((rest : List ℕ) → front_left front rest ≡ incoming_left n rest) → front_taken front ≡ taken_in n → front_stop front ≡ n.reader.stop → HasTaken (xs ++ bytes)
has-taken {g = g} told old n xs bytes front chosen counts still left taken stop =
    let size : taken_in n ≡ length (xs ++ bytes) = still.all ∙ size-on told old n xs bytes chosen counts in
    let same : (rest : List ℕ) → dump_told ((xs ++ bytes) ++ rest) ≡ incoming_left n rest = λ rest. told-on told old n xs bytes rest chosen counts (λ is. absurd (going-on n.ended still.more is)) ∙ still.same rest in
    let none : waiting n ≡ [] = take-few (n.end - n.at) _ (omega (arith, still.all, n.taken)) in
    record {
      front = front;
      still = λ rest. same rest ∙ sym (left rest);
      taken = taken ∙ size;
      going = stop ∙ still.going;
      none = λ rest some.
          subst (λ (t : Told). EndBehind (length (xs ++ bytes)) t.items) (sym (same rest ∙ ap (λ (t : List ℕ). left_by g.left n.reader (t ++ rest)) none))
          (subst (λ (k : ℕ). EndBehind k (left_by g.left n.reader rest).items) size (still.none rest some));
    }

pub stop-begins : {M : Type 0} {g : Ghosts M} (told : List ℕ → Told) (old n : Incoming M g) (xs bytes : List ℕ) (front : Front) (stop : Stop) (before now : ℕ) → Chosen told old xs → Counts old n bytes → Gives old n bytes (Err stop)
    → StopsFor stop before now n.read → ((rest : List ℕ) → front_left front rest ≡ incoming_left n rest) → front_taken front ≡ taken_in n → front_stop front ≡ n.reader.stop → Begins (xs ++ bytes) n.ended (Err stop)
stop-begins told old n xs bytes front (Refused kind place) before now chosen counts gives cause left taken stop = λ rest may. told-on told old n xs bytes rest chosen counts may ∙ gives rest may
stop-begins told old n xs bytes front InputFailed before now chosen counts gives cause left taken stop = inr (has-taken told old n xs bytes front chosen counts gives left taken stop)
stop-begins told old n xs bytes front TooLong before now chosen counts gives cause left taken stop =
    (has-taken told old n xs bytes front chosen counts gives left taken stop, sym (size-on told old n xs bytes chosen counts) ∙ cause.1)
stop-begins told old n xs bytes front Starved before now chosen counts gives cause left taken stop = tt

pub started : {M : Type 0} {g : Ghosts M} (told : List ℕ → Told) (old n : Incoming M g) (xs bytes : List ℕ) (a b o : Option (List ℕ)) (result : Result Begun Stop) → Chosen told old xs → Counts old n bytes
    → a ≡ option_map (λ (rest : List ℕ). xs ++ rest) b → b ≡ option_map (λ (rest : List ℕ). bytes ++ rest) o → n.read ≤ 2 ^ 32 → EndsWith n.ended o → Begins (xs ++ bytes) n.ended result → Starts a o result
started told old n xs bytes a b o result chosen counts first second few ends begins = record {
  bytes = xs ++ bytes;
  front = front-then a b o xs bytes first second;
  says = record { few = subst (λ (k : ℕ). k ≤ 2 ^ 32) (size-on told old n xs bytes chosen counts) few; ended = n.ended; ends = ends; begins = begins };
}

pub stop-counted : (T : Type 0) (stop : Stop) (first before now read : ℕ) → before ≡ first → StopsFor stop before now read → Counted {T = T} (Err stop) first now
stop-counted T (Refused kind place) first before now read same cause = cause ∙ same
stop-counted T InputFailed first before now read same cause = subst (λ (k : ℕ). Counted {T = T} (Err InputFailed) k now) same cause
stop-counted T TooLong first before now read same cause = cause.0 ∙ same
stop-counted T Starved first before now read same cause = cause ∙ same

-- the first page, and what it is read as
pub fresh-left : {M : Type 0} {g : Ghosts M} (told : List ℕ → Told) (i k : Incoming M g) → ((bytes : List ℕ) → incoming_left i bytes ≡ told bytes) → i.at ≡ i.end → k.reader ≡ i.reader → (rest : List ℕ) → incoming_left k rest ≡ told (waiting k ++ rest)
fresh-left {g = g} told i k left all reader rest =
    ap (λ r. left_by g.left r (waiting k ++ rest)) reader
    ∙ ap (λ (t : List ℕ). left_by g.left i.reader (t ++ (waiting k ++ rest))) (sym (take-few (i.end - i.at) _ (omega (arith, all))))
    ∙ left (waiting k ++ rest)

pub chosen-binary : {M : Type 0} {g : Ghosts M} (old : Incoming M g) (xs : List ℕ) → ((rest : List ℕ) → incoming_left old rest ≡ binary_items (xs ++ rest)) → starts_with eqb xs (codes "!") ≡ true → old.read ≡ length xs → Chosen binary_items old xs
chosen-binary old xs left is read = record { left = left; kind = λ more none. binary-chosen xs more is; read = read }

pub chosen-ascii : {M : Type 0} {g : Ghosts M} (old : Incoming M g) (xs : List ℕ) → ((rest : List ℕ) → incoming_left old rest ≡ ascii_items (xs ++ rest)) → starts_with eqb xs (codes "!") ≡ false → old.read ≡ length xs
    → length xs ≡ old.end - old.at → (old.at ≡ old.end → old.ended ≡ true) → Chosen ascii_items old xs
chosen-ascii old xs left isnt read size last = record {
  left = left;
  kind = λ more none. ascii-chosen xs more isnt (λ empty. none (last (omega (arith, old.within, size, ap (λ (t : List ℕ). length t) empty))));
  read = read;
}
