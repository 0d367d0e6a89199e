-- Calls for the next item, over what was read in them.
use Rattle.std.proofs.Common.{inl, inr, ◌≡◌, ◌∙◌, ap, sym, subst, refl, ℕ, ◌+◌, List, [], ◌++◌, length, length-append, append_assoc, Bool, true, false, Option, Some, None, Result, Ok, Err, arith}
use Rattle.std.specs.Prelude.{◌⊎◌}
use Rattle.gd_dump_reading.specs.Readers.{left_by, taken_by}
use Rattle.gd_dump_reading.specs.Told.{NoneEnds, given}
use Rattle.gd_dump_reading.specs.declared.items.Item.{Item}
use Rattle.gd_dump_reading.specs.declared.machine.Machine.{Ghosts}
use Rattle.gd_dump_reading.specs.declared.reader.Reader.{Reader}
use Rattle.gd_load.specs.Items.{Counts, FeedsPage, FinishesPage, Gives, ReadOn, StillTold, incoming_left, waiting}
use Rattle.gd_load.specs.declared.incoming.Incoming.{Incoming}
use Rattle.gd_load.specs.declared.incoming.Stop.{Stop}
use Rattle.gd_load.specs.declared.incoming.Stop.TheVariants.{Refused, InputFailed, TooLong, Starved}
use Rattle.gd_load.proofs.Pages.{front-none, waits-none}

-- these bytes were read, and the same dump is told
pub record Onward {M : Type 0} {g : Ghosts M} (old new : Incoming M g) (bytes : List ℕ) : Type 0 where
  pub counts : Counts old new bytes
  pub same : (rest : List ℕ) → incoming_left old (bytes ++ rest) ≡ incoming_left new rest

pub onward-first : {M : Type 0} {g : Ghosts M} (i : Incoming M g) (told : Option (List ℕ)) → ReadOn told told (Onward i i)
onward-first i told = record {
  bytes = [];
  front = front-none told [] refl;
  says = record { counts = record { read = omega arith; stays = λ ended. (refl, ended) }; same = λ rest. refl };
}

counts-on : {M : Type 0} {g : Ghosts M} (old i j : Incoming M g) (bytes : List ℕ) → Counts old i bytes → j.read ≡ i.read → j.ended ≡ i.ended → Counts old j bytes
counts-on old i j bytes counts read ended = record {
  read = read ∙ counts.read;
  stays = λ is. (let s = counts.stays is in s.0, ended ∙ (counts.stays is).1);
}

-- a page was fed, without an item
pub fed-none : {M : Type 0} {g : Ghosts M} (i j : Incoming M g) (item : Option Item) → item ≡ None → FeedsPage i j (Ok item) → FeedsPage i j (Ok None)
fed-none i j item is fed = subst (λ (x : Option Item). FeedsPage i j (Ok x)) is fed

pub onward-fed : {M : Type 0} {g : Ghosts M} (old i j : Incoming M g) (bytes : List ℕ) → Onward old i bytes → FeedsPage i j (Ok None) → j.read ≡ i.read → j.ended ≡ i.ended → Onward old j bytes
onward-fed old i j bytes on fed read ended = record {
  counts = counts-on old i j bytes on.counts read ended;
  same = λ rest. on.same rest ∙ fed.2 rest;
}

ended-going : (b : Bool) → b ≡ true → b ≡ false → ⊥
ended-going true on off = cc
ended-going false on off = cc

-- and another was read
pub onward-turned : {M : Type 0} {g : Ghosts M} (old j k : Incoming M g) (bytes : List ℕ) → Onward old j bytes → j.at ≡ j.end → j.ended ≡ false → k.reader ≡ j.reader → k.read ≡ j.read + length (waiting k)
    → Onward old k (bytes ++ waiting k)
onward-turned {g = g} old j k bytes on all going reader read = record {
  counts = record {
    read = omega (arith, read, on.counts.read, length-append bytes (waiting k));
    stays = λ is. absurd (ended-going j.ended (on.counts.stays is).1 going);
  };
  same = λ rest.
      ap (incoming_left old) (append_assoc bytes (waiting k) rest)
      ∙ on.same (waiting k ++ rest)
      ∙ ap (λ (t : List ℕ). left_by g.left j.reader (t ++ (waiting k ++ rest))) (waits-none j.at j.end j.page all)
      ∙ ap (λ r. left_by g.left r (waiting k ++ rest)) (sym reader);
}

-- nothing came, and the reader stays
pub onward-stopped : {M : Type 0} {g : Ghosts M} (old j k : Incoming M g) (bytes : List ℕ) → Onward old j bytes → j.at ≡ j.end → k.at ≡ k.end → k.ended ≡ false → k.reader ≡ j.reader → k.read ≡ j.read → j.ended ≡ false
    → Onward old k bytes
onward-stopped {g = g} old j k bytes on all none ended reader read going = record {
  counts = counts-on old j k bytes on.counts read (ended ∙ sym going);
  same = λ rest.
      on.same rest
      ∙ ap (λ (t : List ℕ). left_by g.left j.reader (t ++ rest)) (waits-none j.at j.end j.page all ∙ sym (waits-none k.at k.end k.page none))
      ∙ ap (λ r. left_by g.left r (waiting k ++ rest)) (sym reader);
}

-- ---- answers

still-told : {M : Type 0} {g : Ghosts M} (old j k : Incoming M g) (bytes : List ℕ) → Onward old k bytes → j.at ≡ j.end → NoneEnds (left_by g.left j.reader) (taken_by g.taken j.reader) → j.reader.stop ≡ None → k.reader ≡ j.reader
    → k.read ≡ j.read → k.ended ≡ false → StillTold old k bytes
still-told {M = M} {g = g} old j k bytes on all none going reader read ended =
    let taken : taken_by g.taken j.reader ≡ j.read = omega (arith, j.exact going, all) in
    record {
      same = on.same;
      none = subst (λ (r : Reader M). NoneEnds (left_by g.left r) (taken_by g.taken r)) (sym reader) none;
      all = ap (λ (r : Reader M). taken_by g.taken r) reader ∙ taken ∙ sym read;
      going = ap (λ (r : Reader M). r.stop) reader ∙ going;
      more = ended;
    }

still-gives : {M : Type 0} {g : Ghosts M} (old k : Incoming M g) (bytes : List ℕ) (stop : Stop) → (stop ≡ InputFailed) ⊎ (stop ≡ TooLong) → StillTold old k bytes → Gives old k bytes (Err stop)
still-gives old k bytes stop (inl is) still = subst (λ (s : Stop). Gives old k bytes (Err s)) (sym is) still
still-gives old k bytes stop (inr is) still = subst (λ (s : Stop). Gives old k bytes (Err s)) (sym is) still

pub gives-failed : {M : Type 0} {g : Ghosts M} (old i j k : Incoming M g) (bytes : List ℕ) (stop : Stop) → Onward old i bytes → FeedsPage i j (Ok None) → j.read ≡ i.read → j.ended ≡ i.ended → j.ended ≡ false → j.reader.stop ≡ None
    → k.at ≡ k.end → k.ended ≡ false → k.reader ≡ j.reader → k.read ≡ j.read → (stop ≡ InputFailed) ⊎ (stop ≡ TooLong) → Counts old k bytes × Gives old k bytes (Err stop)
gives-failed old i j k bytes stop on fed read ended going calm none more reader same kind =
    let then : Onward old k bytes = onward-stopped old j k bytes (onward-fed old i j bytes on fed read ended) fed.0 none more reader same going in
    (then.counts, still-gives old k bytes stop kind (still-told old j k bytes then fed.0 fed.1 calm reader same more))

pub gives-item : {M : Type 0} {g : Ghosts M} (old i j : Incoming M g) (bytes : List ℕ) (item : Item) → Onward old i bytes → FeedsPage i j (Ok (Some item)) → j.read ≡ i.read → j.ended ≡ i.ended
    → Counts old j bytes × Gives old j bytes (Ok (Some item))
gives-item old i j bytes item on fed read ended = (counts-on old i j bytes on.counts read ended, λ rest may. on.same rest ∙ fed rest)

pub gives-stop : {M : Type 0} {g : Ghosts M} (old i j : Incoming M g) (bytes : List ℕ) (stop : Stop) → Onward old i bytes → FeedsPage i j (Err stop) → j.read ≡ i.read → j.ended ≡ i.ended
    → Counts old j bytes × Gives old j bytes (Err stop)
gives-stop old i j bytes (Refused kind place) on fed read ended = (counts-on old i j bytes on.counts read ended, λ rest may. on.same rest ∙ fed rest)
gives-stop old i j bytes InputFailed on fed read ended = absurd fed
gives-stop old i j bytes TooLong on fed read ended = absurd fed
gives-stop old i j bytes Starved on fed read ended = (counts-on old i j bytes on.counts read ended, tt)

finish-gives : {M : Type 0} {g : Ghosts M} (old j k : Incoming M g) (bytes : List ℕ) (r : Result (Option Item) Stop) → ((rest : List ℕ) → incoming_left old (bytes ++ rest) ≡ incoming_left j rest) → FinishesPage j k r → k.ended ≡ true
    → Gives old k bytes r
finish-gives {g = g} old j k bytes (Ok (Some item)) same finish ended =
    λ rest may. subst (λ (t : List ℕ). incoming_left old (bytes ++ t) ≡ given item (taken_by g.taken k.reader) (incoming_left k t)) (sym (may ended)) (same [] ∙ finish)
finish-gives old j k bytes (Ok None) same finish ended = (ended, same [] ∙ finish)
finish-gives old j k bytes (Err (Refused kind place)) same finish ended = λ rest may. ap (λ (t : List ℕ). incoming_left old (bytes ++ t)) (may ended) ∙ same [] ∙ finish
finish-gives old j k bytes (Err InputFailed) same finish ended = absurd finish
finish-gives old j k bytes (Err TooLong) same finish ended = absurd finish
finish-gives old j k bytes (Err Starved) same finish ended = absurd finish

pub gives-last : {M : Type 0} {g : Ghosts M} (old j k : Incoming M g) (bytes : List ℕ) (r : Result (Option Item) Stop) → Onward old j bytes → FinishesPage j k r → k.read ≡ j.read → k.ended ≡ j.ended → j.ended ≡ true
    → Counts old k bytes × Gives old k bytes r
gives-last old j k bytes r on finish read ended is = (counts-on old j k bytes on.counts read ended, finish-gives old j k bytes r on.same finish (ended ∙ is))
