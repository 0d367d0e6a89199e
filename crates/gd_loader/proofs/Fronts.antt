-- A file that is read page by page, and what was read as a source.
use Rattle.std.proofs.Common.{◌≡◌, ◌∙◌, ap, ap₂, sym, subst, refl, ℕ, zero, suc, ◌+◌, ◌-◌, ◌^◌, ◌<◌, ◌≤◌, min, List, [], ◌∷◌, ◌++◌, take, drop, length, Some, Result, Ok, Err, IfOk, arith}
use Rattle.std.proofs.Math.Seq.{take-add, take-append_seam}
use Rattle.std.proofs.lemmas.List.{drop-drop, drop_all, length-take, take_min, take_rest, take-append-drop}
use Rattle.gd_base.specs.declared.errors.Failed.{Failed}
use Rattle.gd_vault.specs.Views.{OnlyAsks, ReadAt, View}
use Rattle.gd_loader.specs.Held.{AtFile, IsFront, readable_front}

-- a read from a place
pub gives : (bytes slice old new left : List ℕ) (at n : ℕ) → slice ≡ bytes → length new ≡ length old → drop at bytes ≡ left → at ≤ length bytes
    → n ≡ min (length old) (length (take (length slice - at) (drop at slice))) → take n new ≡ take n (take (length slice - at) (drop at slice))
    → (n ≤ length new) × (Some left ≡ Some (take n new ++ drop (at + n) bytes)) × (n ≡ 0 → 0 < length new → Some (drop (at + n) bytes) ≡ Some [])
gives bytes slice old new left at n same len view fits count front =
    let all : take (length slice - at) (drop at slice) ≡ left = take_rest slice at ∙ ap (drop at) same ∙ view in
    let more : drop (at + n) bytes ≡ drop n left = sym (drop-drop n at bytes) ∙ ap (drop n) view in
    let least : n ≡ min (length old) (length left) = count ∙ ap (λ l. min (length old) (length l)) all in (
      omega (arith, least, len),
      ap Some (sym (ap₂ (λ (a : List ℕ) b. a ++ b) (front ∙ ap (take n) all) more ∙ take-append-drop n left)),
      λ none some. ap Some (more ∙ drop_all n left (omega (arith, least, none, some, len))),
    )

take_front : (n : ℕ) (file : List ℕ) → IsFront (take n file) file
take_front n file = sym (take_min n file) ∙ ap (λ (k : ℕ). take k file) (sym (length-take n file))

take_less : (a b : ℕ) (xs : List ℕ) → a ≤ b → take a (take b xs) ≡ take a xs
take_less zero b xs le = refl
take_less (suc a) zero xs le = absurd (omega (arith, le))
take_less (suc a) (suc b) [] le = refl
take_less (suc a) (suc b) (x ∷ xs) le = ap (λ (t : List ℕ). x ∷ t) (take_less a b xs (omega (arith, le)))

-- a front of a file, and the bytes behind it that stand in the front of a page
pub front_more : (n room at : ℕ) (old page new file : List ℕ) → IsFront old file → at ≡ length old → n ≤ room → new ≡ old ++ take n page
    → take n (take room page) ≡ take n (drop at file) → IsFront new file
front_more n room at old page new file front place small is same =
    let behind : take n page ≡ take n (drop (length old) file) = sym (take_less n room page small) ∙ (same ∙ ap (λ (k : ℕ). take n (drop k file)) place) in
    let joined : new ≡ take (length old + n) file = is ∙ (ap₂ (λ (a b : List ℕ). a ++ b) front behind ∙ sym (take-add (length old) n file)) in
    subst (λ (bs : List ℕ). IsFront bs file) (sym joined) (take_front (length old + n) file)

-- where no more came all that is read of a file was read
pub front_whole : (n room held at : ℕ) (old file : List ℕ) → IsFront old file → length old ≤ 2 ^ 32 → held ≡ length old → at ≡ length old
    → room ≡ min 4096 (2 ^ 32 - held) → n ≡ min room (length file - at) → n ≡ 0 → old ≡ readable_front file
front_whole n room held at old file front few here place at_most is none =
    let inside : length old ≡ min (length old) (length file) = ap length front ∙ length-take (length old) file in
    let size : length old ≡ min (2 ^ 32) (length file) = omega (arith, inside, few, here, place, at_most, is, none) in
    front ∙ (ap (λ (k : ℕ). take k file) size ∙ take_min (2 ^ 32) file)

-- a read into the front of a page
pub front_read : (r : Result ℕ Failed) (u v : View) (f at room : ℕ) (buf new rest : List ℕ) → length buf ≡ room → length new ≡ room → ReadAt f at buf new r u v
    → IfOk r (λ n. AtFile u f (λ file. (n ≡ min room (length file - at)) × (take n (take room (new ++ rest)) ≡ take n (drop at file))))
front_read (Ok n) u v f at room buf new rest size width a = λ d told x is.
    let read = a.bytes d x told is in
    let front : take room (new ++ rest) ≡ new = ap (λ (k : ℕ). take k (new ++ rest)) (sym width) ∙ take-append_seam new rest in
    (read.0 ∙ ap (λ (k : ℕ). min k (length x.bytes - at)) size, ap (take n) front ∙ read.1)
front_read (Err e) u v f at room buf new rest size width a = tt

-- ---- calls that ask

pub asks_on : (u v w : View) → OnlyAsks u v → OnlyAsks v w → OnlyAsks u w
asks_on u v w a b =
    let one = a.later in
    let two = b.later in
    record { told = b.told ∙ a.told; later = omega (arith, one, two); bytes_written = b.bytes_written ∙ a.bytes_written; clones = b.clones ∙ a.clones }
