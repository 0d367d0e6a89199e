-- Lines from pieces of a source.
use Rattle.std.proofs.Common.{◌≡◌, ℕ, zero, suc, ◌+◌, ◌<◌, ◌==◌, ◌||◌, Bool, true, false, List, [], ◌∷◌, ◌++◌, length, take, drop, get_or, Option, Some, None, option_map, Ok, Err, refl, sym, ap, subst, ◌∙◌, arith, length-append}
use Rattle.std.proofs.lemmas.Bool.{eqb-true}
use Rattle.std.proofs.lemmas.List.{append-nil, append_assoc, drop-drop, take-append-drop}
use Rattle.std.proofs.Math.Seq.{drop-cons}
use Rattle.memchr.specs.Find.{IsFirstByte, is_byte}
use Rattle.gd_script.specs.Lines.{has_feed}
use Rattle.gd_script.specs.Reading.{Began, FailsOnce, Gives, LastIs, PartsFront, Reading, Refills, Takes, TakesFront}
use Rattle.gd_script.specs.declared.ending.Ending.{Ending}
use Rattle.gd_script.specs.declared.ending.Ending.TheVariants.{Read, InputFailed, TooLong, OutputFailed, ErrorFailed, Starved}
use Rattle.gd_script.specs.declared.reader.Next.{Next}
use Rattle.gd_script.specs.declared.reader.Next.TheVariants as next
use Rattle.gd_script.proofs.Cutting.{or_false}

plain_by : (a b : Bool) → (a ≡ true → ⊥) → b ≡ false → a || b ≡ false
plain_by true b h e = absurd (h refl)
plain_by false b h e = e

-- no byte of a front is a line feed
plain_take : (n : ℕ) (bytes : List ℕ) → ((k : ℕ) → k < n → k < length bytes → (get_or bytes k 0 == 10) ≡ true → ⊥) → has_feed (take n bytes) ≡ false
plain_take zero bytes h = refl
plain_take (suc n) [] h = refl
plain_take (suc n) (b ∷ bytes) h =
    plain_by (b == 10) (has_feed (take n bytes)) (h 0 (omega arith) (omega arith))
    (plain_take n bytes (λ k less le is. h (suc k) (omega (arith, less)) (omega (arith, le)) is))

plain_all : (bytes : List ℕ) → ((k : ℕ) → k < length bytes → (get_or bytes k 0 == 10) ≡ true → ⊥) → has_feed bytes ≡ false
plain_all [] h = refl
plain_all (b ∷ bytes) h =
    plain_by (b == 10) (has_feed bytes) (h 0 (omega arith)) (plain_all bytes (λ k less is. h (suc k) (omega (arith, less)) is))

pub front_all : (rest line line' : List ℕ) → IsFirstByte (is_byte 10) rest None → line' ≡ line ++ rest → TakesFront None rest line line'
front_all rest line line' h is = (plain_all rest (λ k less here. h k (omega arith) less here), is)

pub front_some : (n : ℕ) (rest line line' : List ℕ) → IsFirstByte (is_byte 10) rest (Some n) → line' ≡ line ++ take n rest → TakesFront (Some n) rest line line'
front_some n rest line line' h is =
    let here : get_or rest n 0 ≡ 10 = eqb-true (get_or rest n 0) 10 h.1 in
    let more : suc n ≡ n + 1 = omega arith in
    let cons : drop n rest ≡ 10 ∷ drop (n + 1) rest =
    drop-cons rest n 0 h.0.high ∙ ap (λ (b : ℕ). b ∷ drop (suc n) rest) here ∙ ap (λ (k : ℕ). 10 ∷ drop k rest) more in (
      h.0.high,
      plain_take n rest (λ k less inside pass. h.0.before k (omega arith) less pass),
      sym (take-append-drop n rest) ∙ ap (λ (bs : List ℕ). take n rest ++ bs) cons,
      is,
    )

-- ---- the front of what waits

pub parted_some : (piece rest line line' : List ℕ) (at at' n : ℕ) → rest ≡ drop at piece → TakesFront (Some n) rest line line' → at' ≡ at + (n + 1)
    → PartsFront true (drop at piece) (drop at' piece) line line'
parted_some piece rest line line' at at' n is t place =
    let behind : drop (n + 1) rest ≡ drop at' piece = ap (drop (n + 1)) is ∙ (drop-drop (n + 1) at piece ∙ ap (λ (k : ℕ). drop k piece) (sym place)) in
    (take n rest, t.1, sym is ∙ (t.2 ∙ ap (λ (bs : List ℕ). take n rest ++ 10 ∷ bs) behind), t.3)

pub parted_none : (piece rest line line' : List ℕ) (at at' : ℕ) → rest ≡ drop at piece → TakesFront None rest line line' → drop at' piece ≡ []
    → PartsFront false (drop at piece) (drop at' piece) line line'
parted_none piece rest line line' at at' is t empty =
    (subst (λ (bs : List ℕ). has_feed bs ≡ false) is t.0, empty, t.1 ∙ ap (λ (bs : List ℕ). line ++ bs) is)

-- ---- bytes that were taken

same_told : (o : Option (List ℕ)) → o ≡ option_map (λ (xs : List ℕ). xs) o
same_told None = refl
same_told (Some xs) = refl

pub takes_none : (a b : Reading) → b.left ≡ a.left → b.taken ≡ a.taken → Takes [] a b
takes_none a b left taken = record { left = sym left ∙ same_told b.left; taken = taken ∙ omega arith }

pub told_twice : (xs ys : List ℕ) (o : Option (List ℕ)) → option_map (λ (zs : List ℕ). xs ++ zs) (option_map (λ (zs : List ℕ). ys ++ zs) o) ≡ option_map (λ (zs : List ℕ). (xs ++ ys) ++ zs) o
told_twice xs ys None = refl
told_twice xs ys (Some zs) = ap Some (sym (append_assoc xs ys zs))

pub takes_more : (xs ys : List ℕ) (a b c : Reading) → Takes xs a b → Takes ys b c → Takes (xs ++ ys) a c
takes_more xs ys a b c f g = record {
  left = f.left ∙ (ap (option_map (λ (zs : List ℕ). xs ++ zs)) g.left ∙ told_twice xs ys c.left);
  taken = omega (arith, f.taken, g.taken, length-append xs ys);
}

plain_join : (xs ys : List ℕ) → has_feed xs ≡ false → has_feed ys ≡ false → has_feed (xs ++ ys) ≡ false
plain_join [] ys h k = k
plain_join (x ∷ xs) ys h k =
    let o = or_false (x == 10) (has_feed xs) h in
    ap (λ (v : Bool). v || has_feed (xs ++ ys)) o.0 ∙ plain_join xs ys o.1 k

-- ---- the front of a line

pub began_none : (line : List ℕ) (a b : Reading) → line ≡ [] → b ≡ a → Began line a b
began_none line a b empty is = record {
  got = [];
  takes = takes_none a b (ap (λ (r : Reading). r.left) is) (ap (λ (r : Reading). r.taken) is);
  is = append-nil a.waiting ∙ (sym (ap (λ (r : Reading). r.waiting) is) ∙ ap (λ (l : List ℕ). l ++ b.waiting) (sym empty));
  plain = ap has_feed empty;
  faults = ap (λ (r : Reading). r.faults) is;
}

-- what waits went behind it, up to a line feed: nothing else was taken
pub record Parted (found : Bool) (line line' : List ℕ) (a b : Reading) : Type 0 where
  pub parts : PartsFront found a.waiting b.waiting line line'
  pub taken : b.taken ≡ a.taken
  pub left : b.left ≡ a.left
  pub faults : b.faults ≡ a.faults

-- a line was found
pub line_is : (line line' : List ℕ) (a b c : Reading) → Began line a b → Parted true line line' b c
    → (got : List ℕ) × Takes got a c × (a.waiting ++ got ≡ line' ++ 10 ∷ c.waiting) × (has_feed line' ≡ false) × (c.faults ≡ a.faults)
line_is line line' a b c began p =
    let part = p.parts.0 in
    let takes : Takes (began.got ++ []) a c = takes_more began.got [] a b c began.takes (takes_none b c p.left p.taken) in
    let whole : line ++ b.waiting ≡ line' ++ 10 ∷ c.waiting =
    ap (λ (w : List ℕ). line ++ w) p.parts.2 ∙ (sym (append_assoc line part (10 ∷ c.waiting)) ∙ ap (λ (l : List ℕ). l ++ 10 ∷ c.waiting) (sym p.parts.3)) in (
      began.got,
      subst (λ (g : List ℕ). Takes g a c) (append-nil began.got) takes,
      began.is ∙ whole,
      ap has_feed p.parts.3 ∙ plain_join line part began.plain p.parts.1,
      p.faults ∙ began.faults,
    )

-- no line was found, and all that waited went behind the front
pub front_is : (line line' : List ℕ) (a b c : Reading) → Began line a b → Parted false line line' b c → Began line' a c × (c.waiting ≡ [])
front_is line line' a b c began p =
    let takes : Takes (began.got ++ []) a c = takes_more began.got [] a b c began.takes (takes_none b c p.left p.taken) in
    let whole : line ++ b.waiting ≡ line' ++ c.waiting = sym p.parts.2 ∙ (sym (append-nil line') ∙ ap (λ (w : List ℕ). line' ++ w) (sym p.parts.1)) in (
      record {
        got = began.got;
        takes = subst (λ (g : List ℕ). Takes g a c) (append-nil began.got) takes;
        is = began.is ∙ whole;
        plain = ap has_feed p.parts.2 ∙ plain_join line b.waiting began.plain p.parts.0;
        faults = p.faults ∙ began.faults;
      },
      p.parts.1,
    )

-- a piece more was taken
pub began_more : (line : List ℕ) (a b c : Reading) → Began line a b → b.waiting ≡ [] → Takes c.waiting b c → c.faults ≡ b.faults → Began line a c
began_more line a b c began empty takes faults =
    let all : a.waiting ++ (began.got ++ c.waiting) ≡ line ++ c.waiting =
    sym (append_assoc a.waiting began.got c.waiting)
    ∙ (ap (λ (w : List ℕ). w ++ c.waiting) (began.is ∙ (ap (λ (w : List ℕ). line ++ w) empty ∙ append-nil line))) in record {
      got = began.got ++ c.waiting;
      takes = takes_more began.got c.waiting a b c began.takes takes;
      is = all;
      plain = began.plain;
      faults = faults ∙ began.faults;
    }

-- nothing more was taken
pub began_same : (line : List ℕ) (a b c : Reading) → Began line a b → b.waiting ≡ [] → Takes [] b c
    → (got : List ℕ) × Takes got a c × (a.waiting ++ got ≡ line) × (has_feed line ≡ false)
began_same line a b c began empty takes = (
  began.got,
  subst (λ (g : List ℕ). Takes g a c) (append-nil began.got) (takes_more began.got [] a b c began.takes takes),
  began.is ∙ (ap (λ (w : List ℕ). line ++ w) empty ∙ append-nil line),
  began.plain,
)

-- ---- the next line

pub gives_last : (n : Next) (line : List ℕ) (a b c : Reading) → LastIs n line → Began line a b → b.waiting ≡ [] → Refills (Ok false) b c → Gives (Ok n) a c
gives_last (next.Last v) line a b c last began empty r =
    let s = began_same line a b c began empty r.0 in record {
      got = s.0;
      takes = s.1;
      is = (
        s.2 ∙ sym last.0,
        ap has_feed last.0 ∙ s.3,
        subst (λ (l : List ℕ). 0 < length l) (sym last.0) last.1,
        r.2,
        r.3 ∙ began.faults,
      );
    }
gives_last next.End line a b c last began empty r =
    let s = began_same line a b c began empty r.0 in record { got = s.0; takes = s.1; is = (s.2 ∙ last, r.2, r.3 ∙ began.faults) }
gives_last (next.Line v) line a b c last began empty r = absurd last

gives_plain : (line : List ℕ) (a b c : Reading) → Began line a b → b.waiting ≡ [] → Takes [] b c → (got : List ℕ) × Takes got a c × (has_feed (a.waiting ++ got) ≡ false)
gives_plain line a b c began empty takes =
    let s = began_same line a b c began empty takes in (s.0, s.1, ap has_feed s.2 ∙ s.3)

-- the source failed, or has too many bytes
pub gives_fault : (ending : Ending) (line : List ℕ) (a b c : Reading) → Began line a b → b.waiting ≡ [] → Refills (Err ending) b c → Gives (Err ending) a c
gives_fault InputFailed line a b c began empty r =
    let s = gives_plain line a b c began empty r.0 in record {
      got = s.0;
      takes = s.1;
      is = (s.2, subst (λ (k : ℕ). FailsOnce k c.faults) began.faults r.1);
    }
gives_fault TooLong line a b c began empty r =
    let s = gives_plain line a b c began empty (takes_none b c (ap (λ (q : Reading). q.left) r.0) (ap (λ (q : Reading). q.taken) r.0)) in record {
      got = s.0;
      takes = s.1;
      is = (s.2, r.1, ap (λ (q : Reading). q.faults) r.0 ∙ began.faults);
    }
gives_fault Read line a b c began empty r = absurd r
gives_fault OutputFailed line a b c began empty r = absurd r
gives_fault ErrorFailed line a b c began empty r = absurd r
gives_fault Starved line a b c began empty r = absurd r

-- no memory was found for the line
pub gives_starved : (line : List ℕ) (a b c : Reading) → Began line a b → c.left ≡ b.left → c.taken ≡ b.taken → c.faults ≡ b.faults → Gives (Err Starved) a c
gives_starved line a b c began left taken faults = record {
  got = began.got;
  takes = subst (λ (g : List ℕ). Takes g a c) (append-nil began.got) (takes_more began.got [] a b c began.takes (takes_none b c left taken));
  is = faults ∙ began.faults;
}

-- ---- the same where a test told what happened

pub line_found : (found : Bool) (line line' : List ℕ) (a b c : Reading) → found ≡ true → Began line a b → Parted found line line' b c
    → (got : List ℕ) × Takes got a c × (a.waiting ++ got ≡ line' ++ 10 ∷ c.waiting) × (has_feed line' ≡ false) × (c.faults ≡ a.faults)
line_found found line line' a b c e began p = line_is line line' a b c began (subst (λ (v : Bool). Parted v line line' b c) e p)

-- no line was found, and a piece more was taken
pub began_on : (found more : Bool) (line line' : List ℕ) (a b c d : Reading) → found ≡ false → more ≡ true → Began line a b → Parted found line line' b c → Refills (Ok more) c d → Began line' a d
began_on found more line line' a b c d e m began p r =
    let f = front_is line line' a b c began (subst (λ (v : Bool). Parted v line line' b c) e p) in
    let t : Refills (Ok true) c d = subst (λ (v : Bool). Refills (Ok v) c d) m r in
    began_more line' a c d f.0 f.1 t.0 t.2

pub last_found : (found more : Bool) (n : Next) (line line' : List ℕ) (a b c d : Reading) → found ≡ false → more ≡ false → Began line a b → Parted found line line' b c → Refills (Ok more) c d
    → LastIs n line' → Gives (Ok n) a d
last_found found more n line line' a b c d e m began p r last =
    let f = front_is line line' a b c began (subst (λ (v : Bool). Parted v line line' b c) e p) in
    gives_last n line' a c d last f.0 f.1 (subst (λ (v : Bool). Refills (Ok v) c d) m r)

pub fault_found : (found : Bool) (ending : Ending) (line line' : List ℕ) (a b c d : Reading) → found ≡ false → Began line a b → Parted found line line' b c → Refills (Err ending) c d → Gives (Err ending) a d
fault_found found ending line line' a b c d e began p r =
    let f = front_is line line' a b c began (subst (λ (v : Bool). Parted v line line' b c) e p) in
    gives_fault ending line' a c d f.0 f.1 r
