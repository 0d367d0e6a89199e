-- Images along a log.
use Rattle.std.proofs.Common.{◌≡◌, ◌≢◌, ◌⊎◌, inl, inr, ⊎_elim, ◌∙◌, ap, sym, subst, refl, ℕ, zero, suc, ◌+◌, ◌-◌, ◌*◌, ◌/◌, ◌%◌, ◌<◌, ◌≤◌, Bool, true, false, List, [], ◌∷◌, ◌++◌, length, drop, take, fold, get_or, Option, Some, None, slice_get, arith, length-append, append_assoc, zero-add, suc-add, add-one}
use Rattle.std.proofs.lemmas.Bool.{cases_lt}
use Rattle.std.proofs.lemmas.List.{length-drop, take_more, take-append-drop, take_all}
use Rattle.std.proofs.lemmas.Option.{slice_get_within, slice_get_past}
use Rattle.gd_vault.specs.Content.{File, Content}
use Rattle.gd_vault.specs.Effects.{DoesOrMayDo}
use Rattle.gd_vault.specs.Events.{Call, Event, content_after, moment_after}
use Rattle.gd_vault.specs.Events.Call.{Idle, Sync_names}
use Rattle.gd_vault.specs.Changes.{event}
use Rattle.gd_vault.specs.History.{IsProper, LeftAfter, LeftInside, MayName, NameLeft, left}
use Rattle.gd_vault.specs.Lawful.{IsLawful}
use Rattle.gd_vault.specs.Stay.{has_after}
use Rattle.gd_vault.proofs.Lawful.{proper, stays_there}
use Rattle.gd_vault.proofs.Left.{names_synced}
use Rattle.gd_vault.proofs.FrameLeft.{past_left}
use Rattle.gd_memvault.specs.DiskData.{DiskData}
use Rattle.gd_memvault.specs.LogData.{LogData}
use Rattle.gd_memvault.specs.declared.log.Entry.{Entry}
use Rattle.gd_memvault.specs.Disk.{call_of, disk_content, names_of}
use Rattle.gd_memvault.specs.Log.{add_entry, events_of, idles, moment_of, told_of}
use Rattle.gd_memvault.specs.Memory.{HasMoment, MemState}
use Rattle.gd_memvault.specs.Image.{Candidate, IsLeft, Runs, Steps, events_at}
use Rattle.gd_memvault.proofs.Logs.{content_idles, length_idles, moment_is}

some_of : {A : Type 0} (o : Option A) → o ≢ None → (x : A) × (o ≡ Some x)
some_of None some = absurd (some refl)
some_of (Some x) some = (x, refl)

is_some : {A : Type 0} (o : Option A) (x : A) → o ≡ Some x → o ≢ None
is_some o x is gone = (let wrong : Some x ≡ None = sym is ∙ gone in cc)

get_there : (xs : List File) (f : ℕ) → f < length xs → slice_get xs f ≢ None
get_there [] f lt = absurd (omega arith)
get_there (x ∷ xs) zero lt = λ gone. cc
get_there (x ∷ xs) (suc f) lt = get_there xs f (omega arith)

get_within : (xs : List File) (f : ℕ) → slice_get xs f ≢ None → f < length xs
get_within xs f there = let x = some_of (slice_get xs f) there in slice_get_within xs f x.0 x.1

get-front : (xs ys : List File) (f : ℕ) → f < length xs → slice_get (xs ++ ys) f ≡ slice_get xs f
get-front [] ys f lt = absurd (omega arith)
get-front (x ∷ xs) ys zero lt = refl
get-front (x ∷ xs) ys (suc f) lt = get-front xs ys f (omega arith)

-- ---- the beginning

pub candidate_first : (d : DiskData) → Candidate (disk_content d) [] d
candidate_first d = record {
  files = λ f x is. is;
  there = λ f lt. get_there d.files f lt;
  all = λ f there. get_within d.files f there;
  names = λ n. refl;
}

-- ---- failures that did nothing

candidate_idle : (first : Content) (es : List Event) (d : DiskData) → Candidate first es d → Candidate first (event Idle false (content_after first es) ∷ es) d
candidate_idle first es d c = record {
  files = λ f x is. record {
    synced = λ e ok. cc;
    made = λ gone. absurd (c.there f (slice_get_within d.files f x is) gone);
    step = λ _ _. (x, c.files f x is, record { own = λ e. cc; other = λ _. refl }, λ at bytes now e. cc);
  };
  there = c.there;
  all = c.all;
  names = λ n. record { synced = λ e ok. cc; step = λ _. inl (c.names n) };
}

pub candidate_idles : (first : Content) (n : ℕ) (es : List Event) (d : DiskData) → Candidate first es d → Candidate first (idles first n es) d
candidate_idles first zero es d c = c
candidate_idles first (suc n) es d c = candidate_idle first (idles first n es) d (candidate_idles first n es d c)

-- ---- one event more

pub candidate_fits : (first : Content) (es : List Event) (old after : DiskData) (ok : Bool) (call : Call) → Candidate first es old → DoesOrMayDo ok call (content_after first es) (disk_content after) → length old.files ≤ length after.files
candidate_fits first es old after ok call c effect =
    ⊎_elim
    (λ (lt : length after.files < length old.files).
    let was = some_of ((content_after first es).files (length after.files)) (c.there (length after.files) lt) in
    let is = has_after ok call (content_after first es) (disk_content after) effect (length after.files) was in
    absurd (is_some (slice_get after.files (length after.files)) is.0 is.1 (slice_get_past after.files (length after.files) (omega arith))))
    (λ (le : length old.files ≤ length after.files). le)
    (cases_lt (length after.files) (length old.files))

get-append : (xs ys : List File) (f : ℕ) → slice_get (xs ++ ys) (length xs + f) ≡ slice_get ys f
get-append [] ys f = rw zero-add
get-append (x ∷ xs) ys f = rw (suc-add) (get-append xs ys f)

get-drop : (k : ℕ) (xs : List File) (f : ℕ) → slice_get (drop k xs) f ≡ slice_get xs (k + f)
get-drop zero xs f = rw zero-add
get-drop (suc k) [] f = refl
get-drop (suc k) (x ∷ xs) f = rw (suc-add) (get-drop k xs f)

-- past the front stand the files of the other list at their own places
get-back : (front xs : List File) (f : ℕ) → length front ≤ f → slice_get (front ++ drop (length front) xs) f ≡ slice_get xs f
get-back front xs f le =
    let place : f ≡ length front + (f - length front) = omega arith in
    ap (slice_get (front ++ drop (length front) xs)) place ∙ get-append front (drop (length front) xs) (f - length front) ∙ get-drop (length front) xs (f - length front) ∙ ap (slice_get xs) (sym place)

pub candidate_step : (first : Content) (es : List Event) (call : Call) (ok : Bool) (old new after : DiskData) → Candidate first es old → length old.files ≤ length after.files → Steps (event call ok (disk_content after)) after old new → Candidate first (event call ok (disk_content after) ∷ es) new
candidate_step first es call ok old new after c fits s = record {
  files = λ f x is. ⊎_elim
      (λ (lt : f < length s.kept.0).
      let here : slice_get s.kept.0 f ≡ Some x = sym (get-front s.kept.0 (drop (length s.kept.0) after.files) f lt) ∙ ap (λ l. slice_get l f) (sym s.kept.2) ∙ is in
      let was : f < length old.files = omega (arith, lt, s.kept.1.count) in
      record {
        synced = λ e done. s.kept.1.synced f x e done here;
        made = λ gone. absurd (c.there f was gone);
        step = λ failed _. let y = s.kept.1.stepped f x failed here in (y.0, c.files f y.0 y.1, y.2, y.3);
      })
      (λ (le : length s.kept.0 ≤ f).
      let here : slice_get after.files f ≡ Some x = sym (get-back s.kept.0 after.files f le) ∙ ap (λ l. slice_get l f) (sym s.kept.2) ∙ is in
      record {
        synced = λ _ _. here;
        made = λ _. here;
        step = λ _ exists. absurd (let lt = c.all f exists in omega (arith, lt, le, s.kept.1.count));
      })
      (cases_lt f (length s.kept.0));
  there = λ f lt. get_there after.files f (omega (arith, lt, grown));
  all = λ f exists. let lt = get_within after.files f exists in omega (arith, lt, grown);
  names = λ n. let h = s.names n in record {
    synced = λ e done. h.synced e done;
    step = λ failed. ⊎_elim
        (λ (past : names_of new.names n ≡ names_of old.names n). inl (subst (NameLeft first es n) (sym past) (c.names n)))
        (λ (now : names_of new.names n ≡ (disk_content after).names n). inr now)
        (h.step failed);
  };
}
  where
    grown : length new.files ≡ length after.files
    grown = ap length s.kept.2 ∙ length-append s.kept.0 (drop (length s.kept.0) after.files) ∙ omega (arith, length-drop (length s.kept.0) after.files, s.kept.1.count, fits)

-- ---- what is left

name_there : (first : Content) (es : List Event) → IsLawful first es → (n : List ℕ) (z : Option ℕ) → NameLeft first es n z → (id : ℕ) → z ≡ Some id → (content_after first es).files id ≢ None
name_there first [] lawful n z h id is = lawful n id (sym h ∙ is)
name_there first (e ∷ es) lawful n z h id is =
    ⊎_elim
    (λ (done : (e.call ≡ Sync_names) × (e.ok ≡ true)). proper first (e ∷ es) lawful n id (sym (h.synced done.0 done.1) ∙ is))
    (λ (failed : e.call ≡ Sync_names → e.ok ≡ false). ⊎_elim
    (λ (past : NameLeft first es n z). stays_there e.ok e.call (content_after first es) e.after lawful.1 id (name_there first es lawful.0 n z past id is))
    (λ (now : z ≡ e.after.names n). proper first (e ∷ es) lawful n id (sym now ∙ is))
    (h.step failed))
    (names_synced e.call e.ok)

candidate_proper : (first : Content) (es : List Event) (d : DiskData) → IsLawful first es → Candidate first es d → IsProper (disk_content d)
candidate_proper first es d lawful c n id is = get_there d.files id (c.all id (name_there first es lawful n (names_of d.names n) (c.names n) id is))

candidate_left : (first : Content) (es : List Event) (d : DiskData) → IsLawful first es → Candidate first es d → LeftAfter first es (disk_content d)
candidate_left first es d lawful c = record { proper = candidate_proper first es d lawful c; files = c.files; names = c.names }

-- inside a failure that did nothing
idle_left : (first : Content) (es : List Event) (d : DiskData) → IsLawful first es → Candidate first es d → LeftInside first es Idle (disk_content d)
idle_left first es d lawful c = record {
  proper = candidate_proper first es d lawful c;
  files = λ f x is. record {
    made = λ gone. absurd (c.there f (slice_get_within d.files f x is) gone);
    step = λ _. (x, c.files f x is, record { own = λ e. cc; other = λ _. refl });
  };
  names = λ n. inl (c.names n);
}

run_left : (first : Content) (es : List Event) (e : Event) (old new : DiskData) → e.ok ≡ false → IsLawful first es → Candidate first es old → Runs (content_after first es) e old new → LeftInside first es e.call (disk_content new)
run_left first es e old new failed lawful c r = record {
  proper = λ n id is. ⊎_elim
      (λ (same : names_of new.names n ≡ names_of old.names n). stands id (c.all id (name_there first es lawful n (names_of old.names n) (c.names n) id (sym same ∙ is))))
      (λ (h : (id < length new.files) ⊎ ((m : List ℕ) × ((content_after first es).names m ≡ Some id))). ⊎_elim
      (λ (lt : id < length new.files). get_there new.files id lt)
      (λ (m : (m : List ℕ) × ((content_after first es).names m ≡ Some id)). stands id (c.all id (proper first es lawful m.0 id m.1)))
      h)
      (r.middle.2.placed n id is);
  files = λ f x is. record {
    made = λ gone. ⊎_elim
        (λ (lt : f < length r.middle.0). absurd (c.there f (omega (arith, lt, r.middle.1.count)) gone))
        (λ (le : length r.middle.0 ≤ f). r.middle.2.made f x is le)
        (cases_lt f (length r.middle.0));
    step = λ exists.
        let was = c.all f exists in
        let y = r.middle.1.stepped f x (λ _. failed) (r.middle.2.kept f x is (omega (arith, was, r.middle.1.count))) in
        (y.0, c.files f y.0 y.1, y.2);
  };
  names = λ n. ⊎_elim
      (λ (same : names_of new.names n ≡ names_of old.names n). inl (subst (NameLeft first es n) (sym same) (c.names n)))
      (λ (may : MayName (content_after first es) e.call n (names_of new.names n)). inr may)
      (r.middle.2.names n);
}
  where
    stands : (id : ℕ) → id < length old.files → slice_get new.files id ≢ None
    stands id lt = get_there new.files id (omega (arith, lt, r.middle.1.count, r.middle.2.grows))

-- ---- moments

lawful_front : (first : Content) (more es : List Event) → IsLawful first (more ++ es) → IsLawful first es
lawful_front first [] es lawful = lawful
lawful_front first (e ∷ more) es lawful = lawful_front first more es lawful.0

now_left : (first : Content) (es : List Event) (image : Content) → LeftAfter first es image → left first es (moment_after es) image
now_left first [] image l = l
now_left first (e ∷ es) image l = record { earlier = λ le. absurd (omega (arith, le)); inside = λ is. absurd (omega (arith, is)); after = λ _. l }

-- the image of the moment at the end of some events, and of the moment inside the next
left_at : (first : Content) (all es : List Event) (t : ℕ) (image : Content) → (more : List Event) × (all ≡ more ++ es) → t ≡ moment_after es → LeftAfter first es image → left first all t image
left_at first all es t image m is l =
    subst (λ a. left first a t image) (sym m.1) (past_left first es m.0 t image (omega (arith, is)) (subst (λ k. left first es k image) (sym is) (now_left first es image l)))

left_in : (first : Content) (all es : List Event) (e : Event) (t : ℕ) (image : Content) → (more : List Event) × (all ≡ more ++ (e ∷ es)) → t ≡ moment_after es + 1 → LeftInside first es e.call image → left first all t image
left_in first all es e t image m is l =
    let inside : left first (e ∷ es) t image = record { earlier = λ le. absurd (omega (arith, le, is)); inside = λ _. l; after = λ end. absurd (omega (arith, end, is)) } in
    subst (λ a. left first a t image) (sym m.1) (past_left first (e ∷ es) m.0 t image (omega (arith, is)) inside)

-- ---- where the events stand in the history

idles_more : (first : Content) (m k : ℕ) (es : List Event) → (more : List Event) × (idles first (m + k) es ≡ more ++ idles first k es)
idles_more first zero k es = ([], ap (λ n. idles first n es) (zero-add k))
idles_more first (suc m) k es =
    let r = idles_more first m k es in
    let e = event Idle false (content_after first (idles first (m + k) es)) in
    (e ∷ r.0, ap (λ n. idles first n es) (suc-add m k) ∙ ap (λ l. e ∷ l) r.1)

idles_of : (first : Content) (n k : ℕ) (es : List Event) → k ≤ n → (more : List Event) × (idles first n es ≡ more ++ idles first k es)
idles_of first n k es le =
    let r = idles_more first (n - k) k es in
    let whole : n ≡ n - k + k = omega arith in
    (r.0, ap (λ j. idles first j es) whole ∙ r.1)

fold_more : (first : Content) (es : List Event) (xs : List Entry) → (more : List Event) × (fold (add_entry first) es xs ≡ more ++ es)
fold_more first es [] = ([], refl)
fold_more first es (x ∷ xs) =
    let r = fold_more first (add_entry first es x) xs in
    let s = idles_of first x.idle_before 0 es (omega arith) in
    let e = event (call_of x.step) x.ok (disk_content x.after) in
    (r.0 ++ (e ∷ s.0), r.1 ∙ ap (λ l. r.0 ++ (e ∷ l)) s.1 ∙ sym (append_assoc r.0 (e ∷ s.0) es))

fold-append : (first : Content) (es : List Event) (xs ys : List Entry) → fold (add_entry first) es (xs ++ ys) ≡ fold (add_entry first) (fold (add_entry first) es xs) ys
fold-append first es [] ys = refl
fold-append first es (x ∷ xs) ys = fold-append first (add_entry first es x) xs ys

longer : (all mid es : List Event) → (more : List Event) × (all ≡ more ++ mid) → (more : List Event) × (mid ≡ more ++ es) → (more : List Event) × (all ≡ more ++ es)
longer all mid es a b = (a.0 ++ b.0, a.1 ∙ ap (λ l. a.0 ++ l) b.1 ∙ sym (append_assoc a.0 b.0 es))

pub next_events : (first : Content) (entries : List Entry) (i : ℕ) (e : Entry) → i < length entries → e ≡ get_or entries i e → events_at first entries (i + 1) ≡ add_entry first (events_at first entries i) e
next_events first entries i e lt is =
    ap (fold (add_entry first) []) (take_more entries i e lt) ∙ fold-append first [] (take i entries) (get_or entries i e ∷ []) ∙ ap (add_entry first (events_at first entries i)) (sym is)

-- the events of the first entries come at the front of the history
pub entries_in : (first : Content) (l : LogData) (i : ℕ) → (more : List Event) × (events_of first l ≡ more ++ events_at first l.entries i)
entries_in first l i =
    let all : fold (add_entry first) [] l.entries ≡ fold (add_entry first) (events_at first l.entries i) (drop i l.entries) =
    ap (fold (add_entry first) []) (sym (take-append-drop i l.entries)) ∙ fold-append first [] (take i l.entries) (drop i l.entries) in
    let r = fold_more first (events_at first l.entries i) (drop i l.entries) in
    let s = idles_of first l.idle 0 (fold (add_entry first) [] l.entries) (omega arith) in
    longer (events_of first l) (fold (add_entry first) [] l.entries) (events_at first l.entries i) s (r.0, all ∙ r.1)

pub entry_in : (first : Content) (l : LogData) (i : ℕ) (e : Entry) → i < length l.entries → e ≡ get_or l.entries i e → (more : List Event) × (events_of first l ≡ more ++ add_entry first (events_at first l.entries i) e)
entry_in first l i e lt is = let r = entries_in first l (i + 1) in (r.0, r.1 ∙ ap (λ k. r.0 ++ k) (next_events first l.entries i e lt is))

idles_in_entry : (first : Content) (all es : List Event) (e : Entry) → (more : List Event) × (all ≡ more ++ add_entry first es e) → (more : List Event) × (all ≡ more ++ idles first e.idle_before es)
idles_in_entry first all es e m = longer all (add_entry first es e) (idles first e.idle_before es) m (event (call_of e.step) e.ok (disk_content e.after) ∷ [], refl)

-- ---- an image of each moment

moment_idles : (first : Content) (k : ℕ) (es : List Event) → moment_after (idles first k es) ≡ 2 * k + moment_after es
moment_idles first k es = omega (arith, length_idles first k es)

among_idles : (first : Content) (all es : List Event) (d : DiskData) (idle t rest : ℕ) → IsLawful first all → Candidate first es d → (more : List Event) × (all ≡ more ++ idles first idle es) → t ≡ moment_after es + rest → rest ≤ 2 * idle → left first all t (disk_content d)
among_idles first all es d idle t rest lawful c m is le =
    let k = rest / 2 in
    ⊎_elim
    (λ (even : rest % 2 < 1).
    let here : t ≡ moment_after (idles first k es) = omega (arith, moment_idles first k es, is, even) in
    let part = longer all (idles first idle es) (idles first k es) m (idles_of first idle k es (omega (arith, le, even))) in
    left_at first all (idles first k es) t (disk_content d) part here (candidate_left first (idles first k es) d (lawful_front first part.0 (idles first k es) (subst (IsLawful first) part.1 lawful)) (candidate_idles first k es d c)))
    (λ (odd : 1 ≤ rest % 2).
    let here : t ≡ moment_after (idles first k es) + 1 = omega (arith, moment_idles first k es, is, odd) in
    let part = longer all (idles first idle es) (idles first (k + 1) es) m (idles_of first idle (k + 1) es (omega (arith, le, odd))) in
    let one : idles first (k + 1) es ≡ event Idle false (content_after first (idles first k es)) ∷ idles first k es = ap (λ n. idles first n es) (add-one k) in
    let whole : (more : List Event) × (all ≡ more ++ (event Idle false (content_after first (idles first k es)) ∷ idles first k es)) = (part.0, part.1 ∙ ap (λ l. part.0 ++ l) one) in
    let front = lawful_front first part.0 (idles first (k + 1) es) (subst (IsLawful first) part.1 lawful) in
    left_in first all (idles first k es) (event Idle false (content_after first (idles first k es))) t (disk_content d) whole here
    (idle_left first (idles first k es) d (subst (IsLawful first) one front).0 (candidate_idles first k es d c)))
    (cases_lt (rest % 2) 1)

-- before an entry
pub left_before : (first : Content) (l : LogData) (i : ℕ) (e : Entry) (d : DiskData) (t rest : ℕ) → IsLawful first (events_of first l) → i < length l.entries → e ≡ get_or l.entries i e → Candidate first (events_at first l.entries i) d → t ≡ moment_after (events_at first l.entries i) + rest → rest ≤ 2 * e.idle_before → left first (events_of first l) t (disk_content d)
left_before first l i e d t rest lawful lt is c at le =
    among_idles first (events_of first l) (events_at first l.entries i) d e.idle_before t rest lawful c (idles_in_entry first (events_of first l) (events_at first l.entries i) e (entry_in first l i e lt is)) at le

-- after the last entry
pub left_last : (first : Content) (l : LogData) (d : DiskData) (t rest : ℕ) → IsLawful first (events_of first l) → Candidate first (events_at first l.entries (length l.entries)) d → t ≡ moment_after (events_at first l.entries (length l.entries)) + rest → t ≤ moment_of l → left first (events_of first l) t (disk_content d)
left_last first l d t rest lawful c at le =
    let whole : fold (add_entry first) [] l.entries ≡ events_at first l.entries (length l.entries) = ap (fold (add_entry first) []) (sym (take_all (length l.entries) l.entries (omega arith))) in
    let all : events_of first l ≡ idles first l.idle (events_at first l.entries (length l.entries)) = ap (idles first l.idle) whole in
    among_idles first (events_of first l) (events_at first l.entries (length l.entries)) d l.idle t rest lawful c ([], all) at
    (omega (arith, at, le, moment_is first l, ap moment_after all, moment_idles first l.idle (events_at first l.entries (length l.entries))))

-- inside an entry
pub left_inside : (first : Content) (l : LogData) (i : ℕ) (e : Entry) (old new : DiskData) (t : ℕ) → IsLawful first (events_of first l) → i < length l.entries → e ≡ get_or l.entries i e → Candidate first (events_at first l.entries i) old → t ≡ moment_after (events_at first l.entries i) + 2 * e.idle_before + 1
    → Runs (content_after first (events_at first l.entries i)) (event (call_of e.step) false (disk_content e.after)) old new → left first (events_of first l) t (disk_content new)
left_inside first l i e old new t lawful lt is c at r =
    let es = events_at first l.entries i in
    let before = idles first e.idle_before es in
    let part = entry_in first l i e lt is in
    let front = lawful_front first part.0 (add_entry first es e) (subst (IsLawful first) part.1 lawful) in
    let here : t ≡ moment_after before + 1 = omega (arith, at, moment_idles first e.idle_before es) in
    let same : content_after first before ≡ content_after first es = content_idles first e.idle_before es in
    left_in first (events_of first l) before (event (call_of e.step) e.ok (disk_content e.after)) t (disk_content new) part here
    (run_left first before (event (call_of e.step) false (disk_content e.after)) old new refl front.0 (candidate_idles first e.idle_before es old c) (subst (λ k. Runs k (event (call_of e.step) false (disk_content e.after)) old new) (sym same) r))

-- the files of an image are among those after the next entry
pub entry_fits : (first : Content) (l : LogData) (i : ℕ) (e : Entry) (old : DiskData) → IsLawful first (events_of first l) → i < length l.entries → e ≡ get_or l.entries i e → Candidate first (events_at first l.entries i) old → length old.files ≤ length e.after.files
entry_fits first l i e old lawful lt is c =
    let es = events_at first l.entries i in
    let part = entry_in first l i e lt is in
    let front = lawful_front first part.0 (add_entry first es e) (subst (IsLawful first) part.1 lawful) in
    candidate_fits first (idles first e.idle_before es) old e.after e.ok (call_of e.step) (candidate_idles first e.idle_before es old c) front.1

-- and those before it are among its files
pub before_fits : (first : Content) (es : List Event) (before old : DiskData) → Candidate first es old → disk_content before ≡ content_after first es → length before.files ≤ length old.files
before_fits first es before old c is =
    ⊎_elim
    (λ (lt : length old.files < length before.files).
    let there : (content_after first es).files (length old.files) ≢ None = subst (λ (k : Content). k.files (length old.files) ≢ None) is (get_there before.files (length old.files) lt) in
    let within = c.all (length old.files) there in
    omega (arith, within))
    (λ (le : length before.files ≤ length old.files). le)
    (cases_lt (length old.files) (length before.files))

-- after an entry
pub candidate_next : (first : Content) (l : LogData) (i : ℕ) (e : Entry) (old new : DiskData) → IsLawful first (events_of first l) → i < length l.entries → e ≡ get_or l.entries i e → Candidate first (events_at first l.entries i) old → Steps (event (call_of e.step) e.ok (disk_content e.after)) e.after old new → Candidate first (events_at first l.entries (i + 1)) new
candidate_next first l i e old new lawful lt is c s =
    let es = events_at first l.entries i in
    let before = idles first e.idle_before es in
    let now = candidate_idles first e.idle_before es old c in
    subst (λ k. Candidate first k new) (sym (next_events first l.entries i e lt is))
    (candidate_step first before (call_of e.step) e.ok old new e.after now (entry_fits first l i e old lawful lt is c) s)

pub next_content : (first : Content) (l : LogData) (i : ℕ) (e : Entry) → i < length l.entries → e ≡ get_or l.entries i e → disk_content e.after ≡ content_after first (events_at first l.entries (i + 1))
next_content first l i e lt is = sym (ap (content_after first) (next_events first l.entries i e lt is))

pub next_moment : (first : Content) (l : LogData) (i : ℕ) (e : Entry) → i < length l.entries → e ≡ get_or l.entries i e → moment_after (events_at first l.entries (i + 1)) ≡ moment_after (events_at first l.entries i) + 2 * e.idle_before + 2
next_moment first l i e lt is = omega (arith, ap moment_after (next_events first l.entries i e lt is), moment_idles first e.idle_before (events_at first l.entries i))

-- what a test refused
pub past_test : (a b : ℕ) → (a ≤ b → false ≡ true) → b < a
past_test a b h =
    ⊎_elim
    (λ (lt : b < a). lt)
    (λ (le : a ≤ b). absurd (let wrong = h le in cc))
    (cases_lt b a)

left_proper : (first : Content) (es : List Event) (t : ℕ) (image : Content) → t ≤ moment_after es → left first es t image → IsProper image
left_proper first [] t image le l = l.proper
left_proper first (e ∷ es) t image le l =
    ⊎_elim
    (λ (lt : t < moment_after es + 1). left_proper first es t image (omega (arith, lt)) (l.earlier (omega (arith, lt))))
    (λ (ge : moment_after es + 1 ≤ t). ⊎_elim
    (λ (lt : t < moment_after es + 2). (l.inside (omega (arith, lt, ge))).proper)
    (λ (past : moment_after es + 2 ≤ t). (l.after (omega (arith, past, le))).proper)
    (cases_lt t (moment_after es + 2)))
    (cases_lt t (moment_after es + 1))

-- a disk that a crash may leave has a file for each name
pub image_proper : (m : MemState) (t : ℕ) (d : DiskData) → HasMoment m t → IsLeft m t d → IsProper (disk_content d)
image_proper m t d h l =
    let first = disk_content m.disk in
    let es = events_of first h.0 in
    left_proper first es t (disk_content d) (omega (arith, h.2, moment_is first h.0)) (l first es (ap (told_of m.disk) h.1))
