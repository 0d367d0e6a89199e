-- Laws of a log.
use Rattle.std.proofs.Common.{◌≡◌, inl, inr, ⊎_elim, ℕ, zero, suc, ◌+◌, ◌-◌, ◌^◌, ◌<◌, ◌≤◌, Bool, false, List, [], ◌∷◌, ◌++◌, length, fold, Option, Some, None, slice_get, refl, sym, ap, subst, ◌∙◌, arith, sub-one, add-one}
use Rattle.gd_vault.specs.Content.{Content}
use Rattle.gd_vault.specs.Events.{Call, Event, content_after, moment_after}
use Rattle.gd_vault.specs.Events.Call.{Idle}
use Rattle.gd_vault.specs.Effects.{DoesOrMayDo, MayDo}
use Rattle.gd_vault.specs.Views.{Told, content_of}
use Rattle.gd_vault.specs.Views.Told.{Nothing, Tells, Records}
use Rattle.gd_vault.specs.Changes.{Adds, AddsCall, AddsIdle, AddsNone, TellsAfter, event}
use Rattle.gd_vault.specs.Lawful.{IsLawful}
use Rattle.gd_vault.proofs.Content.{may_do_nothing}
use Rattle.gd_memvault.specs.declared.log.Entry.{Entry}
use Rattle.gd_memvault.specs.declared.steps.Step.{Step}
use Rattle.gd_memvault.specs.DiskData.{DiskData}
use Rattle.gd_memvault.specs.LogData.{LogData}
use Rattle.gd_memvault.specs.Disk.{disk_content, call_of}
use Rattle.gd_memvault.specs.Log.{idles, add_entry, count_of, events_of, moment_of, told_of, DoesNothing}

pub content_idles : (first : Content) (n : ℕ) (es : List Event) → content_after first (idles first n es) ≡ content_after first es
content_idles first zero es = refl
content_idles first (suc n) es = content_idles first n es

pub length_idles : (first : Content) (n : ℕ) (es : List Event) → length (idles first n es) ≡ n + length es
length_idles first zero es = omega arith
length_idles first (suc n) es = omega (arith, length_idles first n es)

pub lawful_idle : (first : Content) (es : List Event) → IsLawful first es → IsLawful first (event Idle false (content_after first es) ∷ es)
lawful_idle first es lawful = (lawful, record { names = λ n. refl; files = λ f. refl })

-- what the last entry left
last_content : Content → List Entry → Content
last_content c [] = c
last_content c (x ∷ xs) = last_content (disk_content x.after) xs

content_fold : (first : Content) (log : List Entry) (es : List Event) → content_after first (fold (add_entry first) es log) ≡ last_content (content_after first es) log
unfolding last_content
content_fold first [] es = refl
content_fold first (x ∷ xs) es = content_fold first xs (add_entry first es x)

last_some : (log : List Entry) (e : Entry) (c : Content) → slice_get log (length log - 1) ≡ Some e → last_content c log ≡ disk_content e.after
unfolding last_content
last_some [] e c h = absurd (let wrong : None ≡ Some e = h in cc)
last_some (x ∷ []) e c h = let same : x ≡ e = cc in ap (λ (k : Entry). disk_content k.after) same
last_some (x ∷ y ∷ xs) e c h = last_some (y ∷ xs) e (disk_content x.after) (rw sub-one (rw sub-one at h))

pub current_some : (first : Content) (log : List Entry) (idle : ℕ) (e : Entry) → slice_get log (length log - 1) ≡ Some e → disk_content e.after ≡ content_after first (events_of first (record { entries = log; idle = idle }))
current_some first log idle e h = sym (content_idles first idle (fold (add_entry first) [] log) ∙ (content_fold first log [] ∙ last_some log e first h))

pub current_none : (first : Content) (log : List Entry) (idle : ℕ) → log ≡ [] → first ≡ content_after first (events_of first (record { entries = log; idle = idle }))
current_none first log idle is = subst (λ l. first ≡ content_after first (events_of first (record { entries = l; idle = idle }))) (sym is) (sym (content_idles first idle []))

some_last : (xs : List Entry) (x : Entry) → slice_get (x ∷ xs) (length (x ∷ xs) - 1) ≡ None → ⊥
some_last [] x h = (let wrong : Some x ≡ None = h in cc)
some_last (y ∷ xs) x h = some_last xs y (rw sub-one (rw sub-one at h))

pub none_empty : (log : List Entry) → slice_get log (length log - 1) ≡ None → log ≡ []
none_empty [] h = refl
none_empty (x ∷ xs) h = absurd (some_last xs x h)

length_fold : (first : Content) (log : List Entry) (es : List Event) → length (fold (add_entry first) es log) ≡ count_of log + length es
length_fold first [] es = omega arith
length_fold first (x ∷ xs) es = omega (arith, length_fold first xs (add_entry first es x), length_idles first x.idle_before es)

pub moment_is : (first : Content) (l : LogData) → moment_after (events_of first l) ≡ moment_of l
moment_is first l = omega (arith, length_idles first l.idle (fold (add_entry first) [] l.entries), length_fold first l.entries [])

pub count_push : (xs : List Entry) (e : Entry) → count_of (xs ++ e ∷ []) ≡ count_of xs + e.idle_before + 1
count_push [] e = omega arith
count_push (x ∷ xs) e = omega (arith, count_push xs e)

fold_push : (first : Content) (log : List Entry) (e : Entry) (es : List Event) → fold (add_entry first) es (log ++ e ∷ []) ≡ add_entry first (fold (add_entry first) es log) e
fold_push first [] e es = refl
fold_push first (x ∷ xs) e es = fold_push first xs e (add_entry first es x)

-- one failure more that did nothing
pub idle_told : (first : Content) (l m : LogData) → moment_of l + 2 < 2 ^ 64 → m ≡ record l { idle = l.idle + 1 } → AddsIdle first (events_of first l) (Records first (events_of first m))
idle_told first l m room is =
    let more : events_of first (record l { idle = l.idle + 1 }) ≡ event Idle false (content_after first (events_of first l)) ∷ events_of first l = rw add-one in
    (ap (λ (k : LogData). Records first (events_of first k)) is ∙ ap (Records first) more, omega (arith, room, moment_is first l))

-- one call more
pub push_told : (first : Content) (l m : LogData) (e : Entry) → moment_of l + 2 < 2 ^ 64 → e.idle_before ≡ l.idle → m ≡ record { entries = l.entries ++ e ∷ []; idle = 0 } → DoesOrMayDo e.ok (call_of e.step) (content_after first (events_of first l)) (disk_content e.after) → AddsCall (call_of e.step) e.ok first (events_of first l) (Records first (events_of first m))
push_told first l m e room before is effect =
    let more : events_of first (record { entries = l.entries ++ e ∷ []; idle = 0 }) ≡ event (call_of e.step) e.ok (disk_content e.after) ∷ events_of first l =
    fold_push first l.entries e [] ∙ ap (λ n. event (call_of e.step) e.ok (disk_content e.after) ∷ idles first n (fold (add_entry first) [] l.entries)) before in
    (disk_content e.after, ap (λ (k : LogData). Records first (events_of first k)) is ∙ ap (Records first) more, effect, omega (arith, room, moment_is first l))

pub idle_content : (first : Content) (l m : LogData) → m ≡ record l { idle = l.idle + 1 } → content_after first (events_of first m) ≡ content_after first (events_of first l)
idle_content first l m is =
    ap (λ (k : LogData). content_after first (events_of first k)) is ∙ (content_idles first (l.idle + 1) (fold (add_entry first) [] l.entries) ∙ sym (content_idles first l.idle (fold (add_entry first) [] l.entries)))

pub push_content : (first : Content) (l m : LogData) (e : Entry) → m ≡ record { entries = l.entries ++ e ∷ []; idle = 0 } → content_after first (events_of first m) ≡ disk_content e.after
push_content first l m e is = ap (λ (k : LogData). content_after first (events_of first k)) is ∙ ap (content_after first) (fold_push first l.entries e [])

-- no moment for one more
pub full_told : (first : Content) (l : LogData) → (moment_of l + 2 < 2 ^ 64 → ⊥) → AddsNone first (events_of first l) (Records first (events_of first l))
full_told first l full = (refl, let past : 2 ^ 64 ≤ moment_of l + 2 = omega (arith, full) in omega (arith, past, moment_is first l))

pub adds_call : (first : Content) (l m : LogData) (step : Step) (ok : Bool) (after : DiskData) → moment_of l + 2 < 2 ^ 64 → m ≡ record { entries = l.entries ++ (record { step = step; ok = ok; after = after; idle_before = l.idle }) ∷ []; idle = 0 } → DoesOrMayDo ok (call_of step) (content_after first (events_of first l)) (disk_content after)
    → Adds (call_of step) ok first (events_of first l) (Records first (events_of first m))
adds_call first l m step ok after room is effect = inl (push_told first l m (record { step = step; ok = ok; after = after; idle_before = l.idle }) room refl is effect)

pub adds_none : (call : Call) (first : Content) (l : LogData) → (moment_of l + 2 < 2 ^ 64 → ⊥) → Adds call false first (events_of first l) (Records first (events_of first l))
adds_none call first l full = inr (refl, inr (full_told first l full))

pub nothing_idle : (log : Option LogData) (d : DiskData) (l m : LogData) → log ≡ Some l → moment_of l + 2 < 2 ^ 64 → m ≡ record l { idle = l.idle + 1 } → DoesNothing (told_of d log) (told_of d (Some m))
nothing_idle log d l m is room more = subst (λ o. DoesNothing (told_of d o) (told_of d (Some m))) (sym is) (inl (idle_told (disk_content d) l m room more))

pub nothing_full : (log : Option LogData) (d : DiskData) (l : LogData) → log ≡ Some l → (moment_of l + 2 < 2 ^ 64 → ⊥) → DoesNothing (told_of d log) (told_of d (Some l))
nothing_full log d l is full = subst (λ o. DoesNothing (told_of d o) (told_of d (Some l))) (sym is) (inr (full_told (disk_content d) l full))

pub may_stay : (call : Call) (c : Content) (d e : DiskData) → disk_content e ≡ c → d ≡ e → MayDo call c (disk_content d)
may_stay call c d e now is = subst (λ k. MayDo call c k) (sym (ap disk_content is ∙ now)) (may_do_nothing call c)

pub full_moments : (first : Content) (l : LogData) → (moment_of l + 2 < 2 ^ 64 → ⊥) → 2 ^ 64 ≤ moment_after (events_of first l) + 2
full_moments first l full = (full_told first l full).1

-- a failure that did nothing is one of each call
pub nothing_told : (call : Call) (old new : Told) → DoesNothing old new → TellsAfter call false old new
nothing_told call Nothing new t = t
nothing_told call (Tells c) new t = (c, t, may_do_nothing call c)
nothing_told call (Records first es) new t = inr (refl, t)

-- a failure that did nothing keeps the content
pub nothing_keeps : (old new : Told) → DoesNothing old new → (c : Content) → content_of old ≡ Some c → content_of new ≡ Some c
nothing_keeps Nothing new t c is = absurd (let wrong : None ≡ Some c = is in cc)
nothing_keeps (Tells d) new t c is = ap content_of t ∙ is
nothing_keeps (Records first es) new t c is =
    ⊎_elim (λ (a : AddsIdle first es new). ap content_of a.0 ∙ is) (λ (a : AddsNone first es new). ap content_of a.0 ∙ is) t

records_same : (a b : Content) (x y : List Event) → Records a x ≡ Records b y → x ≡ y
records_same a b x y e = cc

pub moment_told : (d : DiskData) (l : LogData) (first : Content) (es : List Event) → told_of d (Some l) ≡ Records first es → moment_of l ≡ moment_after es
moment_told d l first es is = sym (moment_is (disk_content d) l) ∙ ap moment_after (records_same (disk_content d) first (events_of (disk_content d) l) es is)
