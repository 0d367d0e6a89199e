-- What the vault was, along a log.
use Rattle.std.proofs.Common.{◌≡◌, ◌⊎◌, ⊎_elim, ◌∙◌, ap, sym, subst, refl, ℕ, zero, suc, ◌+◌, ◌*◌, ◌<◌, ◌≤◌, Bool, true, false, cond, leb, List, [], ◌∷◌, ◌++◌, length, fold, get_or, arith}
use Rattle.std.proofs.lemmas.Bool.Decides.{leb_tells}
use Rattle.std.proofs.lemmas.List.{take_all}
use Rattle.std.specs.Prelude.{Result, Ok, Err, IfOk}
use Rattle.gd_base.specs.declared.errors.OutOfMemory.{OutOfMemory}
use Rattle.gd_vault.specs.Content.{Content}
use Rattle.gd_vault.specs.Events.{Event, content_after, moment_after}
use Rattle.gd_vault.specs.Events.Call.{Idle}
use Rattle.gd_vault.specs.Changes.{event}
use Rattle.gd_vault.specs.History.{was, left}
use Rattle.gd_vault.specs.Lawful.{IsLawful}
use Rattle.gd_vault.proofs.FrameLeft.{was_past}
use Rattle.gd_vault.proofs.WasLeft.{was_left}
use Rattle.gd_memvault.specs.DiskData.{DiskData}
use Rattle.gd_memvault.specs.LogData.{LogData}
use Rattle.gd_memvault.specs.declared.log.Entry.{Entry}
use Rattle.gd_memvault.specs.Disk.{call_of, disk_content}
use Rattle.gd_memvault.specs.Log.{add_entry, events_of, idles, moment_of}
use Rattle.gd_memvault.specs.Image.{events_at}
use Rattle.gd_memvault.proofs.Candidates.{entry_in}
use Rattle.gd_memvault.proofs.Logs.{content_idles, length_idles, moment_is}

late : (a b : ℕ) → b < a → leb a b ≡ false
late a b lt =
    ⊎_elim (λ (h : (leb a b ≡ true) × (a ≤ b)). absurd (omega (arith, h.1, lt))) (λ (h : (leb a b ≡ false) × (b < a)). h.0) (leb_tells a b)

early : (a b : ℕ) → a ≤ b → leb a b ≡ true
early a b le =
    ⊎_elim (λ (h : (leb a b ≡ true) × (a ≤ b)). h.0) (λ (h : (leb a b ≡ false) × (b < a)). absurd (omega (arith, h.1, le))) (leb_tells a b)

-- from the end on it is what stands there now
was_end : (first : Content) (es : List Event) (t : ℕ) → moment_after es ≤ t → was first es t ≡ content_after first es
was_end first [] t le = refl
was_end first (e ∷ es) t le = ap (λ b. cond b (was first es t) e.after) (late t (moment_after es + 1) (omega (arith, le)))

either : (b : Bool) (x y z : Content) → x ≡ z → y ≡ z → cond b x y ≡ z
either true x y z one two = one
either false x y z one two = two

-- failures that did nothing change nothing
was_idles : (first : Content) (n : ℕ) (es : List Event) (t : ℕ) → moment_after es ≤ t → was first (idles first n es) t ≡ content_after first es
was_idles first zero es t le = was_end first es t le
was_idles first (suc n) es t le =
    either (leb t (moment_after (idles first n es) + 1)) (was first (idles first n es) t) (content_after first (idles first n es)) (content_after first es) (was_idles first n es t le) (content_idles first n es)

-- before the end of an entry it is what stood there before the entry
pub was_before : (first : Content) (l : LogData) (i : ℕ) (e : Entry) (b : DiskData) (t rest : ℕ) → i < length l.entries → e ≡ get_or l.entries i e → disk_content b ≡ content_after first (events_at first l.entries i) → t ≡ moment_after (events_at first l.entries i) + rest → rest ≤ 2 * e.idle_before + 1 → disk_content b ≡ was first (events_of first l) t
was_before first l i e b t rest lt is now at le =
    let es = events_at first l.entries i in
    let before = idles first e.idle_before es in
    let last = event (call_of e.step) e.ok (disk_content e.after) in
    let part = entry_in first l i e lt is in
    let size = length_idles first e.idle_before es in
    let whole : was first (events_of first l) t ≡ was first (last ∷ before) t =
    ap (λ (all : List Event). was first all t) part.1 ∙ was_past first (last ∷ before) part.0 t (omega (arith, at, le, size)) in
    let inside : was first (last ∷ before) t ≡ was first before t =
    ap (λ b. cond b (was first before t) last.after) (early t (moment_after before + 1) (omega (arith, at, le, size))) in
    now ∙ sym (whole ∙ inside ∙ was_idles first e.idle_before es t (omega (arith, at)))

-- behind the last entry
pub was_last : (first : Content) (l : LogData) (i : ℕ) (b : DiskData) (t rest : ℕ) → i ≡ length l.entries → disk_content b ≡ content_after first (events_at first l.entries i) → t ≡ moment_after (events_at first l.entries i) + rest → disk_content b ≡ was first (events_of first l) t
was_last first l i b t rest end now at =
    let whole : fold (add_entry first) [] l.entries ≡ events_at first l.entries i = ap (fold (add_entry first) []) (sym (take_all i l.entries (omega (arith, end)))) in
    let all : events_of first l ≡ idles first l.idle (events_at first l.entries i) = ap (idles first l.idle) whole in
    now ∙ sym (ap (λ (es : List Event). was first es t) all ∙ was_idles first l.idle (events_at first l.entries i) t (omega (arith, at)))

-- a copy of a disk that is what was
pub was_copied : (r : Result DiskData OutOfMemory) (b : DiskData) (c : Content) → IfOk r (λ d. d ≡ b) → disk_content b ≡ c → IfOk r (λ d. disk_content d ≡ c)
was_copied (Ok d) b c is same = ap disk_content is ∙ same
was_copied (Err e) b c is same = is

-- and a crash may leave it
pub was_is_left : (r : Result DiskData OutOfMemory) (first : Content) (l : LogData) (t : ℕ) → IsLawful first (events_of first l) → t ≤ moment_of l → IfOk r (λ d. disk_content d ≡ was first (events_of first l) t) → IfOk r (λ d. left first (events_of first l) t (disk_content d))
was_is_left (Ok d) first l t lawful le is =
    subst (left first (events_of first l) t) (sym is) (was_left first (events_of first l) lawful t (omega (arith, le, moment_is first l)))
was_is_left (Err e) first l t lawful le is = is
