-- Which ends leave all counts of faults as they were.
use Rattle.std.proofs.Common.{◌≡◌, ◌∙◌, ◌⊎◌, ⊎_elim, inl, inr, ap, sym, subst, refl, ℕ, length, Option, Some, None, Result, Ok, Err, Bool, true, false, arith}
use Rattle.gd_base.specs.Causes.{Rose}
use Rattle.gd_base.specs.Streams.{WritesFront, and_then}
use Rattle.gd_base.specs.declared.errors.DbError.{DbError}
use Rattle.gd_base.specs.declared.errors.DbError.TheVariants as errors
use Rattle.gd_load.specs.declared.incoming.Stop.TheVariants as stops
use Rattle.gd_loading.specs.Load.{ClosesAs, LoadsAs, LoadsBy, Ran, Scene, ends_by}
use Rattle.gd_loading.specs.Loads.{CausedBy, is_broken_by}
use Rattle.gd_loading.specs.declared.loading.LoadEnd.{LoadEnd}
use Rattle.gd_loading.specs.declared.loading.LoadEnd.TheVariants as loads
use Rattle.gd_loading.specs.declared.loading.Plan.{Plan}
use Rattle.gd_loading.specs.declared.taking.Ending.{Ending}
use Rattle.gd_loading.specs.declared.taking.Ending.TheVariants.{Dump, Db}
use Rattle.gd_readable.specs.Asks.{Counts}
use Rattle.gd_vault.specs.Views.{View}
use Rattle.gd_words.specs.declared.load.LoadWords.{LoadWords}
use Rattle.gd_vault.specs.declared.vaults.FileId.{FileId}
use Rattle.gd_loader.specs.Ends.{Says, Text, line_of, status_of, status_untold}
use Rattle.gd_loader.specs.Runs.{Begun, Comes, FileRefused, From, FromFile, FromInput, IsQuiet, Read, Unbegun, Unread, end_of, error_end}
use Rattle.gd_loader.specs.Runs as runs
use Rattle.gd_loader.specs.declared.ending.RunEnd.{RunEnd}
use Rattle.gd_loader.specs.declared.ending.RunEnd.TheVariants.{Loaded, Misused, Refused, Damaged, InputFailed, TooLong, Starved}

-- no object failed
abbrev pub IsCalm : RunEnd → Type 0
IsCalm Loaded = Unit {0}
IsCalm Starved = Unit {0}
IsCalm e = ⊥

-- ---- by the status

calm_status : (e : RunEnd) → IsQuiet (status_of e) → IsCalm e
calm_status Loaded quiet = tt
calm_status Starved quiet = tt
calm_status Misused quiet = ⊎_elim (λ (is : 3 ≡ 0). absurd (omega (arith, is))) (λ (is : 3 ≡ 4). absurd (omega (arith, is))) quiet
calm_status (Refused e) quiet = ⊎_elim (λ (is : 1 ≡ 0). absurd (omega (arith, is))) (λ (is : 1 ≡ 4). absurd (omega (arith, is))) quiet
calm_status (Damaged kind place) quiet = ⊎_elim (λ (is : 1 ≡ 0). absurd (omega (arith, is))) (λ (is : 1 ≡ 4). absurd (omega (arith, is))) quiet
calm_status InputFailed quiet = ⊎_elim (λ (is : 1 ≡ 0). absurd (omega (arith, is))) (λ (is : 1 ≡ 4). absurd (omega (arith, is))) quiet
calm_status TooLong quiet = ⊎_elim (λ (is : 1 ≡ 0). absurd (omega (arith, is))) (λ (is : 1 ≡ 4). absurd (omega (arith, is))) quiet

not_quiet : (n : ℕ) → (n ≡ 1) ⊎ (n ≡ 3) → IsQuiet n → ⊥
not_quiet n which quiet =
    ⊎_elim
    (λ (one : n ≡ 1). ⊎_elim (λ (is : n ≡ 0). absurd (omega (arith, one, is))) (λ (is : n ≡ 4). absurd (omega (arith, one, is))) quiet)
    (λ (three : n ≡ 3). ⊎_elim (λ (is : n ≡ 0). absurd (omega (arith, three, is))) (λ (is : n ≡ 4). absurd (omega (arith, three, is))) quiet)
    which

untold_status : (e : RunEnd) → (status_untold e ≡ 1) ⊎ (status_untold e ≡ 3)
untold_status Misused = inr refl
untold_status Loaded = inl refl
untold_status Starved = inl refl
untold_status (Refused e) = inl refl
untold_status (Damaged kind place) = inl refl
untold_status InputFailed = inl refl
untold_status TooLong = inl refl

-- standard error did not fail
pub says_calm : (e : RunEnd) (status before now : ℕ) (err0 err1 : Option Text) → Says e status before now err0 err1 → IsQuiet status → IsCalm e × (now ≡ before)
says_calm e status before now err0 err1 says quiet =
    ⊎_elim
    (λ (h : (status ≡ status_of e) × (now ≡ before) × (err1 ≡ and_then err0 (line_of e))). (calm_status e (subst IsQuiet h.0 quiet), h.1))
    (λ (h : (status ≡ status_untold e) × Rose before now × WritesFront err0 err1 (line_of e)). absurd (not_quiet (status_untold e) (untold_status e) (subst IsQuiet h.0 quiet)))
    says

-- ---- by the end of the load

pub calm_error : (e : DbError) → IsCalm (error_end e) → e ≡ errors.OutOfMemory
calm_error errors.Absent calm = absurd calm
calm_error errors.BlockSize calm = absurd calm
calm_error errors.ShortFile calm = absurd calm
calm_error errors.BadMagic calm = absurd calm
calm_error errors.ByteSwapped calm = absurd calm
calm_error errors.WrongOffset calm = absurd calm
calm_error errors.BadHeader calm = absurd calm
calm_error (errors.BadDirEntry index) calm = absurd calm
calm_error (errors.BadBucket at) calm = absurd calm
calm_error (errors.BadHashTable at) calm = absurd calm
calm_error (errors.BadHashEntry at slot) calm = absurd calm
calm_error (errors.BadAvail at) calm = absurd calm
calm_error errors.NeedRecovery calm = absurd calm
calm_error errors.ReaderCant calm = absurd calm
calm_error errors.ItemNotFound calm = absurd calm
calm_error errors.CannotReplace calm = absurd calm
calm_error errors.DirOverflow calm = absurd calm
calm_error errors.TooLarge calm = absurd calm
calm_error errors.FileFull calm = absurd calm
calm_error (errors.Exists which) calm = absurd calm
calm_error errors.InUse calm = absurd calm
calm_error errors.NotNumsync calm = absurd calm
calm_error errors.AlreadyAtomic calm = absurd calm
calm_error errors.SameName calm = absurd calm
calm_error errors.InEpoch calm = absurd calm
calm_error errors.NotOpen calm = absurd calm
calm_error errors.VaultFault calm = absurd calm
calm_error errors.ClockFault calm = absurd calm
calm_error errors.OutOfMemory calm = refl
calm_error (errors.ClockStood old_ new_) calm = absurd calm

calm_never : (e closing : DbError) → IsCalm (end_of (ends_by (Err (Db e)) (Err closing))) → ⊥
calm_never errors.Absent closing calm = absurd calm
calm_never errors.BlockSize closing calm = absurd calm
calm_never errors.ShortFile closing calm = absurd calm
calm_never errors.BadMagic closing calm = absurd calm
calm_never errors.ByteSwapped closing calm = absurd calm
calm_never errors.WrongOffset closing calm = absurd calm
calm_never errors.BadHeader closing calm = absurd calm
calm_never (errors.BadDirEntry index) closing calm = absurd calm
calm_never (errors.BadBucket at) closing calm = absurd calm
calm_never (errors.BadHashTable at) closing calm = absurd calm
calm_never (errors.BadHashEntry at slot) closing calm = absurd calm
calm_never (errors.BadAvail at) closing calm = absurd calm
calm_never errors.NeedRecovery closing calm = absurd calm
calm_never errors.ReaderCant closing calm = absurd calm
calm_never errors.ItemNotFound closing calm = absurd calm
calm_never errors.CannotReplace closing calm = absurd calm
calm_never errors.DirOverflow closing calm = absurd calm
calm_never errors.TooLarge closing calm = absurd calm
calm_never errors.FileFull closing calm = absurd calm
calm_never (errors.Exists which) closing calm = absurd calm
calm_never errors.InUse closing calm = absurd calm
calm_never errors.NotNumsync closing calm = absurd calm
calm_never errors.AlreadyAtomic closing calm = absurd calm
calm_never errors.SameName closing calm = absurd calm
calm_never errors.InEpoch closing calm = absurd calm
calm_never errors.NotOpen closing calm = absurd calm
calm_never errors.VaultFault closing calm = absurd calm
calm_never errors.ClockFault closing calm = absurd calm
calm_never errors.OutOfMemory closing calm = absurd calm
calm_never (errors.ClockStood old_ new_) closing calm = absurd calm

-- the pairs ended without a fault
abbrev CalmPairs : Result (Unit {0}) Ending → Type 0
CalmPairs (Ok x) = Unit {0}
CalmPairs (Err (Dump stops.Starved)) = Unit {0}
CalmPairs (Err (Dump stop)) = ⊥
CalmPairs (Err (Db e)) = e ≡ errors.OutOfMemory

calm_parts : (pairs : Result (Unit {0}) Ending) (closing : Result (Unit {0}) DbError) → IsCalm (end_of (ends_by pairs closing)) → CalmPairs pairs × (closing ≡ Ok tt)
calm_parts (Ok x) (Ok y) calm = (tt, refl)
calm_parts (Ok x) (Err e) calm = absurd calm
calm_parts (Err (Dump stops.Starved)) (Ok y) calm = (tt, refl)
calm_parts (Err (Dump (stops.Refused kind place))) (Ok y) calm = absurd calm
calm_parts (Err (Dump stops.InputFailed)) (Ok y) calm = absurd calm
calm_parts (Err (Dump stops.TooLong)) (Ok y) calm = absurd calm
calm_parts (Err (Db e)) (Ok y) calm = (calm_error e calm, refl)
calm_parts (Err (Dump stops.Starved)) (Err e) calm = absurd calm
calm_parts (Err (Dump (stops.Refused kind place))) (Err e) calm = absurd calm
calm_parts (Err (Dump stops.InputFailed)) (Err e) calm = absurd calm
calm_parts (Err (Dump stops.TooLong)) (Err e) calm = absurd calm
calm_parts (Err (Db e)) (Err closing) calm = absurd (calm_never e closing calm)

calm_closing : (broken : Bool) (f : ℕ) (mid new : View) → broken ≡ false → ClosesAs broken f (Ok tt) mid new → new.faults ≡ mid.faults
calm_closing false f mid new is closes = closes.cause.answered
calm_closing true f mid new is closes = ap (λ (v : View). v.faults) closes.1

calm_broken : (pairs : Result (Unit {0}) Ending) → CalmPairs pairs → is_broken_by pairs ≡ false
calm_broken (Ok x) calm = refl
calm_broken (Err (Dump stop)) calm = refl
calm_broken (Err (Db e)) calm = subst (λ (e' : DbError). is_broken_by {T = Unit {0}} (Err (Db e')) ≡ false) (sym calm) refl

calm_causes : (pairs : Result (Unit {0}) Ending) (in_before in_now read before now : ℕ) → CalmPairs pairs → CausedBy pairs in_before in_now read before now → (in_now ≡ in_before) × (now ≡ before)
calm_causes (Ok x) in_before in_now read before now calm cause = cause
calm_causes (Err (Dump stops.Starved)) in_before in_now read before now calm cause = cause
calm_causes (Err (Dump (stops.Refused kind place))) in_before in_now read before now calm cause = absurd calm
calm_causes (Err (Dump stops.InputFailed)) in_before in_now read before now calm cause = absurd calm
calm_causes (Err (Dump stops.TooLong)) in_before in_now read before now calm cause = absurd calm
calm_causes (Err (Db e)) in_before in_now read before now calm cause =
    let c = subst (λ (e' : DbError). CausedBy {T = Unit {0}} (Err (Db e')) in_before in_now read before now) calm cause in (c.0, c.1)

-- no source and no vault failed
abbrev NoneRose : Scene → Scene → Type 0
NoneRose old new = (new.failed ≡ old.failed) × (new.view.faults ≡ old.view.faults)

calm_ran : (plan : Plan) (name : Option Text) (used : Option FileId) (old new : Scene) (bytes : Text) (ended : Bool) (load : LoadEnd)
    → Ran plan name used old new bytes ended load → IsCalm (end_of load) → NoneRose old new
calm_ran plan name used old new bytes ended load h calm =
    let p = h.poured in
    let parts = calm_parts p.pairs p.closing (subst (λ (l : LoadEnd). IsCalm (end_of l)) (sym p.is) calm) in
    let causes = calm_causes p.pairs old.failed new.failed (length bytes) h.opened.faults p.mid.faults parts.0 p.cause in
    let closes = subst (λ (r : Result (Unit {0}) DbError). ClosesAs (is_broken_by p.pairs) h.store.file r p.mid new.view) parts.1 p.closes in
    (causes.0, calm_closing (is_broken_by p.pairs) h.store.file p.mid new.view (calm_broken p.pairs parts.0) closes ∙ (causes.1 ∙ h.entered.count))

calm_by : (plan : Plan) (name : Option Text) (used : Option FileId) (old new : Scene) (bytes : Text) (ended : Bool) (load : LoadEnd)
    → LoadsBy plan name used old new bytes ended load → IsCalm (end_of load) → NoneRose old new
calm_by plan name used old new bytes ended loads.Loaded h calm = calm_ran plan name used old new bytes ended loads.Loaded h calm
calm_by plan name used old new bytes ended (loads.Head stops.Starved) h calm = (h.cause, ap (λ (v : View). v.faults) h.same)
calm_by plan name used old new bytes ended (loads.Head (stops.Refused kind place)) h calm = absurd calm
calm_by plan name used old new bytes ended (loads.Head stops.InputFailed) h calm = absurd calm
calm_by plan name used old new bytes ended (loads.Head stops.TooLong) h calm = absurd calm
calm_by plan name used old new bytes ended (loads.Unnamed place) h calm = absurd calm
calm_by plan name used old new bytes ended (loads.Opening e) h calm =
    (h.count, subst (λ (e' : DbError). Counts e' old.view.faults new.view.faults) (calm_error e calm) h.refused.count)
calm_by plan name used old new bytes ended (loads.Pairs ending) h calm = calm_ran plan name used old new bytes ended (loads.Pairs ending) h calm
calm_by plan name used old new bytes ended (loads.Closing e) h calm = absurd calm

calm_loads : (plan : Plan) (name : Option Text) (used : Option FileId) (old new : Scene) (load : LoadEnd) → LoadsAs plan name used old new load → IsCalm (end_of load) → NoneRose old new
calm_loads plan name used old new load h calm = calm_by plan name used old new h.bytes h.says.ended load h.says.by calm

-- ---- by the end of the run

calm_unread : (file : Text) (end : RunEnd) (u v : View) → Unread file end u v → IsCalm end → v.faults ≡ u.faults
calm_unread file end u v h calm =
    subst (λ (e : DbError). FileRefused e file u v) (calm_error h.error (subst IsCalm h.is calm)) h.why

calm_read : (plan : Plan) (db : Option Text) (file : Text) (end : RunEnd) (u v : View) → Read plan db file end u v → IsCalm end → v.faults ≡ u.faults
calm_read plan db file end u v h calm =
    let one = calm_loads plan db (Some h.id) (runs.scene (Some h.bytes) 0 h.mid) (runs.scene (Some h.rest) 0 v) h.load h.loads (subst IsCalm h.is calm) in
    one.1 ∙ h.count

calm_file : (plan : Plan) (db : Option Text) (file : Text) (end : RunEnd) (old new : Scene) → FromFile plan db file end old new → IsCalm end → NoneRose old new
calm_file plan db file end old new h calm = (
  h.count,
  ⊎_elim
      (λ (a : Unread file end old.view new.view). calm_unread file end old.view new.view a calm)
      (λ (a : Read plan db file end old.view new.view). calm_read plan db file end old.view new.view a calm)
      h.reads,
)

calm_from : (input : Option Text) (plan : Plan) (db : Option Text) (end : RunEnd) (old new : Scene) → From input plan db end old new → IsCalm end → NoneRose old new
calm_from None plan db end old new h calm = calm_loads plan db None old new h.load h.loads (subst IsCalm h.is calm)
calm_from (Some file) plan db end old new h calm = calm_file plan db file end old new h calm

-- neither standard input nor the vault failed
pub comes_calm : (meant : Option LoadWords) (end : RunEnd) (old new : Scene) → Comes meant end old new → IsCalm end → NoneRose old new
comes_calm meant end old new comes calm =
    ⊎_elim
    (λ (h : Unbegun meant end × (new ≡ old)). (ap (λ (s : Scene). s.failed) h.1, ap (λ (s : Scene). s.view.faults) h.1))
    (λ (h : Begun meant end old new). calm_from h.words.input (runs.plan_of h.words) h.words.db end old new h.from calm)
    comes
