-- What a vault in memory tells is sound.
use Rattle.std.proofs.Common.{◌≡◌, ◌≢◌, ◌⊎◌, ⊎_elim, ◌∙◌, sym, subst, refl, ℕ, Bool, false, List, [], Option, Some, None}
use Rattle.gd_vault.specs.Content.{File, Content}
use Rattle.gd_vault.specs.Events.{Call, content_after}
use Rattle.gd_vault.specs.History.{IsProper}
use Rattle.gd_vault.specs.Views.{Told, content_of}
use Rattle.gd_vault.specs.Views.Told.{Nothing, Tells, Records}
use Rattle.gd_vault.specs.Changes.{AddsCall, AddsIdle, AddsNone, TellsAfter}
use Rattle.gd_vault.proofs.Lawful.{proper, proper_after, same_name}
use Rattle.gd_memvault.specs.DiskData.{DiskData}
use Rattle.gd_memvault.specs.LogData.{LogData}
use Rattle.gd_memvault.specs.Disk.{AddsFile, disk_content}
use Rattle.gd_memvault.specs.Log.{IsSound, told_of}
use Rattle.gd_memvault.specs.Memory.{AddsDurable}

pub sound_after : (call : Call) (ok : Bool) (old new : Told) → TellsAfter call ok old new → IsSound old → IsSound new
sound_after call ok Nothing new t sound = subst IsSound (sym t) tt
sound_after call ok (Tells c) new t sound = subst IsSound (sym t.1) (proper_after ok call c t.0 t.2 sound)
sound_after call ok (Records first es) new t sound =
    ⊎_elim
    (λ (a : AddsCall call ok first es new). subst IsSound (sym a.1) (sound, a.2))
    (λ (a : (ok ≡ false) × (AddsIdle first es new ⊎ AddsNone first es new)). ⊎_elim
    (λ (idle : AddsIdle first es new). subst IsSound (sym idle.0) (sound, record { names = λ n. refl; files = λ f. refl }))
    (λ (full : AddsNone first es new). subst IsSound (sym full.0) sound)
    a.1)
    t

some_of : {A : Type 0} (o : Option A) → o ≢ None → (x : A) × (o ≡ Some x)
some_of None some = absurd (some refl)
some_of (Some x) some = (x, refl)

pub proper_now : (t : Told) → IsSound t → (c : Content) → content_of t ≡ Some c → IsProper c
proper_now Nothing sound c is = absurd (let wrong : None ≡ Some c = is in cc)
proper_now (Tells d) sound c is = let same : d ≡ c = cc in subst IsProper same sound
proper_now (Records first es) sound c is = let same : content_after first es ≡ c = (let whole : Some (content_after first es) ≡ Some c = is in cc) in subst IsProper same (proper first es sound)

-- a name that is found stands for a file
pub found_there : (t : Told) → IsSound t → (d : Content) (name : List ℕ) (id : ℕ) → content_of t ≡ Some d → d.names name ≡ Some id → (c : Content) → content_of t ≡ Some c → (x : File) × (c.files id ≡ Some x)
found_there t sound d name id now is c told =
    let same : d ≡ c = cc in
    some_of (c.files id) (proper_now t sound c told name id (subst (λ (k : Content). k.names name ≡ Some id) same is))

-- ---- a durable file more

added_proper : (name : List ℕ) (file : File) (id : ℕ) (c d : Content) → AddsFile name file id c d → IsProper c → IsProper d
added_proper name file id c d a p n f is =
    ⊎_elim
    (λ (e : n ≡ name).
    let same : f ≡ id = some_one (d.names n) f id is (subst (λ k. d.names k ≡ Some id) (sym e) a.named) in
    subst (λ k. d.files k ≢ None) (sym same) (λ gone. (let wrong : Some file ≡ None = sym a.made ∙ gone in cc)))
    (λ (e : n ≢ name). stays (p n f (sym (a.other_names n e) ∙ is)))
    (same_name n name)
  where
    some_one : (o : Option ℕ) (x y : ℕ) → o ≡ Some x → o ≡ Some y → x ≡ y
    some_one o x y one two = cc

    stays : c.files f ≢ None → d.files f ≢ None
    stays there gone =
        let other : f ≢ id = λ e. there (subst (λ k. c.files k ≡ None) (sym e) a.unused) in
        there (sym (a.other_files f other) ∙ gone)

pub added_sound : (name : List ℕ) (file : File) (id : ℕ) (d e : DiskData) (log : Option LogData) → ((l : LogData) → log ≡ Some l → l ≡ record { entries = []; idle = 0 }) → AddsFile name file id (disk_content d) (disk_content e) → IsSound (told_of d log) → IsSound (told_of e log)
added_sound name file id d e None none a sound = added_proper name file id (disk_content d) (disk_content e) a sound
added_sound name file id d e (Some l) none a sound =
    let empty = none l refl in
    subst (λ k. IsSound (told_of e (Some k))) (sym empty) (added_proper name file id (disk_content d) (disk_content e) a (subst (λ k. IsSound (told_of d (Some k))) empty sound))

pub added_told : (name : List ℕ) (file : File) (id : ℕ) (d e : DiskData) (log : Option LogData) → ((l : LogData) → log ≡ Some l → l ≡ record { entries = []; idle = 0 }) → AddsFile name file id (disk_content d) (disk_content e) → AddsDurable name file id (told_of d log) (told_of e log)
added_told name file id d e None none a = record {
  plain = λ c is. let same : disk_content d ≡ c = cc in (disk_content e, refl, subst (λ k. AddsFile name file id k (disk_content e)) same a);
  history = λ c is. absurd (let wrong : Tells (disk_content d) ≡ Records c [] = is in cc);
}
added_told name file id d e (Some l) none a =
    subst (λ k. AddsDurable name file id (told_of d (Some k)) (told_of e (Some k))) (sym (none l refl)) (record {
      plain = λ c is. absurd (let wrong : Records (disk_content d) [] ≡ Tells c = is in cc);
      history = λ c is. let whole : Records (disk_content d) [] ≡ Records c [] = is in let same : disk_content d ≡ c = cc in (disk_content e, refl, subst (λ k. AddsFile name file id k (disk_content e)) same a);
    })
