-- The opening of a database.
use Rattle.std.proofs.Common.{◌≡◌, ◌≢◌, ◌⊎◌, inl, inr, ⊎_elim, ℕ, ◌≤◌, Bool, true, false, List, [], ◌++◌, Option, Some, None, Result, Ok, Err, refl, sym, ap, subst, ◌∙◌, arith}
use Rattle.std.specs.Prelude.{IfErr, IfOk, OnErr}
use Rattle.gd_base.specs.Causes.{Rose}
use Rattle.gd_base.specs.declared.errors.DbError.{DbError}
use Rattle.gd_base.specs.declared.errors.DbError.TheVariants.{Absent, BlockSize, ShortFile, BadMagic, ByteSwapped, WrongOffset, BadHeader, BadDirEntry, BadBucket, BadHashTable, BadHashEntry, BadAvail, NeedRecovery, ReaderCant, ItemNotFound, CannotReplace, DirOverflow, TooLarge, FileFull, Exists, InUse, NotNumsync, AlreadyAtomic, SameName, InEpoch, NotOpen, VaultFault, ClockFault, OutOfMemory, ClockStood}
use Rattle.gd_base.specs.declared.errors.Which.TheVariants.{Only}
use Rattle.gd_create.specs.NewFile.{IsNewHeader}
use Rattle.gd_format.specs.File.{file_fault, records}
use Rattle.gd_format.specs.Sound.{IsSound}
use Rattle.gd_store.specs.Opened as opened
use Rattle.gd_store.specs.Opened.{Fits, IsAsked, IsCleared, IsOwn, IsRightFor, NamesOwn, OnFile, Opened, OpenedAs, StandsFor, is_of_opening, cleared, fault_for, named_in, open_due}
use Rattle.gd_store.specs.declared.access.Access.{Access}
use Rattle.gd_store.specs.declared.access.Access.TheVariants.{Reader, Writer}
use Rattle.gd_readable.specs.Asks as verify
use Rattle.gd_vault.specs.Content.{File, Content}
use Rattle.gd_vault.specs.Frame.{Frame, Reads, Within}
use Rattle.gd_vault.specs.Views.{Asked, View, HasFile, IsAt, OnlyAsks, content_of}
use Rattle.gd_session.specs.Calls.{IsOpen}
use Rattle.gd_session.specs.Openings.{Faulted, IsOpened, IsOpeningCause, is_of_named, IsOpening, IsRefusedOpening, OpensByName, Relation, Spoiling, SpoilsByName}
use Rattle.gd_session.specs.Opens.{bytes_of, Checked, Checks, IsNamedIn, Made, Makes, Opens, OpensAs, OpensOrMakes, Spoiled, Spoils, SpoilsAs, SpoilsAt, Unspoiled}
use Rattle.gd_session.specs.State.{Db, Text, db_of}
use Rattle.gd_session.specs.declared.settings.Settings.{Settings}
use Rattle.gd_lang.specs.declared.commands.Opening.{Opening}
use Rattle.gd_session.proofs.Asked.{told_by}
use Rattle.gd_session.proofs.Saying.{rose_later}
use Rattle.gd_vault.proofs.OneFile.{reads_in}

right_none : (access : Access) (s : Opened) (file : List ℕ) → s.access ≡ access → IsRightFor s.access s.header s.table file → fault_for access file ≡ None
right_none Reader s file is r = subst (λ (a : Access). IsRightFor a s.header s.table file) is r
right_none Writer s file is r = (subst (λ (a : Access). IsRightFor a s.header s.table file) is r).0

-- a file that was there is open
pub checked : (u v : View) (settings : Settings) (access : Access) (s : Opened) → OnlyAsks u v → OpenedAs v settings.file access settings.cache s → HasFile v s.file → Fits v s → IsOpened (Checks settings access) settings.file s u v
checked u v settings access s asks o has fits = record {
  is_open = record { there = has; fits = fits; named = λ calm. o.named };
  opened = λ c told.
      let now : content_of v.told ≡ Some c = ap content_of asks.told ∙ told in
      let x = has c now in (
        c,
        now,
        (
          record {
            named = o.named c now;
            file = x.0;
            there = x.1;
            right = right_none access s x.0.bytes o.access (fits o.whole c x.0 now x.1).right;
            access_is = o.access;
            cache_is = o.cache;
            whole = o.whole;
          },
          refl,
        ),
      );
}

pub check_refused : (u v : View) (settings : Settings) (access : Access) (e : DbError) → OnlyAsks u v → verify.Refuses e (Rose u.faults v.faults) (IsAt u (λ c. open_due c settings.file access ≡ Some e)) → IsRefusedOpening (Checks settings access) Unspoiled e u v
check_refused u v settings access VaultFault asks why = record {
  rose = why;
  spoiled = λ c told. (c, ap content_of asks.told ∙ told, refl);
}
check_refused u v settings access OutOfMemory asks why = λ c told. (ap content_of asks.told ∙ told, (inr refl, refl))
check_refused u v settings access e asks why = λ c told. (ap content_of asks.told ∙ told, (inl (why c told), refl))

reads_named : (u v : View) (c : Content) (name : Text) → content_of u.told ≡ Some c → Within (StandsFor u name) (λ n. n ≡ name) u v → (d : Content) × (content_of v.told ≡ Some d) × Reads (IsNamedIn c name) (λ n. n ≡ name) c d
reads_named u v c name told frame =
    let r = reads_in (StandsFor u name) (λ n. n ≡ name) u.told v.told c frame.told told in
    (r.0, r.1, record { files = λ f x other is. r.2.files f x (λ h. other (h c told)) is; names = r.2.names; stay = r.2.stay })

-- the file of the name keeps its mode and its stamp
named_marks : (u v : View) (c d : Content) (name : Text) → content_of u.told ≡ Some c → content_of v.told ≡ Some d → opened.MarksStay u v name → (f : ℕ) (x : File) → c.names name ≡ Some f → c.files f ≡ Some x → (y : File) × (d.files f ≡ Some y) × (y.mode ≡ x.mode) × (y.stamp ≡ x.stamp)
named_marks u v c d name told told' marks f x stands here =
    let m = marks f (λ k is. let both : Some c ≡ Some k = sym told ∙ is in let same : c ≡ k = cc in ap (λ (j : Content). j.names name) (sym same) ∙ stands) c x told here in
    let both : Some m.0 ≡ Some d = sym m.1 ∙ told' in
    let same : m.0 ≡ d = cc in
    (m.2.0, ap (λ (j : Content). j.files f) (sym same) ∙ m.2.1, m.2.2, m.2.3)

-- a file was made, or emptied
pub made : (u v : View) (settings : Settings) (s : Opened) → OpenedAs v settings.file Writer settings.cache s → HasFile v s.file → Fits v s
    → IsAsked settings.block settings.format s.header → IsNewHeader s.header
    → OnFile v s.file (λ file. (file ≡ bytes_of settings s.header) × (records file ≡ [])) → IsCleared u v settings.file s.file (bytes_of settings s.header) → Within (StandsFor u settings.file) (λ n. n ≡ settings.file) u v
    → IsOwn u settings.file s.file
    → IsOpened (Makes settings) settings.file s u v
made u v settings s o has fits asked header new clear frame own = record {
  is_open = record { there = has; fits = fits; named = λ calm. o.named };
  opened = λ c told.
      let r = reads_named u v c settings.file told frame in
      let x = has r.0 r.1 in
      let n = new r.0 x.0 r.1 x.1 in
      let right = subst (λ (a : Access). IsRightFor a s.header s.table x.0.bytes) o.access (fits o.whole r.0 x.0 r.1 x.1).right in (
        r.0,
        r.1,
        record {
          named = o.named r.0 r.1;
          own = own c told;
          header = s.header;
          asked = asked;
          sizes = header.sizes;
          there = clear c r.0 told r.1;
          empty = subst (λ (b : List ℕ). records b ≡ []) n.0 n.1;
          sound = subst (λ (b : List ℕ). IsSound b) n.0 right.0;
          access_is = o.access;
          cache_is = o.cache;
          whole = o.whole;
          others = r.2;
        },
      );
}

pub make_refused : (u v : View) (settings : Settings) (e : DbError) → Within (StandsFor u settings.file) (λ n. n ≡ settings.file) u v
    → verify.Refuses e (Rose u.faults v.faults) ((e ≡ Exists Only) × (content_of u.told ≡ None)) → (e ≡ OutOfMemory → OnlyAsks u v)
    → NamesOwn u v settings.file → opened.MarksStay u v settings.file
    → IsRefusedOpening (Makes settings) (Spoiled settings) e u v
make_refused u v settings VaultFault frame why memory name marks = record {
  rose = why;
  spoiled = λ c told. let r = reads_named u v c settings.file told frame in (r.0, r.1, record { others = r.2; name = name c r.0 told r.1; marks = named_marks u v c r.0 settings.file told r.1 marks });
}
make_refused u v settings OutOfMemory frame why memory name marks = λ c told. (ap content_of (memory refl).told ∙ told, (refl, refl))
make_refused u v settings e frame why memory name marks = λ c told. absurd (let none : None ≡ Some c = sym why.1 ∙ told in cc)

-- ---- by results

pub checked_result : (u v : View) (settings : Settings) (access : Access) (r : Result Opened DbError) → OnlyAsks u v → IfOk r (λ s. OpenedAs v settings.file access settings.cache s) → IfOk r (λ s. HasFile v s.file) → IfOk r (λ s. Fits v s)
    → IfErr r (λ e. verify.Refuses e (Rose u.faults v.faults) (IsAt u (λ c. open_due c settings.file access ≡ Some e))) → IsOpening (Checks settings access) Unspoiled settings.file r u v
checked_result u v settings access (Ok s) asks o has fits why = checked u v settings access s asks o has fits
checked_result u v settings access (Err e) asks o has fits why = check_refused u v settings access e asks why

pub made_result : (u v : View) (settings : Settings) (r : Result Opened DbError)
    → IfOk r (λ s. OpenedAs v settings.file Writer settings.cache s) → IfOk r (λ s. HasFile v s.file) → IfOk r (λ s. Fits v s)
    → IfOk r (λ s. IsAsked settings.block settings.format s.header) → IfOk r (λ s. IsNewHeader s.header)
    → IfOk r (λ s. OnFile v s.file (λ file. (file ≡ bytes_of settings s.header) × (records file ≡ []))) → IfOk r (λ s. IsCleared u v settings.file s.file (bytes_of settings s.header))
    → IfOk r (λ s. IsOwn u settings.file s.file) → Within (StandsFor u settings.file) (λ n. n ≡ settings.file) u v
    → IfErr r (λ e. verify.Refuses e (Rose u.faults v.faults) ((e ≡ Exists Only) × (content_of u.told ≡ None))) → IfErr r (λ e. e ≡ OutOfMemory → OnlyAsks u v)
    → NamesOwn u v settings.file → opened.MarksStay u v settings.file
    → IsOpening (Makes settings) (Spoiled settings) settings.file r u v
made_result u v settings (Ok s) o has fits asked header new clear own frame why memory name marks = made u v settings s o has fits asked header new clear frame own
made_result u v settings (Err e) o has fits asked header new clear own frame why memory name marks = make_refused u v settings e frame why memory name marks

-- another relation, and calls that ask before
opened_after : (opens opens' : Relation) (name : Text) (o : Opened) (t u v : View) → OnlyAsks t u → ((c : Content) → content_of t.told ≡ Some c → (r : Result Db DbError) (d : Content) → opens c r d → opens' c r d) → IsOpened opens name o u v → IsOpened opens' name o t v
opened_after opens opens' name o t u v asks f h = record {
  is_open = h.is_open;
  opened = λ c told. let k = h.opened c (ap content_of asks.told ∙ told) in (k.0, k.1, f c told (Ok (db_of o)) k.0 k.2);
}

refused_after : (opens opens' : Relation) (spoils spoils' : Spoiling) (e : DbError) (t u v : View) → OnlyAsks t u → ((c : Content) → content_of t.told ≡ Some c → (r : Result Db DbError) (d : Content) → opens c r d → opens' c r d)
    → ((c : Content) → content_of t.told ≡ Some c → (d : Content) → spoils c d → spoils' c d)
    → IsRefusedOpening opens spoils e u v → IsRefusedOpening opens' spoils' e t v
refused_after opens opens' spoils spoils' VaultFault t u v asks f s h = record {
  rose = rose_later t.faults u.faults v.faults asks.later h.rose;
  spoiled = λ c told. let k = h.spoiled c (ap content_of asks.told ∙ told) in (k.0, k.1, s c told k.0 k.2);
}
refused_after opens opens' spoils spoils' e t u v asks f s h = λ c told. let k = h c (ap content_of asks.told ∙ told) in (k.0, f c told (Err e) c k.1)

pub opening_after : (opens opens' : Relation) (spoils spoils' : Spoiling) (name : Text) (r : Result Opened DbError) (t u v : View) → OnlyAsks t u → ((c : Content) → content_of t.told ≡ Some c → (r : Result Db DbError) (d : Content) → opens c r d → opens' c r d)
    → ((c : Content) → content_of t.told ≡ Some c → (d : Content) → spoils c d → spoils' c d)
    → IsOpening opens spoils name r u v → IsOpening opens' spoils' name r t v
opening_after opens opens' spoils spoils' name (Ok o) t u v asks f s h = opened_after opens opens' name o t u v asks f h
opening_after opens opens' spoils spoils' name (Err e) t u v asks f s h = refused_after opens opens' spoils spoils' e t u v asks f s h

pub asks_of : {T E : Type 0} {result : Result T E} (u v : View) → Asked result u v → OnlyAsks u v
asks_of u v a = record { told = a.told; later = a.cause.later; bytes_written = a.bytes_written; clones = a.clones }

pub by_name : (o : Option ℕ) (s : Settings) (c : Content) (r : Result Db DbError) (d : Content) → c.names s.file ≡ o → OpensOrMakes o s c r d → OpensByName s c r d
by_name o s c r d is h = subst (λ (x : Option ℕ). OpensOrMakes x s c r d) (sym is) h

pub by_opening : (w : Opening) (s : Settings) (c : Content) (r : Result Db DbError) (d : Content) → s.opening ≡ w → OpensAs w s c r d → Opens s c r d
by_opening w s c r d is h = subst (λ (x : Opening). OpensAs x s c r d) (sym is) h

pub nothing_spoiled : (o : Option ℕ) (s : Settings) (c : Content) → SpoilsAt o s c c
nothing_spoiled None s c = record { others = record { files = λ f x other is. is; names = λ n other. refl; stay = λ f x is. (x, is) }; name = inl refl; marks = λ f x stands here. (x, here, refl, refl) }
nothing_spoiled (Some f) s c = refl

pub spoils_by_name : (o : Option ℕ) (s : Settings) (c d : Content) → c.names s.file ≡ o → SpoilsAt o s c d → SpoilsByName s c d
spoils_by_name o s c d is h = subst (λ (x : Option ℕ). SpoilsAt x s c d) (sym is) h

pub spoils_by_opening : (w : Opening) (s : Settings) (c d : Content) → s.opening ≡ w → SpoilsAs w s c d → Spoils s c d
spoils_by_opening w s c d is h = subst (λ (x : Opening). SpoilsAs x s c d) (sym is) h

pub lookup_failed : (T E : Type 0) (opens : Relation) (s : Settings) (result : Result T E) (e : E) (u v : View) → result ≡ Err e → Asked result u v → IsRefusedOpening opens (SpoilsByName s) VaultFault u v
lookup_failed T E opens s result e u v is a = record {
  rose = subst (λ (r : Result T E). OnErr r (Rose u.faults v.faults)) is a.cause.failed;
  spoiled = λ c told. (c, ap content_of a.told ∙ told, nothing_spoiled (c.names s.file) s c);
}

-- ---- causes over every vault

sound_of : (e : DbError) → verify.is_of_readable e ≡ true → is_of_named e ≡ true
sound_of Absent kind = refl
sound_of (Exists which) kind = refl
sound_of NeedRecovery kind = refl
sound_of (BadAvail at) kind = refl
sound_of e kind = kind

checked_cause : (access : Access) (e : DbError) (before now : ℕ) (refusal : Type 0) → verify.Refuses e (Rose before now) refusal → verify.IsAnswer (is_of_opening access) e → IsOpeningCause e before now
checked_cause access VaultFault before now refusal why kind = why
checked_cause access OutOfMemory before now refusal why kind = tt
checked_cause Reader Absent before now refusal why kind = refl
checked_cause Writer Absent before now refusal why kind = refl
checked_cause Reader (Exists which) before now refusal why kind = refl
checked_cause Writer (Exists which) before now refusal why kind = refl
checked_cause Reader e before now refusal why kind = sound_of e kind
checked_cause Writer e before now refusal why kind = kind

pub checked_causes : {T : Type 0} (access : Access) (r : Result T DbError) (before now : ℕ) (refusal : DbError → Type 0) → IfErr r (λ e. verify.Refuses e (Rose before now) (refusal e)) → IfErr r (λ e. verify.IsAnswer (is_of_opening access) e) → IfErr r (λ e. IsOpeningCause e before now)
checked_causes access (Ok x) before now refusal why kind = tt
checked_causes access (Err e) before now refusal why kind = checked_cause access e before now (refusal e) why kind

made_cause : (e : DbError) (before now : ℕ) (P : Type 0) → verify.Refuses e (Rose before now) ((e ≡ Exists Only) × P) → IsOpeningCause e before now
made_cause VaultFault before now P why = why
made_cause OutOfMemory before now P why = tt
made_cause e before now P why = ap is_of_named why.0

pub made_causes : {T : Type 0} (r : Result T DbError) (before now : ℕ) (P : Type 0) → IfErr r (λ e. verify.Refuses e (Rose before now) ((e ≡ Exists Only) × P)) → IfErr r (λ e. IsOpeningCause e before now)
made_causes (Ok x) before now P why = tt
made_causes (Err e) before now P why = made_cause e before now P why

cause_later : (e : DbError) (l m n : ℕ) → l ≤ m → IsOpeningCause e m n → IsOpeningCause e l n
cause_later VaultFault l m n le why = rose_later l m n le why
cause_later OutOfMemory l m n le why = tt
cause_later e l m n le why = why

pub causes_later : {T : Type 0} (r : Result T DbError) (l m n : ℕ) → l ≤ m → IfErr r (λ e. IsOpeningCause e m n) → IfErr r (λ e. IsOpeningCause e l n)
causes_later (Ok x) l m n le why = why
causes_later (Err e) l m n le why = cause_later e l m n le why

pub lookup_rose : (T E : Type 0) (result : Result T E) (e : E) (u v : View) → result ≡ Err e → Asked result u v → Rose u.faults v.faults
lookup_rose T E result e u v is a = subst (λ (r : Result T E). OnErr r (Rose u.faults v.faults)) is a.cause.failed
