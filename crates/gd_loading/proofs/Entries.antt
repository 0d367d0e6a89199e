-- Openings of the database that a load means.
use Rattle.std.proofs.Common.{◌≡◌, ◌∙◌, ◌⊎◌, inl, inr, ap, sym, subst, refl, ℕ, ◌≤◌, ◌&&◌, Bool, true, false, List, [], Option, Some, None, Result, Ok, Err, arith}
use Rattle.std.specs.Prelude.{IfErr, IfOk, OnErr, OnOk, if◌then◌else◌, is_some, min, not, option_map}
use Rattle.gd_base.specs.Causes.{Rose}
use Rattle.gd_base.specs.declared.errors.DbError.{DbError}
use Rattle.gd_base.specs.declared.errors.DbError.TheVariants.{Exists, InUse, OutOfMemory, VaultFault}
use Rattle.gd_base.specs.declared.errors.Format.{Format}
use Rattle.gd_base.specs.declared.errors.Which.TheVariants.{Only}
use Rattle.gd_create.specs.NewFile.{IsNewHeader, new_file}
use Rattle.gd_format.specs.File.{records}
use Rattle.gd_loading.specs.Load.{Entered, Enters, EntersBy, Found, IsAbsent, LeavesAt, Made, NotEntered, Spoiled, entry_due, found_due, is_of_entry, is_of_target, is_used, target_due}
use Rattle.gd_loading.specs.Loads.{Bytes}
use Rattle.gd_loading.specs.declared.loading.Plan.{Plan}
use Rattle.gd_readable.specs.Asks.{Counts, IsAnswer, Refuses}
use Rattle.gd_store.specs.Opened.{Fits, IsAsked, IsCleared, IsOwn, MarksStay, NamesOwn, OnFile, Opened, OpenedAs, IsRightFor, StandsFor, fault_for, is_of_opening, open_due, opens_due}
use Rattle.gd_store.specs.declared.access.Access.TheVariants.{Writer}
use Rattle.std.specs.Option.{option_and_then}
use Rattle.gd_vault.proofs.Within.{within_asked, within_only_asks}
use Rattle.gd_vault.specs.declared.vaults.FileId.{FileId}
use Rattle.gd_vault.specs.Content.{File, Content}
use Rattle.gd_vault.specs.Frame.{Frame, Within}
use Rattle.gd_vault.specs.Events.{content_after}
use Rattle.gd_vault.specs.Views.Told.{Nothing, Tells, Records}
use Rattle.gd_vault.specs.Views.{Asked, HasFile, IsAt, OnlyAsks, Told, View, content_of}

-- ---- a file that is made

-- where this comes before: the content told, and the count
pub record Before (t u : View) : Type 0 where
  pub told : u.told ≡ t.told
  pub count : u.faults ≡ t.faults

pub before-same : (u : View) → Before u u
before-same u = record { told = refl; count = refl }

pub before-asks : {T E : Type 0} {result : Result T E} (t u : View) (x : T) → result ≡ Ok x → Asked result t u → Before t u
before-asks {T = T} {E = E} t u x is a = record { told = a.told; count = subst (λ (r : Result T E). OnOk r (u.faults ≡ t.faults)) is a.cause.answered }

at-before : (t u : View) (P : Content → Type 0) → Before t u → IsAt u P → IsAt t P
at-before t u P b h = λ c told. h c (ap content_of b.told ∙ told)

stands-back : (t u : View) (name : Bytes) (f : ℕ) → Before t u → StandsFor u name f → StandsFor t name f
stands-back t u name f b h = λ c told. h c (ap content_of b.told ∙ told)

-- a frame by what is told alone
frame-back : (name : Bytes) (k m : Told) (w : Told) → m ≡ k → Frame (λ f. (c : Content) → content_of m ≡ Some c → c.names name ≡ Some f) (λ n. n ≡ name) m w → Frame (λ f. (c : Content) → content_of k ≡ Some c → c.names name ≡ Some f) (λ n. n ≡ name) k w
frame-back name k m w same h = subst (λ (x : Told). Frame (λ f. (c : Content) → content_of x ≡ Some c → c.names name ≡ Some f) (λ n. n ≡ name) x w) same h

within-back : (t u v : View) (name : Bytes) → Before t u → Within (StandsFor u name) (λ n. n ≡ name) u v → Within (StandsFor t name) (λ n. n ≡ name) t v
within-back t u v name b h = record { told = frame-back name t.told u.told v.told b.told h.told; faults = let le = h.faults in let is = b.count in omega (arith, le, is) }

made-back : (t u v : View) (block : ℕ) (format : Format) (name : Bytes) (s : Opened) → Before t u → Made block format name u v s → Made block format name t v s
made-back t u v block format name s b h = record {
  asked = h.asked;
  header = h.header;
  own = λ c told. h.own c (ap content_of b.told ∙ told);
  empty = h.empty;
  cleared = λ c d told. h.cleared c d (ap content_of b.told ∙ told);
  frame = within-back t u v name b h.frame;
}

spoiled-back : (t u v : View) (name : Bytes) → Before t u → Within (StandsFor u name) (λ n. n ≡ name) u v → NamesOwn u v name → MarksStay u v name → (update : Bool) → (update ≡ true → IsAbsent t name) → Spoiled update name t v
spoiled-back t u v name b frame names marks update absent = record {
  frame = within-back t u v name b frame;
  names = λ c d told. names c d (ap content_of b.told ∙ told);
  marks = λ f stands c x told. marks f (λ d again. stands d (sym (ap content_of b.told) ∙ again)) c x (ap content_of b.told ∙ told);
  found = λ up c told f is. absurd (let none : None ≡ Some f = sym (absent up c told) ∙ is in cc);
}

rose-from : (a b c : ℕ) → b ≡ a → Rose b c → Rose a c
rose-from a b c same h = subst (λ (x : ℕ). Rose x c) same h

counts-from : (e : DbError) (a b c : ℕ) → b ≡ a → Counts e b c → Counts e a c
counts-from e a b c same h = subst (λ (x : ℕ). Counts e x c) same h

-- a new file is wanted: no refusal is due
enters-made : (block : ℕ) (format : Format) (name : Bytes) (u v : View) (s : Opened) (update : Bool) → (update ≡ true → IsAbsent u name) → Made block format name u v s → EntersBy update block format name u v s
enters-made block format name u v s false absent made = made
enters-made block format name u v s true absent made = inr (absent refl, made)

no-due : (c : Content) (name : Bytes) (update : Bool) → (update ≡ true → c.names name ≡ None) → target_due c update name ≡ None
no-due c name false absent = refl
no-due c name true absent = subst (λ (o : Option ℕ). found_due c name o ≡ None) (sym (absent refl)) refl

untold : (mine : ℕ → Type 0) (named : Bytes → Type 0) (k w : Told) → Frame mine named k w → content_of k ≡ None → w ≡ k
untold mine named Nothing w h none = h
untold mine named (Tells c) w h none = absurd (let no : Some c ≡ None = none in cc)
untold mine named (Records first es) w h none = absurd (let no : Some (content_after first es) ≡ None = none in cc)

not-made : (plan : Plan) (name : Bytes) (t u v : View) (e : DbError) → Before t u → (plan.update ≡ true → IsAbsent t name)
    → Refuses e (Rose u.faults v.faults) ((e ≡ Exists Only) × (content_of u.told ≡ None)) → Counts e u.faults v.faults → (e ≡ OutOfMemory → OnlyAsks u v)
    → Within (StandsFor u name) (λ n. n ≡ name) u v → NamesOwn u v name → MarksStay u v name
    → NotEntered plan name (λ c. target_due c plan.update name) (is_of_target plan.update) t v e
not-made plan name t u v VaultFault b absent why counts memory frame names marks = record {
  is_due = rose-from t.faults u.faults v.faults b.count why;
  kind = tt;
  leaves = spoiled-back t u v name b frame names marks plan.update absent;
  count = rose-from t.faults u.faults v.faults b.count counts;
}
not-made plan name t u v OutOfMemory b absent why counts memory frame names marks = record {
  is_due = tt;
  kind = tt;
  leaves = (memory refl).told ∙ b.told;
  count = counts ∙ b.count;
}
not-made plan name t u v (Exists Only) b absent why counts memory frame names marks = record {
  is_due = λ c told. absurd (let none : None ≡ Some c = sym why.1 ∙ (ap content_of b.told ∙ told) in cc);
  kind = refl;
  leaves = untold (StandsFor u name) (λ n. n ≡ name) u.told v.told frame.told why.1 ∙ b.told;
  count = counts ∙ b.count;
}
not-made plan name t u v e b absent why counts memory frame names marks = absurd (let no = why.0 in cc)

pub made-result : (plan : Plan) (format : Format) (name : Bytes) (t u v : View) (r : Result Opened DbError) → Before t u → (plan.update ≡ true → IsAbsent t name)
    → IfOk r (λ s. OpenedAs v name Writer plan.cache s) → IfOk r (λ s. HasFile v s.file) → IfOk r (λ s. Fits v s)
    → IfOk r (λ s. IsAsked plan.block format s.header) → IfOk r (λ s. IsNewHeader s.header) → IfOk r (λ s. IsOwn u name s.file)
    → IfOk r (λ s. OnFile v s.file (λ file. (file ≡ new_file format s.header.block s.header.dir_bits) × (records file ≡ [])))
    → IfOk r (λ s. IsCleared u v name s.file (new_file format s.header.block s.header.dir_bits))
    → Within (StandsFor u name) (λ n. n ≡ name) u v → NamesOwn u v name → MarksStay u v name
    → IfErr r (λ e. Refuses e (Rose u.faults v.faults) ((e ≡ Exists Only) × (content_of u.told ≡ None)))
    → OnOk r (v.faults ≡ u.faults) → IfErr r (λ e. Counts e u.faults v.faults) → IfErr r (λ e. e ≡ OutOfMemory → OnlyAsks u v)
    → Enters plan format name (λ c. target_due c plan.update name) (is_of_target plan.update) t v r
made-result plan format name t u v (Ok s) b absent opened there fits asked header own empty cleared frame names marks refused answered counted memory =
    let made : Made plan.block format name u v s = record { asked = asked; header = header; own = own; empty = empty; cleared = cleared; frame = frame } in
    record {
      opened = opened;
      there = there;
      fits = fits;
      none = λ c told. no-due c name plan.update (λ up. absent up c told);
      enters = enters-made plan.block format name t v s plan.update absent (made-back t u v plan.block format name s b made);
      count = answered ∙ b.count;
    }
made-result plan format name t u v (Err e) b absent opened there fits asked header own empty cleared frame names marks refused answered counted memory =
    not-made plan name t u v e b absent refused counted memory frame names marks

-- ---- a file that is there

asked-target : (c : Content) (name : Bytes) (f : ℕ) (update : Bool) (o : Option DbError) → update ≡ true → c.names name ≡ Some f → open_due c name Writer ≡ o → target_due c update name ≡ o
asked-target c name f true o up is due = subst (λ (x : Option ℕ). found_due c name x ≡ o) (sym is) due
asked-target c name f false o up is due = absurd (let no : false ≡ true = up in cc)

enters-found : (block : ℕ) (format : Format) (name : Bytes) (u v : View) (s : Opened) (update : Bool) → update ≡ true → Found name u v s → EntersBy update block format name u v s
enters-found block format name u v s true up found = inl found
enters-found block format name u v s false up found = absurd (let no : false ≡ true = up in cc)

found-kind : (update : Bool) (e : DbError) → update ≡ true → IsAnswer (is_of_opening Writer) e → IsAnswer (is_of_target update) e
found-kind false e up kind = absurd (let no : false ≡ true = up in cc)
found-kind true VaultFault up kind = tt
found-kind true OutOfMemory up kind = tt
found-kind true (Exists which) up kind = absurd (let no : false ≡ true = kind in cc)
found-kind true e up kind = kind

not-found : (plan : Plan) (name : Bytes) (f : ℕ) (t u v : View) (e : DbError) → Before t u → plan.update ≡ true → StandsFor t name f → OnlyAsks u v
    → Refuses e (Rose u.faults v.faults) (IsAt u (λ c. open_due c name Writer ≡ Some e)) → IsAnswer (is_of_opening Writer) e → Counts e u.faults v.faults
    → Within (StandsFor t name) (λ n. n ≡ name) t v → NamesOwn t v name → MarksStay t v name
    → NotEntered plan name (λ c. target_due c plan.update name) (is_of_target plan.update) t v e
not-found plan name f t u v VaultFault b up stands asks why kind counts frame names marks = record {
  is_due = rose-from t.faults u.faults v.faults b.count why;
  kind = tt;
  leaves = record { frame = frame; names = names; marks = marks; found = λ u' c told g is. asks.told ∙ b.told };
  count = rose-from t.faults u.faults v.faults b.count counts;
}
not-found plan name f t u v OutOfMemory b up stands asks why kind counts frame names marks = record { is_due = tt; kind = tt; leaves = asks.told ∙ b.told; count = counts ∙ b.count }
not-found plan name f t u v e b up stands asks why kind counts frame names marks = record {
  is_due = λ c told. asked-target c name f plan.update (Some e) up (stands c told) (why c (ap content_of b.told ∙ told));
  kind = found-kind plan.update e up kind;
  leaves = asks.told ∙ b.told;
  count = counts ∙ b.count;
}

-- nothing changed
names-stay : (t v : View) (name : Bytes) → v.told ≡ t.told → NamesOwn t v name
names-stay t v name same = λ c d told now. inl (let both : Some c ≡ Some d = sym told ∙ (ap content_of (sym same) ∙ now) in let is : c ≡ d = cc in ap (λ (k : Content). k.names name) (sym is))

marks-stay : (t v : View) (name : Bytes) → v.told ≡ t.told → MarksStay t v name
marks-stay t v name same = λ f stands c x told here. (c, ap content_of same ∙ told, (x, here, refl, refl))

pub asks-from : (t u v : View) → Before t u → OnlyAsks u v → v.bytes_written ≡ t.bytes_written → v.clones ≡ t.clones → OnlyAsks t v
asks-from t u v b asks bytes clones = record { told = asks.told ∙ b.told; later = (let le = asks.later in let is = b.count in omega (arith, le, is)); bytes_written = bytes; clones = clones }

right-due : (t v : View) (name : Bytes) (s : Opened) (cache : ℕ) → v.told ≡ t.told → OpenedAs v name Writer cache s → HasFile v s.file → Fits v s → IsAt t (λ c. open_due c name Writer ≡ None)
right-due t v name s cache same opened there fits = λ c told.
    let now : content_of v.told ≡ Some c = ap content_of same ∙ told in
    let x = there c now in
    let right = subst (λ (a : _). IsRightFor a s.header s.table x.0.bytes) opened.access (fits opened.whole c x.0 now x.1).right in
    ap (λ (o : Option ℕ). opens_due c Writer o) (opened.named c now) ∙ (ap (λ (o : Option File). option_and_then (λ (y : File). fault_for Writer y.bytes) o) x.1 ∙ right.0)

pub found-result : (plan : Plan) (format : Format) (name : Bytes) (f : ℕ) (t u v : View) (r : Result Opened DbError) → Before t u → OnlyAsks t u → plan.update ≡ true → StandsFor t name f
    → OnlyAsks u v → IfOk r (λ s. OpenedAs v name Writer plan.cache s) → IfOk r (λ s. HasFile v s.file) → IfOk r (λ s. Fits v s)
    → IfErr r (λ e. Refuses e (Rose u.faults v.faults) (IsAt u (λ c. open_due c name Writer ≡ Some e))) → IfErr r (λ e. IsAnswer (is_of_opening Writer) e)
    → OnOk r (v.faults ≡ u.faults) → IfErr r (λ e. Counts e u.faults v.faults)
    → Enters plan format name (λ c. target_due c plan.update name) (is_of_target plan.update) t v r
found-result plan format name f t u v (Ok s) b before up stands asks opened there fits refused kind answered counted =
    let same : v.told ≡ t.told = asks.told ∙ b.told in
    let all = asks-from t u v b asks (asks.bytes_written ∙ before.bytes_written) (asks.clones ∙ before.clones) in
    let due = right-due t v name s plan.cache same opened there fits in
    record {
      opened = opened;
      there = there;
      fits = fits;
      none = λ c told. asked-target c name f plan.update None up (stands c told) (due c told);
      enters = enters-found plan.block format name t v s plan.update up (record { named = λ c told. opened.named c (ap content_of same ∙ told); asks = all });
      count = answered ∙ b.count;
    }
found-result plan format name f t u v (Err e) b before up stands asks opened there fits refused kind answered counted =
    let same : v.told ≡ t.told = asks.told ∙ b.told in
    let all = asks-from t u v b asks (asks.bytes_written ∙ before.bytes_written) (asks.clones ∙ before.clones) in
    not-found plan name f t u v e b up stands asks refused kind counted (within_only_asks all) (names-stay t v name same) (marks-stay t v name same)

-- ---- a look-up that failed

pub lookup-failed : (T E : Type 0) (result : Result T E) (e : E) (plan : Plan) (name : Bytes) (due : Content → Option DbError) (kinds : DbError → Bool) (u v : View) → result ≡ Err e → Asked result u v → NotEntered plan name due kinds u v VaultFault
lookup-failed T E result e plan name due kinds u v is a =
    let rose = subst (λ (r : Result T E). OnErr r (Rose u.faults v.faults)) is a.cause.failed in
    record {
      is_due = rose;
      kind = tt;
      leaves = record { frame = within_asked a; names = names-stay u v name a.told; marks = marks-stay u v name a.told; found = λ up c told f is. a.told };
      count = rose;
    }

pub asks-of : {T E : Type 0} {result : Result T E} (u v : View) → Asked result u v → OnlyAsks u v
asks-of u v a = record { told = a.told; later = a.cause.later; bytes_written = a.bytes_written; clones = a.clones }

pub up-true : (b : Bool) → not b ≡ false → b ≡ true
up-true true is = refl
up-true false is = absurd (let no : true ≡ false = is in cc)

-- ---- the file that is read

entry-free : (c : Content) (update : Bool) (used : Option FileId) (name : Bytes) (o : Option DbError) → is_used used (c.names name) ≡ false → target_due c update name ≡ o → entry_due c update used name ≡ o
entry-free c update used name o free due = ap (λ (b : Bool). if b then Some InUse else target_due c update name) free ∙ due

enters-back : (t u v : View) (update : Bool) (block : ℕ) (format : Format) (name : Bytes) (s : Opened) → Before t u → OnlyAsks t u → EntersBy update block format name u v s → EntersBy update block format name t v s
enters-back t u v false block format name s b asks h = made-back t u v block format name s b h
enters-back t u v true block format name s b asks (inl h) = inl (record {
  named = stands-back t u name s.file b h.named;
  asks = asks-from t u v b h.asks (h.asks.bytes_written ∙ asks.bytes_written) (h.asks.clones ∙ asks.clones);
})
enters-back t u v true block format name s b asks (inr h) = inr (at-before t u (λ c. c.names name ≡ None) b h.0, made-back t u v block format name s b h.1)

target-in-use : (update : Bool) → is_of_target update InUse ≡ true → ⊥
target-in-use true kind = let no : false ≡ true = kind in cc
target-in-use false kind = let no : false ≡ true = kind in cc

not-entered-back : (plan : Plan) (used : Option FileId) (name : Bytes) (t u v : View) (e : DbError) → Before t u → OnlyAsks t u → IsAt t (λ c. is_used used (c.names name) ≡ false)
    → NotEntered plan name (λ c. target_due c plan.update name) (is_of_target plan.update) u v e
    → NotEntered plan name (λ c. entry_due c plan.update used name) (is_of_entry plan.update (is_some used)) t v e
not-entered-back plan used name t u v VaultFault b asks free h = record {
  is_due = rose-from t.faults u.faults v.faults b.count h.is_due;
  kind = tt;
  leaves = record {
    frame = within-back t u v name b h.leaves.frame;
    names = λ c d told. h.leaves.names c d (ap content_of b.told ∙ told);
    marks = λ f stands c x told. h.leaves.marks f (λ d again. stands d (sym (ap content_of b.told) ∙ again)) c x (ap content_of b.told ∙ told);
    found = λ up c told f is. h.leaves.found up c (ap content_of b.told ∙ told) f is ∙ b.told;
  };
  count = rose-from t.faults u.faults v.faults b.count h.count;
}
not-entered-back plan used name t u v OutOfMemory b asks free h = record { is_due = tt; kind = tt; leaves = h.leaves ∙ b.told; count = h.count ∙ b.count }
not-entered-back plan used name t u v InUse b asks free h = absurd (target-in-use plan.update h.kind)
not-entered-back plan used name t u v e b asks free h = record {
  is_due = λ c told. entry-free c plan.update used name (Some e) (free c told) (h.is_due c (ap content_of b.told ∙ told));
  kind = h.kind;
  leaves = h.leaves ∙ b.told;
  count = h.count ∙ b.count;
}

pub enters-after : (plan : Plan) (format : Format) (used : Option FileId) (name : Bytes) (t u v : View) (r : Result Opened DbError) → u.faults ≡ t.faults → OnlyAsks t u → IsAt t (λ c. is_used used (c.names name) ≡ false)
    → Enters plan format name (λ c. target_due c plan.update name) (is_of_target plan.update) u v r
    → Enters plan format name (λ c. entry_due c plan.update used name) (is_of_entry plan.update (is_some used)) t v r
enters-after plan format used name t u v (Ok s) count asks free h =
    let b : Before t u = record { told = asks.told; count = count } in
    record {
      opened = h.opened;
      there = h.there;
      fits = h.fits;
      none = λ c told. entry-free c plan.update used name None (free c told) (h.none c (ap content_of asks.told ∙ told));
      enters = enters-back t u v plan.update plan.block format name s b asks h.enters;
      count = h.count ∙ count;
    }
enters-after plan format used name t u v (Err e) count asks free h = not-entered-back plan used name t u v e (record { told = asks.told; count = count }) asks free h

pub in-use : (plan : Plan) (used : Option FileId) (name : Bytes) (t u : View) → u.faults ≡ t.faults → OnlyAsks t u → is_some used ≡ true → IsAt t (λ c. is_used used (c.names name) ≡ true)
    → NotEntered plan name (λ c. entry_due c plan.update used name) (is_of_entry plan.update (is_some used)) t u InUse
in-use plan used name t u count asks read free = record {
  is_due = λ c told. ap (λ (b : Bool). if b then Some InUse else target_due c plan.update name) (free c told);
  kind = read;
  leaves = asks.told;
  count = count;
}

pub use-failed : (plan : Plan) (used : Option FileId) (name : Bytes) (t u : View) (e : DbError) → e ≡ VaultFault → Rose t.faults u.faults → OnlyAsks t u
    → NotEntered plan name (λ c. entry_due c plan.update used name) (is_of_entry plan.update (is_some used)) t u e
use-failed plan used name t u e is rose asks = subst (λ (x : DbError). NotEntered plan name (λ c. entry_due c plan.update used name) (is_of_entry plan.update (is_some used)) t u x) (sym is) (record {
  is_due = rose;
  kind = tt;
  leaves = record { frame = within_only_asks asks; names = names-stay t u name asks.told; marks = marks-stay t u name asks.told; found = λ up c told f here. asks.told };
  count = rose;
})

pub at-bool : (t : View) (used : Option FileId) (name : Bytes) (b x : Bool) → b ≡ x → IsAt t (λ c. is_used used (c.names name) ≡ b) → IsAt t (λ c. is_used used (c.names name) ≡ x)
at-bool t used name b x is h = λ c told. h c told ∙ is
