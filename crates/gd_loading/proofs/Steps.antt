-- Steps of a load, one after another.
use Rattle.std.proofs.Common.{◌≡◌, ◌≢◌, ◌∙◌, ◌||◌, ap, sym, subst, refl, ℕ, Bool, true, false, List, [], ◌∷◌, ◌++◌, Some, None, Result, Ok, Err}
use Rattle.std.proofs.lemmas.List.{append_assoc}
use Rattle.std.specs.FinMap.{insert}
use Rattle.gd_base.specs.Causes.{Rose}
use Rattle.gd_base.specs.declared.errors.DbError.{DbError}
use Rattle.gd_base.specs.declared.errors.DbError.TheVariants.{OutOfMemory, VaultFault}
use Rattle.gd_dump_reading.specs.declared.items.Item.{Item}
use Rattle.gd_dump_reading.specs.declared.items.Item.TheVariants.{Head, Pair, End}
use Rattle.gd_format.specs.File.{front_of, records}
use Rattle.gd_format.specs.HeaderFault.{header_of}
use Rattle.gd_format.specs.declared.Header.{Header}
use Rattle.gd_loading.specs.Loads.{Bytes, Dumped, Ended, IsLoading, IsTail, Loads, Onward, OnwardAll, Stored, StoredOne, TakesItem, UnlessFault, at_end, behind, due_of, is_broken_by, is_end, item_before, pair_in}
use Rattle.gd_loading.specs.declared.taking.Ending.{Ending}
use Rattle.gd_loading.specs.declared.taking.Ending.TheVariants.{Dump, Db}
use Rattle.gd_map_laws.specs.Maps.{pair_map}
use Rattle.gd_open.specs.Files.{FileBecomes}
use Rattle.gd_open.proofs.Files.{becomes_then, told_before}
use Rattle.gd_readable.specs.Asks as asking
use Rattle.gd_update.proofs.Heads.{wider_refl, wider_trans}
use Rattle.gd_store.specs.Changed.{Becomes, Keeps}
use Rattle.gd_store.specs.Opened.{Fits, OnFile, Opened, SameButCached}
use Rattle.gd_store.specs.Replies.{is_fault_of, store_due}
use Rattle.gd_store.specs.declared.access.How.{How}
use Rattle.gd_vault.specs.Streams.{OnlyWrites}
use Rattle.gd_vault.specs.Views.{HasFile, IsAt, OnlyAsks, View, content_of}

-- ---- pairs one after another

pub behind-behind : (ps qs : List (Bytes × Bytes)) (d : Dumped) → behind ps (behind qs d) ≡ behind (ps ++ qs) d
behind-behind ps qs d = ap (λ (xs : List (Bytes × Bytes)). record { pairs = xs; stop = d.stop }) (sym (append_assoc ps qs d.pairs))

pub stored-then : (how : How) (ps qs : List (Bytes × Bytes)) (a b c : Bytes) → Stored how ps a b → Stored how qs b c → Stored how (ps ++ qs) a c
stored-then how [] qs a b c one two = subst (λ (x : Bytes). Stored how qs x c) one two
stored-then how (p ∷ ps) qs a b c one two = (one.0, one.1, stored-then how ps qs one.0 b c one.2 two)

pub none-stored : (how : How) (f : ℕ) (u v : View) → content_of v.told ≡ content_of u.told → FileBecomes u v f (Stored how [])
none-stored how f u v same = λ c x told there. record { content = c; file = x; told = same ∙ told; there = there; holds = refl }

pub onward-none : (how : How) (f : ℕ) (u : View) (d : Dumped) → Onward how f u u d d
onward-none how f u d = record { pairs = []; is = refl; stored = none-stored how f u u refl }

pub onward-item : (how : How) (f : ℕ) (u v : View) (item : Item) (d e : Dumped) → d ≡ item_before item e → is_end item ≡ false → FileBecomes u v f (Stored how (pair_in item)) → Onward how f u v d e
onward-item how f u v (Head h) d e is more stored = record { pairs = []; is = is; stored = stored }
onward-item how f u v (Pair key value) d e is more stored = record { pairs = (key, value) ∷ []; is = is; stored = stored }
onward-item how f u v End d e is more stored = absurd (let no : true ≡ false = more in cc)

pub onward-then : (how : How) (f : ℕ) (u v w : View) (d e g : Dumped) → Onward how f u v d e → Onward how f v w e g → Onward how f u w d g
onward-then how f u v w d e g one two = record {
  pairs = one.pairs ++ two.pairs;
  is = one.is ∙ ap (behind one.pairs) two.is ∙ behind-behind one.pairs two.pairs g;
  stored = becomes_then u v w f (Stored how one.pairs) (Stored how two.pairs) (Stored how (one.pairs ++ two.pairs)) (stored-then how one.pairs two.pairs) one.stored two.stored;
}

-- ---- the same whatever comes

pub onward-all-none : (how : How) (f : ℕ) (u : View) (may : Bytes → Type 0) (d : Bytes → Dumped) → OnwardAll how f u u may d d
onward-all-none how f u may d = record { pairs = []; is = λ rest m. refl; stored = none-stored how f u u refl }

pub onward-at : (how : How) (f : ℕ) (u v : View) (may : Bytes → Type 0) (d e : Bytes → Dumped) (rest : Bytes) → OnwardAll how f u v may d e → may rest → Onward how f u v (d rest) (e rest)
onward-at how f u v may d e rest all m = record { pairs = all.pairs; is = all.is rest m; stored = all.stored }

pub onward-all-then : (how : How) (f : ℕ) (u v w : View) (may : Bytes → Type 0) (d e g : Bytes → Dumped) → OnwardAll how f u v may d e → OnwardAll how f v w may e g → OnwardAll how f u w may d g
onward-all-then how f u v w may d e g one two = record {
  pairs = one.pairs ++ two.pairs;
  is = λ rest m. one.is rest m ∙ ap (behind one.pairs) (two.is rest m) ∙ behind-behind one.pairs two.pairs (g rest);
  stored = becomes_then u v w f (Stored how one.pairs) (Stored how two.pairs) (Stored how (one.pairs ++ two.pairs)) (stored-then how one.pairs two.pairs) one.stored two.stored;
}

-- the same by other names of what is told
pub onward-all-told : (how : How) (f : ℕ) (u v : View) (may may' : Bytes → Type 0) (d e e' : Bytes → Dumped) → ((rest : Bytes) → may' rest → may rest) → ((rest : Bytes) → may' rest → e rest ≡ e' rest) → OnwardAll how f u v may d e → OnwardAll how f u v may' d e'
onward-all-told how f u v may may' d e e' fewer same all = record {
  pairs = all.pairs;
  is = λ rest m. all.is rest (fewer rest m) ∙ ap (behind all.pairs) (same rest m);
  stored = all.stored;
}

item-behind : (item : Item) (d e : Dumped) → d ≡ item_before item e → is_end item ≡ false → d ≡ behind (pair_in item) e
item-behind (Head h) d e is more = is
item-behind (Pair key value) d e is more = is
item-behind End d e is more = absurd (let no : true ≡ false = more in cc)

pub onward-all-item : (how : How) (f : ℕ) (u v : View) (item : Item) (may : Bytes → Type 0) (d e : Bytes → Dumped) → ((rest : Bytes) → may rest → d rest ≡ item_before item (e rest)) → is_end item ≡ false → FileBecomes u v f (Stored how (pair_in item)) → OnwardAll how f u v may d e
onward-all-item how f u v item may d e is more stored = record { pairs = pair_in item; is = λ rest m. item-behind item (d rest) (e rest) (is rest m) more; stored = stored }

unless-then : (T : Type 0) (r : Result T Ending) (A B : Type 0) → (A → B) → UnlessFault r A → UnlessFault r B
unless-then T (Ok x) A B f h = f h
unless-then T (Err (Dump stop)) A B f h = f h
unless-then T (Err (Db VaultFault)) A B f h = tt
unless-then T (Err (Db e)) A B f h = f h

ended-then : (T : Type 0) (how : How) (f : ℕ) (u v w : View) (d e : Dumped) (r : Result T Ending) (P : Dumped → Type 0) → Onward how f u v d e → Ended how f v w e r P → Ended how f u w d r P
ended-then T how f u v w d e r P one two = record {
  pairs = one.pairs ++ two.pairs;
  tail = two.tail;
  is = one.is ∙ ap (behind one.pairs) two.is ∙ behind-behind one.pairs two.pairs two.tail;
  ends = two.ends;
  stored = unless-then T r (FileBecomes v w f (Stored how two.pairs)) (FileBecomes u w f (Stored how (one.pairs ++ two.pairs)))
      (becomes_then u v w f (Stored how one.pairs) (Stored how two.pairs) (Stored how (one.pairs ++ two.pairs)) (stored-then how one.pairs two.pairs) one.stored) two.stored;
}

pub loads-then : (how : How) (f : ℕ) (u v w : View) (d e : Dumped) (r : Result (Unit {0}) Ending) → Onward how f u v d e → Loads how f v w e r → Loads how f u w d r
loads-then how f u v w d e (Ok x) one two = ended-then (Unit {0}) how f u v w d e (Ok x) (λ tail. tail ≡ at_end) one two
loads-then how f u v w d e (Err ending) one two = ended-then (Unit {0}) how f u v w d e (Err ending) (IsTail how f w ending) one two

pub loads-end : (how : How) (f : ℕ) (u : View) (d : Dumped) → d ≡ at_end → Loads how f u u d (Ok tt)
loads-end how f u d is = record { pairs = []; tail = at_end; is = is; ends = refl; stored = none-stored how f u u refl }

before-end : (item : Item) (e : Dumped) → is_end item ≡ true → item_before item e ≡ at_end
before-end (Head h) e is = absurd (let no : false ≡ true = is in cc)
before-end (Pair key value) e is = absurd (let no : false ≡ true = is in cc)
before-end End e is = refl

pub loads-end-item : (how : How) (f : ℕ) (u v : View) (item : Item) (d e : Dumped) → d ≡ item_before item e → is_end item ≡ true → FileBecomes u v f (Stored how []) → Loads how f u v d (Ok tt)
loads-end-item how f u v item d e is last stored = record { pairs = []; tail = at_end; is = is ∙ before-end item e last; ends = refl; stored = stored }

as-unless : (e : DbError) (A : Type 0) → UnlessFault {T = Bool} (Err (Db e)) A → UnlessFault {T = Unit {0}} (Err (Db e)) A
as-unless VaultFault A h = tt
as-unless e A h = h

pub loads-refused : (how : How) (f : ℕ) (u v : View) (item : Item) (d g : Dumped) (e : DbError) → d ≡ item_before item g → TakesItem how item f u v (Err e) → Loads how f u v d (Err (Db e))
loads-refused how f u v item d g e is takes = record {
  pairs = [];
  tail = d;
  is = refl;
  ends = record { pair = takes.0; more = g; is = is ∙ ap (λ (i : Item). item_before i g) takes.1; cause = takes.2 };
  stored = as-unless e (FileBecomes u v f (Stored how [])) takes.3;
}

-- ---- a dump that stopped

pub loads-stopped : (how : How) (f : ℕ) (u v : View) (d : Dumped) (stop : _) → content_of v.told ≡ content_of u.told → IsTail how f v (Dump stop) d → Loads how f u v d (Err (Dump stop))
loads-stopped how f u v d stop same ends = record { pairs = []; tail = d; is = refl; ends = ends; stored = none-stored how f u v same }

-- ---- a pair

header-at : (u : View) (s : Opened) → IsLoading u s → OnFile u s.file (λ file. s.header ≡ header_of (front_of file))
header-at u s loading c x told there = (loading.fits loading.calm c x told there).header

pub pair-stored : (how : How) (k v : Bytes) (s s' : Opened) (u w : View) (more : Bytes → ℕ) → IsLoading u s
    → Becomes u w s.file s' (λ file. insert (pair_map (records file)) k v) more
    → OnFile u s.file (λ file. store_due (records file) s.header.elems s.header.next_block how k v ≡ None)
    → FileBecomes u w s.file (Stored how ((k, v) ∷ []))
pair-stored how k v s s' u w more loading becomes due = λ c x told there.
    let r = becomes c x told there in
    let one : StoredOne how (k, v) x.bytes r.file.bytes = record {
      due = subst (λ (h : Header). store_due (records x.bytes) h.elems h.next_block how k v ≡ None) (header-at u s loading c x told there) (due c x told there);
      map = r.holds.map_is;
    } in
    record { content = r.content; file = r.file; told = r.told; there = r.there; holds = (r.file.bytes, one, refl) }

due-after : (how : How) (k v : Bytes) (s s' : Opened) (u w : View) (e : DbError) → IsLoading u s → OnlyWrites s.file u w
    → IsAt u (λ _. SameButCached s s' × OnlyAsks u w)
    → OnFile u s.file (λ file. store_due (records file) s.header.elems s.header.next_block how k v ≡ Some e)
    → OnFile w s.file (λ file. due_of how (k, v) file ≡ Some e)
due-after how k v s s' u w e loading frame kept due = λ c x told there.
    let b = told_before u w s.file frame.within loading.there c told in
    let asks = (kept b.0 b.2).1 in
    let before : content_of u.told ≡ Some c = ap content_of (sym asks.told) ∙ told in
    subst (λ (h : Header). store_due (records x.bytes) h.elems h.next_block how k v ≡ Some e) (header-at u s loading c x before there) (due c x before there)

same-file : (how : How) (s s' : Opened) (u w : View) → IsAt u (λ _. SameButCached s s' × OnlyAsks u w) → FileBecomes u w s.file (Stored how [])
same-file how s s' u w kept = λ c x told there. record { content = c; file = x; told = ap content_of (kept c told).1.told ∙ told; there = there; holds = refl }

pub pair-cause : (how : How) (k v : Bytes) (s s' : Opened) (u w : View) (e : DbError) → IsLoading u s → OnlyWrites s.file u w
    → (e ≢ VaultFault → IsAt u (λ _. SameButCached s s' × OnlyAsks u w))
    → asking.Refuses e (Rose u.faults w.faults) (OnFile u s.file (λ file. store_due (records file) s.header.elems s.header.next_block how k v ≡ Some e))
    → asking.Refuses e (Unit {0}) (OnFile w s.file (λ file. due_of how (k, v) file ≡ Some e))
pair-cause how k v s s' u w VaultFault loading frame kept why = tt
pair-cause how k v s s' u w OutOfMemory loading frame kept why = tt
pair-cause how k v s s' u w e loading frame kept why = due-after how k v s s' u w e loading frame (kept (λ is. cc)) why

pub pair-left : (how : How) (s s' : Opened) (u w : View) (e : DbError) → (e ≢ VaultFault → IsAt u (λ _. SameButCached s s' × OnlyAsks u w)) → UnlessFault {T = Bool} (Err (Db e)) (FileBecomes u w s.file (Stored how []))
pair-left how s s' u w VaultFault kept = tt
pair-left how s s' u w e kept = same-file how s s' u w (kept (λ is. cc))

-- ---- the database afterwards

pub broken-by : (e : DbError) → is_fault_of e ≡ is_broken_by {T = Bool} (Err (Db e))
broken-by VaultFault = refl
broken-by e = refl

pub broken-now : (old new f : Bool) → new ≡ (old || f) → old ≡ false → new ≡ f
broken-now old new f is calm = is ∙ ap (λ (b : Bool). b || f) calm

pub still-loading : (u v : View) (s s' : Opened) → IsLoading u s → HasFile v s'.file → Fits v s' → Keeps s s' → s'.broken ≡ false → IsLoading v s'
still-loading u v s s' old there fits keeps calm = record { there = there; fits = fits; calm = calm; writer = keeps.access ∙ old.writer }

pub keeps-self : (s : Opened) → Keeps s s
keeps-self s = record { file = refl; access = refl; cache = refl; header = wider_refl s.header }

pub keeps-then : (s t r : Opened) → Keeps s t → Keeps t r → Keeps s r
keeps-then s t r one two = record {
  file = two.file ∙ one.file;
  access = two.access ∙ one.access;
  cache = two.cache ∙ one.cache;
  header = wider_trans s.header t.header r.header one.header two.header;
}

-- ---- by the item

pub none-taken : (how : How) (item : Item) (h : _) (f : ℕ) (u : View) → item ≡ Head h → TakesItem how item f u u (Ok true)
none-taken how item h f u is = subst (λ (i : Item). TakesItem how i f u u (Ok true)) (sym is) (refl, none-stored how f u u refl)

pub end-taken : (how : How) (item : Item) (f : ℕ) (u : View) → item ≡ End → TakesItem how item f u u (Ok false)
end-taken how item f u is = subst (λ (i : Item). TakesItem how i f u u (Ok false)) (sym is) (refl, none-stored how f u u refl)

pub pair-taken : (how : How) (item : Item) (k v : Bytes) (f : ℕ) (u w : View) → item ≡ Pair k v → FileBecomes u w f (Stored how ((k, v) ∷ [])) → TakesItem how item f u w (Ok true)
pair-taken how item k v f u w is h = subst (λ (i : Item). TakesItem how i f u w (Ok true)) (sym is) (refl, h)
