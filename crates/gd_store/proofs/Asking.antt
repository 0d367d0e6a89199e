-- Facts of calls that ask.
use Rattle.std.proofs.Common.{◌≡◌, ℕ, ◌≤◌, Bool, true, false, ◌||◌, List, Option, Some, None, refl, sym, ap, subst, ◌∙◌, arith}
use Rattle.gd_base.specs.Causes.{Rose}
use Rattle.gd_base.specs.declared.errors.DbError.{DbError}
use Rattle.gd_format.specs.declared.Header.{Header}
use Rattle.gd_format.specs.Avail.{Avail}
use Rattle.gd_format.specs.File.{file_fault, front_of}
use Rattle.gd_format.specs.HeaderFault.{header_of}
use Rattle.gd_format.specs.Sound.{sound_fault, space_fault}
use Rattle.gd_format.proofs.Firsts.{or_else-none}
use Rattle.gd_vault.specs.Content.{Content}
use Rattle.gd_vault.specs.Views.{View, HasFile, OnlyAsks, content_of}
use Rattle.gd_readable.proofs.Refusals.{refuses_map}
use Rattle.gd_open.specs.Files.{OfFile}
use Rattle.gd_open.specs.Reading.{is_of_read, RefusesRead}
use Rattle.gd_store.specs.declared.access.Access.{Access}
use Rattle.gd_store.specs.declared.access.Access.TheVariants.{Reader, Writer}
use Rattle.gd_store.specs.Opened.{Opened, IsRightFor, Fits, OnFile, SameButCached}
use Rattle.gd_store.specs.Replies.{is_not_found, RefusedAsking}

-- nothing is cached yet
pub same_cached : (s t : Opened) → t ≡ s → SameButCached s t
same_cached s t same = record {
  file = ap (λ (o : Opened). o.file) same;
  header = ap (λ (o : Opened). o.header) same;
  table = ap (λ (o : Opened). o.table) same;
  access = ap (λ (o : Opened). o.access) same;
  broken = ap (λ (o : Opened). o.broken) same;
  cache = ap (λ (o : Opened). o.cache) same;
}

same_open : (s t : Opened) → SameButCached s t → t ≡ s
same_open s t c =
    ap (λ (n : ℕ). record t { file = n }) c.file
    ∙ ap (λ (h : Header). record t { file = s.file; header = h }) c.header
    ∙ ap (λ (a : Avail). record t { file = s.file; header = s.header; table = a }) c.table
    ∙ ap (λ (a : Access). record t { file = s.file; header = s.header; table = s.table; access = a }) c.access
    ∙ ap (λ (b : Bool). record t { file = s.file; header = s.header; table = s.table; access = s.access; broken = b }) c.broken
    ∙ ap (λ (n : ℕ). record s { cache = n }) c.cache

-- what is cached says nothing else of the file
pub fits_cached : (v : View) (s t : Opened) → SameButCached s t → Fits v s → Fits v t
fits_cached v s t c fits = subst (λ (o : Opened). Fits v o) (sym (same_open s t c)) fits

pub file_cached : (v : View) (s t : Opened) → SameButCached s t → HasFile v s.file → HasFile v t.file
file_cached v s t c there = subst (λ (n : ℕ). HasFile v n) (sym c.file) there

pub is_readable : (access : Access) (h : Header) (table : Avail) (file : List ℕ) → IsRightFor access h table file → file_fault file ≡ None
unfolding sound_fault
is_readable Reader h table file r = r
is_readable Writer h table file r = (or_else-none (file_fault file) (space_fault file (header_of (front_of file))) r.0).0

-- an open database that is not broken is a readable file
pub opens : (v : View) (s : Opened) → Fits v s → s.broken ≡ false → OfFile v s.file s.header
opens v s fits whole = record {
  is_open = λ c x t e. let o = fits whole c x t e in record { readable = is_readable s.access s.header s.table x.bytes o.right; header = o.header };
}

or_true : (a b : Bool) → a ≡ true → (a || b) ≡ true
or_true true b h = refl
or_true false b h = absurd cc

-- why a read was refused is why a call was
pub asked : (e : DbError) (f : ℕ) (u v : View) (due : List ℕ → Option DbError) → RefusesRead e u v → RefusedAsking e f u v due
asked e f u v due r = record {
  kind = or_true (is_of_read e) (is_not_found e) r.kind;
  cause = refuses_map e (Rose u.faults v.faults) (content_of u.told ≡ None) (Rose u.faults v.faults) (OnFile u f (λ file. due file ≡ Some e)) (λ h. h) (λ none c x told there. absurd cc) r.cause;
}

-- ---- calls in a row

pub asks_more : (u v w : View) → OnlyAsks u v → OnlyAsks v w → OnlyAsks u w
asks_more u v w one two = record {
  told = two.told ∙ one.told;
  later = omega (arith, one.later, two.later);
  bytes_written = two.bytes_written ∙ one.bytes_written;
  clones = two.clones ∙ one.clones;
}

pub told_before : (u v : View) → OnlyAsks u v → (c : Content) → content_of u.told ≡ Some c → content_of v.told ≡ Some c
told_before u v a c told = ap content_of a.told ∙ told

pub told_after : (u v : View) → OnlyAsks u v → (c : Content) → content_of v.told ≡ Some c → content_of u.told ≡ Some c
told_after u v a c told = ap content_of (sym a.told) ∙ told

pub file_asked : (u v : View) (f : ℕ) → OnlyAsks u v → HasFile u f → HasFile v f
file_asked u v f a there c told = there c (told_after u v a c told)

pub fits_asked : (u v : View) (s : Opened) → OnlyAsks u v → Fits u s → Fits v s
fits_asked u v s a fits whole c x told there = fits whole c x (told_after u v a c told) there

-- what is told of the file afterwards is told before
pub on_asked : (u v : View) (f : ℕ) (P : List ℕ → Type 0) → OnlyAsks u v → OnFile v f P → OnFile u f P
on_asked u v f P a h c x told there = h c x (told_before u v a c told) there

pub on_before : (u v : View) (f : ℕ) (P : List ℕ → Type 0) → OnlyAsks u v → OnFile u f P → OnFile v f P
on_before u v f P a h c x told there = h c x (told_after u v a c told) there

rose_later : (a b c : ℕ) → a ≤ b → Rose b c → Rose a c
rose_later a b c le rose = omega (arith, le, rose)

pub refused_later : (e : DbError) (u v w : View) → OnlyAsks u v → RefusesRead e v w → RefusesRead e u w
refused_later e u v w a r = record {
  kind = r.kind;
  cause = refuses_map e (Rose v.faults w.faults) (content_of v.told ≡ None) (Rose u.faults w.faults) (content_of u.told ≡ None) (rose_later u.faults v.faults w.faults a.later) (λ none. ap content_of (sym a.told) ∙ none) r.cause;
}

pub asked_later : (e : DbError) (f : ℕ) (u v w : View) (due : List ℕ → Option DbError) → OnlyAsks u v → RefusesRead e v w → RefusedAsking e f u w due
asked_later e f u v w due a r = asked e f u w due (refused_later e u v w a r)

-- the same for the fields inside
pub opens_inside : (v : View) (s : Opened) (f : ℕ) (h : Header) → f ≡ s.file → h ≡ s.header → Fits v s → s.broken ≡ false → OfFile v f h
opens_inside v s f h file header fits whole = subst (λ (k : ℕ). OfFile v k h) (sym file) (subst (λ (k : Header). OfFile v s.file k) (sym header) (opens v s fits whole))
