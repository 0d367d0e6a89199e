-- Steps on a disk in memory.
use Rattle.std.proofs.Common.{◌≡◌, ◌≢◌, ◌∙◌, ap, sym, refl, ℕ, zero, suc, ◌<◌, List, [], ◌∷◌, ◌++◌, length, Option, Some, None, slice_get, set, arith}
use Rattle.gd_vault.specs.Content.{File, Content}
use Rattle.gd_vault.specs.Effects.{Changes, Does, Names}
use Rattle.gd_vault.specs.Events.Call.{Clone_into, Remove, Replace}
use Rattle.gd_memvault.specs.DiskData.{DiskData}
use Rattle.gd_memvault.specs.declared.disk.NameEntry.{NameEntry}
use Rattle.gd_memvault.specs.Disk.{AddsFile, disk_content, names_of}
use Rattle.gd_memvault.proofs.Names.{names_here, names_others}

pub get-push_here : {X : Type 0} (xs : List X) (x : X) → slice_get (xs ++ x ∷ []) (length xs) ≡ Some x
get-push_here [] x = refl
get-push_here (y ∷ ys) x = get-push_here ys x

pub get-push_other : {X : Type 0} (xs : List X) (x : X) (i : ℕ) → i ≢ length xs → slice_get (xs ++ x ∷ []) i ≡ slice_get xs i
get-push_other [] x zero ne = absurd (ne refl)
get-push_other [] x (suc i) ne = refl
get-push_other (y ∷ ys) x zero ne = refl
get-push_other (y ∷ ys) x (suc i) ne = get-push_other ys x i (λ e. ne (ap suc e))

get-past : {X : Type 0} (xs : List X) → slice_get xs (length xs) ≡ None
get-past [] = refl
get-past (x ∷ xs) = get-past xs

pub set_same : {X : Type 0} (xs : List X) (f : ℕ) (v : X) → f < length xs → slice_get (set xs f v) f ≡ Some v
set_same [] f v lt = absurd (omega arith)
set_same (x ∷ xs) zero v lt = refl
set_same (x ∷ xs) (suc f) v lt = set_same xs f v (omega arith)

pub set_other : {X : Type 0} (xs : List X) (f g : ℕ) (v : X) → g ≢ f → slice_get (set xs f v) g ≡ slice_get xs g
set_other [] f g v ne = refl
set_other (x ∷ xs) zero zero v ne = absurd (ne refl)
set_other (x ∷ xs) zero (suc g) v ne = refl
set_other (x ∷ xs) (suc f) zero v ne = refl
set_other (x ∷ xs) (suc f) (suc g) v ne = set_other xs f g v (λ e. ne (ap suc e))

pub changes_set : (R : File → File → Type 0) (c : DiskData) (names : List NameEntry) (files : List File) (f : ℕ) (v : File) → f < length c.files → names ≡ c.names → files ≡ set c.files f v
    → ((x : File) → slice_get c.files f ≡ Some x → R x v) → Changes f R (disk_content c) (disk_content (record { names = names; files = files }))
changes_set R c names files f v lt same is h = record {
  file = λ x here. (v, ap (λ l. slice_get l f) is ∙ set_same c.files f v lt, h x here);
  others = λ g ne. ap (λ l. slice_get l g) is ∙ set_other c.files f g v ne;
  names = λ n. ap (λ l. names_of l n) same;
}

bound : (name : List ℕ) (id : Option ℕ) (c : DiskData) (names : List NameEntry) (files : List File) → names ≡ c.names ++ (record { name = name; id = id }) ∷ [] → Names name id (disk_content c) (disk_content (record { names = names; files = files }))
bound name id c names files is = record {
  here = ap (λ l. names_of l name) is ∙ names_here name c.names (record { name = name; id = id }) refl;
  others = λ n ne. ap (λ l. names_of l n) is ∙ names_others n c.names (record { name = name; id = id }) (λ e. ne (sym e));
}

pub file_added : (name : List ℕ) (file : File) (id : ℕ) (c : DiskData) (names : List NameEntry) (files : List File) → names ≡ c.names ++ (record { name = name; id = Some id }) ∷ [] → files ≡ c.files ++ file ∷ [] → id ≡ length c.files
    → AddsFile name file id (disk_content c) (disk_content (record { names = names; files = files }))
file_added name file id c names files named more here =
    let b = bound name (Some id) c names files named in
    record {
      named = b.here;
      other_names = b.others;
      unused = ap (slice_get c.files) here ∙ get-past c.files;
      made = ap (λ l. slice_get l id) more ∙ ap (slice_get (c.files ++ file ∷ [])) here ∙ get-push_here c.files file;
      other_files = λ f ne. ap (λ l. slice_get l f) more ∙ get-push_other c.files file f (λ e. ne (e ∙ sym here));
    }

pub removed : (name : List ℕ) (c : DiskData) (names : List NameEntry) (files : List File) → names ≡ c.names ++ (record { name = name; id = None }) ∷ [] → files ≡ c.files → Does (Remove name) (disk_content c) (disk_content (record { names = names; files = files }))
removed name c names files is same = (record { files = λ f. ap (λ l. slice_get l f) same }, bound name None c names files is)

pub moved : (from to : List ℕ) (id : Option ℕ) (c : DiskData) (names : List NameEntry) (files : List File) → from ≢ to → id ≡ names_of c.names from → names ≡ (c.names ++ (record { name = to; id = id }) ∷ []) ++ (record { name = from; id = None }) ∷ [] → files ≡ c.files
    → Does (Replace from to) (disk_content c) (disk_content (record { names = names; files = files }))
moved from to id c names files ne found is same =
    let first : NameEntry = record { name = to; id = id } in
    let second : NameEntry = record { name = from; id = None } in (
      record { files = λ f. ap (λ l. slice_get l f) same },
      record {
        there = ap (λ l. names_of l to) is ∙ names_others to (c.names ++ first ∷ []) second ne ∙ names_here to c.names first refl ∙ found;
        gone = λ _. ap (λ l. names_of l from) is ∙ names_here from (c.names ++ first ∷ []) second refl;
        others = λ n not_from not_to. ap (λ l. names_of l n) is ∙ names_others n (c.names ++ first ∷ []) second (λ e. not_from (sym e)) ∙ names_others n c.names first (λ e. not_to (sym e));
      },
    )

some_of : {A : Type 0} (o : Option A) → o ≢ None → (x : A) × (o ≡ Some x)
some_of None some = absurd (some refl)
some_of (Some x) some = (x, refl)

pub cloned : (dst src stamp : ℕ) (bytes : List ℕ) (c d : Content) → c.files src ≢ None → ((x : File) → c.files src ≡ Some x → bytes ≡ x.bytes) → Changes dst (λ x y. y ≡ record { bytes = bytes; mode = x.mode; stamp = stamp }) c d → Does (Clone_into dst src stamp) c d
cloned dst src stamp bytes c d there is h =
    let z = some_of (c.files src) there in
    record {
      file = λ x here.
          let y = h.file x here in
          (y.0, y.1, (z.0, z.1, y.2 ∙ ap (λ (l : List ℕ). record { bytes = l; mode = x.mode; stamp = stamp }) (is z.0 z.1)));
      others = h.others;
      names = h.names;
    }
