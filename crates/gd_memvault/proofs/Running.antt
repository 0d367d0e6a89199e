-- The names of an image inside a call.
use Rattle.std.proofs.Common.{◌≡◌, ◌≢◌, inl, inr, ⊎_elim, ◌∙◌, ap, sym, subst, refl, ℕ, ◌+◌, ◌≤◌, List, [], ◌∷◌, ◌++◌, length, Option, Some, None, slice_get, arith, length-append}
use Rattle.std.specs.Str.{bytes_eq}
use Rattle.std.proofs.lemmas.Option.{slice_get_within, slice_get_past}
use Rattle.std.proofs.lemmas.Slice.Eq.{bytes_eq-Decides}
use Rattle.gd_vault.specs.declared.vaults.Mode.{Mode}
use Rattle.gd_vault.specs.Content.{File, Content}
use Rattle.gd_vault.specs.Effects.{empty_file}
use Rattle.gd_vault.specs.Events.{Call}
use Rattle.gd_vault.specs.Events.Call.{Create, Remove, Replace}
use Rattle.gd_vault.specs.History.{MayName}
use Rattle.gd_memvault.specs.DiskData.{DiskData}
use Rattle.gd_memvault.specs.Disk.{disk_content, names_of}
use Rattle.gd_memvault.specs.Image.{RunsNames}
use Rattle.gd_memvault.proofs.Names.{decided, names_here, names_others}
use Rattle.gd_memvault.proofs.Disks.{get-push_here, get-push_other}

-- one name stands for an id, or for nothing
pub bound_runs : (before : Content) (call : Call) (name : List ℕ) (id : Option ℕ) (c new : DiskData) → new.names ≡ c.names ++ (record { name = name; id = id }) ∷ [] → new.files ≡ c.files → MayName before call name id → ((i : ℕ) → id ≡ Some i → (m : List ℕ) × (before.names m ≡ Some i)) → RunsNames before call c new
bound_runs before call name id c new named same may from = record {
  kept = λ f x is lt. ap (λ l. slice_get l f) (sym same) ∙ is;
  made = λ f x is le. absurd (let lt = slice_get_within new.files f x is in omega (arith, lt, le, ap length same));
  grows = omega (arith, ap length same);
  names = λ n. ⊎_elim
      (λ (e : name ≡ n). inr (subst (λ k. MayName before call k (names_of new.names k)) e (subst (MayName before call name) (sym (here name refl)) may)))
      (λ (ne : name ≢ n). inl (other n ne))
      (decided name n (bytes_eq name n) (bytes_eq-Decides name n));
  placed = λ n i is. ⊎_elim
      (λ (e : name ≡ n). inr (inr (from i (sym (here n e) ∙ is))))
      (λ (ne : name ≢ n). inl (other n ne))
      (decided name n (bytes_eq name n) (bytes_eq-Decides name n));
}
  where
    here : (n : List ℕ) → name ≡ n → names_of new.names n ≡ id
    here n e = ap (λ l. names_of l n) named ∙ names_here n c.names (record { name = name; id = id }) e

    other : (n : List ℕ) → name ≢ n → names_of new.names n ≡ names_of c.names n
    other n ne = ap (λ l. names_of l n) named ∙ names_others n c.names (record { name = name; id = id }) ne

none_some : (i : ℕ) {P : Type 0} → None ≡ Some i → P
none_some i wrong = absurd (let no : None ≡ Some i = wrong in cc)

pub removed_runs : (before : Content) (name : List ℕ) (c new : DiskData) → new.names ≡ c.names ++ (record { name = name; id = None }) ∷ [] → new.files ≡ c.files → RunsNames before (Remove name) c new
removed_runs before name c new named same = bound_runs before (Remove name) name None c new named same (refl, refl) (λ i wrong. none_some i wrong)

pub to_runs : (before : Content) (from to : List ℕ) (id : Option ℕ) (c new : DiskData) → new.names ≡ c.names ++ (record { name = to; id = id }) ∷ [] → new.files ≡ c.files → id ≡ before.names from → RunsNames before (Replace from to) c new
to_runs before from to id c new named same is = bound_runs before (Replace from to) to id c new named same (inl (refl, is)) (λ i found. (from, sym is ∙ found))

pub from_runs : (before : Content) (from to : List ℕ) (c new : DiskData) → from ≢ to → new.names ≡ c.names ++ (record { name = from; id = None }) ∷ [] → new.files ≡ c.files → RunsNames before (Replace from to) c new
from_runs before from to c new ne named same = bound_runs before (Replace from to) from None c new named same (inr (refl, ne, refl)) (λ i wrong. none_some i wrong)

pub created_runs : (before : DiskData) (name : List ℕ) (mode : Mode) (c new : DiskData) → new.names ≡ c.names ++ (record { name = name; id = Some (length c.files) }) ∷ [] → new.files ≡ c.files ++ empty_file mode ∷ [] → length before.files ≤ length c.files → RunsNames (disk_content before) (Create name mode) c new
created_runs before name mode c new named more le = record {
  kept = λ f x is lt. sym (get-push_other c.files (empty_file mode) f (λ e. absurd (omega (arith, e, lt)))) ∙ ap (λ l. slice_get l f) (sym more) ∙ is;
  made = λ f x is past.
      let within = slice_get_within new.files f x is in
      let here : f ≡ length c.files = omega (arith, within, past, grown) in
      let there : slice_get new.files f ≡ Some (empty_file mode) = ap (λ l. slice_get l f) more ∙ ap (slice_get (c.files ++ empty_file mode ∷ [])) here ∙ get-push_here c.files (empty_file mode) in
      one (slice_get new.files f) x (empty_file mode) is there;
  grows = omega (arith, grown);
  names = λ n. ⊎_elim
      (λ (e : name ≡ n). inr (sym e, (length c.files, slice_get_past before.files (length c.files) le, here n e)))
      (λ (ne : name ≢ n). inl (other n ne))
      (decided name n (bytes_eq name n) (bytes_eq-Decides name n));
  placed = λ n i is. ⊎_elim
      (λ (e : name ≡ n). inr (inl (omega (arith, grown, id_is i (names_of new.names n) is (here n e)))))
      (λ (ne : name ≢ n). inl (other n ne))
      (decided name n (bytes_eq name n) (bytes_eq-Decides name n));
}
  where
    grown : length new.files ≡ length c.files + 1
    grown = ap length more ∙ length-append c.files (empty_file mode ∷ [])

    one : (o : Option File) (x y : File) → o ≡ Some x → o ≡ Some y → x ≡ y
    one o x y a b = cc

    id_is : (i : ℕ) (o : Option ℕ) → o ≡ Some i → o ≡ Some (length c.files) → i ≡ length c.files
    id_is i o a b = cc

    here : (n : List ℕ) → name ≡ n → names_of new.names n ≡ Some (length c.files)
    here n e = ap (λ l. names_of l n) named ∙ names_here n c.names (record { name = name; id = Some (length c.files) }) e

    other : (n : List ℕ) → name ≢ n → names_of new.names n ≡ names_of c.names n
    other n ne = ap (λ l. names_of l n) named ∙ names_others n c.names (record { name = name; id = Some (length c.files) }) ne
