-- What is known of one file, over one event more.
use Rattle.std.proofs.Common.{◌≡◌, ◌≢◌, ◌⊎◌, ℕ, true, false, List, ◌∷◌, Option, Some, None, sym, subst, ◌∙◌}
use Rattle.gd_vault.specs.Content.{File, Content}
use Rattle.gd_vault.specs.Events.{Call, Event, content_after}
use Rattle.gd_vault.specs.Effects.{Unfinished, file_of}
use Rattle.gd_vault.specs.History.{FileLeft, NameLeft, FileInside, MayName, Renames}
use Rattle.gd_vault.specs.Stands.{FileStands, NameStands}
use Rattle.gd_vault.specs.Events.Call.{Sync}
use Rattle.gd_vault.proofs.Left.{other_kept, other_inside, own_kept, own_inside, name_kept, name_inside}

module _ (first : Content) (es : List Event) (e : Event) (f : ℕ) (R L : File → Type 0) (now : FileStands first es f R L) where
  pub exists : (content_after first es).files f ≢ None
  exists n = let no : Some now.reads.0 ≡ None = sym now.reads.1 ∙ n in cc

  pub other_stands : file_of e.call ≢ Some f → e.after.files f ≡ (content_after first es).files f → FileStands first (e ∷ es) f R L
  other_stands ne same = record {
    reads = (now.reads.0, same ∙ now.reads.1, now.reads.2);
    left = λ x l. now.left x (other_kept first es e f x exists ne l);
  }

  pub other_stands_inside : file_of e.call ≢ Some f → (x : File) → FileInside (content_after first es) e.call f (FileLeft first es f) x → L x
  other_stands_inside ne x l = now.left x (other_inside first es e f x exists ne l)

  pub own_stands : (R' L' : File → Type 0) → file_of e.call ≡ Some f → (e.call ≡ Sync f → e.ok ≡ false) → ((x : File) × (e.after.files f ≡ Some x) × R' x) → ((y x : File) → L y → Unfinished e.call y x → L' x) → FileStands first (e ∷ es) f R' L'
  own_stands R' L' is failed reads cut = record {
    reads = reads;
    left = λ x l. let k = own_kept first es e f x exists is failed l in cut k.0 x (now.left k.0 k.1) k.2;
  }

  pub own_stands_inside : (L' : File → Type 0) → file_of e.call ≡ Some f → ((y x : File) → L y → Unfinished e.call y x → L' x) → (x : File) → FileInside (content_after first es) e.call f (FileLeft first es f) x → L' x
  own_stands_inside L' is cut x l = let k = own_inside first es e f x exists is l in cut k.0 x (now.left k.0 k.1) k.2

  -- after a sync a crash leaves it as it reads
  pub synced_stands : e.call ≡ Sync f → e.ok ≡ true → e.after.files f ≡ (content_after first es).files f → FileStands first (e ∷ es) f R R
  synced_stands is ok same =
      let here : e.after.files f ≡ Some now.reads.0 = same ∙ now.reads.1 in
      record {
        reads = (now.reads.0, here, now.reads.2);
        left = λ x l. let there : e.after.files f ≡ Some x = l.synced is ok in let eq : now.reads.0 ≡ x = cc in subst R eq now.reads.2;
      }

module _ (first : Content) (es : List Event) (n : List ℕ) (id : ℕ) (now : NameStands first es n id) where
  pub name_stands : (e : Event) → e.after.names n ≡ (content_after first es).names n → NameStands first (e ∷ es) n id
  name_stands e same = record { reads = same ∙ now.reads; left = name_kept first es n (λ z. z ≡ Some id) now.left now.reads e same }

  pub name_stands_inside : (call : Call) → (Renames call n → ⊥) → (z : Option ℕ) → NameLeft first es n z ⊎ MayName (content_after first es) call n z → z ≡ Some id
  name_stands_inside call not = name_inside first es n (λ z. z ≡ Some id) now.left now.reads call not

module _ (first : Content) (es : List Event) (e : Event) (f : ℕ) (R L : File → Type 0) (now : FileStands first es f R L) where
  pub other_left : file_of e.call ≢ Some f → (x : File) → FileLeft first (e ∷ es) f x → L x
  other_left ne x l = now.left x (other_kept first es e f x (exists first es e f R L now) ne l)

  pub own_left : (L' : File → Type 0) → file_of e.call ≡ Some f → (e.call ≡ Sync f → e.ok ≡ false) → ((y x : File) → L y → Unfinished e.call y x → L' x) → (x : File) → FileLeft first (e ∷ es) f x → L' x
  own_left L' is failed cut x l = let k = own_kept first es e f x (exists first es e f R L now) is failed l in cut k.0 x (now.left k.0 k.1) k.2
