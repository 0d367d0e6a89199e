-- The laws of open databases.
use Rattle.std.specs.Prelude.{◌≡◌, ℕ, Bool, IsTrue, List, ◌∷◌, ◌++◌, Some}
use Rattle.gd_format.specs.File.{IsReadable, records}
use Rattle.gd_lookup.specs.Order.{first_of, successor}
use Rattle.gd_lookup.specs.declared.Successor.TheVariants.{Key}
use Rattle.gd_vault.specs.Laws.{Inside}
use Rattle.gd_vault.specs.Views.{View, HasFile}
use Rattle.gd_store.specs.Opened.{Opened, Fits}
use Rattle.gd_store.specs.Replies.{value_of}

-- calls of a vault on other files than its own leave an open database that of its file
abbrev pub FitsStays : Type 0
FitsStays = (mine : ℕ → Bool) (named : List ℕ → Bool) (u v : View) (s : Opened) → (IsTrue (mine s.file) → ⊥) → Inside mine named u v → HasFile u s.file → Fits u s → HasFile v s.file × Fits v s

-- the first pair of a list is that of the key, with the value that the map has
pub record IsFirstPair (pairs : List (List ℕ × List ℕ)) (key : List ℕ) : Type 0 where
  pub value : List ℕ
  pub rest : List (List ℕ × List ℕ)
  pub is : pairs ≡ (key, value) ∷ rest
  pub in_map : value_of pairs key ≡ Some value

-- the pair of a key stands right behind that of another, with the value that the map has
pub record IsPairAfter (pairs : List (List ℕ × List ℕ)) (other key : List ℕ) : Type 0 where
  pub front : List (List ℕ × List ℕ)
  pub old : List ℕ
  pub value : List ℕ
  pub rest : List (List ℕ × List ℕ)
  pub is : pairs ≡ front ++ (other, old) ∷ (key, value) ∷ rest
  pub in_map : value_of pairs key ≡ Some value

-- the first key of a readable file is that of its first record, and the successor of a key that of the record behind
abbrev pub FirstIsPair : Type 0
FirstIsPair = (file key : List ℕ) → IsReadable file → first_of (records file) ≡ Some key → IsFirstPair (records file) key

abbrev pub NextIsPair : Type 0
NextIsPair = (file other key : List ℕ) → IsReadable file → successor other (records file) ≡ Key key → IsPairAfter (records file) other key
