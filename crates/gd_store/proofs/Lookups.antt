-- Facts of the look-up of a key.
use Rattle.std.proofs.Common.{◌≡◌, ℕ, ◌-◌, ◌/◌, ◌^◌, Bool, List, Option, Some, None, Result, Ok, Err, refl, sym, ap, subst, ◌∙◌}
use Rattle.std.specs.Prelude.{get_or, is_some, length, IfOk, IfSome, IfNone, if◌then◌else◌}
use Rattle.gd_base.specs.declared.errors.DbError.{DbError}
use Rattle.gd_base.specs.declared.errors.DbError.TheVariants.{ItemNotFound}
use Rattle.gd_format.specs.declared.Header.{Header}
use Rattle.gd_format.specs.declared.Slot.{Slot}
use Rattle.gd_format.specs.declared.Slot.TheVariants.{Empty}
use Rattle.gd_format.specs.Field.{bytes_at}
use Rattle.gd_format.specs.Hash.{hash_of}
use Rattle.gd_format.specs.HeaderFault.{natural}
use Rattle.gd_format.specs.Bucket.{Bucket, bucket_at}
use Rattle.gd_format.specs.File.{entry_at, records}
use Rattle.gd_map_laws.specs.Lookup.{index_of}
use Rattle.gd_vault.specs.Views.{View, OnlyAsks}
use Rattle.gd_lookup.specs.Finding.{IsKeyAbsent, IsKeyBucket, IsKeySlot, OfKey}
use Rattle.gd_open.specs.Files.{AtFile, OfFile}
use Rattle.gd_lookup.specs.Reading.{LiesIn, value_in}
use Rattle.gd_lookup.proofs.Keys.{key_bucket}
use Rattle.gd_open.proofs.Opens.{at_file_stays, at_file_was, of_file_stays}
use Rattle.gd_store.specs.Located.{IsFoundIn, IsPlaceOf}
use Rattle.gd_store.specs.Opened.{Opened, OnFile}
use Rattle.gd_store.specs.Replies.{value_of, absent_due, RefusedAsking}
use Rattle.gd_store.proofs.Asking.{asks_more}

module _ (key : List ℕ) (h : Header) (f at hash : ℕ) (bucket : Bucket) (hashed : hash ≡ hash_of key) where
  abbrev Address : View → Type 0
  Address v = AtFile v f (λ file. at ≡ natural (entry_at file h (hash / 2 ^ (31 - h.dir_bits))))

  abbrev Reads : View → Type 0
  Reads v = AtFile v f (λ file. bucket ≡ bucket_at (bytes_at file at h.block) h.elems)

  own_bucket : (v : View) → OfFile v f h → Address v → Reads v → AtFile v f (λ file. IsKeyBucket file key bucket.slots)
  own_bucket v o a r c x t e = key_bucket x.bytes h key at hash bucket (o.is_open c x t e) hashed (a c x t e) (r c x t e)

  -- over the reads of the address and of the bucket
  pub of_key : (u v w : View) → OnlyAsks u v → OnlyAsks v w → OfFile u f h → Address u → Reads v → OfKey w f key bucket.slots
  of_key u v w one two o a r =
      let all = asks_more u v w one two in
      record { is_key = own_bucket w (of_file_stays u w f h all o) (at_file_stays u w f (λ file. at ≡ natural (entry_at file h (hash / 2 ^ (31 - h.dir_bits)))) all a) (at_file_stays v w f (λ file. bucket ≡ bucket_at (bytes_at file at h.block) h.elems) two r) }

  found : (file : List ℕ) (place : Option ℕ) → at ≡ natural (entry_at file h (hash / 2 ^ (31 - h.dir_bits))) → bucket ≡ bucket_at (bytes_at file at h.block) h.elems → IsKeyBucket file key bucket.slots → IsPlaceOf file key bucket place → IsFoundIn file h key at bucket place
  unfolding index_of
  found file place a r own p = record { address = a ∙ ap (λ (k : ℕ). natural (entry_at file h (k / 2 ^ (31 - h.dir_bits)))) hashed; bucket = r; slots = own; place = p }

  place_told : (w : View) (place : Option ℕ) → IfSome place (λ p. AtFile w f (λ file. IsKeySlot file key (get_or bucket.slots p Empty))) → IfNone place (AtFile w f (λ file. IsKeyAbsent file key bucket.slots)) → AtFile w f (λ file. IsPlaceOf file key bucket place)
  place_told w None some none = none
  place_told w (Some p) some none = some

  pub found_told : (u v w : View) (s : Opened) (place : Option ℕ) → OnlyAsks u v → OnlyAsks v w → f ≡ s.file → h ≡ s.header → OfFile u f h → Address u → Reads v
      → IfSome place (λ p. AtFile w f (λ file. IsKeySlot file key (get_or bucket.slots p Empty))) → IfNone place (AtFile w f (λ file. IsKeyAbsent file key bucket.slots))
      → OnFile u s.file (λ file. IsFoundIn file s.header key at bucket place)
  found_told u v w s place one two file header o a r some none =
      let all = asks_more u v w one two in
      let reads = at_file_was u v f (λ x. bucket ≡ bucket_at (bytes_at x at h.block) h.elems) one r in
      let placed = at_file_was u w f (λ x. IsPlaceOf x key bucket place) all (place_told w place some none) in
      let whole : OnFile u f (λ x. IsFoundIn x h key at bucket place) = λ c x t e. found x.bytes place (a c x t e) (reads c x t e) (own_bucket u o a reads c x t e) (placed c x t e) in
      subst (λ (k : ℕ). OnFile u k (λ x. IsFoundIn x s.header key at bucket place)) file (subst (λ (k : Header). OnFile u f (λ x. IsFoundIn x k key at bucket place)) header whole)

-- ---- what it tells

module _ (key : List ℕ) (h : Header) (f at : ℕ) (bucket : Bucket) (u : View) where
  abbrev Found : Option ℕ → Type 0
  Found place = OnFile u f (λ file. IsFoundIn file h key at bucket place)

  pub value_none : (place : Option ℕ) → place ≡ None → Found place → OnFile u f (λ file. value_of (records file) key ≡ None)
  value_none None is found c x t e = (found c x t e).place.value
  value_none (Some p) is found c x t e = absurd cc

  due : (v : Option (List ℕ)) → v ≡ None → (if is_some v then None else Some ItemNotFound) ≡ Some ItemNotFound
  due None is = refl
  due (Some v) is = absurd cc

  pub absent_told : (w : View) (place : Option ℕ) → place ≡ None → Found place → RefusedAsking ItemNotFound f u w (λ file. absent_due (records file) key)
  absent_told w place is found = record { kind = refl; cause = λ c x t e. due (value_of (records x.bytes) key) (value_none place is found c x t e) }

  pub slot_told : (place : Option ℕ) (p : ℕ) → place ≡ Some p → Found place → OnFile u f (λ file. IsKeySlot file key (get_or bucket.slots p Empty))
  slot_told None p is found c x t e = absurd cc
  slot_told (Some q) p is found c x t e = let same : q ≡ p = cc in subst (λ (k : ℕ). IsKeySlot x.bytes key (get_or bucket.slots k Empty)) same (found c x t e).place

  pub inside_told : (v : View) (place : Option ℕ) (p : ℕ) (slot : Slot) → OnlyAsks u v → place ≡ Some p → slot ≡ get_or bucket.slots p Empty → Found place → AtFile v f (λ file. LiesIn (length file) slot)
  inside_told v place p slot a is same found = at_file_stays u v f (λ file. LiesIn (length file) slot) a (λ c x t e. subst (λ (k : Slot). LiesIn (length x.bytes) k) (sym same) (slot_told place p is found c x t e).inside)

  pub value_told : (v : View) (place : Option ℕ) (p : ℕ) (slot : Slot) (value : List ℕ) → OnlyAsks u v → place ≡ Some p → slot ≡ get_or bucket.slots p Empty → Found place → AtFile v f (λ file. value ≡ value_in file slot) → OnFile u f (λ file. value_of (records file) key ≡ Some value)
  value_told v place p slot value a is same found read c x t e =
      let own = slot_told place p is found c x t e in
      let was = at_file_was u v f (λ file. value ≡ value_in file slot) a read c x t e in
      own.value ∙ ap Some (ap (value_in x.bytes) (sym same) ∙ sym was)

  pub values_told : (v : View) (place : Option ℕ) (p : ℕ) (slot : Slot) (r : Result (List ℕ) DbError) → OnlyAsks u v → place ≡ Some p → slot ≡ get_or bucket.slots p Empty → Found place → IfOk r (λ value. AtFile v f (λ file. value ≡ value_in file slot)) → IfOk r (λ value. OnFile u f (λ file. value_of (records file) key ≡ Some value))
  values_told v place p slot (Ok value) a is same found read = value_told v place p slot value a is same found read
  values_told v place p slot (Err e) a is same found read = tt

  pub there_told : (place : Option ℕ) (b : Bool) → b ≡ is_some place → Found place → OnFile u f (λ file. b ≡ is_some (value_of (records file) key))
  there_told None b is found c x t e = is ∙ ap is_some (sym (found c x t e).place.value)
  there_told (Some p) b is found c x t e = is ∙ ap is_some (sym (found c x t e).place.value)

-- no place is some place
pub place_none : (place : Option ℕ) → ((p : ℕ) → place ≡ Some p → ⊥) → place ≡ None
place_none None no_place = refl
place_none (Some p) no_place = absurd (no_place p refl)
