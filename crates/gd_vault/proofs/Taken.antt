-- What a read of a file takes of the bytes that are left.
use Rattle.std.proofs.Common.{◌≡◌, ◌≢◌, ℕ, ◌+◌, ◌-◌, ◌<◌, ◌≤◌, min, List, [], ◌++◌, length, take, drop, Option, Some, None, refl, sym, ap, ap₂, subst, ◌∙◌, arith}
use Rattle.std.specs.Option.{option_map}
use Rattle.std.proofs.lemmas.List.{drop_all, drop-drop, drop-take, take-take, take-append-drop, take-append-le, length-take, length-append}
use Rattle.gd_base.specs.Sources.{IsAtEnd}
use Rattle.gd_vault.specs.Content.{File}
use Rattle.gd_vault.specs.Views.{View, Answered}
use Rattle.gd_vault.specs.Streams.{file_at, left_at, longest}
use Rattle.gd_vault.proofs.Files.{file_told}

nothing_first : (buf : List ℕ) (o : Option (List ℕ)) → o ≡ option_map (λ xs. take 0 buf ++ xs) o
nothing_first buf None = refl
nothing_first buf (Some xs) = refl

no_more : (at : ℕ) (bytes : List ℕ) → longest ≤ at → drop at (take longest bytes) ≡ []
no_more at bytes le = drop_all at (take longest bytes) (omega (arith, length-take longest bytes))

at_end : (at : ℕ) → longest ≤ at → (o : Option File) → IsAtEnd (option_map (λ (x : File). drop at (take longest x.bytes)) o)
at_end at le None = refl
at_end at le (Some x) = ap Some (no_more at x.bytes le)

-- no room to read, in the buffer or up to the longest length
pub reads_nothing : (v : View) (f at room : ℕ) (buf : List ℕ) → room ≡ 0 → room ≡ min (length buf) (longest - at) → (0 ≤ length buf) × (left_at v f at ≡ option_map (λ xs. take 0 buf ++ xs) (left_at v f at)) × (◌≡◌ {A = ℕ} 0 0 → 0 < length buf → IsAtEnd (left_at v f at))
reads_nothing v f at room buf none is = (omega arith, nothing_first buf (left_at v f at), λ _ some. at_end at (omega (arith, none, is, some)) (file_at v f))

parted : (most at n : ℕ) (bytes filled rest : List ℕ) → n ≤ length filled → n ≤ length bytes - at → at + n ≤ most → take n filled ≡ take n (drop at bytes) → drop at (take most bytes) ≡ take n (filled ++ rest) ++ drop (at + n) (take most bytes)
parted most at n bytes filled rest fits there below same =
    let cut : at + (most - at) ≡ most = omega arith in
    let after : drop at (take most bytes) ≡ take (most - at) (drop at bytes) = ap (λ k. drop at (take k bytes)) (sym cut) ∙ drop-take at (most - at) bytes in
    let front : take n (drop at (take most bytes)) ≡ take n (drop at bytes) = ap (take n) after ∙ take-take n (most - at) (drop at bytes) (omega arith) in
    let whole : take n (filled ++ rest) ≡ take n filled = take-append-le n filled rest fits in
    sym (take-append-drop n (drop at (take most bytes))) ∙ ap₂ (λ (a : List ℕ) b. a ++ b) (front ∙ sym same ∙ sym whole) (drop-drop n at (take most bytes))

-- a read of the file, which is told or not
module _ (u v : View) (f at room n : ℕ) (buf filled : List ℕ) (h : Answered f at (take room buf) filled n u v) (len : length filled ≡ length (take room buf)) (fits : room ≡ min (length buf) (longest - at)) (some : room ≢ 0) where
  same_file : file_at v f ≡ file_at u f
  same_file = ap (λ t. file_at (record { told = t; faults = 0; bytes_written = 0; clones = 0; reads = [] }) f) h.told

  takes : (o : Option File) → file_at u f ≡ o → option_map (λ (x : File). drop at (take longest x.bytes)) o ≡ option_map (λ xs. take n (filled ++ drop room buf) ++ xs) (option_map (λ (x : File). drop (at + n) (take longest x.bytes)) o)
  takes None is = refl
  takes (Some x) is =
      let c = file_told u f x is in
      let b = h.bytes c.0 x c.1 c.2 in
      ap Some (parted longest at n x.bytes filled (drop room buf) (omega (arith, len, h.small)) (omega (arith, b.0)) (omega (arith, b.0, fits, length-take room buf)) b.1)

  ends : (o : Option File) → file_at u f ≡ o → n ≡ 0 → IsAtEnd (option_map (λ (x : File). drop (at + n) (take longest x.bytes)) o)
  ends None is none = refl
  ends (Some x) is none =
      let c = file_told u f x is in
      let b = h.bytes c.0 x c.1 c.2 in
      let room_more : 0 < room = omega (arith, some) in
      ap Some (drop_all (at + n) (take longest x.bytes) (omega (arith, b.0, none, fits, room_more, length-take room buf, length-take longest x.bytes)))

  pub reads_some : (n ≤ length (filled ++ drop room buf)) × (left_at u f at ≡ option_map (λ xs. take n (filled ++ drop room buf) ++ xs) (left_at v f (at + n))) × (n ≡ 0 → 0 < length (filled ++ drop room buf) → IsAtEnd (left_at v f (at + n)))
  reads_some = (
    omega (arith, len, h.small, length-append filled (drop room buf)),
    takes (file_at u f) refl ∙ ap (λ (o : Option File). option_map (λ xs. take n (filled ++ drop room buf) ++ xs) (option_map (λ (x : File). drop (at + n) (take longest x.bytes)) o)) (sym same_file),
    λ none some_room. subst (λ (o : Option File). IsAtEnd (option_map (λ (x : File). drop (at + n) (take longest x.bytes)) o)) (sym same_file) (ends (file_at u f) refl none),
  )
