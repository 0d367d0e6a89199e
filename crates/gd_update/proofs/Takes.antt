-- Where room that was taken ends.
use Rattle.std.proofs.Common.{◌≡◌, ℕ, ◌+◌, ◌-◌, ◌^◌, ◌<◌, ◌≤◌, List, [], ◌∷◌, refl, inl, inr, arith}
use Rattle.std.proofs.lemmas.Bool.{cases_lt}
use Rattle.gd_format.specs.declared.Extent.{Extent}
use Rattle.gd_format.specs.declared.Header.{Header}
use Rattle.gd_format.specs.Covers.{has_byte}
use Rattle.gd_format.specs.FreeSide.{FreeLists, IsFreeSide, free_extents}
use Rattle.gd_format.specs.Sound.{extent}
use Rattle.gd_map_laws.specs.Space.{one_if}
use Rattle.gd_map_laws.proofs.Stays.{has_in}
use Rattle.gd_map_laws.proofs.Space.{grown-some}
use Rattle.gd_map_laws.proofs.Find.{grown_is_extent}
use Rattle.gd_space.specs.Calls.{free_lists, HasFreeSide, Done}
use Rattle.gd_space.specs.Effect.{Change, TellsNone}
use Rattle.gd_space.proofs.Dones.{tells_none}
use Rattle.gd_space.proofs.Sides.{cover-past}
use Rattle.gd_vault.specs.Views.{View, HasFile}

pub taken_ends : (old mid : List ℕ) (h h' : Header) (top top' : ℕ) (s s' : FreeLists) (at n : ℕ) → 0 < n → IsFreeSide old h top s → Change old mid h h' top top' s s' [] (extent at n ∷ []) 32 → at + n ≤ h'.next_block
taken_ends old mid h h' top top' s s' at n some side taken =
    let has : one_if (has_byte (extent at n) (at + (n - 1))) ≡ 1 = rw (has_in at n (at + (n - 1)) (omega arith) (omega (arith, some))) refl in
    let m = taken.moves.bytes (at + (n - 1)) in
    let g = grown_is_extent h.next_block h'.next_block (at + (n - 1)) taken.moves.grows in
    let grows = taken.moves.grows in
    let below : at + (n - 1) < h'.next_block =
    elim (cases_lt (at + (n - 1)) h.next_block) [
      | inl lt ↦ omega (arith, lt, grows)
      | inr past ↦
          let z = cover-past h.next_block (free_extents s) (at + (n - 1)) side.below past in
          let p = grown-some h.next_block h'.next_block (at + (n - 1)) (omega (arith, m, has, z, g)) in
          p.1
    ] in
    omega (arith, below, some)

-- over a vault that tells its content nothing is taken so high
pub none_high : (old new : View) (f : ℕ) (h h' : Header) (top top' : ℕ) (table bucket table' bucket' : List Extent) (at n : ℕ) → 0 < n → HasFile old f → HasFreeSide old f h top table bucket
    → Done old new f h h' top top' table bucket table' bucket' [] (extent at n ∷ []) 32 → h'.next_block ≤ 2 ^ 46 → 2 ^ 62 < at → TellsNone old
none_high old new f h h' top top' table bucket table' bucket' at n some file side done low high =
    tells_none old
    (λ k told.
    (let x = file k told in
    let s = side k x.0 told x.1 in
    let d = done k x.0 s.0 told x.1 s.1 in
    let e = taken_ends x.0.bytes d.file.bytes h h' top top' (free_lists table s.0 bucket) (free_lists table' d.blocks bucket') at n some s.1 d.change in
    absurd (omega (arith, e, low, high))))
