-- A record that is put into free space.
use Rattle.std.proofs.Common.{◌≡◌, ◌≢◌, ◌⊎◌, ℕ, ◌+◌, ◌-◌, ◌<◌, ◌≤◌, List, [], ◌∷◌, ◌++◌, length, refl, inl, inr, arith}
use Rattle.std.proofs.lemmas.Bool.{cases_lt}
use Rattle.std.proofs.lemmas.Bool.Decides.{nat_tests}
use Rattle.gd_base.specs.declared.errors.DbError.TheVariants as db
use Rattle.gd_format.specs.declared.Header.{Header}
use Rattle.gd_format.specs.declared.Extent.{Extent}
use Rattle.gd_format.specs.Covers.{cover, has_byte}
use Rattle.gd_format.specs.FreeSide.{FreeLists, IsFreeSide, free_extents}
use Rattle.gd_format.specs.Sound.{extent}
use Rattle.gd_format.proofs.Covers.{cover-append}
use Rattle.gd_map_laws.specs.Space.{one_if}
use Rattle.gd_map_laws.specs.Frame.{KeepsBut}
use Rattle.gd_map_laws.proofs.Side.{side_kept}
use Rattle.gd_map_laws.proofs.Stays.{keeps_join}
use Rattle.gd_space.specs.Effect.{Change, Keeps, Moves, TellsNone}
use Rattle.gd_space.specs.SpaceLaws.{IsApart}
use Rattle.gd_space.specs.declared.stack.SpaceError.{SpaceError}
use Rattle.gd_space.specs.declared.stack.SpaceError.TheVariants.{VaultFault, FileFull, BadAvail, OutOfMemory}
use Rattle.gd_space.proofs.Changes.{stays_apart, cover-grown_low}
use Rattle.gd_space.proofs.Sides.{cover-past}
use Rattle.gd_vault.specs.Views.{View}
use Rattle.gd_update.specs.Calls.{db_error_of}
use Rattle.gd_update.specs.Writes.{PutAt, RecordPut}

-- the free side of a file by itself
pub side_apart : (file : List ℕ) (h : Header) (top : ℕ) (s : FreeLists) → IsFreeSide file h top s → IsApart (λ _. 0) (free_extents s) [] h.next_block
side_apart file h top s side = record {
  once = λ b. (let o = side.once b in omega (arith, o));
  below = λ b some. elim (cases_lt b h.next_block) [ inl low ↦ low | inr high ↦ let z = cover-past h.next_block (free_extents s) b side.below high in absurd (omega (arith, some, z)) ];
}

cover-here : (at n : ℕ) → 0 < n → cover (extent at n ∷ []) (at + (n - 1)) ≡ 1
cover-here at n some = grind (arith, nat_tests)

-- what was taken ends in time
pub taken_ends : (file : List ℕ) (h : Header) (top : ℕ) (s s' : FreeLists) (next' at n lost : ℕ) → 0 < n → IsFreeSide file h top s → Moves (free_extents s) (free_extents s') h.next_block next' [] (extent at n ∷ []) lost → at + n ≤ next'
taken_ends file h top s s' next' at n lost some side moves =
    let apart = stays_apart (λ _. 0) (free_extents s) (free_extents s') [] (extent at n ∷ []) h.next_block next' lost moves (side_apart file h top s side) in
    let one = cover-here at n some in
    let last = apart.below (at + (n - 1)) (omega (arith, one)) in
    omega (arith, last, some)

keeps_but : (free : List Extent) (old new : List ℕ) → Keeps (free ++ []) old new → KeepsBut (cover free) old new
keeps_but free old new k = record { longer = k.longer; bytes = λ at n fits clear. k.bytes at n fits (λ b low high. (let z = clear b low high in let a = cover-append free [] b in omega (arith, z, a))) }

has_is : (at n b : ℕ) → one_if (has_byte (extent at n) b) ≡ cover (extent at n ∷ []) b
has_is at n b = omega arith

module _ (old mid new : List ℕ) (h h' : Header) (top top' : ℕ) (s s' : FreeLists) (at : ℕ) (pair : List ℕ) (lost : ℕ)
    (side : IsFreeSide old h top s) (change : Change old mid h h' top top' s s' [] (extent at (length pair) ∷ []) lost) (put : PutAt mid new at pair) (ends : at + length pair ≤ h'.next_block) where
  apart_after : IsApart (λ _. 0) (free_extents s') (extent at (length pair) ∷ []) h'.next_block
  apart_after = stays_apart (λ _. 0) (free_extents s) (free_extents s') [] (extent at (length pair) ∷ []) h.next_block h'.next_block lost change.moves (side_apart old h top s side)

  side_after : IsFreeSide new h' top' s'
  side_after =
      side_kept (λ b. one_if (has_byte (extent at (length pair)) b)) mid new h' top' s' put.keeps
      (λ b some. let o = apart_after.once b in let e = has_is at (length pair) b in omega (arith, o, some, e))
      (let most = put.most in let short = change.side.short in omega (arith, most, short, ends)) change.side

  keeps_after : KeepsBut (cover (free_extents s)) old new
  keeps_after =
      keeps_join (cover (free_extents s)) (λ b. one_if (has_byte (extent at (length pair)) b)) (cover (free_extents s)) old mid new
      (λ x lt z. (z, (let m = change.moves.bytes x in let short = side.short in let g = cover-grown_low h.next_block h'.next_block x (omega (arith, lt, short)) in let e = has_is at (length pair) x in omega (arith, m, g, z, e))))
      (keeps_but (free_extents s) old mid change.keeps) put.keeps

  pub record_put : RecordPut old new h h' top top' s s' at pair lost
  record_put = record { side = side_after; keeps = keeps_after; moves = change.moves; reads = put.reads }

-- ---- errors

pub error_of : (e : SpaceError) (v : View) → ((a : ℕ) → e ≡ BadAvail a → TellsNone v) → e ≢ OutOfMemory → e ≢ FileFull → (db_error_of e ≡ db.VaultFault) ⊎ ((a : ℕ) × (db_error_of e ≡ db.BadAvail a) × TellsNone v)
error_of VaultFault v bad memory full = inl refl
error_of FileFull v bad memory full = absurd (full refl)
error_of (BadAvail a) v bad memory full = inr (a, refl, bad a refl)
error_of OutOfMemory v bad memory full = absurd (memory refl)
