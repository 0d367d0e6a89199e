-- What contracts see of a cache: the buckets that it keeps, the most recently used first.
use Rattle.std.specs.Prelude.{◌≡◌, ◌≢◌, ◌⊎◌, ◌+◌, ◌^◌, ◌<◌, ◌≤◌, nat_eq, ℕ, Bool, not, List, ◌∷◌, length, take, Option, Some}
use Rattle.std.specs.List.{filter, list_any}
use Rattle.std.specs.Map.{keys_of, lookup}
use Rattle.gd_format.specs.Bucket.{Bucket}
use Rattle.gd_format.specs.HeaderFault.{slots_of}
use Rattle.gd_vault.specs.Content.{File, Content}
use Rattle.gd_vault.specs.Views.{View, IsAt}
use Rattle.gd_cache.specs.Blocks.{IsBucketOf}

-- each address with its bucket
abbrev pub Entries : Type 0
Entries = List (ℕ × Bucket)

-- the buckets, how many there may be, and the size of a block
pub record Cached : Type 0 where
  pub entries : Entries
  pub size : ℕ
  pub block : ℕ

-- the list of addresses, the most recently used first
abbrev pub addresses : Entries → List ℕ
addresses es = keys_of es

-- the bucket that is kept of an address
abbrev pub held : Entries → ℕ → Option Bucket
held es at = lookup (nat_eq at) es

-- whether an address is in the list
abbrev pub is_listed : ℕ → List ℕ → Bool
is_listed at list = list_any (nat_eq at) list

-- the list without an address
abbrev pub without : ℕ → List ℕ → List ℕ
without at list = filter (λ x. not (nat_eq at x)) list

-- the list after a use of an address: the address first, then the others in their order without it, cut to size
abbrev pub used : List ℕ → ℕ → ℕ → List ℕ
used list at size = take size (at ∷ without at list)

-- each bucket that is kept was kept
abbrev pub KeepsSome : Entries → Entries → Type 0
KeepsSome old new = (a : ℕ) (b : Bucket) → held new a ≡ Some b → held old a ≡ Some b

-- so is each bucket but that of one address
abbrev pub KeepsOthers : ℕ → Entries → Entries → Type 0
KeepsOthers at old new = (a : ℕ) (b : Bucket) → a ≢ at → held new a ≡ Some b → held old a ≡ Some b

-- where the vault tells its content, each bucket that is kept equals its block as the file reads
abbrev pub Agrees : View → ℕ → Cached → Type 0
Agrees v f c = IsAt v (λ (content : Content). (x : File) → content.files f ≡ Some x → (at : ℕ) (b : Bucket) → held c.entries at ≡ Some b → IsBucketOf x.bytes c.block at b)

-- where the vault tells its content, the block at an address meets the block of no other address in the list
abbrev pub IsAlone : View → ℕ → Cached → Type 0
IsAlone v at c = IsAt v (λ (content : Content). (a : ℕ) (b : Bucket) → a ≢ at → held c.entries a ≡ Some b → (a + c.block ≤ at) ⊎ (at + c.block ≤ a))

-- the sizes are in range, there is a buffer of one block, and each bucket has the slots of the block
pub record FitsCache (entries : Entries) (size block room : ℕ) : Type 0 where
  pub some : 0 < size
  pub few : size < 2 ^ 32
  pub least : 512 ≤ block
  pub most : block ≤ 1048576
  pub buffer : room ≡ block
  pub slots : (at : ℕ) (b : Bucket) → held entries at ≡ Some b → length b.slots ≡ slots_of block
