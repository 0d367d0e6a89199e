-- What a split and a doubling do to a file of which the header stands in memory.
use Rattle.std.specs.Prelude.{◌≡◌, ℕ, ◌+◌, ◌^◌, ◌<◌, ◌≤◌, List, Some}
use Rattle.gd_format.specs.declared.Extent.{Extent}
use Rattle.gd_format.specs.declared.Header.{Header}
use Rattle.gd_format.specs.Bucket.{Bucket}
use Rattle.gd_format.specs.FreeSide.{FreeLists, StackBlock, free_extents}
use Rattle.gd_map_laws.specs.Lookup.{value_at}
use Rattle.gd_space.specs.Calls.{free_lists}
use Rattle.gd_vault.specs.Content.{File, Content}
use Rattle.gd_vault.specs.Views.{View, content_of}
use Rattle.gd_update.specs.Held.{IsHeld, IsBucketOf, lost_in}
use Rattle.gd_update.specs.Halves.{next_bit}

-- held still, with the same map, and few bytes more are lost
pub record IsStep (old new : List ℕ) (h h' : Header) (top' : ℕ) (s s' : FreeLists) (more : ℕ) : Type 0 where
  pub held : IsHeld new h' top' s'
  pub map : (key : List ℕ) → value_at new h' key ≡ value_at old h key
  pub lost : lost_in new h' (free_extents s') ≤ lost_in old h (free_extents s) + more

-- the bucket of the hash is the one of its next bit
pub record IsNext (new : List ℕ) (h : Header) (hash at second_at : ℕ) (bits : ℕ) (first second : Bucket) : Type 0 where
  pub low : next_bit bits hash ≡ 0 → IsBucketOf new h hash at first
  pub high : next_bit bits hash ≡ 1 → IsBucketOf new h hash second_at second

pub record AfterStep (new : View) (f : ℕ) (x : File) (h h' : Header) (top' : ℕ) (s : FreeLists) (table' loose' : List Extent) (more : ℕ) (P : List ℕ → Type 0) : Type 0 where
  pub content : Content
  pub file : File
  pub blocks : List StackBlock
  pub told : content_of new.told ≡ Some content
  pub there : content.files f ≡ Some file
  pub step : IsStep x.bytes file.bytes h h' top' s (free_lists table' blocks loose') more
  pub buckets : P file.bytes

-- where the content is told, the call did this
abbrev pub Steps : (old new : View) (f : ℕ) (h h' : Header) (top top' : ℕ) (table loose table' loose' : List Extent) (more : ℕ) (P : List ℕ → Type 0) → Type 0
Steps old new f h h' top top' table loose table' loose' more P =
    (c : Content) (x : File) (blocks : List StackBlock) → content_of old.told ≡ Some c → c.files f ≡ Some x → IsHeld x.bytes h top (free_lists table blocks loose)
    → AfterStep new f x h h' top' (free_lists table blocks loose) table' loose' more P

-- where the content was told, the bucket of each hash is the one that it was
abbrev pub KeepsBuckets : View → ℕ → Header → List ℕ → Header → Type 0
KeepsBuckets old f h file h' =
    (hash at : ℕ) (bucket : Bucket) → hash < 2 ^ 31 → (c : Content) (x : File) → content_of old.told ≡ Some c → c.files f ≡ Some x → IsBucketOf x.bytes h hash at bucket → IsBucketOf file h' hash at bucket
