-- A put and a removal over a sound file.
use Rattle.std.proofs.Common.{◌≡◌, ℕ, ◌+◌, ◌≤◌, ◌^◌, true, List, [], ◌∷◌, ◌++◌, length, take, refl, sym, ap, subst, ◌∙◌, arith, length-append}
use Rattle.std.specs.FinMap.{insert, remove}
use Rattle.std.specs.Str.{bytes_eq}
use Rattle.std.proofs.lemmas.Bool.Decides.{nat_tests}
use Rattle.gd_format.specs.declared.Header.{Header}
use Rattle.gd_format.specs.declared.Slot.{Slot}
use Rattle.gd_format.specs.declared.Slot.TheVariants.{Empty}
use Rattle.gd_format.specs.Avail.{Avail}
use Rattle.gd_format.specs.Bucket.{Bucket}
use Rattle.gd_format.specs.Covers.{cover, has_byte}
use Rattle.gd_format.specs.File.{front_of, records}
use Rattle.gd_format.specs.Field.{bytes_at}
use Rattle.gd_format.specs.FreeSide.{FreeLists, StackBlock, IsFreeSide}
use Rattle.gd_format.specs.Hash.{hash_of}
use Rattle.gd_format.specs.HeaderFault.{header_of}
use Rattle.gd_format.specs.Slots.{SameSlots}
use Rattle.gd_format.specs.Sound.{extent}
use Rattle.gd_map_laws.specs.Change.{slot_made, RecordMade}
use Rattle.gd_map_laws.specs.Maps.{pair_map}
use Rattle.gd_map_laws.specs.Space.{one_if}
use Rattle.gd_map_laws.proofs.Whole.{store_sound, delete_sound}
use Rattle.gd_space.specs.Calls.{free_lists}
use Rattle.gd_update.specs.Open.{IsOpen, IsHere}
use Rattle.gd_update.specs.Writes.{RecordPut, GivenBack, BlocksPut}
use Rattle.gd_update.specs.KeepSound.{HasBlocks, BucketChanges, IsNext, OnlyGrew}
use Rattle.gd_update.proofs.Whole.{IsWhole, change_written, pair_new, open_new, here_new, entries_stay, others_stay, lost_new}

pub put_sound : (old mid back new : List ℕ) (h h1 h' : Header) (table table' : Avail) (top1 : ℕ) (s1 : FreeLists) (blocks blocks' : List StackBlock) (at : ℕ) (bucket bucket' : Bucket) (gone : Slot) (key value start : List ℕ) (place : ℕ)
    → IsOpen old h table → IsHere old h at bucket key → HasBlocks old h table blocks bucket → OnlyGrew h h'
    → RecordPut old mid h h1 table.next_block top1 (free_lists table.extents blocks bucket.free) s1 place (key ++ value) 32
    → GivenBack mid back h1 h' top1 table'.next_block s1 (free_lists table'.extents blocks' bucket'.free) gone
    → BlocksPut back new h' table' at bucket' → table'.room ≡ table.room
    → BucketChanges old h key bucket bucket' gone (slot_made key value (hash_of key) start place)
    → bytes_eq (take 4 key) (take (length (take 4 key)) start) ≡ true → length key + length value ≤ 2 ^ 30
    → IsNext old new h' table' at bucket' key (insert (pair_map (records old)) key value) 64
put_sound old mid back new h h1 h' table table' top1 s1 blocks blocks' at bucket bucket' gone key value start place open_ here has grew put given last room changes start_is size =
    let come : List Slot = slot_made key value (hash_of key) start place ∷ [] in
    let rest = changes.made.rest in
    let len = length-append key value in
    let w : IsWhole old mid back new h h1 h' table table' top1 s1 blocks blocks' at bucket bucket' gone (slot_made key value (hash_of key) start place ∷ []) rest key place (key ++ value) 32 = record {
      sound = open_.sound;
      table_is = open_.table_is;
      here = here;
      has = has;
      grew = grew;
      put = put;
      given = given;
      last = last;
      bits = changes.bits;
      before_is = changes.made.before_is;
      after_is = changes.made.after_is;
      reached = changes.reached;
      gone_is = changes.gone_is;
      come_has = λ b. (let e = ap (λ (k : ℕ). one_if (has_byte (extent place k) b)) len in omega (arith, e));
      come_size = omega (arith, len);
    } in
    let v = subst (λ (k : Header). IsWhole old mid back new k h1 h' table table' top1 s1 blocks blocks' at bucket bucket' gone (slot_made key value (hash_of key) start place ∷ []) rest key place (key ++ value) 32) open_.header_is w in
    let written = change_written old mid back new h1 h' table table' top1 s1 blocks blocks' at bucket bucket' gone come rest key place (key ++ value) 32 v in
    let record_made : RecordMade new key value (hash_of key) start place = record {
      hash_is = refl;
      start_is = start_is;
      size = size;
      reads = ap (bytes_at new place) (sym len) ∙ pair_new old mid back new h1 h' table table' top1 s1 blocks blocks' at bucket bucket' gone come rest key place (key ++ value) 32 v;
    } in
    let done = store_sound old new key value blocks' (gone ∷ []) rest (hash_of key) start place open_.sound written record_made in
    record {
      still_open = open_new old mid back new h1 h' table table' top1 s1 blocks blocks' at bucket bucket' gone come rest key place (key ++ value) 32 v room done.0;
      here = here_new old mid back new h1 h' table table' top1 s1 blocks blocks' at bucket bucket' gone come rest key place (key ++ value) 32 v;
      entries = entries_stay old mid back new h1 h' table table' top1 s1 blocks blocks' at bucket bucket' gone come rest key place (key ++ value) 32 v;
      others = others_stay old mid back new h1 h' table table' top1 s1 blocks blocks' at bucket bucket' gone come rest key place (key ++ value) 32 v;
      map_is = done.1;
      lost = lost_new old mid back new h1 h' table table' top1 s1 blocks blocks' at bucket bucket' gone come rest key place (key ++ value) 32 v done.0;
    }

-- nothing is put
pub no_record : (old : List ℕ) (h : Header) (top : ℕ) (s : FreeLists) → IsFreeSide old h top s → RecordPut old old h h top top s s 0 [] 0
no_record old h top s side = record {
  side = side;
  keeps = record { longer = omega arith; bytes = λ at n fits clear. refl };
  moves = record { grows = omega arith; bytes = λ b. (let z = none_at b in omega (arith, z)); least = omega arith; most = omega arith };
  reads = refl;
}
  where
    none_at : (b : ℕ) → cover (extent 0 0 ∷ []) b ≡ 0
    none_at b = grind (arith, nat_tests)

same_less : (xs rest : List Slot) → SameSlots xs (Empty ∷ rest) → SameSlots xs rest
same_less xs rest same p none = let e = same p none in let z : one_if (p Empty) ≡ 0 = rw none refl in omega (arith, e, z)

pub remove_sound : (old back new : List ℕ) (h h' : Header) (table table' : Avail) (blocks blocks' : List StackBlock) (at : ℕ) (bucket bucket' : Bucket) (gone : Slot) (key : List ℕ)
    → IsOpen old h table → IsHere old h at bucket key → HasBlocks old h table blocks bucket → OnlyGrew h h'
    → GivenBack old back h h' table.next_block table'.next_block (free_lists table.extents blocks bucket.free) (free_lists table'.extents blocks' bucket'.free) gone
    → BlocksPut back new h' table' at bucket' → table'.room ≡ table.room
    → BucketChanges old h key bucket bucket' gone Empty
    → IsNext old new h' table' at bucket' key (remove (pair_map (records old)) key) 32
remove_sound old back new h h' table table' blocks blocks' at bucket bucket' gone key open_ here has grew given last room changes =
    let rest = changes.made.rest in
    let s0 : FreeLists = free_lists table.extents blocks bucket.free in
    let none_at : (b : ℕ) → 0 ≡ cover (extent 0 0 ∷ []) b = λ b. grind (arith, nat_tests) in
    let w : IsWhole old old back new h h h' table table' table.next_block (free_lists table.extents blocks bucket.free) blocks blocks' at bucket bucket' gone [] rest key 0 [] 0 = record {
      sound = open_.sound;
      table_is = open_.table_is;
      here = here;
      has = has;
      grew = grew;
      put = no_record old h table.next_block (free_lists table.extents blocks bucket.free) has.side;
      given = given;
      last = last;
      bits = changes.bits;
      before_is = changes.made.before_is;
      after_is = same_less bucket'.slots rest changes.made.after_is;
      reached = changes.reached;
      gone_is = changes.gone_is;
      come_has = none_at;
      come_size = refl;
    } in
    let v = subst (λ (k : Header). IsWhole old old back new k k h' table table' table.next_block (free_lists table.extents blocks bucket.free) blocks blocks' at bucket bucket' gone [] rest key 0 [] 0) open_.header_is w in
    let old_h : Header = header_of (front_of old) in
    let written = change_written old old back new old_h h' table table' table.next_block s0 blocks blocks' at bucket bucket' gone [] rest key 0 [] 0 v in
    let done = delete_sound old new key blocks' (gone ∷ []) rest open_.sound written in
    record {
      still_open = open_new old old back new old_h h' table table' table.next_block s0 blocks blocks' at bucket bucket' gone [] rest key 0 [] 0 v room done.0;
      here = here_new old old back new old_h h' table table' table.next_block s0 blocks blocks' at bucket bucket' gone [] rest key 0 [] 0 v;
      entries = entries_stay old old back new old_h h' table table' table.next_block s0 blocks blocks' at bucket bucket' gone [] rest key 0 [] 0 v;
      others = others_stay old old back new old_h h' table table' table.next_block s0 blocks blocks' at bucket bucket' gone [] rest key 0 [] 0 v;
      map_is = done.1;
      lost = lost_new old old back new old_h h' table table' table.next_block s0 blocks blocks' at bucket bucket' gone [] rest key 0 [] 0 v done.0;
    }
