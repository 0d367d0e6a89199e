-- A recut over the file of an open database.
use Rattle.std.proofs.Common.{◌≡◌, ℕ, ◌+◌, ◌-◌, ◌*◌, ◌<◌, ◌≤◌, ◌^◌, true, List, [], length, refl, sym, ap, subst, ◌∙◌, arith}
use Rattle.gd_format.specs.declared.Extent.{Extent}
use Rattle.gd_format.specs.declared.Header.{Header}
use Rattle.gd_format.specs.Bucket.{Bucket, bucket_at, is_bucket}
use Rattle.gd_format.specs.Avail.{Avail, avail_at, extents_at}
use Rattle.gd_format.specs.HeaderFault.{natural, header_of, table_room}
use Rattle.gd_format.specs.File.{front_of, entry_at, entries_of, block_of, is_count_right}
use Rattle.gd_format.specs.FreeSide.{StackBlock, IsFreeSide}
use Rattle.gd_format.specs.Sound.{IsSound, table_of, top_of, most_of}
use Rattle.gd_format.specs.Headers.{IsHeader}
use Rattle.gd_file_laws.specs.Frame.{written}
use Rattle.gd_file_laws.proofs.Headers.{header_in, slots_fit}
use Rattle.gd_map_laws.proofs.Stays.{within_ends}
use Rattle.gd_space.proofs.Fits.{bounds}
use Rattle.gd_space.specs.Calls.{free_lists}
use Rattle.gd_format.specs.Avail.{avail_size}
use Rattle.gd_file_laws.proofs.Lists.{bool_cases}
use Rattle.gd_space.specs.Sizes.{largest}
use Rattle.gd_space.specs.Effect.{Change, push_growth, recut_growth}
use Rattle.std.specs.Prelude.{nat_lt, max}
use Rattle.gd_map_laws.specs.Space.{free_of}
use Rattle.gd_map_laws.specs.Update.{IsSameShape}
use Rattle.gd_map_laws.proofs.Sounds.{sound_blocks, has_side}
use Rattle.gd_numsync.specs.Numbered.{IsKept}
use Rattle.gd_numsync.specs.Open.{AreFit, IsOpenOn}
use Rattle.gd_numsync.specs.Recut.{IsBucketAt, IsRecut}
use Rattle.gd_numsync.specs.Spells.{SpellsFront}
use Rattle.gd_numsync.proofs.Pushed.{is_open, same, lost_most}

-- what a recut does to a file with any stack
abbrev pub Recuts : (file mid : List ℕ) (h h1 : Header) (top top' : ℕ) (table bucket table' bucket' : List Extent) (lost : ℕ) → Type 0
Recuts file mid h h1 top top' table bucket table' bucket' lost =
    (blocks : List StackBlock) → IsFreeSide file h top (free_lists table blocks bucket) → (blocks' : List StackBlock) × Change file mid h h1 top top' (free_lists table blocks bucket) (free_lists table' blocks' bucket') [] [] lost

-- what was written after the recut
pub record WrittenAfter (h h1 : Header) (table' : Avail) (bucket bucket' : Bucket) (block front : List ℕ) : Type 0 where
  pub header : h1 ≡ record h { next_block = h1.next_block; avail_size = h1.avail_size }
  pub elems : length bucket.slots ≡ h.elems
  pub slots : bucket'.slots ≡ bucket.slots
  pub bits : bucket'.bits ≡ bucket.bits
  pub size : length block ≡ h.block
  pub reads : bucket_at block (length bucket'.slots) ≡ bucket'
  pub right : is_bucket block (length bucket'.slots) ≡ true
  pub number : is_count_right block (length bucket'.slots) ≡ true
  pub fit : AreFit h1 table' (length front)
  pub spells : SpellsFront h1 table' front

same_shape : (h h1 : Header) → h1 ≡ record h { next_block = h1.next_block; avail_size = h1.avail_size } → IsSameShape h h1
same_shape h h1 e = record { block = ap (λ (k : Header). k.block) e; dir = ap (λ (k : Header). k.dir) e; bits = ap (λ (k : Header). k.dir_bits) e; elems = ap (λ (k : Header). k.elems) e }

of_file : (file mid block front : List ℕ) (h1 : Header) (i : ℕ) (table' : Avail) (bucket' : Bucket) (lost : ℕ) → IsSound file → i < entries_of (header_of (front_of file))
    → Recuts file mid (header_of (front_of file)) h1 (top_of file (header_of (front_of file))) table'.next_block (extents_at (table_of file (header_of (front_of file)))) (free_of file (header_of (front_of file)) i) table'.extents bucket'.free lost
    → WrittenAfter (header_of (front_of file)) h1 table' (bucket_at (block_of file (header_of (front_of file)) i) (header_of (front_of file)).elems) bucket' block front
    → IsRecut h1 table' lost file (written (written mid (natural (entry_at file (header_of (front_of file)) i)) block) 0 front)
unfolding bucket_at
of_file file mid block front h1 i table' bucket' lost sound li recuts w =
    let h = header_of (front_of file) in
    let m = recuts (sound_blocks file sound).0 (has_side file (header_of (front_of file)) (sound_blocks file sound).0 (sound_blocks file sound).1 i li) in
    let shape = same_shape (header_of (front_of file)) h1 w.header in
    let n : length bucket'.slots ≡ (header_of (front_of file)).elems = ap length w.slots ∙ w.elems in
    let reads = subst (λ (k : ℕ). bucket_at block k ≡ bucket') n w.reads in
    let right = subst (λ (k : ℕ). is_bucket block k ≡ true) n w.right in
    let number = subst (λ (k : ℕ). is_count_right block k ≡ true) n w.number in
    record {
      is_open = is_open file mid block front h1 i table' bucket' m.0 lost sound li m.1 shape w.size w.fit.block_size reads right number w.slots w.bits w.spells w.fit;
      same = same file mid block front h1 i table' bucket' m.0 lost sound li m.1 shape w.size w.fit.block_size reads right number w.slots w.bits w.spells w.fit;
      lost = lost_most file mid block front h1 i table' bucket' m.0 lost sound li m.1 shape w.size w.fit.block_size reads right number w.slots w.bits w.spells w.fit;
    }

recuts_for : (file mid : List ℕ) (h h2 h1 : Header) (top top2 top' : ℕ) (table table2 bucket bucket2 table' bucket' : List Extent) (lost : ℕ) → h ≡ h2 → top ≡ top2 → table ≡ table2 → bucket ≡ bucket2
    → Recuts file mid h h1 top top' table bucket table' bucket' lost → Recuts file mid h2 h1 top2 top' table2 bucket2 table' bucket' lost
recuts_for file mid h h2 h1 top top2 top' table table2 bucket bucket2 table' bucket' lost a b c d r =
    subst (λ (x : Header). Recuts file mid x h1 top2 top' table2 bucket2 table' bucket' lost) a
    (subst (λ (x : ℕ). Recuts file mid h h1 x top' table2 bucket2 table' bucket' lost) b
    (subst (λ (x : List Extent). Recuts file mid h h1 top top' x bucket2 table' bucket' lost) c
    (subst (λ (x : List Extent). Recuts file mid h h1 top top' table x table' bucket' lost) d r)))

pub shrunk : (file mid block front : List ℕ) (h h1 : Header) (at : ℕ) (table table' : Avail) (bucket bucket' : Bucket) (lost : ℕ) → IsOpenOn h table file → IsBucketAt file h at bucket
    → Recuts file mid h h1 table.next_block table'.next_block table.extents bucket.free table'.extents bucket'.free lost → WrittenAfter h h1 table' bucket bucket' block front
    → IsRecut h1 table' lost file (written (written mid at block) 0 front)
unfolding avail_at bucket_at free_of
shrunk file mid block front h h1 at table table' bucket bucket' lost o b recuts w =
    let is = o.header in
    let table_was : table ≡ avail_at (table_of file (header_of (front_of file))) (most_of (header_of (front_of file))) = subst (λ (k : Header). table ≡ avail_at (table_of file k) (most_of k)) is o.table_is in
    let bucket_was : bucket ≡ bucket_at (block_of file (header_of (front_of file)) b.index) (header_of (front_of file)).elems = subst (λ (k : Header). bucket ≡ bucket_at (block_of file k b.index) k.elems) is b.bucket_is in
    let place : natural (entry_at file (header_of (front_of file)) b.index) ≡ at = sym (subst (λ (k : Header). at ≡ natural (entry_at file k b.index)) is b.place) in
    subst (λ (n : ℕ). IsRecut h1 table' lost file (written (written mid n block) 0 front)) place
    (of_file file mid block front h1 b.index table' bucket' lost o.sound (subst (λ (k : Header). b.index < entries_of k) is b.within)
    (recuts_for file mid h (header_of (front_of file)) h1 table.next_block _ table'.next_block table.extents _ bucket.free _ table'.extents bucket'.free lost is (ap (λ (a : Avail). a.next_block) table_was) (ap (λ (a : Avail). a.extents) table_was) (ap (λ (x : Bucket). x.free) bucket_was) recuts)
    (subst (λ (k : Header). WrittenAfter k h1 table' (bucket_at (block_of file (header_of (front_of file)) b.index) (header_of (front_of file)).elems) bucket' block front) is
    (subst (λ (x : Bucket). WrittenAfter h h1 table' x bucket' block front) bucket_was w)))

-- the free side that a recut asks for
pub side_of : (file : List ℕ) (h : Header) (at : ℕ) (table : Avail) (bucket : Bucket) → IsOpenOn h table file → IsBucketAt file h at bucket → (blocks : List StackBlock) × IsFreeSide file h table.next_block (free_lists table.extents blocks bucket.free)
unfolding avail_at bucket_at free_of
side_of file h at table bucket o b =
    let is = o.header in
    let table_was : table ≡ avail_at (table_of file (header_of (front_of file))) (most_of (header_of (front_of file))) = subst (λ (k : Header). table ≡ avail_at (table_of file k) (most_of k)) is o.table_is in
    let bucket_was : bucket ≡ bucket_at (block_of file (header_of (front_of file)) b.index) (header_of (front_of file)).elems = subst (λ (k : Header). bucket ≡ bucket_at (block_of file k b.index) k.elems) is b.bucket_is in
    let blocks = (sound_blocks file o.sound).0 in
    let side = has_side file (header_of (front_of file)) (sound_blocks file o.sound).0 (sound_blocks file o.sound).1 b.index (subst (λ (k : Header). b.index < entries_of k) is b.within) in (
      (sound_blocks file o.sound).0,
      subst (λ (k : Header). IsFreeSide file k table.next_block (free_lists table.extents (sound_blocks file o.sound).0 bucket.free)) (sym is)
          (subst (λ (a : Avail). IsFreeSide file (header_of (front_of file)) a.next_block (free_lists a.extents (sound_blocks file o.sound).0 bucket.free)) (sym table_was)
          (subst (λ (x : Bucket). IsFreeSide file (header_of (front_of file)) (avail_at (table_of file (header_of (front_of file))) (most_of (header_of (front_of file)))).next_block (free_lists (avail_at (table_of file (header_of (front_of file))) (most_of (header_of (front_of file)))).extents (sound_blocks file o.sound).0 x.free)) (sym bucket_was) side)),
    )

-- a bucket stands below the greatest end of a file
pub place_low : (file : List ℕ) (h : Header) (at : ℕ) (table : Avail) (bucket : Bucket) → IsOpenOn h table file → IsBucketAt file h at bucket → at ≤ 2 ^ 46
place_low file h at table bucket o b =
    let by = (sound_blocks file o.sound).1 in
    let is = o.header in
    let within = subst (λ (k : Header). b.index < entries_of k) is b.within in
    let place = subst (λ (k : Header). at ≡ natural (entry_at file k b.index)) is b.place in
    let ends = within_ends (entry_at file (header_of (front_of file)) b.index) (length file - (header_of (front_of file)).block) (by.file_is.parts.dir.in_file b.index within) in
    let short = by.file_is.short in
    let next = (header_in (front_of file) (length file) by.header).next in
    omega (arith, place, ends, short, next)

-- the slots of a bucket have their room
pub slots_room : (h : Header) (n : ℕ) → IsHeader h → n ≡ h.elems → (112 + 24 * n ≤ h.block) × (n ≤ 65536)
slots_room h n is same =
    let fits = slots_fit h.block h.elems (bounds h is).least is.elems in
    let most = (bounds h is).most in
    (omega (arith, fits, same), omega (arith, fits, same, most))

-- a header that was recut, with its table, is fit
pub fit_shrunk : (h h1 : Header) (capacity : ℕ) (table table' : Avail) (size : ℕ) → AreFit h table size → h1 ≡ record h { next_block = h1.next_block; avail_size = capacity } → h1.next_block ≤ 2 ^ 46 → 2 ≤ capacity → capacity ≤ table_room h.magic h.block → length table'.extents ≤ capacity → table'.room ≡ table.room → AreFit h1 table' size
fit_shrunk h h1 capacity table table' size fit is below least most few room =
    let wide = (bounds h fit.header).most in
    let room_most = (bounds h fit.header).room in
    subst (λ (k : Header). AreFit k table' size) (sym is)
    (record {
      header = record { block = fit.header.block; bits = fit.header.bits; dir = fit.header.dir; elems = fit.header.elems; next_block = below; least = least; most = most };
      fields = record {
        format = fit.fields.format;
        block = fit.fields.block;
        dir = fit.fields.dir;
        bits = fit.fields.bits;
        elems = fit.fields.elems;
        next_block = omega (arith, below);
        avail_size = omega (arith, most, room_most, wide);
        words = fit.fields.words;
      };
      native = fit.native;
      table_fits = few;
      table_room = room ∙ fit.table_room;
      block_size = fit.block_size;
    })

pub header_shrunk : (h h1 : Header) (capacity : ℕ) → h1 ≡ record h { next_block = h1.next_block; avail_size = capacity } → h1 ≡ record h { next_block = h1.next_block; avail_size = h1.avail_size }
header_shrunk h h1 capacity e = e ∙ ap (λ (n : ℕ). record h { next_block = h1.next_block; avail_size = n }) (sym (ap (λ (k : Header). k.avail_size) e))

push_small : (count : ℕ) (h : Header) (table bucket : List Extent) → push_growth count h table bucket ≤ h.block
push_small count h table bucket = bool_cases (nat_lt (max (largest table) (largest bucket)) (avail_size count)) (λ t. rw t (omega arith)) (λ f. rw f (omega arith))

-- a recut adds one block at most
pub growth_small : (capacity : ℕ) (h : Header) (table bucket : List Extent) → recut_growth capacity h table bucket ≤ h.block
growth_small capacity h table bucket = let p = push_small (length table - capacity) h table bucket in bool_cases (nat_lt capacity (length table)) (λ t. rw t p) (λ f. rw f (omega arith))

-- nothing was recut
pub recut_none : (file : List ℕ) (h : Header) (table : Avail) (more : ℕ) → IsOpenOn h table file → IsRecut h table more file file
recut_none file h table more o = record { is_open = o; same = refl; lost = omega arith }

-- a recut, and then another header
pub recut_then : (file mid new : List ℕ) (h h' : Header) (table table' : Avail) (more : ℕ) → IsRecut h table more file mid → IsKept h' table' mid new → IsRecut h' table' more file new
recut_then file mid new h h' table table' more r k = record { is_open = k.is_open; same = k.same ∙ r.same; lost = (let a = r.lost in let b = k.lost in omega (arith, a, b)) }
