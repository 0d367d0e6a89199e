-- How far a chain of splits has come.
use Rattle.std.proofs.Common.{◌≡◌, ℕ, ◌+◌, ◌-◌, ◌*◌, ◌^◌, ◌<◌, ◌≤◌, max, List, [], length, Some, None, refl, sym, ap, subst, ◌∙◌, arith}
use Rattle.std.proofs.lemmas.Nat.{mul-le}
use Rattle.std.proofs.Math.Nat.{pow-le-pow_right}
use Rattle.gd_format.specs.declared.Header.{Header}
use Rattle.gd_format.specs.Bucket.{Bucket}
use Rattle.gd_format.specs.Headers.{IsHeader}
use Rattle.gd_format.specs.HeaderFault.{dir_size_of}
use Rattle.gd_format.specs.Slots.{count}
use Rattle.gd_map_laws.specs.Overflow.{is_close}
use Rattle.gd_space.specs.Effect.{WritesAtMost, TellsNone}
use Rattle.gd_open.specs.Open.{OpenParts, IsFit}
use Rattle.gd_open.proofs.Files.{writes_for}
use Rattle.gd_space.proofs.Dones.{tells_none}
use Rattle.gd_space.proofs.Fits.{bounds}
use Rattle.gd_vault.specs.Content.{File, Content}
use Rattle.gd_vault.specs.Views.{View, HasFile, IsAt, content_of}
use Rattle.gd_vault.specs.Streams.{OnlyWrites}
use Rattle.gd_vault.proofs.Writes.{writes_refl, writes_trans}
use Rattle.gd_update.specs.Held.{Holds, IsBucketOf, HasBucket}
use Rattle.gd_update.specs.Steps.{Steps}
use Rattle.gd_open.specs.Files.{FileBecomes}
use Rattle.gd_update.specs.Open.{IsOpen}
use Rattle.gd_update.proofs.Files.{told_first}
use Rattle.gd_update.specs.Growth.{IsGrown, IsWider, IsDivided, DivisionWrites, run_size}
use Rattle.gd_update.proofs.Growth.{growth_begins, growth_goes_on}
use Rattle.gd_update.proofs.Heads.{wider_trans}

-- the state of a chain: the vault, header, space and bucket at its start and now
pub record IsOnWay (u v : View) (p q : OpenParts) (hash at : ℕ) (b b' one two : Bucket) : Type 0 where
  pub there : HasFile v q.id
  pub fit : IsFit q
  pub id : q.id ≡ p.id
  pub head : IsWider p.header q.header
  pub elems : length b'.slots ≡ p.header.elems
  pub first : length one.slots ≡ p.header.elems
  pub second : length two.slots ≡ p.header.elems
  pub few : count (is_close hash) b'.slots < p.header.elems
  pub frame : OnlyWrites p.id u v
  pub least : b.bits ≤ b'.bits
  pub most : b'.bits ≤ max 24 b.bits
  pub growth : q.header.next_block + 2 * dir_size_of p.header.dir_bits ≤ p.header.next_block + 6 * (p.header.block * (b'.bits - b.bits)) + 2 * dir_size_of q.header.dir_bits
  pub wrote : v.bytes_written + run_size q.header b'.bits + 2 * dir_size_of p.header.dir_bits ≤ u.bytes_written + run_size p.header b.bits + 4 * (p.header.block * (b'.bits - b.bits)) + 2 * dir_size_of q.header.dir_bits
  pub clones : v.clones ≡ u.clones
  pub faults : v.faults ≡ u.faults
  pub grown : FileBecomes u v p.id (λ xs ys. IsGrown xs ys q.header q.table hash at b')

-- where it begins
pub way_begins :
    (v : View) (p : OpenParts) (hash at : ℕ) (b one two : Bucket) → HasFile v p.id → IsFit p
    → length b.slots ≡ p.header.elems → length one.slots ≡ p.header.elems → length two.slots ≡ p.header.elems → count (is_close hash) b.slots < p.header.elems
    → IsAt v (λ c. (x : File) → c.files p.id ≡ Some x → IsOpen x.bytes p.header p.table) → HasBucket v p.id p.header hash at b → IsOnWay v v p p hash at b b one two
way_begins v p hash at b one two has fit elems first second few opened here = record {
  there = has;
  fit = fit;
  id = refl;
  head = refl;
  elems = elems;
  first = first;
  second = second;
  few = few;
  frame = writes_refl v;
  least = omega arith;
  most = omega arith;
  growth = omega arith;
  wrote = omega arith;
  clones = refl;
  faults = refl;
  grown = λ c x told there. record { content = c; file = x; told = told; there = there; holds = growth_begins x.bytes p.header p.table hash at b (opened c told x there) (here c x told there) };
}

times_more : (b j k : ℕ) → j ≡ k + 1 → b * j ≡ b * k + b
times_more b j k e = rw e (grind arith)

-- where one round more brings it
pub record IsRound (v w : View) (p q : OpenParts) (hash at : ℕ) (b b' one two : Bucket) : Type 0 where
  pub there : HasFile w q.id
  pub fit : IsFit q
  pub id : q.id ≡ p.id
  pub divided : IsDivided p.header q.header
  pub elems : length b'.slots ≡ p.header.elems
  pub first : length one.slots ≡ p.header.elems
  pub second : length two.slots ≡ p.header.elems
  pub few : count (is_close hash) b'.slots < p.header.elems
  pub frame : OnlyWrites p.id v w
  pub one_more : b'.bits ≡ b.bits + 1
  pub most : b'.bits ≤ 24
  pub writes : DivisionWrites p.header q.header b.bits v w
  pub faults : w.faults ≡ v.faults
  pub steps : Steps v w p.id p.header q.header p.table.next_block q.table.next_block p.table.extents [] q.table.extents [] 96 (λ file. IsBucketOf file q.header hash at b')

-- ---- what a round may count on

module _ (u v : View) (p q : OpenParts) (hash at : ℕ) (b b' one two : Bucket) (way : IsOnWay u v p q hash at b b' one two) where
  pub block_same : q.header.block ≡ p.header.block
  block_same = ap (λ (k : Header). k.block) way.head

  pub elems_same : q.header.elems ≡ p.header.elems
  elems_same = ap (λ (k : Header). k.elems) way.head

  pub avail_same : q.header.avail_size ≡ p.header.avail_size
  avail_same = ap (λ (k : Header). k.avail_size) way.head

  -- as many blocks as 24 rounds take
  pub rounds_most : p.header.block * (b'.bits - b.bits) ≤ 24 * p.header.block
  rounds_most =
      let least = way.least in
      let most = way.most in
      let e = mul-le p.header.block (b'.bits - b.bits) p.header.block 24 (omega arith) (omega (arith, least, most)) in
      omega (arith, e)

  block_small : p.header.block ≤ 1048576
  block_small = let m = (bounds q.header way.fit.header).most in let e = block_same in omega (arith, m, e)

  dir_small : dir_size_of q.header.dir_bits ≤ 2 ^ 27
  dir_small = let pw : 2 ^ q.header.dir_bits ≤ 2 ^ 24 = pow-le-pow_right {n = 2} (omega arith) {i = q.header.dir_bits} {j = 24} way.fit.header.bits in omega (arith, pw)

  pub growth_most : q.header.next_block + 2 * dir_size_of p.header.dir_bits ≤ p.header.next_block + 144 * p.header.block + 2 * dir_size_of q.header.dir_bits
  growth_most = let g = way.growth in let r = rounds_most in omega (arith, g, r)

  pub has_room : p.header.next_block + 2 ^ 29 ≤ 2 ^ 46 → q.header.next_block + 6 * q.header.block ≤ 2 ^ 46
  has_room room = let g = growth_most in let e = block_same in let m = block_small in let d = dir_small in omega (arith, room, g, e, m, d)

  pub has_wide : p.header.next_block + 2 ^ 29 ≤ 2 ^ 46 → q.header.dir_bits < 24 → q.header.next_block + 2 * dir_size_of q.header.dir_bits + 6 * q.header.block ≤ 2 ^ 46
  has_wide room less =
      let g = growth_most in
      let e = block_same in
      let m = block_small in
      let pw : 2 ^ q.header.dir_bits ≤ 2 ^ 23 = pow-le-pow_right {n = 2} (omega arith) {i = q.header.dir_bits} {j = 23} (omega (arith, less)) in
      omega (arith, room, g, e, m, pw)

  -- the file now
  now : HasFile u p.id → (d : Content) (y : File) → content_of v.told ≡ Some d → d.files p.id ≡ Some y → (old : List ℕ) × IsGrown old y.bytes q.header q.table hash at b'
  now has d y told there =
      let old = told_first u v d way.frame.within told in
      let x = has old.0 old.1 in
      let t = way.grown old.0 x.0 old.1 x.1 in
      let same : t.content ≡ d = (let e = sym t.told ∙ told in cc (e)) in
      let is : t.file ≡ y = (let e = sym t.there ∙ ap (λ (k : Content). k.files p.id) same ∙ there in cc (e)) in
      (x.0.bytes, subst (λ (k : File). IsGrown x.0.bytes k.bytes q.header q.table hash at b') is t.holds)

  -- by the id that it has now
  here : (d : Content) (y : File) → d.files q.id ≡ Some y → d.files p.id ≡ Some y
  here d y there = ap (λ (k : ℕ). d.files k) (sym way.id) ∙ there

  pub holds_now : HasFile u p.id → Holds v q.id q.header q.table.next_block q.table.extents []
  holds_now has d y told there = let g = now has d y told (here d y there) in (g.1.blocks, g.1.held)

  pub bucket_now : HasFile u p.id → HasBucket v q.id q.header hash at b'
  bucket_now has d y told there = let g = now has d y told (here d y there) in g.1.here

  -- a vault that tells nothing now told nothing at the start
  pub told_none : HasFile u p.id → TellsNone v → TellsNone u
  told_none has none =
      tells_none u
      (λ c told.
      let x = has c told in
      let t = way.grown c x.0 told x.1 in
      let e = sym none ∙ t.told in
      absurd (let no : None ≡ Some t.content = e in cc (no)))

  -- what is written at most, where one more call writes so much
  pub wrote_most : (w : View) (more : ℕ) → WritesAtMost more v w → WritesAtMost (96 * p.header.block + 2 * dir_size_of q.header.dir_bits + more) u w
  wrote_most w more writes =
      let a = way.wrote in
      let r = rounds_most in
      let pq : 2 ^ (p.header.dir_bits - b.bits) ≤ 2 ^ p.header.dir_bits = pow-le-pow_right {n = 2} (omega arith) {i = p.header.dir_bits - b.bits} {j = p.header.dir_bits} (omega arith) in
      let m = writes.bytes in
      record { bytes = omega (arith, a, r, pq, m); clones = writes.clones ∙ way.clones }

  -- and where one more round fails
  pub wrote_failing : (w : View) → WritesAtMost (4 * q.header.block + 2 * dir_size_of q.header.dir_bits + run_size q.header b'.bits) v w → WritesAtMost (100 * p.header.block + 4 * dir_size_of q.header.dir_bits) u w
  wrote_failing w writes =
      let a = way.wrote in
      let r = rounds_most in
      let pq : 2 ^ (p.header.dir_bits - b.bits) ≤ 2 ^ p.header.dir_bits = pow-le-pow_right {n = 2} (omega arith) {i = p.header.dir_bits - b.bits} {j = p.header.dir_bits} (omega arith) in
      let m = writes.bytes in
      let e = block_same in
      record { bytes = omega (arith, a, r, pq, m, e); clones = writes.clones ∙ way.clones }

-- ---- one round more

pub way_goes_on :
    (u v w : View) (p p1 p2 : OpenParts) (hash at at' : ℕ) (b b1 b2 one two one' two' : Bucket)
    → IsOnWay u v p p1 hash at b b1 one two → IsRound v w p1 p2 hash at' b1 b2 one' two' → IsOnWay u w p p2 hash at' b b2 one' two'
way_goes_on u v w p p1 p2 hash at at' b b1 b2 one two one' two' way round =
    let block = block_same u v p p1 hash at b b1 one two way in
    let elems = elems_same u v p p1 hash at b b1 one two way in
    let least = way.least in
    let more = round.one_more in
    let most = round.most in
    let times = times_more p.header.block (b2.bits - b.bits) (b1.bits - b.bits) (omega (arith, least, more)) in
    let growth = way.growth in
    let grows = round.divided.growth in
    let wrote = way.wrote in
    let writes = round.writes.bytes in
    let run : run_size p2.header b2.bits ≡ run_size p2.header (b1.bits + 1) = ap (λ (n : ℕ). run_size p2.header n) more in
    record {
      there = round.there;
      fit = round.fit;
      id = round.id ∙ way.id;
      head = wider_trans p.header p1.header p2.header way.head round.divided.head;
      elems = round.elems ∙ elems;
      first = round.first ∙ elems;
      second = round.second ∙ elems;
      few = rw (← elems) round.few;
      frame = writes_trans way.frame (writes_for way.id round.frame);
      least = omega (arith, least, more);
      most = omega (arith, most);
      growth = omega (arith, growth, grows, block, times);
      wrote = omega (arith, wrote, writes, block, times, run);
      clones = round.writes.clones ∙ way.clones;
      faults = round.faults ∙ way.faults;
      grown = λ c x told there.
          let t = way.grown c x told there in
          let g = t.holds in
          let here : t.content.files p1.id ≡ Some t.file = ap (λ (k : ℕ). t.content.files k) way.id ∙ t.there in
          let a = round.steps t.content t.file g.blocks t.told here g.held in
          let there' : a.content.files p.id ≡ Some a.file = ap (λ (k : ℕ). a.content.files k) (sym way.id) ∙ a.there in
          record {
            content = a.content;
            file = a.file;
            told = a.told;
            there = there';
            holds = growth_goes_on x.bytes t.file.bytes a.file.bytes p1.header p2.header p1.table p2.table hash at at' b1 b2 a.blocks g a.step a.buckets round.one_more;
          };
    }
