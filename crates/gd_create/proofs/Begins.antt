-- Blocks that are written from their front on.
use Rattle.std.proofs.Common.{◌≡◌, ℕ, ◌+◌, ◌-◌, ◌*◌, ◌^◌, ◌≤◌, List, [], ◌++◌, length, take, drop, refl, sym, ap, subst, ◌∙◌, arith, add-one, length-append, length-drop, append_assoc}
use Rattle.std.proofs.lemmas.List.{take_at, drop_at, drop_all, take_rest, drop-replicate, length-replicate, append-nil, replicate-append-replicate}
use borrow.Rule.Slice.PartMut.{put_mid, post_of}
use Rattle.gd_create.specs.Begun.{Begun}
use Rattle.byteorder.specs.Endian.{little_bytes}
use Rattle.gd_base.specs.declared.errors.Format.{Format}
use Rattle.gd_base.specs.declared.errors.Format.TheVariants.{Standard, Numsync}
use Rattle.gd_format.specs.HeaderFault.{dir_size_of, slots_of, table_place, table_room}
use Rattle.gd_format.specs.declared.Header.{Header}
use Rattle.gd_create.specs.NewFile.{magic_of, new_header, words_bytes, zeros, repeated, slot_bytes, header_bytes, dir_bytes, bucket_bytes}

-- a block is begun by these bytes where they and zeros are all of it
begun_by : (front xs : List ℕ) (at n : ℕ) → length front ≡ at → at ≤ n → xs ≡ front ++ zeros (n - at) → Begun front at xs
begun_by front xs at n size le e =
    let long : length xs ≡ n = ap (λ (zs : List ℕ). length zs) e ∙ length-append front (zeros (n - at)) ∙ omega (arith, size, le, length-replicate {A = ℕ} (n - at) 0) in
    record { size = size; whole = e ∙ ap (λ (k : ℕ). front ++ zeros (k - at)) (sym long) }

pub begin : (xs : List ℕ) (n : ℕ) → xs ≡ zeros n → Begun [] 0 xs
begin xs n e = begun_by [] xs 0 n refl (omega arith) (e ∙ ap zeros (omega arith))

pub finish : (front xs : List ℕ) (at n : ℕ) → length xs ≡ n → Begun front at xs → xs ≡ front ++ zeros (n - at)
finish front xs at n long b = b.whole ∙ ap (λ (k : ℕ). front ++ zeros (k - at)) long

-- zeros that stand there already
pub skip : (front xs : List ℕ) (at k : ℕ) → at + k ≤ length xs → Begun front at xs → Begun (front ++ zeros k) (at + k) xs
skip front xs at k le b =
    let size : length (front ++ zeros k) ≡ at + k = length-append front (zeros k) ∙ omega (arith, b.size, length-replicate {A = ℕ} k 0) in
    let rest : k + (length xs - (at + k)) ≡ length xs - at = omega arith in
    let parts : zeros (length xs - at) ≡ zeros k ++ zeros (length xs - (at + k)) = ap zeros (sym rest) ∙ sym (replicate-append-replicate k (length xs - (at + k)) 0) in
    record { size = size; whole = b.whole ∙ ap (λ (zs : List ℕ). front ++ zs) parts ∙ sym (append_assoc front (zeros k) (zeros (length xs - (at + k)))) }

-- bytes that are put there
pub put_begun : (front bs xs ys : List ℕ) (at m k : ℕ) → at + m ≤ length xs → k ≡ length xs - at → length bs ≡ m → ys ≡ bs ++ drop m (take k (drop at xs)) → Begun front at xs → Begun (front ++ bs) (at + m) (put_mid at k xs ys)
put_begun front bs xs ys at m k le ek len e b =
    let n : ℕ = length xs - at in
    let behind : drop at xs ≡ zeros (length xs - at) = ap (drop at) b.whole ∙ drop_at front (zeros (length xs - at)) at b.size in
    let before : take at xs ≡ front = ap (take at) b.whole ∙ take_at front (zeros (length xs - at)) at b.size in
    let post : post_of at k xs ≡ [] = drop_all k (drop at xs) (omega (arith, length-drop at xs, ek)) in
    let taken : take k (drop at xs) ≡ zeros (length xs - at) = ap (λ (j : ℕ). take j (drop at xs)) ek ∙ take_rest xs at ∙ behind in
    let rest : length xs - at - m ≡ length xs - (at + m) = omega arith in
    let over : drop m (take k (drop at xs)) ≡ zeros (length xs - (at + m)) = ap (drop m) taken ∙ drop-replicate m (length xs - at) 0 ∙ ap zeros rest in
    let put : ys ≡ bs ++ zeros (length xs - (at + m)) = e ∙ ap (λ (zs : List ℕ). bs ++ zs) over in
    let size : length (front ++ bs) ≡ at + m = length-append front bs ∙ omega (arith, b.size, len) in
    let whole : put_mid at k xs ys ≡ (front ++ bs) ++ zeros (length xs - (at + m)) =
    ap (λ (zs : List ℕ). zs ++ (ys ++ post_of at k xs)) before ∙ ap (λ (zs : List ℕ). front ++ (ys ++ zs)) post ∙ ap (λ (zs : List ℕ). front ++ zs) (append-nil ys)
    ∙ ap (λ (zs : List ℕ). front ++ zs) put ∙ sym (append_assoc front bs (zeros (length xs - (at + m)))) in
    begun_by (front ++ bs) (put_mid at k xs ys) (at + m) (length xs) size le whole

-- one more of bytes that are repeated
pub begun_more : (front bs xs : List ℕ) (i at at' : ℕ) → at ≡ at' → Begun (front ++ repeated i bs ++ bs) at xs → Begun (front ++ repeated (i + 1) bs) at' xs
begun_more front bs xs i at at' e b =
    let same : front ++ repeated i bs ++ bs ≡ front ++ repeated (i + 1) bs = append_assoc front (repeated i bs) bs ∙ ap (λ (j : ℕ). front ++ repeated j bs) (sym (add-one i)) in
    record { size = ap (λ (zs : List ℕ). length zs) (sym same) ∙ b.size ∙ e; whole = b.whole ∙ ap (λ (zs : List ℕ). zs ++ zeros (length xs - at)) same ∙ ap (λ (j : ℕ). front ++ repeated (i + 1) bs ++ zeros (length xs - j)) e }

pub begun_none : (front bs xs : List ℕ) (at : ℕ) → Begun front at xs → Begun (front ++ repeated 0 bs) at xs
begun_none front bs xs at b = rw (append-nil front) b

-- one more empty slot, of which the hash was put
pub slot_more : (front xs : List ℕ) (s : ℕ) → 112 + 24 * (s + 1) ≤ length xs → Begun (front ++ repeated s slot_bytes ++ little_bytes 4 0xffffffff) (112 + 24 * s + 4) xs → Begun (front ++ repeated (s + 1) slot_bytes) (112 + 24 * (s + 1)) xs
slot_more front xs s le b =
    let over = skip (front ++ repeated s slot_bytes ++ little_bytes 4 0xffffffff) xs (112 + 24 * s + 4) 20 (omega arith) b in
    let same : front ++ repeated s slot_bytes ++ little_bytes 4 0xffffffff ++ zeros 20 ≡ front ++ repeated s slot_bytes ++ slot_bytes = append_assoc (front ++ repeated s slot_bytes) (little_bytes 4 0xffffffff) (zeros 20) in
    begun_more front slot_bytes xs s (112 + 24 * s + 4 + 20) (112 + 24 * (s + 1)) (omega arith) (subst (λ (zs : List ℕ). Begun zs (112 + 24 * s + 4 + 20) xs) same over)

-- one more entry of a directory
pub entry_more : (bs xs : List ℕ) (i : ℕ) → Begun (repeated i bs ++ bs) (8 * i + 8) xs → Begun (repeated (i + 1) bs) (8 * (i + 1)) xs
entry_more bs xs i b = begun_more [] bs xs i (8 * i + 8) (8 * (i + 1)) (omega arith) b

-- the words of a header lie between its fields and its table
pub words_begun : (format : Format) (front xs : List ℕ) → 72 ≤ length xs → Begun front 40 xs → Begun (front ++ words_bytes format) (table_place (magic_of format)) xs
words_begun Standard front xs le b = rw (append-nil front) b
words_begun Numsync front xs le b = skip front xs 40 32 le b

-- all of a block was put
pub finish_all : (front xs : List ℕ) (n : ℕ) → length xs ≡ n → Begun front n xs → xs ≡ front
finish_all front xs n long b = let none : n - n ≡ 0 = omega arith in finish front xs n n long b ∙ ap (λ (k : ℕ). front ++ zeros k) none ∙ append-nil front

-- ---- whole blocks

pub header_whole : (format : Format) (block bits m d s e n a p : ℕ) (new : List ℕ) → m ≡ magic_of format → d ≡ block → s ≡ dir_size_of bits → e ≡ slots_of block → n ≡ 4 * block → a ≡ table_room (magic_of format) block → p ≡ table_place (magic_of format) → length new ≡ block
    → Begun (little_bytes 4 m ++ little_bytes 4 block ++ little_bytes 8 d ++ little_bytes 4 s ++ little_bytes 4 bits ++ little_bytes 4 block ++ little_bytes 4 e ++ little_bytes 8 n ++ words_bytes format ++ little_bytes 4 a) (p + 4) new
    → new ≡ header_bytes format block bits
unfolding header_bytes
header_whole format block bits m d s e n a p new em ed es ee en ea ep long b = finish _ new (p + 4) block long b ∙ rw (em, ed, es, ee, en, ea, ep) refl

pub dir_whole : (block bits : ℕ) (new : List ℕ) → block ≡ 8 * 2 ^ bits → length new ≡ block → Begun (repeated (2 ^ bits) (little_bytes 8 (2 * block))) (8 * 2 ^ bits) new → new ≡ dir_bytes block bits
unfolding dir_bytes
dir_whole block bits new e long b = finish_all (repeated (2 ^ bits) (little_bytes 8 (2 * block))) new (8 * 2 ^ bits) (long ∙ e) b

-- the head of a bucket, by what was put
pub head_begun : (block d : ℕ) (b1 b2 b3 b4 b5 : List ℕ) → d ≡ 3 * block → 112 ≤ length b1 → 112 ≤ length b2 → 112 ≤ length b3
    → Begun (little_bytes 4 1) 4 b1
    → ((front : List ℕ) → Begun front 8 b1 → Begun (front ++ little_bytes 4 block) 12 b2)
    → ((front : List ℕ) → Begun front 16 b2 → Begun (front ++ little_bytes 8 d) 24 b3)
    → ((front : List ℕ) → Begun front 104 b3 → Begun (front ++ little_bytes 4 0) 108 b4)
    → ((front : List ℕ) → Begun front 108 b4 → Begun (front ++ little_bytes 4 0) 112 b5)
    → Begun (little_bytes 4 1 ++ zeros 4 ++ little_bytes 4 block ++ zeros 4 ++ little_bytes 8 (3 * block) ++ zeros 80 ++ little_bytes 4 0 ++ little_bytes 4 0) 112 b5
head_begun block d b1 b2 b3 b4 b5 e l1 l2 l3 one two three four five =
    rw (← e)
    (five _ (four _ (skip _ b3 24 80 (omega arith) (three _ (skip _ b2 12 4 (omega arith) (two _ (skip (little_bytes 4 1) b1 4 4 (omega arith) one)))))))

pub bucket_whole : (block n : ℕ) (new : List ℕ) → n ≡ slots_of block → length new ≡ block
    → Begun (little_bytes 4 1 ++ zeros 4 ++ little_bytes 4 block ++ zeros 4 ++ little_bytes 8 (3 * block) ++ zeros 80 ++ little_bytes 4 0 ++ little_bytes 4 0 ++ repeated n slot_bytes) (112 + 24 * n) new
    → new ≡ bucket_bytes block
unfolding bucket_bytes
bucket_whole block n new e long b = finish _ new (112 + 24 * n) block long b ∙ rw e refl

-- ---- the fields of a new header

pub record HasFields (h : Header) : Type 0 where
  pub magic : h.magic ≡ magic_of h.format
  pub dir : h.dir ≡ h.block
  pub elems : h.elems ≡ slots_of h.block
  pub next : h.next_block ≡ 4 * h.block
  pub table : h.avail_size ≡ table_room (magic_of h.format) h.block

pub has_fields : (h : Header) → h ≡ new_header h.format h.block h.dir_bits → HasFields h
unfolding new_header
has_fields h e =
    record { magic = ap (λ (r : Header). r.magic) e; dir = ap (λ (r : Header). r.dir) e; elems = ap (λ (r : Header). r.elems) e; next = ap (λ (r : Header). r.next_block) e; table = ap (λ (r : Header). r.avail_size) e }
