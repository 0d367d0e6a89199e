-- What a cache keeps agrees with its file after reads and writes.
use Rattle.std.proofs.Common.{◌≡◌, ◌≢◌, ◌⊎◌, inl, inr, ⊎_elim, ◌∙◌, ap, sym, subst, ℕ, ◌+◌, ◌-◌, ◌<◌, ◌≤◌, Bool, true, false, List, ◌++◌, length, take, drop, Some, Result, is_ok, eqb, arith, length-drop}
use Rattle.std.proofs.lemmas.Bool.Decides.{eqb_tells}
use Rattle.std.proofs.lemmas.List.{ext_get_or, get_or-take, get_or-drop, length-take, length-append, take_all, take-append-le}
use Rattle.std.proofs.lemmas.Grind.{common_steps}
use Rattle.gd_format.specs.Bucket.{Bucket, bucket_at, is_bucket}
use Rattle.gd_format.specs.Field.{bytes_at}
use Rattle.gd_format.specs.HeaderFault.{slots_of}
use Rattle.gd_format.proofs.Firsts.{length-list_below}
use Rattle.gd_vault.specs.Content.{File, Content}
use Rattle.gd_vault.specs.Effects.{Torn, written, DoesOrMayDo}
use Rattle.gd_vault.specs.Events.Call.{Write}
use Rattle.gd_vault.specs.Changes.{Wrote}
use Rattle.gd_vault.specs.Views.{View, Answered, HasFile, content_of}
use Rattle.gd_vault.proofs.Content.{content_step}
use Rattle.gd_vault.proofs.OneFile.{frame_told}
use Rattle.gd_vault.proofs.Torn.{written_torn}
use Rattle.gd_vault.proofs.Within.{within_wrote}
use Rattle.gd_vault.specs.Frame.{OneFile, NoName}
use Rattle.gd_cache.specs.Blocks.{IsBucketOf, SpellsBucket}
use Rattle.gd_cache.specs.Cached.{Cached, Entries, Agrees, IsAlone, KeepsOthers, held}

-- ---- bytes

-- a range that a write, also one that failed, does not meet
torn_apart : (at n a m : ℕ) (old new : List ℕ) → Torn at n old new → a + m ≤ length old → (a + m ≤ at) ⊎ (at + n ≤ a) → bytes_at new a m ≡ bytes_at old a m
torn_apart at n a m old new t fits apart =
    ext_get_or 0 (bytes_at new a m) (bytes_at old a m) (omega (arith, length-take m (drop a new), length-take m (drop a old), length-drop a new, length-drop a old, t.no_shorter))
    (λ i lt.
    let low : i < m = omega (arith, length-take m (drop a new)) in
    let outside : (a + i < at) ⊎ (at + n ≤ a + i) = ⊎_elim (λ (h : a + m ≤ at). inl (omega (arith, low, h))) (λ (h : at + n ≤ a). inr (omega (arith, h))) apart in
    get_or-take m (drop a new) i 0 low ∙ get_or-drop a new i 0 ∙ t.same (a + i) (omega (arith, low, fits)) outside ∙ sym (get_or-take m (drop a old) i 0 low ∙ get_or-drop a old i 0))

written_here : (old : List ℕ) (at : ℕ) (bs : List ℕ) → bytes_at (written old at bs) at (length bs) ≡ bs
written_here old at bs = grind (arith, common_steps)

written_fits : (old : List ℕ) (at : ℕ) (bs : List ℕ) → at + length bs ≤ length (written old at bs)
written_fits old at bs = grind (arith, common_steps)

-- ---- the file before a write

pub record Before (f at : ℕ) (bs : List ℕ) (ok : Bool) (u : View) (y : File) : Type 0 where
  pub content : Content
  pub told : content_of u.told ≡ Some content
  pub file : File
  pub is : content.files f ≡ Some file
  pub torn : Torn at (length bs) file.bytes y.bytes
  pub done : ok ≡ true → y.bytes ≡ written file.bytes at bs

by_step : (ok : Bool) (f at : ℕ) (bs : List ℕ) (u : View) (c d : Content) (x y : File) → content_of u.told ≡ Some c → c.files f ≡ Some x → d.files f ≡ Some y → DoesOrMayDo ok (Write f at bs) c d → Before f at bs ok u y
by_step true f at bs u c d x y told is here h =
    let z = h.file x is in
    let same : z.0 ≡ y = (let both : Some z.0 ≡ Some y = sym z.1 ∙ here in cc) in
    let bytes : y.bytes ≡ written x.bytes at bs = ap (λ (k : File). k.bytes) (sym same ∙ z.2) in
    record { content = c; told = told; file = x; is = is; torn = subst (Torn at (length bs) x.bytes) (sym bytes) (written_torn x.bytes at bs); done = λ _. bytes }
by_step false f at bs u c d x y told is here h =
    let z = h.file x is in
    let same : z.0 ≡ y = (let both : Some z.0 ≡ Some y = sym z.1 ∙ here in cc) in
    record { content = c; told = told; file = x; is = is; torn = subst (λ (k : File). Torn at (length bs) x.bytes k.bytes) same z.2.0; done = λ e. absurd (let no : false ≡ true = e in cc) }

pub before : {T E : Type 0} {f at size : ℕ} {bs : List ℕ} {r : Result T E} {u v : View} → Wrote (Write f at bs) size r u v → HasFile u f → (d : Content) (y : File) → content_of v.told ≡ Some d → d.files f ≡ Some y → Before f at bs (is_ok r) u y
before {f = f} {at = at} {bs = bs} {r = r} {u = u} {v = v} w has d y told here =
    let frame = within_wrote w in
    let c = frame_told (OneFile f) NoName u.told v.told d frame.told told in
    let x = has c.0 c.1 in
    let step = content_step (Write f at bs) (is_ok r) u.told v.told w.told c.0 c.1 in
    let same : step.0 ≡ d = (let both : Some step.0 ≡ Some d = sym step.1 ∙ told in cc) in
    by_step (is_ok r) f at bs u c.0 d x.0 y c.1 x.1 here (subst (DoesOrMayDo (is_ok r) (Write f at bs) c.0) same step.2)

-- ---- what is kept agrees

-- buckets that were kept agree with a file that is told as before
pub agrees_kept : (u v : View) (f : ℕ) (c d : Cached) → v.told ≡ u.told → d.block ≡ c.block → ((a : ℕ) (b : Bucket) → held d.entries a ≡ Some b → held c.entries a ≡ Some b) → Agrees u f c → Agrees v f d
agrees_kept u v f c d same block kept h content told x is at b here =
    subst (λ n. IsBucketOf x.bytes n at b) (sym block) (h content (ap content_of (sym same) ∙ told) x is at b (kept at b here))

-- and so does one that was read
pub agrees_read : (u v : View) (f at : ℕ) (b : Bucket) (c d : Cached) → v.told ≡ u.told → d.block ≡ c.block → KeepsOthers at c.entries d.entries → held d.entries at ≡ Some b
    → ((content : Content) → content_of u.told ≡ Some content → (x : File) → content.files f ≡ Some x → IsBucketOf x.bytes c.block at b) → Agrees u f c → Agrees v f d
agrees_read u v f at b c d same block others put read h content told x is a e here =
    let was = ap content_of (sym same) ∙ told in
    subst (λ n. IsBucketOf x.bytes n a e) (sym block)
    (⊎_elim
    (λ (k : (eqb a at ≡ true) × (a ≡ at)).
    let both : Some b ≡ Some e = sym put ∙ ap (held d.entries) (sym k.1) ∙ here in
    let one : b ≡ e = cc in
    subst (λ j. IsBucketOf x.bytes c.block j e) (sym k.1) (subst (IsBucketOf x.bytes c.block at) one (read content was x is)))
    (λ (k : (eqb a at ≡ false) × (a ≢ at)). h content was x is a e (others a e k.1 here))
    (eqb_tells a at))

apart_stays : (xs ys : List ℕ) (at n block a : ℕ) (b : Bucket) → Torn at n xs ys → n ≡ block → (a + block ≤ at) ⊎ (at + block ≤ a) → IsBucketOf xs block a b → IsBucketOf ys block a b
apart_stays xs ys at n block a b t size apart h =
    let apart' : (a + block ≤ at) ⊎ (at + n ≤ a) = subst (λ k. (a + block ≤ at) ⊎ (at + k ≤ a)) (sym size) apart in
    let same : bytes_at ys a block ≡ bytes_at xs a block = torn_apart at n a block xs ys t h.inside apart' in
    record {
      inside = omega (arith, h.inside, t.no_shorter);
      right = ap (λ (k : List ℕ). is_bucket k (slots_of block)) same ∙ h.right;
      is = h.is ∙ ap (λ (k : List ℕ). bucket_at k (slots_of block)) (sym same);
    }

-- the bucket that was written stands in the file
spelled_here : (xs ys : List ℕ) (at block : ℕ) (bs : List ℕ) (b : Bucket) → ys ≡ written xs at bs → SpellsBucket block b bs → IsBucketOf ys block at b
spelled_here xs ys at block bs b is s =
    let here : bytes_at ys at block ≡ bs = ap (λ (k : List ℕ). bytes_at k at block) is ∙ ap (bytes_at (written xs at bs) at) (sym s.size) ∙ written_here xs at bs in
    record {
      inside = subst (λ (k : List ℕ). at + block ≤ length k) (sym is) (subst (λ n. at + n ≤ length (written xs at bs)) s.size (written_fits xs at bs));
      right = ap (λ (k : List ℕ). is_bucket k (slots_of block)) here ∙ s.right;
      is = sym s.reads ∙ ap (λ (k : List ℕ). bucket_at k (slots_of block)) (sym here);
    }

-- after a write of its block, what is kept of an address is the bucket that was written, where the write was answered
pub agrees_wrote : {T E : Type 0} {at size : ℕ} {bs : List ℕ} {r : Result T E} (u v : View) (f : ℕ) (b : Bucket) (c d : Cached) → Wrote (Write f at bs) size r u v → HasFile u f → SpellsBucket c.block b bs → d.block ≡ c.block → IsAlone u at c → KeepsOthers at c.entries d.entries
    → ((e : Bucket) → held d.entries at ≡ Some e → (is_ok r ≡ true) × (e ≡ b)) → Agrees u f c → Agrees v f d
agrees_wrote {at = at} {bs = bs} {r = r} u v f b c d w has spells block alone others mine h content told y is a e here =
    let x = before w has content y told is in
    subst (λ n. IsBucketOf y.bytes n a e) (sym block)
    (⊎_elim
    (λ (k : (eqb a at ≡ true) × (a ≡ at)).
    let m = mine e (ap (held d.entries) (sym k.1) ∙ here) in
    subst (λ j. IsBucketOf y.bytes c.block j e) (sym k.1) (subst (IsBucketOf y.bytes c.block at) (sym m.1) (spelled_here x.file.bytes y.bytes at c.block bs b (x.done m.0) spells)))
    (λ (k : (eqb a at ≡ false) × (a ≢ at)).
    let was = others a e k.1 here in
    apart_stays x.file.bytes y.bytes at (length bs) c.block a e x.torn spells.size (alone x.content x.told a e k.1 was) (h x.content x.told x.file x.is a e was))
    (eqb_tells a at))

-- ---- a read of a block

pub slots_length : (bytes : List ℕ) (n : ℕ) (b : Bucket) → b ≡ bucket_at bytes n → length b.slots ≡ n
unfolding bucket_at
slots_length bytes n b is = rw is (length-list_below _ n)

-- a read that was answered by no fewer bytes than the buffer has
pub whole : (f at n : ℕ) (buf filled : List ℕ) (u v : View) → Answered f at buf filled n u v → 0 < length buf → length buf ≤ n → length filled ≡ length buf → (c : Content) → content_of u.told ≡ Some c → (x : File) → c.files f ≡ Some x
    → (at + length buf ≤ length x.bytes) × (filled ≡ bytes_at x.bytes at (length buf))
whole f at n buf filled u v h room long len c told x is =
    let b = h.bytes c x told is in
    let all : n ≡ length buf = omega (arith, h.small, long) in
    let some : length buf ≤ length x.bytes - at = omega (arith, b.0, all) in
    let front : take (length buf) filled ≡ take (length buf) (drop at x.bytes) = subst (λ k. take k filled ≡ take k (drop at x.bytes)) all b.1 in
    (omega (arith, some, room), sym (take_all (length buf) filled (omega (arith, len))) ∙ front)

-- ---- the buffer of a cache, of which a call was handed the whole

pub buffer_length : (n : ℕ) (xs items : List ℕ) → n ≡ length items → length xs ≡ length items → length (take n (xs ++ drop (length xs) items)) ≡ length items
buffer_length n xs items all len =
    omega (arith, length-take n (xs ++ drop (length xs) items), length-append xs (drop (length xs) items), length-drop (length xs) items, all, len)

buffer_is : (n : ℕ) (xs items : List ℕ) → n ≡ length xs → take n (xs ++ drop (length xs) items) ≡ xs
buffer_is n xs items all = take-append-le n xs (drop (length xs) items) (omega (arith, all)) ∙ take_all n xs (omega (arith, all))

pub spelled_in : (n m block : ℕ) (b : Bucket) (xs bs items : List ℕ) → bs ≡ take n (xs ++ drop (length xs) items) → n ≡ m → SpellsBucket m b xs → m ≡ block → SpellsBucket block b bs
spelled_in n m block b xs bs items is all s size =
    subst (SpellsBucket block b) (sym (is ∙ buffer_is n xs items (all ∙ sym s.size))) (subst (λ k. SpellsBucket k b xs) size s)

-- ---- the slots of the buckets

pub slots_kept : (n : ℕ) (old new : Entries) → ((a : ℕ) (b : Bucket) → held new a ≡ Some b → held old a ≡ Some b) → ((a : ℕ) (b : Bucket) → held old a ≡ Some b → length b.slots ≡ n) → (a : ℕ) (b : Bucket) → held new a ≡ Some b → length b.slots ≡ n
slots_kept n old new kept h a b is = h a b (kept a b is)

pub slots_put : (n at : ℕ) (b : Bucket) (old new : Entries) → KeepsOthers at old new → held new at ≡ Some b → length b.slots ≡ n → ((a : ℕ) (e : Bucket) → held old a ≡ Some e → length e.slots ≡ n) → (a : ℕ) (e : Bucket) → held new a ≡ Some e → length e.slots ≡ n
slots_put n at b old new others put len h a e is =
    ⊎_elim
    (λ (k : (eqb a at ≡ true) × (a ≡ at)).
    let both : Some b ≡ Some e = sym put ∙ ap (held new) (sym k.1) ∙ is in
    let one : b ≡ e = cc in
    subst (λ (x : Bucket). length x.slots ≡ n) one len)
    (λ (k : (eqb a at ≡ false) × (a ≢ at)). h a e (others a e k.1 is))
    (eqb_tells a at)
