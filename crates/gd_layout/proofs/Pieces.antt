-- Bytes that are written at a place, and the fields before it.
use Rattle.std.proofs.Common.{◌≡◌, ℕ, ◌+◌, ◌-◌, ◌^◌, ◌<◌, ◌≤◌, List, [], ◌++◌, length, take, drop, get_or, sym, ap, ◌∙◌, arith, length-drop}
use Rattle.std.proofs.lemmas.List.{take-take, drop-take, drop-drop, drop_at, drop_all, take_at, take_rest, append-nil, take-append-le, length-take-le, get_or-take, get_or-drop}
use Rattle.std.proofs.lemmas.Int.{to_z_pos}
use Rattle.std.specs.Prelude.{pos}
use Rattle.std.specs.Int.{w32, w64, cast_signed}
use Rattle.byteorder.specs.Endian.{little_bytes}
use Rattle.byteorder.specs.Numbers.{little_number-reads_back}
use borrow.Rule.Slice.PartMut.{put_mid, post_of}
use Rattle.gd_format.specs.Field.{number_of, bytes_at, u32_at, u64_at, i32_at, i64_at}
use Rattle.gd_layout.proofs.Numbers.{little_from-number_of}

pub bytes_at-own : (a k n : ℕ) (xs ys : List ℕ) → a ≤ length xs → n ≤ length ys → bytes_at (put_mid a k xs ys) a n ≡ take n ys
bytes_at-own a k n xs ys h le =
    ap (take n) (drop_at (take a xs) (ys ++ post_of a k xs) a (length-take-le a xs h)) ∙ take-append-le n ys (post_of a k xs) le

read_back : (n x : ℕ) (rest : List ℕ) → x < 256 ^ n → number_of (take n (little_bytes n x ++ rest)) ≡ x
read_back n x rest h = sym (little_from-number_of n (little_bytes n x ++ rest)) ∙ little_number-reads_back n x rest h

pub put_4 : (a k n : ℕ) (xs ys rest : List ℕ) → a ≤ length xs → 4 ≤ length ys → ys ≡ little_bytes 4 n ++ rest → n < 256 ^ 4 → u32_at (put_mid a k xs ys) a ≡ n
unfolding u32_at
put_4 a k n xs ys rest h le e lt =
    ap number_of (bytes_at-own a k 4 xs ys h le) ∙ ap (λ (zs : List ℕ). number_of (take 4 zs)) e ∙ read_back 4 n rest lt

pub put_8 : (a k n : ℕ) (xs ys rest : List ℕ) → a ≤ length xs → 8 ≤ length ys → ys ≡ little_bytes 8 n ++ rest → n < 256 ^ 8 → u64_at (put_mid a k xs ys) a ≡ n
unfolding u64_at
put_8 a k n xs ys rest h le e lt =
    ap number_of (bytes_at-own a k 8 xs ys h le) ∙ ap (λ (zs : List ℕ). number_of (take 8 zs)) e ∙ read_back 8 n rest lt

-- ---- what a shared front gives

pub take-front : (n m : ℕ) (xs ys : List ℕ) → n ≤ m → take m xs ≡ take m ys → take n xs ≡ take n ys
take-front n m xs ys le e = sym (take-take n m xs le) ∙ ap (take n) e ∙ take-take n m ys le

pub bytes_at-front : (a n m : ℕ) (xs ys : List ℕ) → a + n ≤ m → take m xs ≡ take m ys → bytes_at xs a n ≡ bytes_at ys a n
bytes_at-front a n m xs ys le e =
    sym (drop-take a n xs) ∙ ap (drop a) (take-front (a + n) m xs ys le e) ∙ drop-take a n ys

pub u32_at-front : (a m : ℕ) (xs ys : List ℕ) → a + 4 ≤ m → take m xs ≡ take m ys → u32_at xs a ≡ u32_at ys a
unfolding u32_at
u32_at-front a m xs ys le e = ap number_of (bytes_at-front a 4 m xs ys le e)

pub u64_at-front : (a m : ℕ) (xs ys : List ℕ) → a + 8 ≤ m → take m xs ≡ take m ys → u64_at xs a ≡ u64_at ys a
unfolding u64_at
u64_at-front a m xs ys le e = ap number_of (bytes_at-front a 8 m xs ys le e)

pub i32_at-front : (a m : ℕ) (xs ys : List ℕ) → a + 4 ≤ m → take m xs ≡ take m ys → i32_at xs a ≡ i32_at ys a
unfolding i32_at
i32_at-front a m xs ys le e = ap (cast_signed w32) (u32_at-front a m xs ys le e)

pub i64_at-front : (a m : ℕ) (xs ys : List ℕ) → a + 8 ≤ m → take m xs ≡ take m ys → i64_at xs a ≡ i64_at ys a
unfolding i64_at
i64_at-front a m xs ys le e = ap (cast_signed w64) (u64_at-front a m xs ys le e)

-- ---- what a shared rest gives

pub drop-more : (n m : ℕ) (xs ys : List ℕ) → n ≤ m → drop n xs ≡ drop n ys → drop m xs ≡ drop m ys
drop-more n m xs ys le e =
    let whole : n + (m - n) ≡ m = omega arith in
    ap (λ (k : ℕ). drop k xs) (sym whole) ∙ sym (drop-drop (m - n) n xs) ∙ ap (drop (m - n)) e ∙ drop-drop (m - n) n ys ∙ ap (λ (k : ℕ). drop k ys) whole

pub i64_at-back : (a m : ℕ) (xs ys : List ℕ) → m ≤ a → drop m xs ≡ drop m ys → i64_at xs a ≡ i64_at ys a
unfolding i64_at u64_at
i64_at-back a m xs ys le e = ap (λ (zs : List ℕ). cast_signed w64 (number_of (take 8 zs))) (drop-more m a xs ys le e)

-- ---- a part that is put back

-- what lies before it stays
pub put-front : (a k : ℕ) (xs ys : List ℕ) → a ≤ length xs → take a (put_mid a k xs ys) ≡ take a xs
put-front a k xs ys h = take_at (take a xs) (ys ++ post_of a k xs) a (length-take-le a xs h)

-- the part up to the end is all that lies behind
pub put_rest : (a k : ℕ) (xs ys : List ℕ) → a ≤ length xs → k ≡ length xs - a → drop a (put_mid a k xs ys) ≡ ys
put_rest a k xs ys h ek =
    let post : post_of a k xs ≡ [] = drop_all k (drop a xs) (omega (arith, length-drop a xs, ek)) in
    drop_at (take a xs) (ys ++ post_of a k xs) a (length-take-le a xs h) ∙ ap (λ (p : List ℕ). ys ++ p) post ∙ append-nil ys

-- the bytes behind those that were written
pub put-back : (a k m : ℕ) (xs ys bs : List ℕ) → a ≤ length xs → k ≡ length xs - a → length bs ≡ m → ys ≡ bs ++ drop m (take k (drop a xs)) → drop (a + m) (put_mid a k xs ys) ≡ drop (a + m) xs
put-back a k m xs ys bs h ek len e =
    let rest : take k (drop a xs) ≡ drop a xs = ap (λ (j : ℕ). take j (drop a xs)) ek ∙ take_rest xs a in
    sym (drop-drop m a (put_mid a k xs ys)) ∙ ap (drop m) (put_rest a k xs ys h ek ∙ e ∙ ap (λ (r : List ℕ). bs ++ drop m r) rest) ∙ drop_at bs (drop m (drop a xs)) m len
    ∙ drop-drop m a xs

-- what lies behind a part in the middle stays
pub mid-back : (a k m : ℕ) (xs ys : List ℕ) → a ≤ length xs → k ≡ m → length ys ≡ m → drop (a + m) (put_mid a k xs ys) ≡ drop (a + m) xs
mid-back a k m xs ys h ek len =
    sym (drop-drop m a (put_mid a k xs ys)) ∙ ap (drop m) (drop_at (take a xs) (ys ++ post_of a k xs) a (length-take-le a xs h)) ∙ drop_at ys (post_of a k xs) m len
    ∙ ap (λ (j : ℕ). drop j (drop a xs)) ek ∙ drop-drop m a xs

-- one byte of a shared front, and of a shared rest
pub byte-front : (i m : ℕ) (xs ys : List ℕ) → i < m → take m xs ≡ take m ys → get_or xs i 0 ≡ get_or ys i 0
byte-front i m xs ys lt e = sym (get_or-take m xs i 0 lt) ∙ ap (λ (zs : List ℕ). get_or zs i 0) e ∙ get_or-take m ys i 0 lt

pub byte-back : (i m : ℕ) (xs ys : List ℕ) → m ≤ i → drop m xs ≡ drop m ys → get_or xs i 0 ≡ get_or ys i 0
byte-back i m xs ys le e =
    let whole : m + (i - m) ≡ i = omega arith in
    ap (get_at xs) (sym whole) ∙ sym (get_or-drop m xs (i - m) 0) ∙ ap (λ (zs : List ℕ). get_or zs (i - m) 0) e ∙ get_or-drop m ys (i - m) 0 ∙ ap (get_at ys) whole
  where
    get_at : List ℕ → ℕ → ℕ
    get_at zs j = get_or zs j 0

-- a number from 0 on, as a field with a sign
pub i32_is : (xs : List ℕ) (at n : ℕ) → u32_at xs at ≡ n → n < 2 ^ 31 → i32_at xs at ≡ pos n
unfolding i32_at
i32_is xs at n e lt = ap (cast_signed w32) e ∙ to_z_pos w32 n lt

pub i64_is : (xs : List ℕ) (at n : ℕ) → u64_at xs at ≡ n → n < 2 ^ 63 → i64_at xs at ≡ pos n
unfolding i64_at
i64_is xs at n e lt = ap (cast_signed w64) e ∙ to_z_pos w64 n lt
