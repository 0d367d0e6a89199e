-- The fields that both formats have, put one after another into the block of a header.
use Rattle.std.proofs.Common.{◌≡◌, ℕ, ◌^◌, ◌<◌, List, take, drop, refl, ◌∙◌, arith}
use Rattle.std.specs.Prelude.{pos}
use Rattle.gd_format.specs.Field.{u32_at, u64_at}
use Rattle.gd_format.specs.HeaderFault.{header_at}
use Rattle.gd_layout.proofs.Pieces.{u32_at-front, u64_at-front, take-front, drop-more, i32_is, i64_is}

module _ (b0 b1 b2 b3 b4 b5 b6 b7 b8 : List ℕ) (v1 : ℕ) (r1 : u32_at b1 0 ≡ v1) (f1 : take 0 b1 ≡ take 0 b0) (e1 : drop 4 b1 ≡ drop 4 b0) (v2 : ℕ) (r2 : u32_at b2 4 ≡ v2) (f2 : take 4 b2 ≡ take 4 b1) (e2 : drop 8 b2 ≡ drop 8 b1) (v3 : ℕ) (r3 : u64_at b3 8 ≡ v3) (f3 : take 8 b3 ≡ take 8 b2) (e3 : drop 16 b3 ≡ drop 16 b2) (v4 : ℕ) (r4 : u32_at b4 16 ≡ v4) (f4 : take 16 b4 ≡ take 16 b3) (e4 : drop 20 b4 ≡ drop 20 b3) (v5 : ℕ) (r5 : u32_at b5 20 ≡ v5) (f5 : take 20 b5 ≡ take 20 b4) (e5 : drop 24 b5 ≡ drop 24 b4) (v6 : ℕ) (r6 : u32_at b6 24 ≡ v6) (f6 : take 24 b6 ≡ take 24 b5) (e6 : drop 28 b6 ≡ drop 28 b5) (v7 : ℕ) (r7 : u32_at b7 28 ≡ v7) (f7 : take 28 b7 ≡ take 28 b6) (e7 : drop 32 b7 ≡ drop 32 b6) (v8 : ℕ) (r8 : u64_at b8 32 ≡ v8) (f8 : take 32 b8 ≡ take 32 b7) (e8 : drop 40 b8 ≡ drop 40 b7) where
  front_8 : take 32 b8 ≡ take 32 b7
  front_8 = f8

  front_7 : take 28 b8 ≡ take 28 b6
  front_7 = take-front 28 32 b8 b7 (omega arith) front_8 ∙ f7

  front_6 : take 24 b8 ≡ take 24 b5
  front_6 = take-front 24 28 b8 b6 (omega arith) front_7 ∙ f6

  front_5 : take 20 b8 ≡ take 20 b4
  front_5 = take-front 20 24 b8 b5 (omega arith) front_6 ∙ f5

  front_4 : take 16 b8 ≡ take 16 b3
  front_4 = take-front 16 20 b8 b4 (omega arith) front_5 ∙ f4

  front_3 : take 8 b8 ≡ take 8 b2
  front_3 = take-front 8 16 b8 b3 (omega arith) front_4 ∙ f3

  front_2 : take 4 b8 ≡ take 4 b1
  front_2 = take-front 4 8 b8 b2 (omega arith) front_3 ∙ f2

  front_1 : take 0 b8 ≡ take 0 b0
  front_1 = take-front 0 4 b8 b1 (omega arith) front_2 ∙ f1

  is_1 : u32_at b8 0 ≡ v1
  is_1 = u32_at-front 0 4 b8 b1 (omega arith) front_2 ∙ r1

  is_2 : u32_at b8 4 ≡ v2
  is_2 = u32_at-front 4 8 b8 b2 (omega arith) front_3 ∙ r2

  is_3 : u64_at b8 8 ≡ v3
  is_3 = u64_at-front 8 16 b8 b3 (omega arith) front_4 ∙ r3

  is_4 : u32_at b8 16 ≡ v4
  is_4 = u32_at-front 16 20 b8 b4 (omega arith) front_5 ∙ r4

  is_5 : u32_at b8 20 ≡ v5
  is_5 = u32_at-front 20 24 b8 b5 (omega arith) front_6 ∙ r5

  is_6 : u32_at b8 24 ≡ v6
  is_6 = u32_at-front 24 28 b8 b6 (omega arith) front_7 ∙ r6

  is_7 : u32_at b8 28 ≡ v7
  is_7 = u32_at-front 28 32 b8 b7 (omega arith) front_8 ∙ r7

  is_8 : u64_at b8 32 ≡ v8
  is_8 = r8

  pub back_fields : drop 40 b8 ≡ drop 40 b0
  back_fields =
      e8
      ∙ drop-more 32 40 b7 b6 (omega arith) e7
      ∙ drop-more 28 40 b6 b5 (omega arith) e6
      ∙ drop-more 24 40 b5 b4 (omega arith) e5
      ∙ drop-more 20 40 b4 b3 (omega arith) e4
      ∙ drop-more 16 40 b3 b2 (omega arith) e3
      ∙ drop-more 8 40 b2 b1 (omega arith) e2
      ∙ drop-more 4 40 b1 b0 (omega arith) e1

  pub fields_are : v2 < 2 ^ 31 → v3 < 2 ^ 63 → v4 < 2 ^ 31 → v5 < 2 ^ 31 → v6 < 2 ^ 31 → v7 < 2 ^ 31 → v8 < 2 ^ 63
      → header_at b8 ≡ record { magic = v1; block = pos v2; dir = pos v3; dir_size = pos v4; dir_bits = pos v5; bucket_size = pos v6; elems = pos v7; next_block = pos v8 }
  fields_are l2 l3 l4 l5 l6 l7 l8 =
      rw (is_1, i32_is b8 4 v2 is_2 l2, i64_is b8 8 v3 is_3 l3, i32_is b8 16 v4 is_4 l4, i32_is b8 20 v5 is_5 l5, i32_is b8 24 v6 is_6 l6, i32_is b8 28 v7 is_7 l7, i64_is b8 32 v8 is_8 l8)
      refl
