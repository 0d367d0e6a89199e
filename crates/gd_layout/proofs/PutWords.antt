-- The fields that the numsync format alone has, put one after another into the block of a header.
use Rattle.std.proofs.Common.{◌≡◌, ℕ, List, [], ◌∷◌, length, get_or, take, drop, refl, ◌∙◌, arith}
use Rattle.std.proofs.lemmas.List.{take_all}
use Rattle.gd_format.specs.declared.Header.{Header}
use Rattle.gd_format.specs.Field.{u32_at}
use Rattle.gd_layout.specs.Writing.{HasWords}
use Rattle.gd_layout.proofs.Pieces.{u32_at-front, take-front, drop-more}
use Rattle.gd_layout.proofs.PutExtents.{list_is}

module _ (b0 b1 b2 b3 b4 b5 b6 b7 b8 : List ℕ) (v1 : ℕ) (r1 : u32_at b1 40 ≡ v1) (f1 : take 40 b1 ≡ take 40 b0) (e1 : drop 44 b1 ≡ drop 44 b0) (v2 : ℕ) (r2 : u32_at b2 44 ≡ v2) (f2 : take 44 b2 ≡ take 44 b1) (e2 : drop 48 b2 ≡ drop 48 b1) (v3 : ℕ) (r3 : u32_at b3 48 ≡ v3) (f3 : take 48 b3 ≡ take 48 b2) (e3 : drop 52 b3 ≡ drop 52 b2) (v4 : ℕ) (r4 : u32_at b4 52 ≡ v4) (f4 : take 52 b4 ≡ take 52 b3) (e4 : drop 56 b4 ≡ drop 56 b3) (v5 : ℕ) (r5 : u32_at b5 56 ≡ v5) (f5 : take 56 b5 ≡ take 56 b4) (e5 : drop 60 b5 ≡ drop 60 b4) (v6 : ℕ) (r6 : u32_at b6 60 ≡ v6) (f6 : take 60 b6 ≡ take 60 b5) (e6 : drop 64 b6 ≡ drop 64 b5) (v7 : ℕ) (r7 : u32_at b7 64 ≡ v7) (f7 : take 64 b7 ≡ take 64 b6) (e7 : drop 68 b7 ≡ drop 68 b6) (v8 : ℕ) (r8 : u32_at b8 68 ≡ v8) (f8 : take 68 b8 ≡ take 68 b7) (e8 : drop 72 b8 ≡ drop 72 b7) where
  front_8 : take 68 b8 ≡ take 68 b7
  front_8 = f8

  front_7 : take 64 b8 ≡ take 64 b6
  front_7 = take-front 64 68 b8 b7 (omega arith) front_8 ∙ f7

  front_6 : take 60 b8 ≡ take 60 b5
  front_6 = take-front 60 64 b8 b6 (omega arith) front_7 ∙ f6

  front_5 : take 56 b8 ≡ take 56 b4
  front_5 = take-front 56 60 b8 b5 (omega arith) front_6 ∙ f5

  front_4 : take 52 b8 ≡ take 52 b3
  front_4 = take-front 52 56 b8 b4 (omega arith) front_5 ∙ f4

  front_3 : take 48 b8 ≡ take 48 b2
  front_3 = take-front 48 52 b8 b3 (omega arith) front_4 ∙ f3

  front_2 : take 44 b8 ≡ take 44 b1
  front_2 = take-front 44 48 b8 b2 (omega arith) front_3 ∙ f2

  front_1 : take 40 b8 ≡ take 40 b0
  front_1 = take-front 40 44 b8 b1 (omega arith) front_2 ∙ f1

  is_1 : u32_at b8 40 ≡ v1
  is_1 = u32_at-front 40 44 b8 b1 (omega arith) front_2 ∙ r1

  is_2 : u32_at b8 44 ≡ v2
  is_2 = u32_at-front 44 48 b8 b2 (omega arith) front_3 ∙ r2

  is_3 : u32_at b8 48 ≡ v3
  is_3 = u32_at-front 48 52 b8 b3 (omega arith) front_4 ∙ r3

  is_4 : u32_at b8 52 ≡ v4
  is_4 = u32_at-front 52 56 b8 b4 (omega arith) front_5 ∙ r4

  is_5 : u32_at b8 56 ≡ v5
  is_5 = u32_at-front 56 60 b8 b5 (omega arith) front_6 ∙ r5

  is_6 : u32_at b8 60 ≡ v6
  is_6 = u32_at-front 60 64 b8 b6 (omega arith) front_7 ∙ r6

  is_7 : u32_at b8 64 ≡ v7
  is_7 = u32_at-front 64 68 b8 b7 (omega arith) front_8 ∙ r7

  is_8 : u32_at b8 68 ≡ v8
  is_8 = r8

  pub back_words : drop 72 b8 ≡ drop 72 b0
  back_words =
      e8
      ∙ drop-more 68 72 b7 b6 (omega arith) e7
      ∙ drop-more 64 72 b6 b5 (omega arith) e6
      ∙ drop-more 60 72 b5 b4 (omega arith) e5
      ∙ drop-more 56 72 b4 b3 (omega arith) e4
      ∙ drop-more 52 72 b3 b2 (omega arith) e3
      ∙ drop-more 48 72 b2 b1 (omega arith) e2
      ∙ drop-more 44 72 b1 b0 (omega arith) e1

  pub front_words : take 40 b8 ≡ take 40 b0
  front_words = front_1

  pub words_are : (h : Header) → v1 ≡ h.version → v2 ≡ h.numsync → v3 ∷ v4 ∷ v5 ∷ v6 ∷ v7 ∷ v8 ∷ [] ≡ h.reserved → HasWords b8 h
  words_are h version numsync reserved =
      record { version = is_1 ∙ version; numsync = is_2 ∙ numsync; reserved = rw (is_3, is_4, is_5, is_6, is_7, is_8) reserved }

-- a list of six numbers
pub six : (xs : List ℕ) → length xs ≡ 6 → get_or xs 0 0 ∷ get_or xs 1 0 ∷ get_or xs 2 0 ∷ get_or xs 3 0 ∷ get_or xs 4 0 ∷ get_or xs 5 0 ∷ [] ≡ xs
six xs len = list_is (λ k. get_or xs k 0) xs 0 (λ k lt. refl) 6 (omega (arith, len)) ∙ take_all 6 xs (omega (arith, len))
