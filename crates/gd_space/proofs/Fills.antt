-- A block of the stack that is filled where no bytes are taken.
use Rattle.std.proofs.Common.{◌≡◌, ℕ, ◌+◌, ◌-◌, ◌<◌, ◌≤◌, ◌^◌, List, [], ◌∷◌, ◌++◌, ap, ◌∙◌, arith}
use Rattle.std.specs.List.{AllByRecursion}
use Rattle.gd_format.specs.declared.Extent.{Extent}
use Rattle.gd_format.specs.Covers.{cover, size_sum}
use Rattle.gd_format.specs.FreeSide.{IsBelow}
use Rattle.gd_format.specs.Sound.{extent}
use Rattle.gd_format.proofs.Covers.{cover-append, size_sum-append, cover-split, all-append}
use Rattle.gd_space.specs.Effect.{grown}
use Rattle.gd_space.specs.Lists.{Step, Split}
use Rattle.gd_space.proofs.Tooks.{below-more, cover-empty}

-- the block stands in the lists, and half of the table moves to it
pub fill_inside : (next : ℕ) (e : Extent) (table bucket one bucket' two spare : List Extent) → Step next table bucket one bucket' [] (e ∷ []) → Split next one two spare
    → Step (next + 0) table bucket two bucket' (grown next (next + 0)) (e ∷ spare)
fill_inside next e table bucket one bucket' two spare s p =
    let none : next + 0 - next ≡ 0 = omega arith in
    record {
      bytes = λ b. (let x = s.bytes b in let y = p.bytes b in let z : cover (grown next (next + 0)) b ≡ 0 = ap (λ (k : ℕ). cover (extent next k ∷ []) b) none ∙ cover-empty next b in omega (arith, x, y, z));
      sum = let x = s.sum in let y = p.sum in omega (arith, x, y, none);
      table_below = below-more next (next + 0) two (omega arith) p.one_below;
      bucket_below = below-more next (next + 0) bucket' (omega arith) s.bucket_below;
    }

-- the block is new room, and has what is over of that
pub fill_new : (next wide size : ℕ) (over : Extent) (table bucket two spare spare' : List Extent) → wide ≤ size → over.at ≡ next + wide → over.size ≡ size - wide → spare' ≡ spare ++ over ∷ []
    → AllByRecursion (IsBelow next) bucket → Split next table two spare → Step (next + size) table bucket two bucket (grown next (next + size)) (extent next wide ∷ spare')
fill_new next wide size over table bucket two spare spare' le at rest items bucket_below p =
    let all : next + size - next ≡ wide + (size - wide) = omega arith in
    record {
      bytes =
          λ b.
          let y = p.bytes b in
          let over_is : over ≡ extent (next + wide) (size - wide) = ap (λ (k : ℕ). extent k over.size) at ∙ ap (extent (next + wide)) rest in
          let one : cover (grown next (next + size)) b ≡ cover (extent next wide ∷ []) b + cover (extent (next + wide) (size - wide) ∷ []) b = ap (λ (k : ℕ). cover (extent next k ∷ []) b) all ∙ cover-split next wide (size - wide) b in
          let three = ap (λ (x : Extent). cover (x ∷ []) b) over_is in
          let four = ap (λ (xs : List Extent). cover xs b) items ∙ cover-append spare (over ∷ []) b in
          omega (arith, y, one, three, four);
      sum = let y = p.sum in let four = ap size_sum items ∙ size_sum-append spare (over ∷ []) in omega (arith, y, four, rest, le);
      table_below = below-more next (next + size) two (omega arith) p.one_below;
      bucket_below = below-more next (next + size) bucket (omega arith) bucket_below;
    }

-- what the block has then lies below
pub new_below : (next wide size : ℕ) (over : Extent) (spare spare' : List Extent) → wide < size → size < 2 ^ 31 → over.at ≡ next + wide → over.size ≡ size - wide → 0 < wide → spare' ≡ spare ++ over ∷ [] → AllByRecursion (IsBelow next) spare → AllByRecursion (IsBelow (next + size)) spare'
new_below next wide size over spare spare' lt fits at rest some items below =
    rw items (all-append (IsBelow (next + size)) spare (over ∷ []) (below-more next (next + size) spare (omega arith) below) (record { start = omega arith; some = omega arith; fits = omega arith; ends = omega arith }, tt))
