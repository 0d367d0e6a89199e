use Rattle.std.proofs.Common.{◌≡◌, Bool, true, false, sym, ◌∙◌}
use Rattle.std.specs.Prelude.{Result, Ok, Err, IfErr}
use Rattle.gd_layout.specs.Answers.{Refuses}
use Rattle.gd_layout.specs.declared.bucket.LayoutError.{LayoutError}
use Rattle.gd_layout.specs.declared.bucket.LayoutError.TheVariants.{Bad, OutOfMemory}
use Rattle.gd_layout.proofs.front_tests.avail_written_and_read.Goals as goal

never : {X : Type 0} (r : Result X LayoutError) (b : Bool) → b ≡ true → IfErr r (Refuses (b ≡ false)) → IfErr r (Refuses ⊥)
never (Ok a) b yes_ h = tt
never (Err Bad) b yes_ h = let two : true ≡ false = sym yes_ ∙ h in cc two
never (Err OutOfMemory) b yes_ h = tt

pub returns-clause-never_bad : goal.returns-clause-never_bad
returns-clause-never_bad c = never c.read_avail.result _ (c.write_avail.ensures.right c.requires.fit _ c.room.ensures.most) c.read_avail.ensures.bad
