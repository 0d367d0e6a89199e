use Rattle.std.proofs.Common.{ap, List, arith}
use Rattle.gd_format.specs.declared.Extent.{Extent}
use Rattle.gd_space.specs.Sizes.{largest}
use Rattle.gd_space.proofs.Cuts.{served_bucket, served_table}
use Rattle.gd_space.proofs.lists.serve.Goals as goal

pub returns-in-Some-clause-cut : goal.returns-in-Some-clause-cut
returns-in-Some-clause-cut c = λ next lt below bucket_below. served_bucket next _ _ _ _ _ below (c.cut_bucket.ensures.cut next lt bucket_below)

pub returns-in-Some-clause-held : goal.returns-in-Some-clause-held
returns-in-Some-clause-held c = let h = c.in-Some.ensures.held in let e = ap (λ (x : List Extent). largest x) c.free.ensures.are in omega (arith, h, e)

pub returns-in-Some-first_fit-clause-cut : goal.returns-in-Some-first_fit-clause-cut
returns-in-Some-first_fit-clause-cut c = λ next lt below bucket_below. served_table next _ _ _ _ _ bucket_below (c.cut_table.ensures.cut next lt below)

pub returns-in-Some-first_fit-clause-held : goal.returns-in-Some-first_fit-clause-held
returns-in-Some-first_fit-clause-held c = let h = c.in-Some-first_fit.ensures.held in let e = ap (λ (x : List Extent). largest x) c.extents.ensures.are in omega (arith, h, e)
