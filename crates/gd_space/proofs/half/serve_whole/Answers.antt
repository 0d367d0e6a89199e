use Rattle.std.proofs.Common.{◌≡◌, ◌∙◌, ap, sym, length, List, ◌<◌, arith}
use Rattle.gd_format.specs.declared.Extent.{Extent}
use Rattle.gd_format.specs.Sound.{extent}
use Rattle.gd_space.specs.Sizes.{largest}
use Rattle.gd_space.proofs.Cuts.{step_bucket, step_table}
use Rattle.gd_space.proofs.Elements.{at-largest}
use Rattle.gd_space.proofs.half.serve_whole.Goals as goal

pub returns-in-Some-clause-step : goal.returns-in-Some-clause-step
returns-in-Some-clause-step c = λ next lt below bucket_below. step_bucket next _ _ _ _ _ below (c.cut_bucket-at.ensures.cut next lt bucket_below)

pub returns-in-Some-first_fit-clause-step : goal.returns-in-Some-first_fit-clause-step
returns-in-Some-first_fit-clause-step c = λ next lt below bucket_below. step_table next _ _ _ _ _ bucket_below (c.cut_table-at.ensures.cut next lt below)

pub returns-in-Some-clause-most : goal.returns-in-Some-clause-most
returns-in-Some-clause-most c =
    let a = at-largest (extent 0 0) c.free-in-Some.result.now c.in-Some.i in
    let f = c.free-in-Some.ensures.are in
    let g = c.free.ensures.are in
    let s = c.in-Some.ensures.some.0 in
    let same : c.free.result.now ≡ c.free-in-Some.result.now = g ∙ sym f in
    let l = ap (λ (x : List Extent). largest x) f in
    let lt : c.in-Some.i < length c.free-in-Some.result.now = rw (← same) s in
    let h = a lt in
    omega (arith, h, l)

pub returns-in-Some-first_fit-clause-most : goal.returns-in-Some-first_fit-clause-most
returns-in-Some-first_fit-clause-most c =
    let a = at-largest (extent 0 0) c.extents-in-Some-first_fit.result.now c.in-Some-first_fit.i in
    let f = c.extents-in-Some-first_fit.ensures.are in
    let g = c.extents.ensures.are in
    let s = c.in-Some-first_fit.ensures.some.0 in
    let same : c.extents.result.now ≡ c.extents-in-Some-first_fit.result.now = g ∙ sym f in
    let l = ap (λ (x : List Extent). largest x) f in
    let lt : c.in-Some-first_fit.i < length c.extents-in-Some-first_fit.result.now = rw (← same) s in
    let h = a lt in
    omega (arith, h, l)
