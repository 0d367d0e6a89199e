use Rattle.std.proofs.Common.{◌≡◌, Some, ap, ◌∙◌}
use Rattle.gd_vault.specs.Views.{content_of}
use Rattle.gd_snap.proofs.Chosen.{both_open, even_opens, then_ok}
use Rattle.gd_snap.proofs.choosing.choose.Goals as goal

pub returns-in-true-true-clause-choice : goal.returns-in-true-true-clause-choice
returns-in-true-true-clause-choice g c =
    then_ok _ _ c.newer.result
    (λ choice chosen content told x y is_x is_y.
    let then : content_of (g.V.Vault.view_of c.mode.new.self).told ≡ Some content = ap content_of c.in_ok-mode.ensures.asked.told ∙ told in
    let later : content_of (g.V.Vault.view_of c.mode-2.new.self).told ≡ Some content = ap content_of c.in_ok-mode-2.ensures.asked.told ∙ then in
    chosen content later x y is_x is_y
    ∙ both_open _ _ x y (c.in_ok-mode.ensures.mode content told x is_x) (c.in_ok-mode-2.ensures.mode content then y is_y) c.in-true-true.ensures c.in-true-true.ensures')
    c.newer.ensures.choice

pub returns-in-true-false-clause-choice : goal.returns-in-true-false-clause-choice
returns-in-true-false-clause-choice g c = λ content told x y is_x is_y.
    let then : content_of (g.V.Vault.view_of c.mode.new.self).told ≡ Some content = ap content_of c.in_ok-mode.ensures.asked.told ∙ told in
    even_opens _ _ x y (c.in_ok-mode.ensures.mode content told x is_x) (c.in_ok-mode-2.ensures.mode content then y is_y) c.in-true-false.ensures c.in-true-false.ensures'
