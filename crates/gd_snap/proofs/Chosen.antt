-- The choice by the modes of two files.
use Rattle.std.proofs.Common.{◌≡◌, true, false, Result, Ok, Err, IfOk, refl, sym, ap, ◌∙◌}
use Rattle.gd_vault.specs.declared.vaults.Mode.{Mode}
use Rattle.gd_vault.specs.Content.{File}
use Rattle.gd_snap.specs.Choices.{choice_of, is_readable, newer_of}
use Rattle.gd_snap.specs.declared.choices.Choice.TheVariants.{Even}

module _ (m n : Mode) (x y : File) (first : m ≡ x.mode) (second : n ≡ y.mode) where
  pub both_open : true ≡ is_readable m → true ≡ is_readable n → newer_of x y ≡ choice_of x y
  both_open a b =
      let opens_x : is_readable x.mode ≡ true = sym (a ∙ ap is_readable first) in
      let opens_y : is_readable y.mode ≡ true = sym (b ∙ ap is_readable second) in
      rw (opens_x, opens_y) refl

  pub even_opens : true ≡ is_readable m → false ≡ is_readable n → Even ≡ choice_of x y
  even_opens a b =
      let opens_x : is_readable x.mode ≡ true = sym (a ∙ ap is_readable first) in
      let shut_y : is_readable y.mode ≡ false = sym (b ∙ ap is_readable second) in
      rw (opens_x, shut_y) refl

pub then_ok : {T E : Type 0} (P Q : T → Type 0) (r : Result T E) → ((t : T) → P t → Q t) → IfOk r P → IfOk r Q
then_ok P Q (Ok t) step h = step t h
then_ok P Q (Err e) step h = tt
