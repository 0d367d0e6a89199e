-- Answers and refusals.
use Rattle.std.proofs.Common.{◌≡◌, sym, subst, Result, Ok, Err}
use Rattle.std.specs.Prelude.{IsErrAnd}
use Rattle.gd_lang.specs.Refusals.{Answers, Refuses}
use Rattle.gd_lang.specs.declared.errors.LangError.{LangError}

pub answers-exit : {A : Type 0} (result : Result A LangError) (e : LangError) (due : Result A LangError) → IsErrAnd result (λ y. y ≡ e) → Refuses e due → Answers result due
answers-exit (Ok x) e due is h = absurd is
answers-exit (Err y) e due is h = subst (λ z. Refuses z due) (sym is) h
