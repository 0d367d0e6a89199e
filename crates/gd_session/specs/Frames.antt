-- Which files and names an opening may touch.
use Rattle.std.specs.Prelude.{◌≡◌, ◌≢◌, None}
use Rattle.gd_lang.specs.declared.commands.Opening.{Opening}
use Rattle.gd_lang.specs.declared.commands.Opening.TheVariants as ways
use Rattle.gd_store.specs.Opened.{StandsFor}
use Rattle.gd_vault.specs.Frame.{Within}
use Rattle.gd_vault.specs.Views.{View, IsAt, OnlyAsks}
use Rattle.gd_session.specs.State.{Text}

abbrev pub OneName : Text → Text → Type 0
OneName name n = n ≡ name

-- a file is made or emptied: the name, the file for which it stands, and a file that is made
abbrev pub MakesWithin : Text → View → View → Type 0
MakesWithin name u v = Within (StandsFor u name) (OneName name) u v

-- where the name stands for a file, the vault is only asked
abbrev pub AsksThere : Text → View → View → Type 0
AsksThere name u v = IsAt u (λ c. c.names name ≢ None → OnlyAsks u v)

-- an absent file is made, and another one is only read
pub record OpensOrMakesWithin (name : Text) (u v : View) : Type 0 where
  pub makes : MakesWithin name u v
  pub there : AsksThere name u v

-- an opening, by its way
abbrev pub OpensWithin : Opening → Text → View → View → Type 0
OpensWithin ways.NewDb name u v = MakesWithin name u v
OpensWithin ways.WrCreat name u v = OpensOrMakesWithin name u v
OpensWithin ways.Reader name u v = OnlyAsks u v
