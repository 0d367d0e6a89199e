-- Which files and names an opening touches.
use Rattle.std.proofs.Common.{◌≡◌, Some, None, sym, subst}
use Rattle.gd_lang.specs.declared.commands.Opening.{Opening}
use Rattle.gd_store.specs.Opened.{StandsFor}
use Rattle.gd_vault.specs.Content.{Content}
use Rattle.gd_vault.specs.Frame.{Within}
use Rattle.gd_vault.specs.Views.{View, OnlyAsks, content_of}
use Rattle.gd_vault.proofs.OneFile.{within_wider}
use Rattle.gd_vault.proofs.Within.{within_only_asks, within_trans}
use Rattle.gd_session.specs.Frames.{MakesWithin, OneName, OpensOrMakesWithin, OpensWithin}
use Rattle.gd_session.specs.State.{Text}
use Rattle.gd_session.specs.declared.settings.Settings.{Settings}
use Rattle.gd_session.proofs.Commands.{asks_trans}

pub asked_within : (name : Text) (u v : View) → OnlyAsks u v → OpensOrMakesWithin name u v
asked_within name u v asks = record { makes = within_only_asks asks; there = λ c told some. asks }

pub opened_within : (name : Text) (u v w : View) → OnlyAsks u v → OnlyAsks v w → OpensOrMakesWithin name u w
opened_within name u v w a b = asked_within name u w (asks_trans u v w a b)

-- a name that stood for no file
pub made_within : (name : Text) (u v w : View) → OnlyAsks u v → ((c : Content) → content_of u.told ≡ Some c → c.names name ≡ None) → MakesWithin name v w → OpensOrMakesWithin name u w
made_within name u v w asks none makes =
    let later : Within (StandsFor u name) (OneName name) v w = within_wider (StandsFor v name) (StandsFor u name) (OneName name) v w (λ f h c told. h c (subst (λ t. content_of t ≡ Some c) (sym asks.told) told)) makes in
    record { makes = within_trans (within_only_asks asks) later; there = λ c told some. absurd (some (none c told)) }

pub within_by : (way : Opening) (s : Settings) (u v : View) → s.opening ≡ way → OpensWithin way s.file u v → OpensWithin s.opening s.file u v
within_by way s u v is h = subst (λ (w : Opening). OpensWithin w s.file u v) (sym is) h

pub within_at : (s t : Settings) (u v : View) → s ≡ t → OpensWithin s.opening s.file u v → OpensWithin t.opening t.file u v
within_at s t u v is h = subst (λ (x : Settings). OpensWithin x.opening x.file u v) is h
