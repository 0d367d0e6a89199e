-- How many buckets are kept.
use Rattle.std.proofs.Common.{◌≡◌, ℕ, refl, sym, ap, subst, ◌∙◌}
use Rattle.gd_lang.specs.declared.commands.Setting.TheVariants as variables
use Rattle.gd_store.specs.Opened.{Opened, SameButCached}
use Rattle.gd_vault.specs.Views.{View}
use Rattle.gd_session.specs.Calls.{IsOpen, IsPhaseReady, IsReady}
use Rattle.gd_session.specs.Rows.{sized, with_setting}
use Rattle.gd_session.specs.State.{Held, State, Text, db_of, phase_of, seen}
use Rattle.gd_session.specs.State.Phase.{Open}
use Rattle.gd_session.specs.declared.phase.Phase as real
use Rattle.gd_session.specs.declared.phase.Phase.TheVariants as phases
use Rattle.gd_session.proofs.Changed.{same_store}

-- the session with another size, and its database if one is open
abbrev pub resized : Held → ℕ → real.Phase → Held
resized h n p = record h { settings = record h.settings { cache = n }; phase = p }

open_resized : (v : View) (name : Text) (s : Opened) (n : ℕ) → IsOpen v name s → IsOpen v name (record s { cache = n })
open_resized v name s n o = record { there = o.there; fits = λ calm c x told there. (let f = o.fits calm c x told there in record { header = f.header; right = f.right }); named = o.named }

pub ready_open : (v : View) (h g : Held) (n : ℕ) (store store' : Opened) → h ≡ g → h.phase ≡ phases.Open store → SameButCached (record store { cache = n }) store' → IsReady v g → IsReady v (resized h n (phases.Open store'))
ready_open v h g n store store' is phase same ready =
    let own : IsReady v h = subst (λ (k : Held). IsReady v k) (sym is) ready in
    let o : IsOpen v h.settings.file store = subst (λ (p : real.Phase). IsPhaseReady v h.settings.file p) phase own in
    subst (λ (s : Opened). IsOpen v h.settings.file s) (sym (same_store (record store { cache = n }) store' same)) (open_resized v h.settings.file store n o)

pub ready_other : (v : View) (h g : Held) (n : ℕ) → h ≡ g → IsReady v g → IsReady v (resized h n h.phase)
ready_other v h g n is ready = subst (λ (k : Held). IsReady v k) (sym is) ready

sized_open : (p : real.Phase) (n : ℕ) (store store' : Opened) → p ≡ phases.Open store → SameButCached (record store { cache = n }) store' → phase_of (phases.Open store') ≡ sized n (phase_of p)
sized_open p n store store' phase same =
    ap (λ (s : Opened). Open (db_of s)) (same_store (record store { cache = n }) store' same) ∙ ap (λ (q : real.Phase). sized n (phase_of q)) (sym phase)

sized_other : (p : real.Phase) (n : ℕ) → ((x : Opened) → p ≡ phases.Open x → ⊥) → phase_of p ≡ sized n (phase_of p)
sized_other phases.Fresh n other = refl
sized_other (phases.Open store) n other = absurd (other store refl)
sized_other phases.Shut n other = refl

pub state_open : (h g : Held) (n : ℕ) (store store' : Opened) → h ≡ g → h.phase ≡ phases.Open store → SameButCached (record store { cache = n }) store' → seen (resized h n (phases.Open store')) ≡ with_setting (seen g) (variables.CacheSize n)
state_open h g n store store' is phase same =
    ap (λ p. record (seen h) { settings = record h.settings { cache = n }; phase = p }) (sized_open h.phase n store store' phase same)
    ∙ ap (λ (k : Held). with_setting (seen k) (variables.CacheSize n)) is

pub state_other : (h g : Held) (n : ℕ) → h ≡ g → ((x : Opened) → h.phase ≡ phases.Open x → ⊥) → seen (resized h n h.phase) ≡ with_setting (seen g) (variables.CacheSize n)
state_other h g n is other =
    ap (λ p. record (seen h) { settings = record h.settings { cache = n }; phase = p }) (sized_other h.phase n other)
    ∙ ap (λ (k : Held). with_setting (seen k) (variables.CacheSize n)) is
