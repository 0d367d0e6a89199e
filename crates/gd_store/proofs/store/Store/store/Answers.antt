use Rattle.std.proofs.Common.{◌≡◌, ℕ, false, List, sym, ap, ◌∙◌}
use Rattle.std.specs.FinMap.{insert}
use Rattle.gd_format.specs.File.{records}
use Rattle.gd_map_laws.specs.Maps.{pair_map}
use Rattle.gd_store.specs.Changed.{store_loss}
use Rattle.gd_store.specs.Opened.{Opened}
use Rattle.gd_store.proofs.Changing.{becomes_as, breaks_as, early_as, fits_after, kept_as, kept_cached, on_ok_map, there_after}
use Rattle.gd_store.proofs.store.Store.store.Goals as goal

pub returns-clause-stored : goal.returns-clause-stored
returns-clause-stored g c =
    on_ok_map c.store_pair-answer.result _ _
    (becomes_as (g.V.Vault.view_of c.args.vault.now) (g.V.Vault.view_of c.store_pair-answer.new.vault) c.args.self.now.file c.store_pair-answer.new.self _ c.is_fault-self-inside.result
    (λ (file : List ℕ). insert (pair_map (records file)) c.args.key.now c.args.value.now) (λ (file : List ℕ). store_loss file c.args.key.now) c.self-2.view_is)
    c.store_pair-answer.ensures.stored

pub returns-clause-fits : goal.returns-clause-fits
returns-clause-fits g c = λ calm.
    let whole : c.args.self.now.broken ≡ false = sym (ap (λ (s : Opened). s.broken) c.self.view_is) ∙ c.if-self.false in
    fits_after c.store_pair-answer.result (g.V.Vault.view_of c.args.vault.now) (g.V.Vault.view_of c.store_pair-answer.new.vault) c.args.self.now c.store_pair-answer.new.self _ c.is_fault-self-inside.result
    (λ (file : List ℕ). insert (pair_map (records file)) c.args.key.now c.args.value.now) (λ (file : List ℕ). store_loss file c.args.key.now)
    c.store_pair-answer.ensures.frame.within c.requires.file c.requires.fits whole (sym c.is_fault-self-inside.ensures ∙ calm) c.store_pair-answer.ensures.stored c.store_pair-answer.ensures.kept
    (ap (λ (s : Opened). s.file) c.store_pair-answer.ensures.rest) c.self-2.view_is

pub returns-clause-there : goal.returns-clause-there
returns-clause-there g c =
    there_after (g.V.Vault.view_of c.args.vault.now) (g.V.Vault.view_of c.store_pair-answer.new.vault) c.args.self.now.file _ c.store_pair-answer.ensures.frame.within c.requires.file
    (ap (λ (s : Opened). s.file) c.self-2.view_is ∙ ap (λ (s : Opened). s.file) c.store_pair-answer.ensures.rest)

pub returns-clause-kept : goal.returns-clause-kept
returns-clause-kept g c =
    let whole : c.args.self.now.broken ≡ false = sym (ap (λ (s : Opened). s.broken) c.self.view_is) ∙ c.if-self.false in
    kept_cached c.store_pair-answer.result (g.V.Vault.view_of c.args.vault.now) (g.V.Vault.view_of c.store_pair-answer.new.vault) c.args.self.now _
    (kept_as c.store_pair-answer.result (g.V.Vault.view_of c.args.vault.now) (g.V.Vault.view_of c.store_pair-answer.new.vault) c.args.self.now c.store_pair-answer.new.self _ c.is_fault-self-inside.result c.self-2.view_is c.is_fault-self-inside.ensures whole c.store_pair-answer.ensures.kept)

pub returns-clause-early : goal.returns-clause-early
returns-clause-early g c =
    let whole : c.args.self.now.broken ≡ false = sym (ap (λ (s : Opened). s.broken) c.self.view_is) ∙ c.if-self.false in
    early_as c.store_pair-answer.result (g.V.Vault.view_of c.args.vault.now) (g.V.Vault.view_of c.store_pair-answer.new.vault) c.args.self.now c.store_pair-answer.new.self _ c.is_fault-self-inside.result c.self-2.view_is c.is_fault-self-inside.ensures whole c.store_pair-answer.ensures.early

pub returns-clause-breaks : goal.returns-clause-breaks
returns-clause-breaks g c =
    let whole : c.args.self.now.broken ≡ false = sym (ap (λ (s : Opened). s.broken) c.self.view_is) ∙ c.if-self.false in
    breaks_as c.is_fault-self-inside.result c.args.self.now.broken _ whole c.is_fault-self-inside.ensures
