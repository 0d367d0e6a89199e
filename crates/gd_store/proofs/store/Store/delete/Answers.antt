use Rattle.std.proofs.Common.{◌≡◌, ◌≢◌, ℕ, false, List, sym, ap, ◌∙◌}
use Rattle.std.specs.FinMap.{remove}
use Rattle.gd_base.specs.declared.errors.DbError.{DbError}
use Rattle.gd_base.specs.declared.errors.DbError.TheVariants.{VaultFault}
use Rattle.gd_format.specs.File.{records}
use Rattle.gd_map_laws.specs.Maps.{pair_map}
use Rattle.gd_vault.specs.Views.{IsAt, OnlyAsks}
use Rattle.gd_store.specs.Opened.{Opened}
use Rattle.gd_store.proofs.Changing.{becomes_as, breaks_as, fits_after, if_err_map, kept_now, on_ok_map, there_after}
use Rattle.gd_store.proofs.store.Store.delete.Goals as goal

pub returns-clause-deleted : goal.returns-clause-deleted
returns-clause-deleted g c =
    on_ok_map c.delete_key-answer.result _ _
    (becomes_as (g.V.Vault.view_of c.args.vault.now) (g.V.Vault.view_of c.delete_key-answer.new.vault) c.args.self.now.file c.delete_key-answer.new.self _ c.is_fault-self-inside.result (λ (file : List ℕ). remove (pair_map (records file)) c.args.key.now) (λ _. 32) c.self-2.view_is)
    c.delete_key-answer.ensures.deleted

pub returns-clause-fits : goal.returns-clause-fits
returns-clause-fits g c = λ calm.
    let u = g.V.Vault.view_of c.args.vault.now in
    let w = g.V.Vault.view_of c.delete_key-answer.new.vault in
    let whole : c.args.self.now.broken ≡ false = sym (ap (λ (s : Opened). s.broken) c.self.view_is) ∙ c.if-self.false in
    fits_after c.delete_key-answer.result (g.V.Vault.view_of c.args.vault.now) (g.V.Vault.view_of c.delete_key-answer.new.vault) c.args.self.now c.delete_key-answer.new.self _ c.is_fault-self-inside.result (λ (file : List ℕ). remove (pair_map (records file)) c.args.key.now) (λ _. 32)
    c.delete_key-answer.ensures.frame.within c.requires.file c.requires.fits whole (sym c.is_fault-self-inside.ensures ∙ calm) c.delete_key-answer.ensures.deleted
    (if_err_map c.delete_key-answer.result _ (λ (e : DbError). e ≢ VaultFault → IsAt (g.V.Vault.view_of c.args.vault.now) (λ _. (c.delete_key-answer.new.self ≡ c.args.self.now) × OnlyAsks (g.V.Vault.view_of c.args.vault.now) (g.V.Vault.view_of c.delete_key-answer.new.vault))) (λ e k ne d told. k ne) c.delete_key-answer.ensures.kept)
    c.delete_key-answer.ensures.same.file c.self-2.view_is

pub returns-clause-there : goal.returns-clause-there
returns-clause-there g c =
    there_after (g.V.Vault.view_of c.args.vault.now) (g.V.Vault.view_of c.delete_key-answer.new.vault) c.args.self.now.file _ c.delete_key-answer.ensures.frame.within c.requires.file
    (ap (λ (s : Opened). s.file) c.self-2.view_is ∙ c.delete_key-answer.ensures.same.file)

pub returns-clause-kept : goal.returns-clause-kept
returns-clause-kept g c =
    let whole : c.args.self.now.broken ≡ false = sym (ap (λ (s : Opened). s.broken) c.self.view_is) ∙ c.if-self.false in
    kept_now c.delete_key-answer.result (g.V.Vault.view_of c.args.vault.now) (g.V.Vault.view_of c.delete_key-answer.new.vault) c.args.self.now c.delete_key-answer.new.self _ c.is_fault-self-inside.result c.self-2.view_is c.is_fault-self-inside.ensures whole c.delete_key-answer.ensures.kept

pub returns-clause-breaks : goal.returns-clause-breaks
returns-clause-breaks g c =
    let whole : c.args.self.now.broken ≡ false = sym (ap (λ (s : Opened). s.broken) c.self.view_is) ∙ c.if-self.false in
    breaks_as c.is_fault-self-inside.result c.args.self.now.broken _ whole c.is_fault-self-inside.ensures
