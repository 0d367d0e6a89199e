use Rattle.std.proofs.Common.{sym, ap, subst, ◌∙◌}
use Rattle.std.specs.Prelude.{slice_index_or, length, IfOk, ◌≡◌}
use Rattle.gd_format.specs.declared.Slot.TheVariants.{Empty}
use Rattle.gd_open.specs.Files.{AtFile}
use Rattle.gd_lookup.specs.Reading.{LiesIn, value_in}
use Rattle.gd_store.specs.Opened.{Opened}
use Rattle.gd_store.proofs.Lookups.{absent_told, inside_told, values_told, place_none}
use Rattle.gd_store.proofs.store.Store.fetch.Goals as goal

pub returns-in_default-clause-refused : goal.returns-in_default-clause-refused
returns-in_default-clause-refused g c whole =
    absent_told c.args.key.now c.args.self.now.header c.args.self.now.file c.in_ok-located.located.at c.in_ok-located.located.bucket (g.V.Vault.view_of c.args.vault.now) (g.V.Vault.view_of c.locate.new.vault)
    c.in_ok-located.located.place (place_none c.in_ok-located.located.place c.in_default.not-Some) c.in_ok-located.ensures.found

pub read_value-requires-clause-inside : goal.read_value-requires-clause-inside
read_value-requires-clause-inside g c =
    subst (λ k. AtFile (g.V.Vault.view_of c.locate.new.vault) k (λ file. LiesIn (length file) (slice_index_or c.slots.result.now c.in-Some.place Empty))) (sym (ap (λ (s : Opened). s.file) c.self-2.view_is ∙ ap (λ (s : Opened). s.file) c.in_ok-located.ensures.same))
    (inside_told c.args.key.now c.args.self.now.header c.args.self.now.file c.in_ok-located.located.at c.in_ok-located.located.bucket (g.V.Vault.view_of c.args.vault.now) (g.V.Vault.view_of c.locate.new.vault)
    c.in_ok-located.located.place c.in-Some.place (slice_index_or c.slots.result.now c.in-Some.place Empty) c.in_ok-located.ensures.asks c.in-Some.is (ap (λ xs. slice_index_or xs c.in-Some.place Empty) c.slots.ensures.are) c.in_ok-located.ensures.found)

pub returns-clause-value : goal.returns-clause-value
returns-clause-value g c =
    values_told c.args.key.now c.args.self.now.header c.args.self.now.file c.in_ok-located.located.at c.in_ok-located.located.bucket (g.V.Vault.view_of c.args.vault.now) (g.V.Vault.view_of c.locate.new.vault)
    c.in_ok-located.located.place c.in-Some.place (slice_index_or c.slots.result.now c.in-Some.place Empty) c.read_value.result c.in_ok-located.ensures.asks c.in-Some.is (ap (λ xs. slice_index_or xs c.in-Some.place Empty) c.slots.ensures.are) c.in_ok-located.ensures.found
    (subst (λ k. IfOk c.read_value.result (λ value. AtFile (g.V.Vault.view_of c.locate.new.vault) k (λ file. value ≡ value_in file (slice_index_or c.slots.result.now c.in-Some.place Empty)))) (ap (λ (s : Opened). s.file) c.self-2.view_is ∙ ap (λ (s : Opened). s.file) c.in_ok-located.ensures.same) c.read_value.ensures.value)
