use Rattle.std.proofs.Common.{◌≡◌, ◌∙◌, sym, ap, ℕ, List, rules}
use Rattle.gd_dump_reading.specs.declared.items.Item.TheVariants.{Pair}
use Rattle.gd_loading.proofs.Steps.{pair-cause, pair-left, pair-stored, pair-taken}
use Rattle.gd_loading.proofs.taking.take_item.Goals as goal

pub returns-in-Ok-clause-takes : goal.returns-in-Ok-clause-takes
returns-in-Ok-clause-takes g c =
    let k : c.as_slice.result.now ≡ c.in-Pair.key = search rules in
    let v : c.as_slice-in-Pair.result.now ≡ c.in-Pair.value = search rules in
    let u = g.V.Vault.view_of c.args.vault.now in
    let w = g.V.Vault.view_of c.store.new.vault in
    pair-taken c.args.how c.args.item c.as_slice.result.now c.as_slice-in-Pair.result.now c.args.store.now.file u w
    (c.in-Pair.is ∙ (ap (λ (x : List ℕ). Pair x c.in-Pair.value) (sym k) ∙ ap (λ (y : List ℕ). Pair c.as_slice.result.now y) (sym v)))
    (pair-stored c.args.how c.as_slice.result.now c.as_slice-in-Pair.result.now c.args.store.now c.store.new.self u w _ c.requires c.in-Ok.ensures.stored c.in-Ok.ensures.due)

pub returns-in-Pair-clause-takes : goal.returns-in-Pair-clause-takes
returns-in-Pair-clause-takes g c =
    let k : c.as_slice.result.now ≡ c.in-Pair.key = search rules in
    let v : c.as_slice-in-Pair.result.now ≡ c.in-Pair.value = search rules in
    let u = g.V.Vault.view_of c.args.vault.now in
    let w = g.V.Vault.view_of c.store.new.vault in (
      (c.as_slice.result.now, c.as_slice-in-Pair.result.now),
      c.in-Pair.is ∙ (ap (λ (x : List ℕ). Pair x c.in-Pair.value) (sym k) ∙ ap (λ (y : List ℕ). Pair c.as_slice.result.now y) (sym v)),
      pair-cause c.args.how c.as_slice.result.now c.as_slice-in-Pair.result.now c.args.store.now c.store.new.self u w c.in-Err.e c.requires c.store.ensures.frame c.in-Err.ensures.kept (c.in-Err.ensures.refused c.requires.calm c.requires.writer).cause,
      pair-left c.args.how c.args.store.now c.store.new.self u w c.in-Err.e c.in-Err.ensures.kept,
    )
