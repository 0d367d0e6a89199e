use Rattle.std.proofs.Common.{◌≡◌, ℕ, true, false, List, get_or, refl, sym, ap, ◌∙◌}
use Rattle.gd_format.specs.declared.Header.{Header}
use Rattle.gd_format.specs.declared.Slot.{Slot}
use Rattle.gd_format.specs.declared.Slot.TheVariants.{Empty}
use Rattle.gd_update.specs.Open.{slot_size}
use Rattle.gd_store.specs.Opened.{Opened}
use Rattle.gd_store.specs.Replies.{is_too_far}
use Rattle.gd_store.proofs.Changing.{absent_told, counts_fault, may_remove, near_due, on_ok_always, on_ok_map, present_told, removed, too_far_due}
use Rattle.gd_store.proofs.store.Store.delete_key.Goals as goal

pub returns-in_default-clause-refused : goal.returns-in_default-clause-refused
returns-in_default-clause-refused g c = record {
  kind = refl;
  cause = absent_told (g.V.Vault.view_of c.args.vault.now) c.args.self.now.file c.args.self.now.header c.args.key.now c.in_ok-located.located.at c.in_ok-located.located.bucket c.in_ok-located.located.place c.args.self.now.header.next_block c.in_default.is c.in_ok-located.ensures.found;
}

pub returns-then-is_too_far-clause-refused : goal.returns-then-is_too_far-clause-refused
returns-then-is_too_far-clause-refused g c =
    let same = c.self.view_is ∙ c.in_ok-located.ensures.same in
    let next : c.header.result.now.next_block ≡ c.args.self.now.header.next_block = ap (λ (h : Header). h.next_block) c.header.ensures.is ∙ ap (λ (s : Opened). s.header.next_block) same in
    let size : c.record_size-size.result ≡ slot_size (get_or c.in_ok-located.located.bucket.slots c.in-Some.place Empty) = c.record_size-size.ensures ∙ ap (λ (xs : List Slot). slot_size (get_or xs c.in-Some.place Empty)) c.slots.ensures.are in
    let far : is_too_far c.args.self.now.header.next_block (slot_size (get_or c.in_ok-located.located.bucket.slots c.in-Some.place Empty)) ≡ true =
    ap (λ (n : ℕ). is_too_far n (slot_size (get_or c.in_ok-located.located.bucket.slots c.in-Some.place Empty))) (sym next) ∙ ap (λ (n : ℕ). is_too_far c.header.result.now.next_block n) (sym size) ∙ sym c.is_too_far.ensures ∙ c.if-is_too_far.true in
    record {
      kind = refl;
      cause = λ k x told there.
          present_told (g.V.Vault.view_of c.args.vault.now) c.args.self.now.file c.args.self.now.header c.args.key.now c.in_ok-located.located.at c.in_ok-located.located.bucket c.in_ok-located.located.place c.in-Some.place c.args.self.now.header.next_block c.in-Some.is c.in_ok-located.ensures.found k x told there
          ∙ too_far_due c.args.self.now.header.next_block (slot_size (get_or c.in_ok-located.located.bucket.slots c.in-Some.place Empty)) far;
    }

pub returns-clause-present : goal.returns-clause-present
returns-clause-present g c =
    let same = c.self.view_is ∙ c.in_ok-located.ensures.same in
    let next : c.header.result.now.next_block ≡ c.args.self.now.header.next_block = ap (λ (h : Header). h.next_block) c.header.ensures.is ∙ ap (λ (s : Opened). s.header.next_block) same in
    let size : c.record_size-size.result ≡ slot_size (get_or c.in_ok-located.located.bucket.slots c.in-Some.place Empty) = c.record_size-size.ensures ∙ ap (λ (xs : List Slot). slot_size (get_or xs c.in-Some.place Empty)) c.slots.ensures.are in
    let near : is_too_far c.args.self.now.header.next_block (slot_size (get_or c.in_ok-located.located.bucket.slots c.in-Some.place Empty)) ≡ false =
    ap (λ (n : ℕ). is_too_far n (slot_size (get_or c.in_ok-located.located.bucket.slots c.in-Some.place Empty))) (sym next) ∙ ap (λ (n : ℕ). is_too_far c.header.result.now.next_block n) (sym size) ∙ sym c.is_too_far.ensures ∙ c.if-is_too_far.false in
    on_ok_always c.remove.result _
    (λ k x told there.
    present_told (g.V.Vault.view_of c.args.vault.now) c.args.self.now.file c.args.self.now.header c.args.key.now c.in_ok-located.located.at c.in_ok-located.located.bucket c.in_ok-located.located.place c.in-Some.place c.args.self.now.header.next_block c.in-Some.is c.in_ok-located.ensures.found k x told there
    ∙ near_due c.args.self.now.header.next_block (slot_size (get_or c.in_ok-located.located.bucket.slots c.in-Some.place Empty)) near)

pub remove-requires-clause-told : goal.remove-requires-clause-told
remove-requires-clause-told g c =
    let same = c.self.view_is ∙ c.in_ok-located.ensures.same in
    may_remove (g.V.Vault.view_of c.args.vault.now) (g.V.Vault.view_of c.locate.new.vault) c.args.self.now _ c.args.key.now c.in_ok-located.located.at c.in_ok-located.located.bucket c.in_ok-located.located.place c.in-Some.place
    same c.in-Some.is c.requires.fits c.requires.whole c.requires.writer c.in_ok-located.ensures.asks c.in_ok-located.ensures.found

pub returns-clause-deleted : goal.returns-clause-deleted
returns-clause-deleted g c =
    let same = c.self.view_is ∙ c.in_ok-located.ensures.same in
    let s' : Opened = record { file = c.remove.new.file.id; header = c.remove.new.file.header; table = c.remove.new.file.table; access = c.self.inside.access; broken = c.self.inside.broken; cache = c.self.inside.cache } in
    on_ok_map c.remove.result _ _
    (removed (g.V.Vault.view_of c.args.vault.now) (g.V.Vault.view_of c.locate.new.vault) (g.V.Vault.view_of c.remove.new.vault) c.args.self.now s' _ c.args.key.now c.in_ok-located.located.at c.in_ok-located.located.bucket c.remove.new.bucket c.in_ok-located.located.place c.in-Some.place
    same c.in-Some.is c.in_ok-located.ensures.asks refl c.requires.writer c.in_ok-located.ensures.found)
    c.remove.ensures.changes

pub returns-clause-answered : goal.returns-clause-answered
returns-clause-answered g c = on_ok_map c.remove.result _ _ (λ same. same ∙ c.in_ok-located.ensures.answered) c.remove.ensures.answered

pub returns-clause-counted : goal.returns-clause-counted
returns-clause-counted g c =
    counts_fault c.remove.result (g.V.Vault.view_of c.args.vault.now).faults (g.V.Vault.view_of c.locate.new.vault).faults (g.V.Vault.view_of c.remove.new.vault).faults c.in_ok-located.ensures.answered c.remove.ensures.error c.remove.ensures.fault
