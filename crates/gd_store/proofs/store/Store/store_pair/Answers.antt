use Rattle.std.proofs.Common.{◌≡◌, ℕ, ◌+◌, ◌*◌, true, false, length, sym, ap, subst, ◌∙◌}
use Rattle.gd_format.specs.declared.Header.{Header}
use Rattle.gd_update.specs.Growth.{IsWider}
use Rattle.gd_format.specs.HeaderFault.{dir_size_of}
use Rattle.gd_space.specs.Effect.{WritesAtMost}
use Rattle.gd_vault.specs.Streams.{OnlyWrites}
use Rattle.gd_vault.proofs.Writes.{writes_only_asks, writes_trans}
use Rattle.gd_store.specs.Opened.{Opened}
use Rattle.gd_store.specs.Replies.{is_too_far}
use Rattle.gd_store.proofs.Changing.{counts_last, has_file_as, on_ok_always, on_ok_map, still_there, wider_put}
use Rattle.gd_store.proofs.Growth.{few_none, few_put, grows_not, put_writes, room_writes}
use Rattle.gd_store.proofs.Rooms.{can_put, due_counts, far_refusal_told, fits_asked, found_asked, key_refusal_told, none_due_told, put_place, stored_after}
use Rattle.gd_store.proofs.store.Store.store_pair.Goals as goal

pub returns-in-Some-clause-refused : goal.returns-in-Some-clause-refused
returns-in-Some-clause-refused g c =
    key_refusal_told (g.V.Vault.view_of c.args.vault.now) c.args.self.now c.args.key.now c.in_ok-located.located.hash c.in_ok-located.located.at c.in_ok-located.located.bucket c.in_ok-located.located.place
    (record { fits = c.requires.fits; whole = c.requires.whole; hash_is = c.in_ok-located.ensures.hash; elems = c.in_ok-located.ensures.slots; found = c.in_ok-located.ensures.found })
    (g.V.Vault.view_of c.locate.new.vault) c.args.how c.args.self.now.header.next_block c.args.value.now c.in-Some.e (sym c.refusal.ensures.is ∙ c.in-Some.is)

pub returns-then-is_too_far-clause-refused : goal.returns-then-is_too_far-clause-refused
returns-then-is_too_far-clause-refused g c =
    let same = c.self.view_is ∙ c.in_ok-located.ensures.same in
    let next : c.args.self.now.header.next_block ≡ c.header.result.now.next_block = sym (ap (λ (h : Header). h.next_block) c.header.ensures.is ∙ ap (λ (s : Opened). s.header.next_block) same) in
    let far : is_too_far c.args.self.now.header.next_block (length c.args.key.now + length c.args.value.now) ≡ true =
    ap (λ (n : ℕ). is_too_far n (length c.args.key.now + length c.args.value.now)) next ∙ sym c.is_too_far.ensures ∙ c.if-is_too_far.true in
    far_refusal_told (g.V.Vault.view_of c.args.vault.now) c.args.self.now c.args.key.now c.in_ok-located.located.hash c.in_ok-located.located.at c.in_ok-located.located.bucket c.in_ok-located.located.place
    (record { fits = c.requires.fits; whole = c.requires.whole; hash_is = c.in_ok-located.ensures.hash; elems = c.in_ok-located.ensures.slots; found = c.in_ok-located.ensures.found })
    (g.V.Vault.view_of c.locate.new.vault) c.args.how c.args.self.now.header.next_block c.args.value.now (sym c.refusal.ensures.is ∙ c.in_default.is) far

pub returns-clause-due : goal.returns-clause-due
returns-clause-due g c =
    let same = c.self.view_is ∙ c.in_ok-located.ensures.same in
    let next : c.args.self.now.header.next_block ≡ c.header.result.now.next_block = sym (ap (λ (h : Header). h.next_block) c.header.ensures.is ∙ ap (λ (s : Opened). s.header.next_block) same) in
    let near : is_too_far c.args.self.now.header.next_block (length c.args.key.now + length c.args.value.now) ≡ false =
    ap (λ (n : ℕ). is_too_far n (length c.args.key.now + length c.args.value.now)) next ∙ sym c.is_too_far.ensures ∙ c.if-is_too_far.false in
    on_ok_always c.put.result _
    (none_due_told (g.V.Vault.view_of c.args.vault.now) c.args.self.now c.args.key.now c.in_ok-located.located.hash c.in_ok-located.located.at c.in_ok-located.located.bucket c.in_ok-located.located.place
    (record { fits = c.requires.fits; whole = c.requires.whole; hash_is = c.in_ok-located.ensures.hash; elems = c.in_ok-located.ensures.slots; found = c.in_ok-located.ensures.found })
    c.args.how c.args.self.now.header.next_block c.args.value.now (sym c.refusal.ensures.is ∙ c.in_default.is) near)

pub make_ready-requires-clause-fits : goal.make_ready-requires-clause-fits
make_ready-requires-clause-fits g c = fits_asked (g.V.Vault.view_of c.args.vault.now) (g.V.Vault.view_of c.locate.new.vault) c.args.self.now c.locate.new.self c.in_ok-located.ensures.same c.in_ok-located.ensures.asks c.requires.fits

pub make_ready-requires-clause-found : goal.make_ready-requires-clause-found
make_ready-requires-clause-found g c =
    found_asked (g.V.Vault.view_of c.args.vault.now) (g.V.Vault.view_of c.locate.new.vault) c.args.self.now c.locate.new.self c.args.key.now c.in_ok-located.located.at c.in_ok-located.located.bucket c.in_ok-located.located.place
    c.in_ok-located.ensures.same c.in_ok-located.ensures.asks c.in_ok-located.ensures.found

pub put-requires-clause-told : goal.put-requires-clause-told
put-requires-clause-told g c =
    let there = has_file_as (g.V.Vault.view_of c.locate.new.vault) c.args.self.now c.locate.new.self c.in_ok-located.ensures.same (still_there (g.V.Vault.view_of c.args.vault.now) (g.V.Vault.view_of c.locate.new.vault) c.args.self.now.file c.in_ok-located.ensures.asks c.requires.file) in
    can_put (g.V.Vault.view_of c.locate.new.vault) (g.V.Vault.view_of c.make_ready.new.vault) c.locate.new.self.file c.make_ready.new.self _ c.args.key.now c.make_ready.new.located.at c.make_ready.new.located.bucket c.make_ready.new.located.place
    c.in_ok-make_ready.ensures.frame.within there c.self-2.view_is (ap (λ (s : Opened). s.file) c.in_ok-make_ready.ensures.rest) c.in_ok-make_ready.ensures.ready

pub put-requires-clause-place : goal.put-requires-clause-place
put-requires-clause-place g c =
    let there = has_file_as (g.V.Vault.view_of c.locate.new.vault) c.args.self.now c.locate.new.self c.in_ok-located.ensures.same (still_there (g.V.Vault.view_of c.args.vault.now) (g.V.Vault.view_of c.locate.new.vault) c.args.self.now.file c.in_ok-located.ensures.asks c.requires.file) in
    put_place (g.V.Vault.view_of c.locate.new.vault) (g.V.Vault.view_of c.make_ready.new.vault) c.locate.new.self.file c.self-2.inside.file.id c.make_ready.new.self.header c.make_ready.new.self.table c.args.key.now c.make_ready.new.located.at c.make_ready.new.located.bucket c.make_ready.new.located.place
    c.in_ok-make_ready.ensures.frame.within there (ap (λ (s : Opened). s.file) c.self-2.view_is ∙ ap (λ (s : Opened). s.file) c.in_ok-make_ready.ensures.rest) c.in_ok-make_ready.ensures.ready

pub returns-clause-stored : goal.returns-clause-stored
returns-clause-stored g c =
    let s' : Opened = record { file = c.put.new.file.id; header = c.put.new.file.header; table = c.put.new.file.table; access = c.self-2.inside.access; broken = c.self-2.inside.broken; cache = c.self-2.inside.cache } in
    let first = ap (λ (s : Opened). s.file) c.in_ok-located.ensures.same in
    let second : c.self-2.inside.file.id ≡ c.args.self.now.file = ap (λ (s : Opened). s.file) c.self-2.view_is ∙ ap (λ (s : Opened). s.file) c.in_ok-make_ready.ensures.rest ∙ first in
    let writer = ap (λ (s : Opened). s.access) c.self-2.view_is ∙ ap (λ (s : Opened). s.access) c.in_ok-make_ready.ensures.rest ∙ ap (λ (s : Opened). s.access) c.in_ok-located.ensures.same ∙ c.requires.writer in
    on_ok_map c.put.result _ _
    (stored_after (g.V.Vault.view_of c.args.vault.now) (g.V.Vault.view_of c.locate.new.vault) (g.V.Vault.view_of c.make_ready.new.vault) (g.V.Vault.view_of c.put.new.vault) c.args.self.now.file c.locate.new.self.file c.self-2.inside.file.id s'
    c.make_ready.new.self.header c.make_ready.new.self.table c.args.key.now c.args.value.now c.make_ready.new.located.at c.make_ready.new.located.bucket c.put.new.bucket c.make_ready.new.located.place first second c.in_ok-located.ensures.asks writer c.in_ok-make_ready.ensures.ready)
    c.put.ensures.changes

pub returns-clause-growth_none : goal.returns-clause-growth_none
returns-clause-growth_none g c =
    let q : Opened = record { file = c.self-2.inside.file.id; header = c.self-2.inside.file.header; table = c.self-2.inside.file.table; access = c.self-2.inside.access; broken = c.self-2.inside.broken; cache = c.self-2.inside.cache } in
    let file_is : c.self-2.inside.file.id ≡ c.args.self.now.file = ap (λ (s : Opened). s.file) c.self-2.view_is ∙ ap (λ (s : Opened). s.file) c.in_ok-make_ready.ensures.rest ∙ ap (λ (s : Opened). s.file) c.in_ok-located.ensures.same in
    on_ok_map c.put.result _ _
    (grows_not (g.V.Vault.view_of c.args.vault.now) (g.V.Vault.view_of c.locate.new.vault) (g.V.Vault.view_of c.make_ready.new.vault) c.args.self.now c.locate.new.self c.make_ready.new.self q c.self-2.inside.file.id c.args.key.now
    c.in_ok-located.located.hash c.in_ok-located.located.at c.in_ok-located.located.bucket c.in_ok-located.located.place c.make_ready.new.located.place c.make_ready.new.located.at c.make_ready.new.located.bucket (length c.args.key.now + length c.args.value.now) c.put.new.file.header.next_block
    (record { fits = c.requires.fits; whole = c.requires.whole; hash_is = c.in_ok-located.ensures.hash; elems = c.in_ok-located.ensures.slots; found = c.in_ok-located.ensures.found })
    c.in_ok-located.ensures.asks c.in_ok-located.ensures.same c.in_ok-make_ready.ensures.few c.in_ok-make_ready.ensures.ready c.in_ok-make_ready.ensures.place file_is c.self-2.view_is)
    c.put.ensures.growth_absent

pub returns-clause-header : goal.returns-clause-header
returns-clause-header g c =
    let first = ap (λ (s : Opened). s.header) c.in_ok-located.ensures.same in
    let before : IsWider c.args.self.now.header c.self-2.inside.file.header =
    subst (λ (h : Header). IsWider c.args.self.now.header h) (sym (ap (λ (s : Opened). s.header) c.self-2.view_is)) (subst (λ (h : Header). IsWider h c.make_ready.new.self.header) first c.in_ok-make_ready.ensures.header) in
    wider_put c.args.self.now.header c.self-2.inside.file.header c.put.new.file.header before c.put.ensures.header

pub returns-in_err-make_ready-clause-amount_few : goal.returns-in_err-make_ready-clause-amount_few
returns-in_err-make_ready-clause-amount_few g c =
    few_none (g.V.Vault.view_of c.args.vault.now) (g.V.Vault.view_of c.locate.new.vault) (g.V.Vault.view_of c.make_ready.new.vault) c.args.self.now c.locate.new.self c.make_ready.new.self c.args.key.now c.in_ok-located.ensures.asks c.in_ok-located.ensures.same c.in_err-make_ready.ensures.few _

pub returns-clause-amount_few : goal.returns-clause-amount_few
returns-clause-amount_few g c =
    let block : c.self-2.inside.file.header.block ≡ c.args.self.now.header.block = ap (λ (s : Opened). s.header.block) c.self-2.view_is ∙ ap (λ (h : Header). h.block) c.in_ok-make_ready.ensures.header ∙ ap (λ (s : Opened). s.header.block) c.in_ok-located.ensures.same in
    few_put (g.V.Vault.view_of c.args.vault.now) (g.V.Vault.view_of c.locate.new.vault) (g.V.Vault.view_of c.make_ready.new.vault) c.args.self.now c.locate.new.self c.make_ready.new.self c.args.key.now c.in_ok-located.ensures.asks c.in_ok-located.ensures.same c.in_ok-make_ready.ensures.few (g.V.Vault.view_of c.put.new.vault)
    (length c.args.key.now + length c.args.value.now) c.self-2.inside.file.header.block block c.put.ensures.amount

pub returns-in_err-make_ready-clause-amount : goal.returns-in_err-make_ready-clause-amount
returns-in_err-make_ready-clause-amount g c =
    let block : c.locate.new.self.header.block ≡ c.args.self.now.header.block = ap (λ (s : Opened). s.header.block) c.in_ok-located.ensures.same in
    subst (λ (b : ℕ). WritesAtMost (length c.args.key.now + length c.args.value.now + 100 * b + 4 * dir_size_of c.make_ready.new.self.header.dir_bits) (g.V.Vault.view_of c.args.vault.now) (g.V.Vault.view_of c.make_ready.new.vault)) block
    (room_writes (g.V.Vault.view_of c.args.vault.now) (g.V.Vault.view_of c.locate.new.vault) (g.V.Vault.view_of c.make_ready.new.vault) (length c.args.key.now + length c.args.value.now) c.locate.new.self.header.block c.make_ready.new.self.header.dir_bits c.in_ok-located.ensures.asks c.in_err-make_ready.ensures.amount)

pub returns-clause-amount : goal.returns-clause-amount
returns-clause-amount g c =
    let first : c.locate.new.self.header.block ≡ c.args.self.now.header.block = ap (λ (s : Opened). s.header.block) c.in_ok-located.ensures.same in
    let block : c.self-2.inside.file.header.block ≡ c.locate.new.self.header.block = ap (λ (s : Opened). s.header.block) c.self-2.view_is ∙ ap (λ (h : Header). h.block) c.in_ok-make_ready.ensures.header in
    let bits : c.put.new.file.header.dir_bits ≡ c.make_ready.new.self.header.dir_bits = ap (λ (h : Header). h.dir_bits) c.put.ensures.header ∙ ap (λ (s : Opened). s.header.dir_bits) c.self-2.view_is in
    subst (λ (b : ℕ). WritesAtMost (length c.args.key.now + length c.args.value.now + 100 * b + 4 * dir_size_of c.put.new.file.header.dir_bits) (g.V.Vault.view_of c.args.vault.now) (g.V.Vault.view_of c.put.new.vault)) first
    (put_writes (g.V.Vault.view_of c.args.vault.now) (g.V.Vault.view_of c.locate.new.vault) (g.V.Vault.view_of c.make_ready.new.vault) (g.V.Vault.view_of c.put.new.vault) (length c.args.key.now + length c.args.value.now) c.locate.new.self.header.block c.self-2.inside.file.header.block c.make_ready.new.self.header.dir_bits c.put.new.file.header.dir_bits c.in_ok-located.ensures.asks c.in_ok-make_ready.ensures.little c.put.ensures.amount block bits)

pub returns-clause-frame : goal.returns-clause-frame
returns-clause-frame g c =
    let first : c.locate.new.self.file ≡ c.args.self.now.file = ap (λ (s : Opened). s.file) c.in_ok-located.ensures.same in
    let second : c.self-2.inside.file.id ≡ c.args.self.now.file = ap (λ (s : Opened). s.file) c.self-2.view_is ∙ ap (λ (s : Opened). s.file) c.in_ok-make_ready.ensures.rest ∙ first in
    writes_trans (writes_only_asks c.in_ok-located.ensures.asks)
    (writes_trans (subst (λ (n : ℕ). OnlyWrites n (g.V.Vault.view_of c.locate.new.vault) (g.V.Vault.view_of c.make_ready.new.vault)) first c.in_ok-make_ready.ensures.frame) (subst (λ (n : ℕ). OnlyWrites n (g.V.Vault.view_of c.make_ready.new.vault) (g.V.Vault.view_of c.put.new.vault)) second c.put.ensures.frame))

pub returns-in-Some-clause-counted : goal.returns-in-Some-clause-counted
returns-in-Some-clause-counted g c = due_counts c.args.how c.in_ok-located.located.place _ c.in-Some.e _ _ (sym c.refusal.ensures.is ∙ c.in-Some.is) c.in_ok-located.ensures.answered

pub returns-clause-answered : goal.returns-clause-answered
returns-clause-answered g c = on_ok_map c.put.result _ _ (λ same. same ∙ c.in_ok-make_ready.ensures.answered ∙ c.in_ok-located.ensures.answered) c.put.ensures.answered

pub returns-clause-counted : goal.returns-clause-counted
returns-clause-counted g c =
    counts_last c.put.result (g.V.Vault.view_of c.args.vault.now).faults (g.V.Vault.view_of c.make_ready.new.vault).faults (g.V.Vault.view_of c.put.new.vault).faults
    (c.in_ok-make_ready.ensures.answered ∙ c.in_ok-located.ensures.answered) c.put.ensures.fault c.put.ensures.counted
