use Rattle.std.proofs.Common.{ℕ, List, [], sym, ap, subst, ◌∙◌, arith}
use Rattle.gd_format.specs.declared.Extent.{Extent}
use Rattle.gd_format.specs.declared.Header.{Header}
use Rattle.gd_update.specs.Steps.{Steps, IsNext, KeepsBuckets}
use Rattle.gd_update.proofs.StepChains.{came, holds_after, holds_for, steps_for, steps_then}
use Rattle.gd_update.proofs.Heads.{division_writes, division_amount, wider_grown, wider_trans}
use Rattle.gd_open.proofs.Files.{writes_for}
use Rattle.gd_vault.proofs.Writes.{writes_trans}
use Rattle.gd_update.proofs.growing.divide.Goals as goal

pub widen-requires-clause-holds : goal.widen-requires-clause-holds
widen-requires-clause-holds g c = rw c.requires.second_none c.requires.holds

pub split_once-requires-clause-room : goal.split_once-requires-clause-room
split_once-requires-clause-room g c =
    let block = ap (λ (k : Header). k.block) c.in_ok-widen.ensures.widened.head in
    let room = c.in_ok-widen.ensures.room in
    omega (arith, block, room)

pub split_once-requires-clause-holds : goal.split_once-requires-clause-holds
split_once-requires-clause-holds g c =
    holds_for (g.V.Vault.view_of c.widen.new.vault) c.in_ok-widen.ensures.id (holds_after (g.V.Vault.view_of c.args.vault.now) (g.V.Vault.view_of c.widen.new.vault) c.args.file.now.id c.args.file.now.header c.widen.new.file.header c.args.file.now.table.next_block c.widen.new.file.table.next_block c.args.file.now.table.extents c.args.second.now.free
    c.widen.new.file.table.extents c.widen.new.loose.free 64 (λ bytes. KeepsBuckets (g.V.Vault.view_of c.args.vault.now) c.args.file.now.id c.args.file.now.header bytes c.widen.new.file.header)
    c.in_ok-widen.ensures.frame.within c.requires.file (rw c.requires.second_none c.requires.holds) c.in_ok-widen.ensures.steps)

pub split_once-requires-clause-bucket : goal.split_once-requires-clause-bucket
split_once-requires-clause-bucket g c = λ d y told there.
    let a = came (g.V.Vault.view_of c.args.vault.now) (g.V.Vault.view_of c.widen.new.vault) c.args.file.now.id c.args.file.now.header c.widen.new.file.header c.args.file.now.table.next_block c.widen.new.file.table.next_block c.args.file.now.table.extents c.args.second.now.free
    c.widen.new.file.table.extents c.widen.new.loose.free 64 (λ bytes. KeepsBuckets (g.V.Vault.view_of c.args.vault.now) c.args.file.now.id c.args.file.now.header bytes c.widen.new.file.header)
    c.in_ok-widen.ensures.frame.within c.requires.file (rw c.requires.second_none c.requires.holds) c.in_ok-widen.ensures.steps d y told (ap (λ (n : ℕ). d.files n) (sym c.in_ok-widen.ensures.id) ∙ there) in
    a.is c.args.hash c.args.at c.args.bucket.now c.requires.hash a.content a.file a.told a.there (c.requires.bucket a.content a.file a.told a.there)

pub returns-in_err-other-clause-amount : goal.returns-in_err-other-clause-amount
returns-in_err-other-clause-amount g c =
    division_amount (g.V.Vault.view_of c.args.vault.now) (g.V.Vault.view_of c.widen.new.vault) (g.V.Vault.view_of c.split_once.new.vault) c.args.file.now.header c.widen.new.file.header c.args.bucket.now.bits
    c.requires.fit.header (rw (← c.bits.ensures.is) c.in_ok-widen.ensures.widened) c.in_ok-widen.ensures.amount c.in_err-other.ensures.amount

pub returns-clause-amount : goal.returns-clause-amount
returns-clause-amount g c =
    division_amount (g.V.Vault.view_of c.args.vault.now) (g.V.Vault.view_of c.widen.new.vault) (g.V.Vault.view_of c.split_once.new.vault) c.args.file.now.header c.widen.new.file.header c.args.bucket.now.bits
    c.requires.fit.header (rw (← c.bits.ensures.is) c.in_ok-widen.ensures.widened) c.in_ok-widen.ensures.amount c.in_ok-other.ensures.amount

pub returns-clause-little : goal.returns-clause-little
returns-clause-little g c =
    division_writes (g.V.Vault.view_of c.args.vault.now) (g.V.Vault.view_of c.widen.new.vault) (g.V.Vault.view_of c.split_once.new.vault) c.args.file.now.header c.widen.new.file.header c.split_once.new.file.header c.args.bucket.now.bits
    c.requires.fit.header (rw (← c.bits.ensures.is) c.in_ok-widen.ensures.widened) (ap (λ (k : Header). k.dir_bits) c.in_ok-other.ensures.header) c.in_ok-widen.ensures.little c.in_ok-other.ensures.amount

pub returns-in_err-other-clause-wider : goal.returns-in_err-other-clause-wider
returns-in_err-other-clause-wider g c = wider_trans c.args.file.now.header c.widen.new.file.header c.split_once.new.file.header c.in_ok-widen.ensures.widened.head (wider_grown c.widen.new.file.header c.split_once.new.file.header c.in_err-other.ensures.header)

pub returns-clause-wider : goal.returns-clause-wider
returns-clause-wider g c = wider_trans c.args.file.now.header c.widen.new.file.header c.split_once.new.file.header c.in_ok-widen.ensures.widened.head (wider_grown c.widen.new.file.header c.split_once.new.file.header c.in_ok-other.ensures.header)

pub returns-in_err-other-clause-frame : goal.returns-in_err-other-clause-frame
returns-in_err-other-clause-frame g c = writes_trans c.widen.ensures.frame (writes_for c.widen.ensures.id c.split_once.ensures.frame)

pub returns-clause-frame : goal.returns-clause-frame
returns-clause-frame g c = writes_trans c.widen.ensures.frame (writes_for c.widen.ensures.id c.split_once.ensures.frame)

pub returns-clause-steps : goal.returns-clause-steps
returns-clause-steps g c =
    let one : Steps (g.V.Vault.view_of c.args.vault.now) (g.V.Vault.view_of c.widen.new.vault) c.args.file.now.id c.args.file.now.header c.widen.new.file.header c.args.file.now.table.next_block c.widen.new.file.table.next_block c.args.file.now.table.extents []
    c.widen.new.file.table.extents c.widen.new.loose.free 64 (λ bytes. KeepsBuckets (g.V.Vault.view_of c.args.vault.now) c.args.file.now.id c.args.file.now.header bytes c.widen.new.file.header) =
    subst (λ (l : List Extent). Steps (g.V.Vault.view_of c.args.vault.now) (g.V.Vault.view_of c.widen.new.vault) c.args.file.now.id c.args.file.now.header c.widen.new.file.header c.args.file.now.table.next_block c.widen.new.file.table.next_block c.args.file.now.table.extents l
    c.widen.new.file.table.extents c.widen.new.loose.free 64 (λ bytes. KeepsBuckets (g.V.Vault.view_of c.args.vault.now) c.args.file.now.id c.args.file.now.header bytes c.widen.new.file.header)) c.requires.second_none c.in_ok-widen.ensures.steps in
    steps_then (g.V.Vault.view_of c.args.vault.now) (g.V.Vault.view_of c.widen.new.vault) (g.V.Vault.view_of c.split_once.new.vault) c.args.file.now.id c.args.file.now.header c.widen.new.file.header c.split_once.new.file.header
    c.args.file.now.table.next_block c.widen.new.file.table.next_block c.split_once.new.file.table.next_block c.args.file.now.table.extents [] c.widen.new.file.table.extents c.widen.new.loose.free c.split_once.new.file.table.extents [] 64 32
    (λ bytes. KeepsBuckets (g.V.Vault.view_of c.args.vault.now) c.args.file.now.id c.args.file.now.header bytes c.widen.new.file.header)
    (λ bytes. IsNext bytes c.split_once.new.file.header c.args.hash c.args.at c.in_ok-other.other c.args.bucket.now.bits c.split_once.new.first c.split_once.new.second)
    one (steps_for (g.V.Vault.view_of c.widen.new.vault) (g.V.Vault.view_of c.split_once.new.vault) c.in_ok-widen.ensures.id c.in_ok-other.ensures.steps)
