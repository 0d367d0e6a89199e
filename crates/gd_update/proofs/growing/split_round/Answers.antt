use Rattle.std.proofs.Common.{[], ap, arith}
use Rattle.gd_format.specs.declared.Header.{Header}
use Rattle.gd_space.proofs.Dones.{tells_none}
use Rattle.gd_update.specs.Held.{IsBucketOf}
use Rattle.gd_update.specs.Steps.{IsNext}
use Rattle.gd_space.specs.Calls.{free_lists}
use Rattle.gd_update.proofs.StepChains.{steps_say}
use Rattle.gd_update.proofs.Growth.{has_spare}
use Rattle.gd_update.proofs.NextBits.{half_is}
use Rattle.gd_update.proofs.growing.split_round.Goals as goal
use Rattle.gd_update.proofs.growing.split_round.Goals.{then-bits-ge24-via-then-bits-ge24, then-bits-ge24-via-else-bits-ge24+then-bits-before}

pub returns-then-bits-ge24-clause-told : goal.returns-then-bits-ge24-clause-told
returns-then-bits-ge24-clause-told g c = λ other.
    tells_none (g.V.Vault.view_of c.args.vault.now)
    (λ k told.
    let x = c.requires.file k told in
    let s = c.requires.holds k x.0 told x.1 in
    let spare = has_spare x.0.bytes c.args.file.now.header c.args.file.now.table.next_block (free_lists c.args.file.now.table.extents s.0 []) c.args.hash c.args.at c.args.bucket.now s.1 c.requires.hash (c.requires.bucket k x.0 told x.1) c.requires.full c.requires.few in
    let bits = c.bits-bits.ensures.is in
    let same = ap (λ (h : Header). h.dir_bits) c.header.ensures.is in
    let within = spare.within in
    let less = spare.spare in
    elim c.then-bits-ge24.branch [
      | then-bits-ge24-via-then-bits-ge24 w ↦ let t = w.if-bits-ge24.true in omega (arith, t, bits, less)
      | then-bits-ge24-via-else-bits-ge24+then-bits-before w ↦ let t = w.if-bits-before.true in omega (arith, t, bits, within, same)
    ])

pub returns-in-Ok-clause-steps : goal.returns-in-Ok-clause-steps
returns-in-Ok-clause-steps g c =
    steps_say (g.V.Vault.view_of c.args.vault.now) (g.V.Vault.view_of c.divide.new.vault) c.args.file.now.id c.args.file.now.header c.divide.new.file.header c.args.file.now.table.next_block c.divide.new.file.table.next_block c.args.file.now.table.extents []
    c.divide.new.file.table.extents [] 96
    (λ bytes. IsNext bytes c.divide.new.file.header c.args.hash c.args.at c.in-Ok.other c.args.bucket.now.bits c.divide.new.first c.divide.new.second)
    (λ bytes. IsBucketOf bytes c.divide.new.file.header c.args.hash c.take_half.result c.take_half.new.bucket)
    (λ bytes next. half_is bytes c.divide.new.file.header c.args.hash c.args.at c.in-Ok.other c.args.bucket.now.bits c.take_half.result c.divide.new.first c.divide.new.second c.take_half.new.bucket c.take_half.ensures.low c.take_half.ensures.high next)
    c.in-Ok.ensures.steps
