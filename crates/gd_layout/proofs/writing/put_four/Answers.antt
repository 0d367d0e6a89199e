use Rattle.std.proofs.Common.{◌≡◌, length, ap, ◌∙◌, arith, rules}
use Rattle.std.proofs.lemmas.List.{take_all}
use Rattle.gd_layout.proofs.Pieces.{bytes_at-own, mid-back}
use Rattle.gd_layout.proofs.writing.put_four.Goals as goal

pub returns-clause-reads : goal.returns-clause-reads
returns-clause-reads c =
    let four : length c.args.bytes ≡ 4 = search rules in
    let long : length c.copy_from_slice.new.self ≡ 4 = ap length c.copy_from_slice.ensures.after ∙ four in
    bytes_at-own c.args.at _ 4 c.args.block.now c.copy_from_slice.new.self (omega arith) (omega (arith, long)) ∙ take_all 4 c.copy_from_slice.new.self (omega (arith, long))
    ∙ c.copy_from_slice.ensures.after

pub returns-clause-back : goal.returns-clause-back
returns-clause-back c =
    let four : length c.args.bytes ≡ 4 = search rules in
    mid-back c.args.at _ 4 c.args.block.now c.copy_from_slice.new.self (omega arith) (omega arith) (ap length c.copy_from_slice.ensures.after ∙ four)
