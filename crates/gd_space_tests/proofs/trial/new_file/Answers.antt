use Rattle.std.proofs.Common.{refl, arith}
use Rattle.gd_memvault.specs.Memory.{memory_view}
use Rattle.gd_space_tests.proofs.Starts.{header_512, made_bytes}
use Rattle.gd_space_tests.proofs.trial.new_file.Goals as goal

pub returns-in-Ok-clause-header : goal.returns-in-Ok-clause-header
returns-in-Ok-clause-header c =
    let n = c.new_header-header.ensures in
    let b = c.block_for.ensures in
    header_512 c.new_header-header.result c.block_for.result n.new n.format n.block b.from (b.least (omega arith) 9 (omega arith))

pub returns-in-Ok-clause-bytes : goal.returns-in-Ok-clause-bytes
returns-in-Ok-clause-bytes c =
    let n = c.new_header-header.ensures in
    let b = c.block_for.ensures in
    made_bytes c.empty_file.new.vault (memory_view c.empty_file.new.vault) (memory_view c.make_file.new.vault) c.in_ok-f.f.0 c.new_header-header.result refl
    (header_512 c.new_header-header.result c.block_for.result n.new n.format n.block b.from (b.least (omega arith) 9 (omega arith)))
    c.in_ok-f.ensures.there c.in_ok-f.ensures.empty c.in-Ok.ensures.made
