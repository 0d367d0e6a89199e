use Rattle.std.proofs.Common.{refl}
use Rattle.gd_base.specs.declared.errors.Format.TheVariants.{Standard}
use Rattle.gd_memvault.specs.Memory.{memory_view}
use Rattle.gd_create.proofs.Powers.{is_header}
use Rattle.gd_space_tests.proofs.Starts.{is_512, starts_at}
use Rattle.gd_space_tests.proofs.trial.Trial.new.Goals as goal

pub load-requires-clause-header : goal.load-requires-clause-header
load-requires-clause-header c = rw c.in_ok-f.ensures.header (is_header Standard 512 6 is_512)

pub invariant_of-result : goal.invariant_of-result
invariant_of-result c =
    let e = c.in-Ok.ensures in
    let n = c.in_ok-f.ensures in
    starts_at c.new_file.new.vault (memory_view c.new_file.new.vault) (memory_view c.load.new.vault) c.in_ok-f.f.0 c.in_ok-f.header c.in-Ok.space c.in_ok-bucket.bucket c.in_ok-used.used.items refl e.asks.told n.header c.in_ok-used.ensures.items n.there n.bytes e.block e.table c.in_ok-bucket.ensures.free c.in_ok-bucket.ensures.slots
