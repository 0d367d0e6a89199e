use Rattle.std.proofs.Common.{ap, ◌∙◌}
use Rattle.gd_format.specs.HeaderFault.{slots_of}
use Rattle.gd_cache.proofs.Files.{slots_length}
use Rattle.gd_cache.proofs.blocks.read_bucket.Goals as goal

pub returns-in-Ok-clause-slots : goal.returns-in-Ok-clause-slots
returns-in-Ok-clause-slots g c =
    slots_length c.read_block.new.buf _ c.in-Ok.bucket c.in-Ok.ensures.ok.0 ∙ c.slots_in.ensures ∙ ap slots_of c.read_block.auto.buf
