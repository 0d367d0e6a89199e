use Rattle.gd_readable.proofs.Passing.{starts_whole}
use Rattle.gd_readable.proofs.records.Records.start.Goals as goal

pub returns : goal.returns
returns c = starts_whole c.args.file.now c.args.header.now _ c.requires.header
