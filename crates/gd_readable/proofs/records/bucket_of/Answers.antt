use Rattle.gd_readable.proofs.Walks.{bucket_place}
use Rattle.gd_readable.proofs.records.bucket_of.Goals as goal

pub block_from-requires-clause-entry : goal.block_from-requires-clause-entry
block_from-requires-clause-entry c = (bucket_place c.args.file.now c.args.header.now c.requires.readable c.args.i c.requires.within c.address_of.result c.address_of.ensures).0

pub block_from-requires-clause-fits : goal.block_from-requires-clause-fits
block_from-requires-clause-fits c = (bucket_place c.args.file.now c.args.header.now c.requires.readable c.args.i c.requires.within c.address_of.result c.address_of.ensures).1
