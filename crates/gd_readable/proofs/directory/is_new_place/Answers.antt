use Rattle.gd_readable.proofs.Seen.{places_more}
use Rattle.gd_readable.proofs.directory.is_new_place.Goals as goal

pub returns-in-Ok-clause-seen : goal.returns-in-Ok-clause-seen
returns-in-Ok-clause-seen c =
    places_more c.args.file.now c.args.header.now c.args.i c.args.at c.args.places.now c.insert.new.self c.requires.entry c.requires.seen c.in-Ok.ensures.updates.0
