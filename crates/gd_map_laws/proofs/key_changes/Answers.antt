use Rattle.gd_map_laws.proofs.Change as changes
use Rattle.gd_map_laws.proofs.key_changes.Goals as goal

pub returns : goal.returns
returns c =
    record {
      key =
          λ old new h h' key value next next' pool pool' gone come rest sound shape made coming.
          changes.changed old new h key next next' pool pool' gone come rest sound made value coming h' shape;
      store = changes.stored;
      delete = changes.deleted;
    }
