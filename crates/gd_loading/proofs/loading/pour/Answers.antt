use Rattle.std.proofs.Common.{◌∙◌, sym}
use Rattle.gd_loading.specs.Loads.{is_broken_by}
use Rattle.gd_loading.proofs.Closings.{closed-same, closed-writes, closes-as, on-closed}
use Rattle.gd_loading.proofs.loading.pour.Goals as goal

pub returns : goal.returns
returns g c =
    let s = c.args.store in
    let t = c.store_pairs-pairs.new.store in
    let u = g.V.Vault.view_of c.args.vault.now in
    let m = g.V.Vault.view_of c.store_pairs-pairs.new.vault in
    let v = g.V.Vault.view_of c.close_file-closing.new.vault in
    let r = c.store_pairs-pairs.result in
    let e = c.store_pairs-pairs.ensures in
    let k = c.close_file-closing.ensures in
    let closes = closes-as t.broken (is_broken_by r) s.file t.file t.access c.close_file-closing.result m v e.breaks e.keeps.file (e.keeps.access ∙ c.requires.loading.writer) k.synced k.broken in
    let same = closed-same (is_broken_by r) s.file c.close_file-closing.result m v closes in
    record {
      pairs = r;
      closing = c.close_file-closing.result;
      is = sym c.end_of.ensures;
      now = c.store_pairs-pairs.new.incoming;
      few = c.store_pairs-pairs.new.incoming.few;
      reads = on-closed c.args.how s.file u m v c.args.incoming c.store_pairs-pairs.new.incoming r _ _ same e.loads;
      none = e.none;
      ends = e.ended;
      writes = closed-writes (is_broken_by r) s.file c.close_file-closing.result u m v closes e.frame;
      mid = m;
      cause = e.cause;
      closes = closes;
    }
