use Rattle.std.proofs.Common.{◌∙◌, ◌++◌, ◌+◌, ap, sym, refl}
use Rattle.gd_load.specs.Items.{waiting}
use Rattle.gd_loading.proofs.Rounds.{ended-input, ended-ok, ended-stop, none-after, none-of, reached-first, reached-read, reached-turned, stops-from, told-then, unread-still, writes-on}
use Rattle.gd_loading.proofs.Steps.{keeps-self, keeps-then, still-loading}
use Rattle.gd_vault.proofs.Writes.{writes_refl}
use Rattle.gd_loading.proofs.taking.store_pairs.Goals as goal

pub pages-preserved : goal.pages-preserved
pages-preserved g c =
    let u = g.V.Vault.view_of c.args.vault.now in
    let v = g.V.Vault.view_of c.pages.vault in
    let w = g.V.Vault.view_of c.take_read.new.vault in
    let inv = c.pages.invariant in
    let e = c.in-Ok-false.ensures in
    let t = c.in_default.ensures in
    let f = c.args.store.now.file in
    let first = c.args.incoming.now in
    let read = c.take_read.new.incoming in
    let now = c.turn_page.new.self in
    let r = inv.reached in
    let all = none-of read c.in-Ok-false.field-0 c.in-Ok-false.field-0-test e.none in
    let on = reached-read c.args.how f c.pages.store.file u v w first c.pages.incoming read c.in-Ok-false.field-0 r.bytes inv.keeps.file c.in-Ok-false.field-0-test e.rest.0 e.rest.1 r.says e.loads in
    record {
      loading = still-loading v w c.pages.store c.take_read.new.store inv.loading e.there e.fits e.keeps e.breaks;
      keeps = keeps-then c.args.store.now c.pages.store c.take_read.new.store inv.keeps e.keeps;
      frame = writes-on f c.pages.store.file u v w inv.keeps.file inv.frame e.frame;
      reached = record {
        bytes = r.bytes ++ waiting now;
        front = told-then r.bytes (waiting now) (g.S.Source.left c.args.input.now) (g.S.Source.left c.pages.input) (g.S.Source.left c.turn_page.new.input) r.front t.front;
        says = reached-turned c.args.how f u w first read now r.bytes all.0 all.1 t.reader (t.read ∙ ap (λ n. read.read + n) (sym t.size)) on;
      };
      faults = (e.cause 0 0).1 ∙ inv.faults;
      count = t.answered ∙ inv.count;
      ended = t.ended;
    }

pub returns-in-Ok-true-clause-frame : goal.returns-in-Ok-true-clause-frame
returns-in-Ok-true-clause-frame g c =
    writes-on c.args.store.now.file c.pages.store.file (g.V.Vault.view_of c.args.vault.now) (g.V.Vault.view_of c.pages.vault) (g.V.Vault.view_of c.take_read.new.vault) c.pages.invariant.keeps.file c.pages.invariant.frame c.take_read.ensures.frame

pub returns-in-Ok-true-clause-loads : goal.returns-in-Ok-true-clause-loads
returns-in-Ok-true-clause-loads g c =
    let inv = c.pages.invariant in
    let e = c.in-Ok-true.ensures in
    let r = inv.reached in
    record {
      bytes = r.bytes;
      front = r.front;
      says = ended-ok c.args.how c.args.store.now.file c.pages.store.file (g.V.Vault.view_of c.args.vault.now) (g.V.Vault.view_of c.pages.vault) (g.V.Vault.view_of c.take_read.new.vault)
          c.args.incoming.now c.pages.incoming c.take_read.new.incoming r.bytes c.in-Ok-true.field-0 inv.keeps.file c.in-Ok-true.field-0-test e.rest.0 e.rest.1 r.says e.loads;
    }

pub returns-in-Ok-true-clause-cause : goal.returns-in-Ok-true-clause-cause
returns-in-Ok-true-clause-cause g c = (c.pages.invariant.count, (c.in-Ok-true.ensures.cause 0 0).1 ∙ c.pages.invariant.faults)

pub returns-in-Err-clause-frame : goal.returns-in-Err-clause-frame
returns-in-Err-clause-frame g c =
    writes-on c.args.store.now.file c.pages.store.file (g.V.Vault.view_of c.args.vault.now) (g.V.Vault.view_of c.pages.vault) (g.V.Vault.view_of c.take_read.new.vault) c.pages.invariant.keeps.file c.pages.invariant.frame c.take_read.ensures.frame

pub returns-in-Err-clause-loads : goal.returns-in-Err-clause-loads
returns-in-Err-clause-loads g c =
    let inv = c.pages.invariant in
    let e = c.in-Err.ensures in
    let r = inv.reached in
    record {
      bytes = r.bytes;
      front = r.front;
      says = ended-stop c.args.how c.args.store.now.file c.pages.store.file (g.V.Vault.view_of c.args.vault.now) (g.V.Vault.view_of c.pages.vault) (g.V.Vault.view_of c.take_read.new.vault)
          c.args.incoming.now c.pages.incoming c.take_read.new.incoming r.bytes c.in-Err.ending inv.keeps.file e.rest.0 e.rest.1 r.says e.none e.loads;
    }

pub returns-in-Err-turn_page-clause-frame : goal.returns-in-Err-turn_page-clause-frame
returns-in-Err-turn_page-clause-frame g c =
    writes-on c.args.store.now.file c.pages.store.file (g.V.Vault.view_of c.args.vault.now) (g.V.Vault.view_of c.pages.vault) (g.V.Vault.view_of c.take_read.new.vault) c.pages.invariant.keeps.file c.pages.invariant.frame c.take_read.ensures.frame

pub returns-in-Err-turn_page-clause-loads : goal.returns-in-Err-turn_page-clause-loads
returns-in-Err-turn_page-clause-loads g c =
    let u = g.V.Vault.view_of c.args.vault.now in
    let v = g.V.Vault.view_of c.pages.vault in
    let w = g.V.Vault.view_of c.take_read.new.vault in
    let inv = c.pages.invariant in
    let e = c.in-Ok-false.ensures in
    let t = c.turn_page.ensures in
    let f = c.args.store.now.file in
    let first = c.args.incoming.now in
    let read = c.take_read.new.incoming in
    let now = c.turn_page.new.self in
    let r = inv.reached in
    let all = none-of read c.in-Ok-false.field-0 c.in-Ok-false.field-0-test e.none in
    let on = reached-read c.args.how f c.pages.store.file u v w first c.pages.incoming read c.in-Ok-false.field-0 r.bytes inv.keeps.file c.in-Ok-false.field-0-test e.rest.0 e.rest.1 r.says e.loads in
    record {
      bytes = r.bytes ++ waiting now;
      front = told-then r.bytes (waiting now) (g.S.Source.left c.args.input.now) (g.S.Source.left c.pages.input) (g.S.Source.left c.turn_page.new.input) r.front t.front;
      says = ended-input c.args.how f u w first now (r.bytes ++ waiting now) c.in-Err-turn_page.stop c.in-Err-turn_page.ensures.kind
          (reached-turned c.args.how f u w first read now r.bytes all.0 all.1 t.reader (unread-still read.read now.read now.at now.end _ c.in-Err-turn_page.ensures.unread c.in-Err-turn_page.ensures.stays.0 t.size) on);
    }

pub returns-in-Err-turn_page-clause-cause : goal.returns-in-Err-turn_page-clause-cause
returns-in-Err-turn_page-clause-cause g c = (
  stops-from c.in-Err-turn_page.stop (g.S.Source.fault_count c.args.input.now) (g.S.Source.fault_count c.pages.input) (g.S.Source.fault_count c.turn_page.new.input) c.turn_page.new.self.read c.pages.invariant.count c.in-Err-turn_page.ensures.cause,
  (c.in-Ok-false.ensures.cause 0 0).1 ∙ c.pages.invariant.faults,
)

pub pages-init : goal.pages-init
pages-init g c = record {
  loading = c.requires.loading;
  keeps = keeps-self c.args.store.now;
  frame = writes_refl (g.V.Vault.view_of c.args.vault.now);
  reached = reached-first c.args.how c.args.store.now.file (g.V.Vault.view_of c.args.vault.now) c.args.incoming.now (g.S.Source.left c.args.input.now);
  faults = refl;
  count = refl;
  ended = c.requires.ended;
}
