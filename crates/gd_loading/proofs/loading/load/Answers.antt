use Rattle.std.proofs.Common.{◌≡◌, ◌∙◌, ◌++◌, ap, sym, subst, refl, [], Some}
use Rattle.gd_load.specs.Front.{front_left}
use Rattle.gd_loading.specs.Load.{Entered, entry_due, format_in, target}
use Rattle.gd_loading.proofs.Rounds.{told-then}
use Rattle.gd_loading.proofs.Whole.{by-end, entered-by, front-out, loading-of, meant-by, named-for}
use Rattle.gd_loading.proofs.loading.load.Goals as goal

pub returns-in-Ok-None : goal.returns-in-Ok-None
returns-in-Ok-None g c =
    let r = c.in-Ok.ensures.starts in
    let b = c.in-Ok.begun in
    record {
      bytes = r.bytes;
      front = r.front;
      says = record {
        few = r.says.few;
        ended = r.says.ended;
        ends = r.says.ends;
        by = record {
          head = b.head;
          came = λ rest may. (front_left b.front rest, r.says.begins.told rest may, tt);
          none = meant-by c.in-Ok-None.field-0 (target c.args.name b.head.file) _ c.in-Ok-None.ensures c.in-Ok-None.field-0-is;
          count = c.in-Ok.ensures.counted;
          same = refl;
        };
      };
    }

pub returns-in-Err-name_for : goal.returns-in-Err-name_for
returns-in-Err-name_for g c =
    let r = c.in-Ok.ensures.starts in
    let b = c.in-Ok.begun in
    record {
      bytes = r.bytes;
      front = r.front;
      says = record {
        few = r.says.few;
        ended = r.says.ended;
        ends = r.says.ends;
        by = record {
          head = b.head;
          place = b.place;
          came = λ rest may. (front_left b.front rest, r.says.begins.told rest may, tt);
          text = [];
          named = tt;
          refused = record { is_due = tt; kind = tt; leaves = refl; count = refl };
          count = c.in-Ok.ensures.counted;
        };
      };
    }

pub returns-in-Err-enter : goal.returns-in-Err-enter
returns-in-Err-enter g c =
    let r = c.in-Ok.ensures.starts in
    let b = c.in-Ok.begun in
    record {
      bytes = r.bytes;
      front = r.front;
      says = record {
        few = r.says.few;
        ended = r.says.ended;
        ends = r.says.ends;
        by = record {
          head = b.head;
          place = b.place;
          came = λ rest may. (front_left b.front rest, r.says.begins.told rest may, tt);
          text = c.in-Ok-Some.name;
          named = named-for c.in-Err-enter.error (target c.args.name b.head.file) c.in-Ok-Some.name (meant-by c.in-Ok-Some.field-0 (target c.args.name b.head.file) (Some c.in-Ok-Some.name) c.in-Ok-Some.ensures c.in-Ok-Some.field-0-is);
          refused = c.in-Err-enter.ensures;
          count = c.in-Ok.ensures.counted;
        };
      };
    }

pub returns-in-Ok-enter : goal.returns-in-Ok-enter
returns-in-Ok-enter g c =
    let r = c.in-Ok.ensures.starts in
    let b = c.in-Ok.begun in
    let text = c.in-Ok-Some.name in
    let plan = c.args.plan in
    let t = g.V.Vault.view_of c.args.vault.now in
    let u = g.V.Vault.view_of c.enter.new.vault in
    let o = front-out plan.how c.in-Ok-enter.store b.front b.head b.place r.bytes r.says.ended
    (record { left = g.S.Source.left c.args.input.now; failed = g.S.Source.fault_count c.args.input.now; view = t })
    (record { left = g.S.Source.left c.start.new.input; failed = g.S.Source.fault_count c.start.new.input; view = u })
    (record { left = g.S.Source.left c.pour_begun.new.input; failed = g.S.Source.fault_count c.pour_begun.new.input; view = g.V.Vault.view_of c.pour_begun.new.vault })
    c.pour_begun.result r.says.begins.told r.says.begins.read r.says.begins.ended c.in-Ok.ensures.counted c.pour_begun.ensures in
    record {
      bytes = r.bytes ++ o.bytes;
      front = told-then r.bytes o.bytes (g.S.Source.left c.args.input.now) (g.S.Source.left c.start.new.input) (g.S.Source.left c.pour_begun.new.input) r.front o.front;
      says = record {
        few = o.few;
        ended = o.ended;
        ends = o.ends;
        by = by-end plan c.args.name c.args.used _ _ (r.bytes ++ o.bytes) o.ended c.pour_begun.result (record {
          head = b.head;
          place = b.place;
          text = text;
          named = meant-by c.in-Ok-Some.field-0 (target c.args.name b.head.file) (Some text) c.in-Ok-Some.ensures c.in-Ok-Some.field-0-is;
          opened = u;
          store = c.in-Ok-enter.store;
          entered = entered-by plan c.format_for.result (format_in b.head.format) text (λ d. entry_due d plan.update c.args.used text) t u c.in-Ok-enter.store c.format_for.ensures c.in-Ok-enter.ensures;
          poured = o.poured;
        });
      };
    }
