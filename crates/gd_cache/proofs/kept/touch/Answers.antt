use Rattle.std.proofs.Common.{sym, ap, ◌∙◌, ℕ, is_some}
use Rattle.lru.specs.LruCache.{LruCache, lru_cache}
use Rattle.gd_format.specs.Bucket.{Bucket}
use Rattle.gd_cache.specs.Cached.{addresses, held}
use Rattle.gd_cache.proofs.Helds.{promoted_same}
use Rattle.gd_cache.proofs.Uses.{listed, promoted-list, promoted-absent}
use Rattle.gd_cache.proofs.kept.touch.Goals as goal

pub returns-clause-there : goal.returns-clause-there
returns-clause-there c = c.promote.ensures.value ∙ listed c.args.at c.args.kept.now.entries

pub returns-clause-list : goal.returns-clause-list
returns-clause-list c there =
    let valid = c.len-count.ensures.valid in
    ap (λ (k : LruCache ℕ Bucket). addresses k.entries) c.promote.ensures.entries
    ∙ promoted-list c.args.at c.args.kept.now.cap c.args.kept.now.entries valid.0 valid.1 (sym (listed c.args.at c.args.kept.now.entries) ∙ sym c.promote.ensures.value ∙ there)

pub returns-clause-same : goal.returns-clause-same
returns-clause-same c a =
    ap (λ (k : LruCache ℕ Bucket). held k.entries a) c.promote.ensures.entries ∙ promoted_same c.args.at a c.args.kept.now.entries

pub returns-clause-absent : goal.returns-clause-absent
returns-clause-absent c absent =
    c.promote.ensures.entries
    ∙ ap (λ es. lru_cache es c.args.kept.now.cap) (promoted-absent c.args.at c.args.kept.now.entries (sym (listed c.args.at c.args.kept.now.entries) ∙ sym c.promote.ensures.value ∙ absent))

pub returns-clause-present : goal.returns-clause-present
returns-clause-present c there =
    let same = ap (λ (k : LruCache ℕ Bucket). held k.entries c.args.at) c.promote.ensures.entries ∙ promoted_same c.args.at c.args.at c.args.kept.now.entries in
    ap is_some same ∙ sym c.promote.ensures.value ∙ there
