use Rattle.std.proofs.Common.{sym, ap, ◌∙◌, ℕ}
use Rattle.lru.specs.LruCache.{LruCache}
use Rattle.gd_format.specs.Bucket.{Bucket}
use Rattle.gd_cache.specs.Cached.{addresses, held}
use Rattle.gd_cache.proofs.Helds.{gone, removed_others}
use Rattle.gd_cache.proofs.Uses.{removed}
use Rattle.gd_cache.proofs.kept.forget.Goals as goal

pub returns-clause-list : goal.returns-clause-list
returns-clause-list c =
    ap (λ (k : LruCache ℕ Bucket). addresses k.entries) c.pop-gone.ensures.entries ∙ removed c.args.at c.args.kept.now.entries c.len-count.ensures.valid.0

pub returns-clause-gone : goal.returns-clause-gone
returns-clause-gone c =
    gone c.args.at c.pop-gone.new.self.entries (addresses c.args.kept.now.entries)
    (ap (λ (k : LruCache ℕ Bucket). addresses k.entries) c.pop-gone.ensures.entries ∙ removed c.args.at c.args.kept.now.entries c.len-count.ensures.valid.0)

pub returns-clause-others : goal.returns-clause-others
returns-clause-others c a b ne is =
    removed_others c.args.at c.args.kept.now.entries a b ne (sym (ap (λ (k : LruCache ℕ Bucket). held k.entries a) c.pop-gone.ensures.entries) ∙ is)
