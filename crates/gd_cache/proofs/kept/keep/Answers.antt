use Rattle.std.proofs.Common.{sym, ap, ◌∙◌, ℕ}
use Rattle.lru.specs.LruCache.{LruCache}
use Rattle.gd_format.specs.Bucket.{Bucket}
use Rattle.gd_cache.specs.Cached.{addresses, held}
use Rattle.gd_cache.proofs.Helds.{put_same, put_others}
use Rattle.gd_cache.proofs.Uses.{listed, put-list}
use Rattle.gd_cache.proofs.kept.keep.Goals as goal

pub returns-in-Ok-clause-list : goal.returns-in-Ok-clause-list
returns-in-Ok-clause-list c =
    ap (λ (k : LruCache ℕ Bucket). addresses k.entries) c.in-Ok.ensures.entries ∙ put-list c.args.kept.now c.args.at c.args.bucket c.len-count.ensures.valid

pub returns-in-Ok-clause-put : goal.returns-in-Ok-clause-put
returns-in-Ok-clause-put c =
    ap (λ (k : LruCache ℕ Bucket). held k.entries c.args.at) c.in-Ok.ensures.entries ∙ put_same c.args.kept.now c.args.at c.args.bucket

pub returns-in-Ok-clause-others : goal.returns-in-Ok-clause-others
returns-in-Ok-clause-others c a b ne is =
    put_others c.args.kept.now c.args.at c.args.bucket a b ne (sym (ap (λ (k : LruCache ℕ Bucket). held k.entries a) c.in-Ok.ensures.entries) ∙ is)

pub returns-clause-there : goal.returns-clause-there
returns-clause-there c there = c.in-Err.ensures.succeeds (listed c.args.at c.args.kept.now.entries ∙ there)
