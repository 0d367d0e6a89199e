use Rattle.std.proofs.Common.{◌≡◌, ap, ◌∙◌, Option, Some, None, Bor, refl, is_some}
use Rattle.std.specs.Option.{option_copied}
use Rattle.gd_format.specs.Bucket.{Bucket}
use Rattle.gd_cache.specs.Cached.{Cached, addresses, is_listed}
use Rattle.gd_cache.proofs.Uses.{listed}
use Rattle.gd_cache.proofs.cache.Cache.get.Goals as goal

same_some : (o : Option (Bor Bucket)) → is_some o ≡ is_some (option_copied o)
same_some None = refl
same_some (Some x) = refl

pub returns-clause-there : goal.returns-clause-there
returns-clause-there c =
    same_some c.peek.result ∙ ap is_some c.peek.ensures ∙ listed c.args.at c.self.inside.kept.entries ∙ ap (λ (k : Cached). is_listed c.args.at (addresses k.entries)) c.self.view_is
