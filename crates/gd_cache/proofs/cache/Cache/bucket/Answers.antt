use Rattle.std.proofs.Common.{ℕ, refl, sym, ap, subst, ◌∙◌, length, arith}
use Rattle.lru.specs.LruCache.{LruCache}
use Rattle.gd_format.specs.Bucket.{Bucket}
use Rattle.gd_format.specs.HeaderFault.{slots_of}
use Rattle.gd_cache.specs.Blocks.{IsBucketOf}
use Rattle.gd_cache.specs.Cached.{Cached, held}
use Rattle.gd_cache.proofs.Files.{agrees_kept, agrees_read, buffer_length, slots_put}
use Rattle.gd_cache.proofs.cache.Cache.bucket.Goals as goal

pub returns-then-touch-clause-agrees : goal.returns-then-touch-clause-agrees
returns-then-touch-clause-agrees g c =
    let u = g.V.Vault.view_of c.args.vault.now in
    agrees_kept u u c.args.f.0 c.args.self.now (record { entries = c.touch.new.kept.entries; size = 0; block = c.self.inside.block }) refl (ap (λ (k : Cached). k.block) c.self.view_is)
    (λ a b is. ap (λ (k : Cached). held k.entries a) (sym c.self.view_is) ∙ sym (c.touch.ensures.same a) ∙ is)
    c.requires.agrees

pub returns-in_err-bucket-clause-agrees : goal.returns-in_err-bucket-clause-agrees
returns-in_err-bucket-clause-agrees g c =
    let u = g.V.Vault.view_of c.args.vault.now in
    let v = g.V.Vault.view_of c.read_bucket.new.vault in
    agrees_kept u v c.args.f.0 c.args.self.now (record { entries = c.touch.new.kept.entries; size = 0; block = c.self.inside.block }) c.read_bucket.ensures.asks.told (ap (λ (k : Cached). k.block) c.self.view_is)
    (λ a b is. ap (λ (k : Cached). held k.entries a) (sym c.self.view_is) ∙ sym (c.touch.ensures.same a) ∙ is)
    c.requires.agrees

pub returns-in_err-keep-clause-agrees : goal.returns-in_err-keep-clause-agrees
returns-in_err-keep-clause-agrees g c =
    let u = g.V.Vault.view_of c.args.vault.now in
    let v = g.V.Vault.view_of c.read_bucket.new.vault in
    agrees_kept u v c.args.f.0 c.args.self.now (record { entries = c.keep.new.kept.entries; size = 0; block = c.self.inside.block }) c.read_bucket.ensures.asks.told (ap (λ (k : Cached). k.block) c.self.view_is)
    (λ a b is. ap (λ (k : Cached). held k.entries a) (sym c.self.view_is) ∙ sym (c.touch.ensures.same a) ∙ ap (λ (k : LruCache ℕ Bucket). held k.entries a) (sym c.in_err-keep.ensures.err) ∙ is)
    c.requires.agrees

pub invariant_of-self-2 : goal.invariant_of-self-2
invariant_of-self-2 g c =
    let cap = c.keep.ensures.size ∙ c.touch.ensures.size in
    let size = ap length c.deref_mut.ensures.value in
    let slots = c.in_ok-bucket.ensures.slots ∙ ap slots_of (size ∙ c.self.invariant.buffer) in
    record {
      some = omega (arith, cap, c.self.invariant.some);
      few = omega (arith, cap, c.self.invariant.few);
      least = c.self.invariant.least;
      most = c.self.invariant.most;
      buffer = buffer_length c.self.inside.buf.len c.read_bucket.new.buf c.self.inside.buf.items (omega (arith, size, c.deref_mut.ensures.len)) (c.read_bucket.auto.buf ∙ size) ∙ c.self.invariant.buffer;
      slots = slots_put (slots_of c.self.inside.block) c.args.at c.in_ok-bucket.bucket c.self.inside.kept.entries c.keep.new.kept.entries
          (λ a b ne is. sym (c.touch.ensures.same a) ∙ c.keep.ensures.others a b ne is)
          c.in_ok-keep.ensures.put slots c.self.invariant.slots;
    }

pub returns-clause-agrees : goal.returns-clause-agrees
returns-clause-agrees g c =
    let u = g.V.Vault.view_of c.args.vault.now in
    let v = g.V.Vault.view_of c.read_bucket.new.vault in
    let block = ap (λ (k : Cached). k.block) c.self.view_is in
    let size = ap length c.deref_mut.ensures.value ∙ c.self.invariant.buffer ∙ block in
    agrees_read u v c.args.f.0 c.args.at c.in_ok-bucket.bucket c.args.self.now (record { entries = c.keep.new.kept.entries; size = 0; block = c.self.inside.block }) c.read_bucket.ensures.asks.told block
    (λ a b ne is. ap (λ (k : Cached). held k.entries a) (sym c.self.view_is) ∙ sym (c.touch.ensures.same a) ∙ c.keep.ensures.others a b ne is)
    c.in_ok-keep.ensures.put
    (λ content told x is. subst (λ n. IsBucketOf x.bytes n c.args.at c.in_ok-bucket.bucket) size (c.in_ok-bucket.ensures.bucket content told x is))
    c.requires.agrees
