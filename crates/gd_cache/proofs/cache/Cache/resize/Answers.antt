use Rattle.std.proofs.Common.{◌≡◌, ◌<◌, Some, sym, ap, subst, ◌∙◌, take, ℕ}
use Rattle.std.proofs.lemmas.List.{take-map}
use Rattle.lru.specs.LruCache.{LruCache}
use Rattle.gd_format.specs.Bucket.{Bucket}
use Rattle.gd_format.specs.HeaderFault.{slots_of}
use Rattle.gd_cache.specs.Cached.{Cached, Entries, addresses, held}
use Rattle.gd_cache.proofs.Files.{slots_kept}
use Rattle.gd_cache.proofs.Helds.{taken}
use Rattle.gd_cache.proofs.cache.Cache.resize.Goals as goal

front_is : (c : goal.After-resize) → c.resize.new.self.entries ≡ take c.args.size c.self.inside.kept.entries
front_is c = ap (λ (k : LruCache ℕ Bucket). k.entries) c.resize.ensures ∙ ap (λ n. take n c.self.inside.kept.entries) c.size_of_list.ensures

size_is : (c : goal.After-resize) → c.resize.new.self.cap ≡ c.args.size
size_is c = ap (λ (k : LruCache ℕ Bucket). k.cap) c.resize.ensures ∙ c.size_of_list.ensures

kept_in : (c : goal.After-resize) (a : ℕ) (b : Bucket) → held c.resize.new.self.entries a ≡ Some b → held c.self.inside.kept.entries a ≡ Some b
kept_in c a b is = taken c.args.size c.self.inside.kept.entries a b (ap (λ (es : Entries). held es a) (sym (front_is c)) ∙ is)

pub invariant_of-self : goal.invariant_of-self
invariant_of-self c = record {
  some = subst (λ n. 0 < n) (sym (size_is c)) c.requires;
  few = subst (λ n. n < 4294967296) (sym (size_is c)) c.ranges.size.fits;
  least = c.self.invariant.least;
  most = c.self.invariant.most;
  buffer = c.self.invariant.buffer;
  slots = slots_kept (slots_of c.self.inside.block) c.self.inside.kept.entries c.resize.new.self.entries (kept_in c) c.self.invariant.slots;
}

pub returns-clause-list : goal.returns-clause-list
returns-clause-list c =
    ap addresses (front_is c)
    ∙ sym (take-map (λ (x : ℕ × Bucket). x.0) c.args.size c.self.inside.kept.entries)
    ∙ ap (λ (k : Cached). take c.args.size (addresses k.entries)) c.self.view_is

pub returns-clause-kept : goal.returns-clause-kept
returns-clause-kept c a b is = ap (λ (k : Cached). held k.entries a) (sym c.self.view_is) ∙ kept_in c a b is
