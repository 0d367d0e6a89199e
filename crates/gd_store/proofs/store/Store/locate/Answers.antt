use Rattle.std.proofs.Common.{ap}
use Rattle.gd_open.proofs.Opens.{of_file_stays}
use Rattle.gd_store.specs.Opened.{Opened}
use Rattle.gd_store.proofs.Asking.{opens_inside}
use Rattle.gd_store.proofs.Lookups.{of_key, found_told}
use Rattle.gd_store.proofs.store.Store.locate.Goals as goal

pub bucket_address-requires-clause-readable : goal.bucket_address-requires-clause-readable
bucket_address-requires-clause-readable g c =
    opens_inside (g.V.Vault.view_of c.args.vault.now) c.args.self.now c.self.inside.file.id c.self.inside.file.header (ap (λ (s : Opened). s.file) c.self.view_is) (ap (λ (s : Opened). s.header) c.self.view_is) c.requires.fits c.requires.whole

pub read_bucket-requires-clause-readable : goal.read_bucket-requires-clause-readable
read_bucket-requires-clause-readable g c =
    of_file_stays (g.V.Vault.view_of c.args.vault.now) (g.V.Vault.view_of c.bucket_address.new.vault) c.self.inside.file.id c.self.inside.file.header c.in_ok-at.ensures.asks
    (opens_inside (g.V.Vault.view_of c.args.vault.now) c.args.self.now c.self.inside.file.id c.self.inside.file.header (ap (λ (s : Opened). s.file) c.self.view_is) (ap (λ (s : Opened). s.header) c.self.view_is) c.requires.fits c.requires.whole)

pub find_key-requires-clause-bucket : goal.find_key-requires-clause-bucket
find_key-requires-clause-bucket g c =
    rw c.in_ok-bucket.ensures.same
    (of_key c.args.key.now c.self.inside.file.header c.self.inside.file.id c.in_ok-at.at c.hash-hash.result c.in_ok-bucket.bucket c.hash-hash.ensures.value
    (g.V.Vault.view_of c.args.vault.now) (g.V.Vault.view_of c.bucket_address.new.vault) (g.V.Vault.view_of c.read_bucket.new.vault) c.in_ok-at.ensures.asks c.in_ok-bucket.ensures.asks
    (opens_inside (g.V.Vault.view_of c.args.vault.now) c.args.self.now c.self.inside.file.id c.self.inside.file.header (ap (λ (s : Opened). s.file) c.self.view_is) (ap (λ (s : Opened). s.header) c.self.view_is) c.requires.fits c.requires.whole)
    c.in_ok-at.ensures.address c.in_ok-bucket.ensures.bucket)

pub returns-clause-found : goal.returns-clause-found
returns-clause-found g c =
    found_told c.args.key.now c.self.inside.file.header c.self.inside.file.id c.in_ok-at.at c.hash-hash.result c.in_ok-bucket.bucket c.hash-hash.ensures.value
    (g.V.Vault.view_of c.args.vault.now) (g.V.Vault.view_of c.bucket_address.new.vault) (g.V.Vault.view_of c.read_bucket.new.vault) c.args.self.now c.in_ok-place.place
    c.in_ok-at.ensures.asks c.in_ok-bucket.ensures.asks
    (ap (λ (s : Opened). s.file) c.self.view_is) (ap (λ (s : Opened). s.header) c.self.view_is)
    (opens_inside (g.V.Vault.view_of c.args.vault.now) c.args.self.now c.self.inside.file.id c.self.inside.file.header (ap (λ (s : Opened). s.file) c.self.view_is) (ap (λ (s : Opened). s.header) c.self.view_is) c.requires.fits c.requires.whole)
    c.in_ok-at.ensures.address c.in_ok-bucket.ensures.bucket (rw c.in_ok-bucket.ensures.same at c.in_ok-place.ensures.present) (rw c.in_ok-bucket.ensures.same at c.in_ok-place.ensures.absent)
