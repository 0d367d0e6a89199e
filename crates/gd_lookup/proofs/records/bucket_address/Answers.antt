use Rattle.std.proofs.Common.{◌≡◌, ◌-◌, ◌/◌, ◌^◌, ℕ, ap, ◌∙◌}
use Rattle.gd_open.proofs.Blocks.{hash_within}
use Rattle.gd_lookup.proofs.records.bucket_address.Goals as goal

pub entry-requires-clause-within : goal.entry-requires-clause-within
entry-requires-clause-within g c =
    let i : c.from-i.result ≡ c.args.hash / 2 ^ (31 - c.args.file.now.header.dir_bits) = c.from-i.ensures ∙ ap (λ (n : ℕ). c.args.hash / 2 ^ (31 - n)) c.dir_bits.ensures.is in
    rw i (hash_within c.args.file.now.header c.args.hash (rw c.dir_bits.ensures.is at c.dir_bits.ensures.most) c.requires.hash)

pub returns-clause-address : goal.returns-clause-address
returns-clause-address g c =
    let i : c.from-i.result ≡ c.args.hash / 2 ^ (31 - c.args.file.now.header.dir_bits) = c.from-i.ensures ∙ ap (λ (n : ℕ). c.args.hash / 2 ^ (31 - n)) c.dir_bits.ensures.is in
    rw i at c.in_ok-at.ensures.address
