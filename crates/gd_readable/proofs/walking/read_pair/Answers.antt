use Rattle.std.proofs.Common.{◌≡◌, true, length, take, drop, ap, ◌∙◌}
use Rattle.std.specs.Prelude.{ℕ}
use Rattle.gd_format.specs.Field.{bytes_at}
use Rattle.gd_format.specs.HeaderFault.{natural}
use Rattle.gd_format.specs.File.{is_record_in, size_of}
use Rattle.gd_readable.specs.Asks.{kept_of, bytes_in, Tells}
use Rattle.gd_readable.proofs.Places.{key_part, value_part}
use Rattle.gd_readable.proofs.walking.read_pair.Goals as goal

pub returns-in-Ok-clause-pair : goal.returns-in-Ok-clause-pair
returns-in-Ok-clause-pair g c =
    λ file told right.
    let bytes : Tells (bytes_in (kept_of (g.V.Vault.view_of c.args.vault.now)) c.args.f.0) (λ file. is_record_in (length file) c.args.raw.now ≡ true → c.in-Some.bytes.items ≡ bytes_at file (natural c.args.raw.now.at) (size_of c.args.raw.now)) = rw c.in-Some.is at c.in_ok-bytes.ensures.bytes in
    let read = c.deref.ensures.value ∙ bytes file told right in
    let size = c.key_size.ensures.value in (
      c.in-Ok.ensures.key ∙ ap (λ (n : ℕ). take n c.deref.result.now) size ∙ key_part file c.deref.result.now c.args.raw.now read,
      c.in-Ok.ensures.value ∙ ap (λ (n : ℕ). drop n c.deref.result.now) size ∙ value_part file c.deref.result.now c.args.raw.now read,
    )
