use Rattle.std.proofs.Common.{sym, ap, ◌∙◌}
use Rattle.gd_dump_reading.specs.Base64.{strict_bytes}
use Rattle.gd_dump_reading.proofs.Encodes.{strict-of, strict-text}
use Rattle.gd_dump.proofs.laws.strict_base64.Goals as goal

pub returns : goal.returns
returns c = λ text bytes. (
  λ read. let is = strict-text text bytes read in (sym is.0, is.1),
  λ is. ap strict_bytes is.0 ∙ strict-of bytes is.1,
)
