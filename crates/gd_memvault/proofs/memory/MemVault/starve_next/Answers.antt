use Rattle.std.proofs.Common.{◌∙◌, ap, refl}
use Rattle.gd_vault.specs.Views.{content_of}
use Rattle.gd_memvault.specs.Memory.{MemState, memory_told}
use Rattle.gd_memvault.proofs.Calls.{starved_changed}
use Rattle.gd_memvault.proofs.Logs.{nothing_keeps}
use Rattle.gd_memvault.proofs.memory.MemVault.starve_next.Goals as goal

pub returns-clause-changed : goal.returns-clause-changed
returns-clause-changed c = starved_changed c.args.self.now c.next_call.new.self c.do_nothing.new.self c.starve.new.self c.starve.result c.next_call.ensures.rest c.do_nothing.ensures.rest c.do_nothing.ensures.told c.starve.ensures.state c.starve.ensures.later

pub returns-clause-content : goal.returns-clause-content
returns-clause-content c = λ d told. (
  d,
  ap (λ (m : MemState). content_of (memory_told m)) c.starve.ensures.state ∙ nothing_keeps (memory_told c.next_call.new.self) (memory_told c.do_nothing.new.self) c.do_nothing.ensures.told d (ap (λ (m : MemState). content_of (memory_told m)) c.next_call.ensures.rest ∙ told),
  record { names = λ n. refl; files = λ f. refl },
)
