use Rattle.std.proofs.Common.{◌∙◌, ◌+◌, ap, ap₂}
use Rattle.gd_base.specs.Memory.{ClockState, reading_at}
use Rattle.gd_base.proofs.Inputs.{gives_next}
use Rattle.gd_base.proofs.mem_clock.MemClockClock.now.Goals as goal

pub returns-clause-reading : goal.returns-clause-reading
returns-clause-reading c =
    let numbers = ap (λ (s : ClockState). s.numbers) c.self.view_is in
    let given = ap (λ (s : ClockState). s.given) c.self.view_is in
    gives_next c.args.self.now c.self.inside.numbers (c.self.inside.given + 1) c.reading-reading.result numbers (ap (λ n. n + 1) given) (c.reading-reading.ensures ∙ ap₂ reading_at (c.as_slice-2.ensures ∙ numbers) given)
