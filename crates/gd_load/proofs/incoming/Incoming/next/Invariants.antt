use Rattle.std.proofs.Common.{◌≡◌}
use Rattle.gd_load.specs.Items.{EndsWith, ReadOn, pages_left}
use Rattle.gd_load.proofs.Onward.{Onward}
use Rattle.gd_load.proofs.incoming.Incoming.next.Given as goal

-- the same dump is still told
abbrev pub invariant-loop-item : goal.invariant-loop-item
invariant-loop-item g l = record {
  told : ReadOn (g.S.Source.left l.fn.input) (g.S.Source.left l.input) (Onward l.fn.self l.self);
  ended : EndsWith l.self.ended (g.S.Source.left l.input);
  count : g.S.Source.fault_count l.input ≡ g.S.Source.fault_count l.fn.input;
}

abbrev pub decreases-loop-item : goal.decreases-loop-item
decreases-loop-item g l = pages_left l.self.read l.self.ended
