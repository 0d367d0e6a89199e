use Rattle.gd_memvault.specs.Disk.{call_of}
use Rattle.gd_memvault.specs.Ended.{is_done}
use Rattle.gd_memvault.specs.Log.{told_of}
use Rattle.gd_memvault.proofs.Sounds.{sound_after}
use Rattle.gd_memvault.proofs.memory.MemVault.change.Goals as goal

pub invariant_of-self : goal.invariant_of-self
invariant_of-self c = sound_after (call_of c.args.step) (is_done c.change.result) (told_of c.self.inside.disk c.self.inside.log) (told_of c.change.new.disk c.change.new.log) c.change.ensures.told c.self.invariant

pub invariant_of-self-in-Failed : goal.invariant_of-self-in-Failed
invariant_of-self-in-Failed c = sound_after (call_of c.args.step) (is_done c.change.result) (told_of c.self.inside.disk c.self.inside.log) (told_of c.change.new.disk c.change.new.log) c.change.ensures.told c.self.invariant

pub invariant_of-self-in-Starved : goal.invariant_of-self-in-Starved
invariant_of-self-in-Starved c = sound_after (call_of c.args.step) (is_done c.change.result) (told_of c.self.inside.disk c.self.inside.log) (told_of c.change.new.disk c.change.new.log) c.change.ensures.told c.self.invariant
