-- What a command does to the counts of faults, whatever the vault and the output tell.
use Rattle.std.specs.Prelude.{◌≡◌, ◌≤◌, ℕ}
use Rattle.gd_base.specs.Causes.{Rose}
use Rattle.gd_lang.specs.declared.commands.Command.{Command}
use Rattle.gd_lang.specs.declared.commands.Command.TheVariants as commands
use Rattle.gd_readable.specs.Asks.{Counts}
use Rattle.gd_session.specs.declared.reply.Reply.{Reply}
use Rattle.gd_session.specs.declared.reply.Reply.TheVariants.{Refused, SinkFault}
use Rattle.gd_session.specs.declared.request.Request.{Request}
use Rattle.gd_session.specs.declared.request.Request.TheVariants as requests

-- a fault of the vault raises its count, and every other answer leaves it
abbrev pub VaultCounts : Reply → (before now : ℕ) → Type 0
VaultCounts (Refused e) before now = Counts e before now
VaultCounts reply before now = now ≡ before

-- a fault of the output raises its count, and every other answer leaves it
abbrev pub OutCounts : Reply → (before now : ℕ) → Type 0
OutCounts SinkFault before now = Rose before now
OutCounts reply before now = now ≡ before

-- the lines that were read before a fault of the vault are printed too; where that fails, the answer is the later fault
abbrev pub ListCounts : Reply → (before now : ℕ) → Type 0
ListCounts SinkFault before now = before ≤ now
ListCounts reply before now = VaultCounts reply before now

-- the count of the vault, by the command
abbrev pub CommandCounts : Command → Reply → (before now : ℕ) → Type 0
CommandCounts commands.List reply before now = ListCounts reply before now
CommandCounts command reply before now = VaultCounts reply before now

abbrev pub RequestCounts : Request → Reply → (before now : ℕ) → Type 0
RequestCounts requests.List reply before now = ListCounts reply before now
RequestCounts request reply before now = VaultCounts reply before now

-- the counts of the vault and of the output before and after a command
pub record StepCounts (command : Command) (reply : Reply) (vault vault' out out' : ℕ) : Type 0 where
  pub asked : CommandCounts command reply vault vault'
  pub printed : OutCounts reply out out'
