use Rattle.std.proofs.Common.{◌≡◌, true, sym, ◌∙◌}
use Rattle.gd_readable.specs.Asks.{is_of_sound}
use Rattle.gd_readable.proofs.Refusals.{refuses, file_kind, sound_answer, answer_kind, counts_kind}
use Rattle.gd_verify.proofs.Whole.{read_by, sound_none, sound_some, there_after, told_after, asks_both, refused_at_once}
use Rattle.gd_verify.proofs.sounding.sound.Goals as goal

pub returns-in-Err-clause-refused : goal.returns-in-Err-clause-refused
returns-in-Err-clause-refused g c = refused_at_once c.in-Err.e c.args.f.0 (g.V.Vault.view_of c.args.vault.now) (g.V.Vault.view_of c.readable.new.vault) c.in-Err.ensures.refused

pub space_refusal-requires-clause-there : goal.space_refusal-requires-clause-there
space_refusal-requires-clause-there g c = there_after (g.V.Vault.view_of c.args.vault.now) (g.V.Vault.view_of c.readable.new.vault) c.args.f.0 c.readable.ensures.asks c.requires

pub returns-in-Err-Fault-clause-asks : goal.returns-in-Err-Fault-clause-asks
returns-in-Err-Fault-clause-asks g c = asks_both (g.V.Vault.view_of c.args.vault.now) (g.V.Vault.view_of c.readable.new.vault) (g.V.Vault.view_of c.space_refusal.new.vault) c.readable.ensures.asks c.space_refusal.ensures.same c.space_refusal.ensures.later

pub returns-in-Err-NoMemory-clause-asks : goal.returns-in-Err-NoMemory-clause-asks
returns-in-Err-NoMemory-clause-asks g c = asks_both (g.V.Vault.view_of c.args.vault.now) (g.V.Vault.view_of c.readable.new.vault) (g.V.Vault.view_of c.space_refusal.new.vault) c.readable.ensures.asks c.space_refusal.ensures.same c.space_refusal.ensures.later

pub returns-in-Some-clause-asks : goal.returns-in-Some-clause-asks
returns-in-Some-clause-asks g c = asks_both (g.V.Vault.view_of c.args.vault.now) (g.V.Vault.view_of c.readable.new.vault) (g.V.Vault.view_of c.space_refusal.new.vault) c.readable.ensures.asks c.space_refusal.ensures.same c.space_refusal.ensures.later

pub returns-in-Some-clause-refused : goal.returns-in-Some-clause-refused
returns-in-Some-clause-refused g c =
    let kind : is_of_sound c.in-Some.e ≡ true = rw c.in-Some.is at c.in-Ok-space_refusal.ensures.kind in
    refuses c.in-Some.e _ _ (file_kind c.in-Some.e kind)
    (λ c' x told is.
    let file = c.in-Ok.ensures.readable c' told x is in
    let told_here = told_after (g.V.Vault.view_of c.args.vault.now) (g.V.Vault.view_of c.readable.new.vault) c.args.f.0 c' x c.readable.ensures.asks told is in
    sound_some x.bytes c.in-Ok.header c.in-Some.e file.0 file.1 (sym c.in-Some.is ∙ c.in-Ok-space_refusal.ensures.refusal x.bytes told_here (read_by x.bytes c.in-Ok.header file.0 file.1)))

pub returns-in-None-clause-asks : goal.returns-in-None-clause-asks
returns-in-None-clause-asks g c = asks_both (g.V.Vault.view_of c.args.vault.now) (g.V.Vault.view_of c.readable.new.vault) (g.V.Vault.view_of c.space_refusal.new.vault) c.readable.ensures.asks c.space_refusal.ensures.same c.space_refusal.ensures.later

pub returns-in-None-clause-sound : goal.returns-in-None-clause-sound
returns-in-None-clause-sound g c =
    λ c' told x is.
    let file = c.in-Ok.ensures.readable c' told x is in
    let told_here = told_after (g.V.Vault.view_of c.args.vault.now) (g.V.Vault.view_of c.readable.new.vault) c.args.f.0 c' x c.readable.ensures.asks told is in
    (sound_none x.bytes c.in-Ok.header file.0 file.1 (sym c.in-None.is ∙ c.in-Ok-space_refusal.ensures.refusal x.bytes told_here (read_by x.bytes c.in-Ok.header file.0 file.1)), file.1)

pub returns-in-Err-clause-kind : goal.returns-in-Err-clause-kind
returns-in-Err-clause-kind g c = sound_answer c.in-Err.e c.in-Err.ensures.kind

pub returns-in-Some-clause-kind : goal.returns-in-Some-clause-kind
returns-in-Some-clause-kind g c =
    let kind : is_of_sound c.in-Some.e ≡ true = rw c.in-Some.is at c.in-Ok-space_refusal.ensures.kind in
    answer_kind c.in-Some.e kind

pub returns-in-Some-clause-counted : goal.returns-in-Some-clause-counted
returns-in-Some-clause-counted g c =
    let kind : is_of_sound c.in-Some.e ≡ true = rw c.in-Some.is at c.in-Ok-space_refusal.ensures.kind in
    counts_kind c.in-Some.e _ _ kind (c.in-Ok-space_refusal.ensures.answered ∙ c.in-Ok.ensures.answered)
