use Rattle.std.proofs.Common.{None, refl, sym, ◌∙◌}
use Rattle.gd_session.specs.Due.{counting, moving}
use Rattle.gd_session.specs.Rows.{Fills}
use Rattle.gd_session.specs.State.{seen}
use Rattle.gd_session.proofs.Fillings.{calm_db, early_answer, early_caused, fill_caused, fill_done, fill_refused, fill_said_caused}
use Rattle.gd_session.proofs.Counting.{early_counts, early_out, out_none, said_counts}
use Rattle.gd_session.proofs.session.Session.fill.Goals as goal

pub returns-in-Some-clause-answer : goal.returns-in-Some-clause-answer
returns-in-Some-clause-answer g c =
    early_answer (Fills c.args.start c.args.count) c.args.self.now (g.V.Vault.view_of c.args.vault.now) _ _ c.in-Some.refusal c.write_refusal.result c.requires.opened c.write_refusal.ensures c.in-Some.is

pub returns-in-Some-clause-cause : goal.returns-in-Some-clause-cause
returns-in-Some-clause-cause g c = early_caused counting _ c.in-Some.refusal c.write_refusal.result refl c.write_refusal.ensures c.in-Some.is

pub returns-in-Ok-clause-answer : goal.returns-in-Ok-clause-answer
returns-in-Ok-clause-answer g c =
    fill_done c.args.start c.args.count c.args.self.now c.put_pairs.new.self _ _ _ _ _ _ c.in-Ok.counts c.say_counts.result (calm_db c.args.self.now.phase c.requires.opened (sym c.write_refusal.ensures ∙ c.in_default.is)) c.in-Ok.ensures.filled c.say_counts.ensures.said c.say_counts.ensures.later

pub returns-in-Ok-clause-cause : goal.returns-in-Ok-clause-cause
returns-in-Ok-clause-cause g c = fill_said_caused c.args.self.now c.put_pairs.new.self _ _ _ _ _ _ _ c.say_counts.result (sym c.write_refusal.ensures ∙ c.in_default.is) c.say_counts.ensures.said

pub returns-in-Err-clause-answer : goal.returns-in-Err-clause-answer
returns-in-Err-clause-answer g c =
    fill_refused c.args.start c.args.count c.args.self.now c.put_pairs.new.self _ _ _ _ c.in-Err.reply (calm_db c.args.self.now.phase c.requires.opened (sym c.write_refusal.ensures ∙ c.in_default.is)) c.in-Err.ensures.filled

pub returns-in-Err-clause-cause : goal.returns-in-Err-clause-cause
returns-in-Err-clause-cause g c = fill_caused c.args.self.now c.put_pairs.new.self _ _ _ _ c.in-Err.reply (sym c.write_refusal.ensures ∙ c.in_default.is) c.in-Err.ensures.cause

pub returns-in-Some-clause-counted : goal.returns-in-Some-clause-counted
returns-in-Some-clause-counted g c = early_counts (seen c.args.self.now).phase c.in-Some.refusal c.write_refusal.result _ c.write_refusal.ensures c.in-Some.is

pub returns-in-Some-clause-sink : goal.returns-in-Some-clause-sink
returns-in-Some-clause-sink g c = early_out (seen c.args.self.now).phase c.in-Some.refusal c.write_refusal.result _ c.write_refusal.ensures c.in-Some.is

pub returns-in-Ok-clause-counted : goal.returns-in-Ok-clause-counted
returns-in-Ok-clause-counted g c = said_counts _ c.say_counts.result _ _ _ _ _ _ c.say_counts.ensures.said c.in-Ok.ensures.answered

pub returns-in-Err-clause-sink : goal.returns-in-Err-clause-sink
returns-in-Err-clause-sink g c = out_none None moving _ _ c.in-Err.reply _ refl (c.in-Err.ensures.cause None 0)
