use Rattle.std.proofs.Common.{Some, None, false, refl, ap, ◌∙◌}
use Rattle.gd_lang.specs.declared.commands.Command.TheVariants as commands
use Rattle.gd_session.specs.Due.{moving, set_kind, silent}
use Rattle.gd_session.proofs.Caused.{caused_done}
use Rattle.gd_session.proofs.Closed.{closes_as}
use Rattle.gd_session.proofs.Encoded.{answered_as, caused_as, caused_quit, stays_as, version_answer, version_caused}
use Rattle.gd_session.proofs.Counting.{out_none, said_counts, set_asks, step_counts, vault_none}
use Rattle.gd_session.proofs.Moved.{command_moves, said_error}
use Rattle.gd_session.proofs.session.Session.step.Goals as goal

pub returns-in-Nothing-clause-answer : goal.returns-in-Nothing-clause-answer
returns-in-Nothing-clause-answer g c = stays_as c.args.command.now commands.Nothing _ _ _ c.in-Nothing.is (λ a h. h)

pub returns-in-Nothing-clause-cause : goal.returns-in-Nothing-clause-cause
returns-in-Nothing-clause-cause g c = caused_as c.args.command.now commands.Nothing _ _ _ c.in-Nothing.is (caused_done silent _ _ refl)

pub returns-in-Nothing-clause-closes : goal.returns-in-Nothing-clause-closes
returns-in-Nothing-clause-closes g c = closes_as c.args.command.now _ _ _ _ _ c.in-Nothing.is tt

pub returns-in-Quit-clause-answer : goal.returns-in-Quit-clause-answer
returns-in-Quit-clause-answer g c = stays_as c.args.command.now commands.Quit _ _ _ c.in-Quit.is (λ a h. h)

pub returns-in-Quit-clause-cause : goal.returns-in-Quit-clause-cause
returns-in-Quit-clause-cause g c = caused_as c.args.command.now commands.Quit _ _ _ c.in-Quit.is (caused_quit _)

pub returns-in-Quit-clause-closes : goal.returns-in-Quit-clause-closes
returns-in-Quit-clause-closes g c = closes_as c.args.command.now _ _ _ _ _ c.in-Quit.is tt

pub returns-in-Version-clause-answer : goal.returns-in-Version-clause-answer
returns-in-Version-clause-answer g c = answered_as c.args.command.now commands.Version _ _ _ c.say_text.result c.in-Version.is (version_answer _ _ c.say_text.result refl refl c.say_text.ensures.said)

pub returns-in-Version-clause-cause : goal.returns-in-Version-clause-cause
returns-in-Version-clause-cause g c = caused_as c.args.command.now commands.Version _ _ c.say_text.result c.in-Version.is (version_caused _ _ c.say_text.result c.say_text.ensures.said)

pub returns-in-Version-clause-closes : goal.returns-in-Version-clause-closes
returns-in-Version-clause-closes g c = closes_as c.args.command.now _ _ _ _ _ c.in-Version.is tt

pub returns-in-Open-clause-answer : goal.returns-in-Open-clause-answer
returns-in-Open-clause-answer g c = answered_as c.args.command.now _ _ _ _ _ c.in-Open.is (c.open.ensures.answer _ _)

pub returns-in-Open-clause-cause : goal.returns-in-Open-clause-cause
returns-in-Open-clause-cause g c = caused_as c.args.command.now _ _ _ _ c.in-Open.is (c.open.ensures.cause _ _)

pub returns-in-Open-clause-closes : goal.returns-in-Open-clause-closes
returns-in-Open-clause-closes g c = closes_as c.args.command.now _ _ _ _ _ c.in-Open.is c.open.ensures.closes

pub returns-in-Close-clause-answer : goal.returns-in-Close-clause-answer
returns-in-Close-clause-answer g c = answered_as c.args.command.now _ _ _ _ _ c.in-Close.is (c.close.ensures.answer _ _)

pub returns-in-Close-clause-cause : goal.returns-in-Close-clause-cause
returns-in-Close-clause-cause g c = caused_as c.args.command.now _ _ _ _ c.in-Close.is (c.close.ensures.cause _ _)

pub returns-in-Close-clause-closes : goal.returns-in-Close-clause-closes
returns-in-Close-clause-closes g c = closes_as c.args.command.now _ _ _ _ _ c.in-Close.is c.close.ensures.synced

pub returns-in-Set-clause-answer : goal.returns-in-Set-clause-answer
returns-in-Set-clause-answer g c = answered_as c.args.command.now _ _ _ _ _ c.in-Set.is c.set.ensures.answer

pub returns-in-Set-clause-cause : goal.returns-in-Set-clause-cause
returns-in-Set-clause-cause g c = caused_as c.args.command.now _ _ _ _ c.in-Set.is c.set.ensures.cause

pub returns-in-Set-clause-closes : goal.returns-in-Set-clause-closes
returns-in-Set-clause-closes g c = closes_as c.args.command.now _ _ _ _ _ c.in-Set.is tt

pub returns-in-Count-clause-answer : goal.returns-in-Count-clause-answer
returns-in-Count-clause-answer g c = answered_as c.args.command.now _ _ _ _ _ c.in-Count.is c.answer.ensures.answer

pub returns-in-Count-clause-cause : goal.returns-in-Count-clause-cause
returns-in-Count-clause-cause g c = caused_as c.args.command.now _ _ _ _ c.in-Count.is c.answer.ensures.cause

pub returns-in-Count-clause-closes : goal.returns-in-Count-clause-closes
returns-in-Count-clause-closes g c = closes_as c.args.command.now _ _ _ _ _ c.in-Count.is tt

pub returns-in-Fetch-clause-answer : goal.returns-in-Fetch-clause-answer
returns-in-Fetch-clause-answer g c = answered_as c.args.command.now _ _ _ _ _ c.in-Fetch.is c.answer_key.ensures.answer

pub returns-in-Fetch-clause-cause : goal.returns-in-Fetch-clause-cause
returns-in-Fetch-clause-cause g c = caused_as c.args.command.now _ _ _ _ c.in-Fetch.is c.answer_key.ensures.cause

pub returns-in-Fetch-clause-closes : goal.returns-in-Fetch-clause-closes
returns-in-Fetch-clause-closes g c = closes_as c.args.command.now _ _ _ _ _ c.in-Fetch.is tt

pub returns-in-First-clause-answer : goal.returns-in-First-clause-answer
returns-in-First-clause-answer g c = answered_as c.args.command.now _ _ _ _ _ c.in-First.is c.answer-in-First.ensures.answer

pub returns-in-First-clause-cause : goal.returns-in-First-clause-cause
returns-in-First-clause-cause g c = caused_as c.args.command.now _ _ _ _ c.in-First.is c.answer-in-First.ensures.cause

pub returns-in-First-clause-closes : goal.returns-in-First-clause-closes
returns-in-First-clause-closes g c = closes_as c.args.command.now _ _ _ _ _ c.in-First.is tt

pub returns-in-None-clause-answer : goal.returns-in-None-clause-answer
returns-in-None-clause-answer g c = answered_as c.args.command.now (commands.Next None) _ _ _ _ (c.in-Next.is ∙ ap commands.Next c.in-None.is) c.answer-in-None.ensures.answer

pub returns-in-None-clause-cause : goal.returns-in-None-clause-cause
returns-in-None-clause-cause g c = caused_as c.args.command.now (commands.Next None) _ _ _ (c.in-Next.is ∙ ap commands.Next c.in-None.is) c.answer-in-None.ensures.cause

pub returns-in-None-clause-closes : goal.returns-in-None-clause-closes
returns-in-None-clause-closes g c = closes_as c.args.command.now (commands.Next None) _ _ _ _ (c.in-Next.is ∙ ap commands.Next c.in-None.is) tt

pub returns-in-Some-clause-answer : goal.returns-in-Some-clause-answer
returns-in-Some-clause-answer g c = answered_as c.args.command.now (commands.Next (Some c.in-Some.words)) _ _ _ _ (c.in-Next.is ∙ ap commands.Next c.in-Some.is) c.answer_key-in-Some.ensures.answer

pub returns-in-Some-clause-cause : goal.returns-in-Some-clause-cause
returns-in-Some-clause-cause g c = caused_as c.args.command.now (commands.Next (Some c.in-Some.words)) _ _ _ (c.in-Next.is ∙ ap commands.Next c.in-Some.is) c.answer_key-in-Some.ensures.cause

pub returns-in-Some-clause-closes : goal.returns-in-Some-clause-closes
returns-in-Some-clause-closes g c = closes_as c.args.command.now (commands.Next (Some c.in-Some.words)) _ _ _ _ (c.in-Next.is ∙ ap commands.Next c.in-Some.is) tt

pub returns-in-List-clause-answer : goal.returns-in-List-clause-answer
returns-in-List-clause-answer g c = answered_as c.args.command.now _ _ _ _ _ c.in-List.is c.answer-in-List.ensures.answer

pub returns-in-List-clause-cause : goal.returns-in-List-clause-cause
returns-in-List-clause-cause g c = caused_as c.args.command.now _ _ _ _ c.in-List.is c.answer-in-List.ensures.cause

pub returns-in-List-clause-closes : goal.returns-in-List-clause-closes
returns-in-List-clause-closes g c = closes_as c.args.command.now _ _ _ _ _ c.in-List.is tt

pub returns-in-Store-clause-answer : goal.returns-in-Store-clause-answer
returns-in-Store-clause-answer g c = answered_as c.args.command.now _ _ _ _ _ c.in-Store.is c.answer_pair.ensures.answer

pub returns-in-Store-clause-cause : goal.returns-in-Store-clause-cause
returns-in-Store-clause-cause g c = caused_as c.args.command.now _ _ _ _ c.in-Store.is c.answer_pair.ensures.cause

pub returns-in-Store-clause-closes : goal.returns-in-Store-clause-closes
returns-in-Store-clause-closes g c = closes_as c.args.command.now _ _ _ _ _ c.in-Store.is tt

pub returns-in-Insert-clause-answer : goal.returns-in-Insert-clause-answer
returns-in-Insert-clause-answer g c = answered_as c.args.command.now _ _ _ _ _ c.in-Insert.is c.answer_pair-in-Insert.ensures.answer

pub returns-in-Insert-clause-cause : goal.returns-in-Insert-clause-cause
returns-in-Insert-clause-cause g c = caused_as c.args.command.now _ _ _ _ c.in-Insert.is c.answer_pair-in-Insert.ensures.cause

pub returns-in-Insert-clause-closes : goal.returns-in-Insert-clause-closes
returns-in-Insert-clause-closes g c = closes_as c.args.command.now _ _ _ _ _ c.in-Insert.is tt

pub returns-in-Delete-clause-answer : goal.returns-in-Delete-clause-answer
returns-in-Delete-clause-answer g c = answered_as c.args.command.now _ _ _ _ _ c.in-Delete.is c.answer_key-in-Delete.ensures.answer

pub returns-in-Delete-clause-cause : goal.returns-in-Delete-clause-cause
returns-in-Delete-clause-cause g c = caused_as c.args.command.now _ _ _ _ c.in-Delete.is c.answer_key-in-Delete.ensures.cause

pub returns-in-Delete-clause-closes : goal.returns-in-Delete-clause-closes
returns-in-Delete-clause-closes g c = closes_as c.args.command.now _ _ _ _ _ c.in-Delete.is tt

pub returns-in-Fill-clause-answer : goal.returns-in-Fill-clause-answer
returns-in-Fill-clause-answer g c = answered_as c.args.command.now _ _ _ _ _ c.in-Fill.is c.answer-in-Fill.ensures.answer

pub returns-in-Fill-clause-cause : goal.returns-in-Fill-clause-cause
returns-in-Fill-clause-cause g c = caused_as c.args.command.now _ _ _ _ c.in-Fill.is c.answer-in-Fill.ensures.cause

pub returns-in-Fill-clause-closes : goal.returns-in-Fill-clause-closes
returns-in-Fill-clause-closes g c = closes_as c.args.command.now _ _ _ _ _ c.in-Fill.is tt

pub returns-in-Nothing-clause-counted : goal.returns-in-Nothing-clause-counted
returns-in-Nothing-clause-counted g c = step_counts c.args.command.now commands.Nothing _ _ _ _ _ c.in-Nothing.is refl refl

pub returns-in-Quit-clause-counted : goal.returns-in-Quit-clause-counted
returns-in-Quit-clause-counted g c = step_counts c.args.command.now commands.Quit _ _ _ _ _ c.in-Quit.is refl refl

pub returns-in-Version-clause-counted : goal.returns-in-Version-clause-counted
returns-in-Version-clause-counted g c = step_counts c.args.command.now commands.Version c.say_text.result _ _ _ _ c.in-Version.is (said_counts _ c.say_text.result _ _ _ _ _ _ c.say_text.ensures.said refl) c.say_text.ensures.sink

pub returns-in-Open-clause-counted : goal.returns-in-Open-clause-counted
returns-in-Open-clause-counted g c = step_counts c.args.command.now _ c.open.result _ _ _ _ c.in-Open.is c.open.ensures.counted (out_none None moving _ _ c.open.result _ refl (c.open.ensures.cause None 0))

pub returns-in-Close-clause-counted : goal.returns-in-Close-clause-counted
returns-in-Close-clause-counted g c = step_counts c.args.command.now _ c.close.result _ _ _ _ c.in-Close.is c.close.ensures.counted (out_none None moving _ _ c.close.result _ refl (c.close.ensures.cause None 0))

pub returns-in-Set-clause-counted : goal.returns-in-Set-clause-counted
returns-in-Set-clause-counted g c = step_counts c.args.command.now _ c.set.result _ _ _ _ c.in-Set.is (vault_none None (set_kind c.in-Set.setting) _ _ c.set.result _ (set_asks c.in-Set.setting) c.set.ensures.cause) c.set.ensures.sink

pub returns-in-Count-clause-counted : goal.returns-in-Count-clause-counted
returns-in-Count-clause-counted g c = step_counts c.args.command.now _ c.answer.result _ _ _ _ c.in-Count.is c.answer.ensures.counted c.answer.ensures.sink

pub returns-in-Fetch-clause-counted : goal.returns-in-Fetch-clause-counted
returns-in-Fetch-clause-counted g c = step_counts c.args.command.now _ c.answer_key.result _ _ _ _ c.in-Fetch.is c.answer_key.ensures.counted c.answer_key.ensures.sink

pub returns-in-First-clause-counted : goal.returns-in-First-clause-counted
returns-in-First-clause-counted g c = step_counts c.args.command.now _ c.answer-in-First.result _ _ _ _ c.in-First.is c.answer-in-First.ensures.counted c.answer-in-First.ensures.sink

pub returns-in-None-clause-counted : goal.returns-in-None-clause-counted
returns-in-None-clause-counted g c = step_counts c.args.command.now (commands.Next None) c.answer-in-None.result _ _ _ _ (c.in-Next.is ∙ ap commands.Next c.in-None.is) c.answer-in-None.ensures.counted c.answer-in-None.ensures.sink

pub returns-in-Some-clause-counted : goal.returns-in-Some-clause-counted
returns-in-Some-clause-counted g c = step_counts c.args.command.now (commands.Next (Some c.in-Some.words)) c.answer_key-in-Some.result _ _ _ _ (c.in-Next.is ∙ ap commands.Next c.in-Some.is) c.answer_key-in-Some.ensures.counted c.answer_key-in-Some.ensures.sink

pub returns-in-List-clause-counted : goal.returns-in-List-clause-counted
returns-in-List-clause-counted g c = step_counts c.args.command.now _ c.answer-in-List.result _ _ _ _ c.in-List.is c.answer-in-List.ensures.counted c.answer-in-List.ensures.sink

pub returns-in-Store-clause-counted : goal.returns-in-Store-clause-counted
returns-in-Store-clause-counted g c = step_counts c.args.command.now _ c.answer_pair.result _ _ _ _ c.in-Store.is c.answer_pair.ensures.counted c.answer_pair.ensures.sink

pub returns-in-Insert-clause-counted : goal.returns-in-Insert-clause-counted
returns-in-Insert-clause-counted g c = step_counts c.args.command.now _ c.answer_pair-in-Insert.result _ _ _ _ c.in-Insert.is c.answer_pair-in-Insert.ensures.counted c.answer_pair-in-Insert.ensures.sink

pub returns-in-Delete-clause-counted : goal.returns-in-Delete-clause-counted
returns-in-Delete-clause-counted g c = step_counts c.args.command.now _ c.answer_key-in-Delete.result _ _ _ _ c.in-Delete.is c.answer_key-in-Delete.ensures.counted c.answer_key-in-Delete.ensures.sink

pub returns-in-Fill-clause-counted : goal.returns-in-Fill-clause-counted
returns-in-Fill-clause-counted g c = step_counts c.args.command.now _ c.answer-in-Fill.result _ _ _ _ c.in-Fill.is c.answer-in-Fill.ensures.counted c.answer-in-Fill.ensures.sink

pub returns-in-Nothing-clause-leaves : goal.returns-in-Nothing-clause-leaves
returns-in-Nothing-clause-leaves g c = command_moves c.args.command.now commands.Nothing _ _ _ c.in-Nothing.is (refl, refl)

pub returns-in-Quit-clause-leaves : goal.returns-in-Quit-clause-leaves
returns-in-Quit-clause-leaves g c = command_moves c.args.command.now commands.Quit _ _ _ c.in-Quit.is (refl, refl)

pub returns-in-Version-clause-leaves : goal.returns-in-Version-clause-leaves
returns-in-Version-clause-leaves g c = command_moves c.args.command.now commands.Version _ _ _ c.in-Version.is (said_error (λ e. false) _ c.say_text.result _ _ _ _ c.say_text.ensures.said, refl)

pub returns-in-Open-clause-leaves : goal.returns-in-Open-clause-leaves
returns-in-Open-clause-leaves g c = command_moves c.args.command.now _ _ _ _ c.in-Open.is c.open.ensures.leaves

pub returns-in-Close-clause-leaves : goal.returns-in-Close-clause-leaves
returns-in-Close-clause-leaves g c = command_moves c.args.command.now _ _ _ _ c.in-Close.is c.close.ensures.leaves

pub returns-in-Set-clause-leaves : goal.returns-in-Set-clause-leaves
returns-in-Set-clause-leaves g c = command_moves c.args.command.now _ _ _ _ c.in-Set.is c.set.ensures.leaves

pub returns-in-Count-clause-leaves : goal.returns-in-Count-clause-leaves
returns-in-Count-clause-leaves g c = command_moves c.args.command.now _ _ _ _ c.in-Count.is tt

pub returns-in-Fetch-clause-leaves : goal.returns-in-Fetch-clause-leaves
returns-in-Fetch-clause-leaves g c = command_moves c.args.command.now _ _ _ _ c.in-Fetch.is tt

pub returns-in-First-clause-leaves : goal.returns-in-First-clause-leaves
returns-in-First-clause-leaves g c = command_moves c.args.command.now _ _ _ _ c.in-First.is tt

pub returns-in-List-clause-leaves : goal.returns-in-List-clause-leaves
returns-in-List-clause-leaves g c = command_moves c.args.command.now _ _ _ _ c.in-List.is tt

pub returns-in-Store-clause-leaves : goal.returns-in-Store-clause-leaves
returns-in-Store-clause-leaves g c = command_moves c.args.command.now _ _ _ _ c.in-Store.is tt

pub returns-in-Insert-clause-leaves : goal.returns-in-Insert-clause-leaves
returns-in-Insert-clause-leaves g c = command_moves c.args.command.now _ _ _ _ c.in-Insert.is tt

pub returns-in-Delete-clause-leaves : goal.returns-in-Delete-clause-leaves
returns-in-Delete-clause-leaves g c = command_moves c.args.command.now _ _ _ _ c.in-Delete.is tt

pub returns-in-Fill-clause-leaves : goal.returns-in-Fill-clause-leaves
returns-in-Fill-clause-leaves g c = command_moves c.args.command.now _ _ _ _ c.in-Fill.is tt

pub returns-in-None-clause-leaves : goal.returns-in-None-clause-leaves
returns-in-None-clause-leaves g c = command_moves c.args.command.now (commands.Next None) _ _ _ (c.in-Next.is ∙ ap commands.Next c.in-None.is) tt

pub returns-in-Some-clause-leaves : goal.returns-in-Some-clause-leaves
returns-in-Some-clause-leaves g c = command_moves c.args.command.now (commands.Next (Some c.in-Some.words)) _ _ _ (c.in-Next.is ∙ ap commands.Next c.in-Some.is) tt
