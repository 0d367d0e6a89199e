use Rattle.std.proofs.Common.{Some, None, refl, ap, ◌∙◌}
use Rattle.gd_session.specs.Due.{changing, moving}
use Rattle.gd_session.proofs.Caused.{caused_wider, moving_changing}
use Rattle.gd_session.proofs.Commands.{grows_asked, grows_wider}
use Rattle.gd_session.proofs.Encoded.{next_answer, request_as, request_caused}
use Rattle.gd_session.specs.declared.request.Request.TheVariants as requests
use Rattle.gd_session.proofs.Counting.{out_none, request_counts}
use Rattle.gd_session.proofs.session.Session.answer_open.Goals as goal

pub returns-in-Count-clause-grows : goal.returns-in-Count-clause-grows
returns-in-Count-clause-grows g c = grows_asked _ _ c.count.ensures.asks

pub returns-in-Count-clause-answer : goal.returns-in-Count-clause-answer
returns-in-Count-clause-answer g c = request_as c.args.request.now _ _ _ c.count.result c.in-Count.is c.count.ensures.answer

pub returns-in-Count-clause-cause : goal.returns-in-Count-clause-cause
returns-in-Count-clause-cause g c = request_caused c.args.request.now _ _ _ _ c.count.result c.in-Count.is c.count.ensures.cause

pub returns-in-Fetch-clause-grows : goal.returns-in-Fetch-clause-grows
returns-in-Fetch-clause-grows g c = grows_asked _ _ c.fetch.ensures.asks

pub returns-in-Fetch-clause-answer : goal.returns-in-Fetch-clause-answer
returns-in-Fetch-clause-answer g c = request_as c.args.request.now (requests.Fetch c.in-Fetch.key) _ _ c.fetch.result c.in-Fetch.is (rw c.as_slice.ensures at c.fetch.ensures.answer)

pub returns-in-Fetch-clause-cause : goal.returns-in-Fetch-clause-cause
returns-in-Fetch-clause-cause g c = request_caused c.args.request.now _ _ _ _ c.fetch.result c.in-Fetch.is c.fetch.ensures.cause

pub returns-in-First-clause-grows : goal.returns-in-First-clause-grows
returns-in-First-clause-grows g c = grows_asked _ _ c.first.ensures.asks

pub returns-in-First-clause-answer : goal.returns-in-First-clause-answer
returns-in-First-clause-answer g c = request_as c.args.request.now _ _ _ c.first.result c.in-First.is c.first.ensures.answer

pub returns-in-First-clause-cause : goal.returns-in-First-clause-cause
returns-in-First-clause-cause g c = request_caused c.args.request.now _ _ _ _ c.first.result c.in-First.is c.first.ensures.cause

pub returns-in-None-clause-grows : goal.returns-in-None-clause-grows
returns-in-None-clause-grows g c = grows_asked _ _ c.next_last.ensures.asks

pub returns-in-None-clause-answer : goal.returns-in-None-clause-answer
returns-in-None-clause-answer g c = request_as c.args.request.now (requests.Next None) _ _ c.next_last.result (c.in-Next.is ∙ ap requests.Next c.in-None.is) (next_answer _ _ c.next_last.result c.next_last.ensures.answer)

pub returns-in-None-clause-cause : goal.returns-in-None-clause-cause
returns-in-None-clause-cause g c = request_caused c.args.request.now (requests.Next None) _ _ _ c.next_last.result (c.in-Next.is ∙ ap requests.Next c.in-None.is) c.next_last.ensures.cause

pub returns-in-Some-clause-grows : goal.returns-in-Some-clause-grows
returns-in-Some-clause-grows g c = grows_asked _ _ c.next.ensures.asks

pub returns-in-Some-clause-answer : goal.returns-in-Some-clause-answer
returns-in-Some-clause-answer g c = request_as c.args.request.now (requests.Next (Some c.in-Some.key)) _ _ c.next.result (c.in-Next.is ∙ ap requests.Next c.in-Some.is) (rw c.as_slice-in-Some.ensures at c.next.ensures.answer)

pub returns-in-Some-clause-cause : goal.returns-in-Some-clause-cause
returns-in-Some-clause-cause g c = request_caused c.args.request.now (requests.Next (Some c.in-Some.key)) _ _ _ c.next.result (c.in-Next.is ∙ ap requests.Next c.in-Some.is) c.next.ensures.cause

pub returns-in-List-clause-grows : goal.returns-in-List-clause-grows
returns-in-List-clause-grows g c = grows_asked _ _ c.list.ensures.asks

pub returns-in-List-clause-answer : goal.returns-in-List-clause-answer
returns-in-List-clause-answer g c = request_as c.args.request.now _ _ _ c.list.result c.in-List.is c.list.ensures.answer

pub returns-in-List-clause-cause : goal.returns-in-List-clause-cause
returns-in-List-clause-cause g c = request_caused c.args.request.now _ _ _ _ c.list.result c.in-List.is c.list.ensures.cause

pub returns-in-Store-clause-grows : goal.returns-in-Store-clause-grows
returns-in-Store-clause-grows g c = grows_wider _ _ _ _ c.store.ensures.frame

pub returns-in-Store-clause-answer : goal.returns-in-Store-clause-answer
returns-in-Store-clause-answer g c = request_as c.args.request.now (requests.Store c.in-Store.how c.in-Store.key c.in-Store.content) _ _ c.store.result c.in-Store.is (rw (c.as_slice-in-Store.ensures, c.as_slice-in-Store-2.ensures) at c.store.ensures.answer _ _)

pub returns-in-Store-clause-cause : goal.returns-in-Store-clause-cause
returns-in-Store-clause-cause g c = request_caused c.args.request.now _ _ _ _ c.store.result c.in-Store.is (caused_wider _ moving changing _ _ c.store.result moving_changing (c.store.ensures.cause _ _))

pub returns-in-Delete-clause-grows : goal.returns-in-Delete-clause-grows
returns-in-Delete-clause-grows g c = grows_wider _ _ _ _ c.delete.ensures.frame

pub returns-in-Delete-clause-answer : goal.returns-in-Delete-clause-answer
returns-in-Delete-clause-answer g c = request_as c.args.request.now (requests.Delete c.in-Delete.key) _ _ c.delete.result c.in-Delete.is (rw c.as_slice-in-Delete.ensures at c.delete.ensures.answer _ _)

pub returns-in-Delete-clause-cause : goal.returns-in-Delete-clause-cause
returns-in-Delete-clause-cause g c = request_caused c.args.request.now _ _ _ _ c.delete.result c.in-Delete.is (caused_wider _ moving changing _ _ c.delete.result moving_changing (c.delete.ensures.cause _ _))

pub returns-in-Fill-clause-answer : goal.returns-in-Fill-clause-answer
returns-in-Fill-clause-answer g c = request_as c.args.request.now _ _ _ c.fill.result c.in-Fill.is c.fill.ensures.answer

pub returns-in-Fill-clause-cause : goal.returns-in-Fill-clause-cause
returns-in-Fill-clause-cause g c = request_caused c.args.request.now _ _ _ _ c.fill.result c.in-Fill.is c.fill.ensures.cause

pub returns-in-Count-clause-counted : goal.returns-in-Count-clause-counted
returns-in-Count-clause-counted g c = request_counts c.args.request.now _ c.count.result _ _ c.in-Count.is c.count.ensures.counted

pub returns-in-Fetch-clause-counted : goal.returns-in-Fetch-clause-counted
returns-in-Fetch-clause-counted g c = request_counts c.args.request.now _ c.fetch.result _ _ c.in-Fetch.is c.fetch.ensures.counted

pub returns-in-First-clause-counted : goal.returns-in-First-clause-counted
returns-in-First-clause-counted g c = request_counts c.args.request.now _ c.first.result _ _ c.in-First.is c.first.ensures.counted

pub returns-in-None-clause-counted : goal.returns-in-None-clause-counted
returns-in-None-clause-counted g c = request_counts c.args.request.now (requests.Next None) c.next_last.result _ _ (c.in-Next.is ∙ ap requests.Next c.in-None.is) c.next_last.ensures.counted

pub returns-in-Some-clause-counted : goal.returns-in-Some-clause-counted
returns-in-Some-clause-counted g c = request_counts c.args.request.now (requests.Next (Some c.in-Some.key)) c.next.result _ _ (c.in-Next.is ∙ ap requests.Next c.in-Some.is) c.next.ensures.counted

pub returns-in-List-clause-counted : goal.returns-in-List-clause-counted
returns-in-List-clause-counted g c = request_counts c.args.request.now _ c.list.result _ _ c.in-List.is c.list.ensures.counted

pub returns-in-Store-clause-counted : goal.returns-in-Store-clause-counted
returns-in-Store-clause-counted g c = request_counts c.args.request.now _ c.store.result _ _ c.in-Store.is c.store.ensures.counted

pub returns-in-Delete-clause-counted : goal.returns-in-Delete-clause-counted
returns-in-Delete-clause-counted g c = request_counts c.args.request.now _ c.delete.result _ _ c.in-Delete.is c.delete.ensures.counted

pub returns-in-Fill-clause-counted : goal.returns-in-Fill-clause-counted
returns-in-Fill-clause-counted g c = request_counts c.args.request.now _ c.fill.result _ _ c.in-Fill.is c.fill.ensures.counted

pub returns-in-Store-clause-sink : goal.returns-in-Store-clause-sink
returns-in-Store-clause-sink g c = out_none _ moving _ _ c.store.result _ refl (c.store.ensures.cause None 0)

pub returns-in-Delete-clause-sink : goal.returns-in-Delete-clause-sink
returns-in-Delete-clause-sink g c = out_none _ moving _ _ c.delete.result _ refl (c.delete.ensures.cause None 0)
