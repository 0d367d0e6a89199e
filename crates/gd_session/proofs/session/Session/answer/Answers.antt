use Rattle.std.proofs.Common.{refl}
use Rattle.gd_vault.proofs.Within.{within_trans}
use Rattle.gd_session.specs.Requests.{own_due, request_kind, request_row}
use Rattle.gd_session.proofs.Caused.{first_caused, first_refused}
use Rattle.gd_session.proofs.Encoded.{own_open, request_asks, request_quits}
use Rattle.gd_session.proofs.Firsts.{first_err, first_ok}
use Rattle.gd_session.proofs.Counting.{request_from, request_refused}
use Rattle.gd_session.proofs.session.Session.answer.Goals as goal

pub returns-in-Ok-clause-grows : goal.returns-in-Ok-clause-grows
returns-in-Ok-clause-grows g c = within_trans c.open_first.ensures.grows c.answer_open.ensures.grows

pub returns-in-Ok-clause-answer : goal.returns-in-Ok-clause-answer
returns-in-Ok-clause-answer g c =
    first_ok (request_row c.args.request.now) c.args.self.now.phase c.args.self.now c.open_first.new.self c.in-Ok.field-0 _ _ _ _ _ c.answer_open.result refl c.in-Ok.ensures.first c.answer_open.ensures.answer

pub returns-in-Ok-clause-cause : goal.returns-in-Ok-clause-cause
returns-in-Ok-clause-cause g c =
    first_caused (own_due c.args.request.now) (request_kind c.args.request.now) c.args.self.now.phase c.args.self.now c.open_first.new.self c.in-Ok.field-0 _ _ _ _ _ c.answer_open.result (own_open c.args.request.now) refl c.in-Ok.ensures.first c.answer_open.ensures.cause

pub returns-in-Err-clause-answer : goal.returns-in-Err-clause-answer
returns-in-Err-clause-answer g c =
    first_err (request_row c.args.request.now) c.args.self.now.phase c.args.self.now c.open_first.new.self c.in-Err.error _ _ _ _ refl c.in-Err.ensures.first

pub returns-in-Err-clause-cause : goal.returns-in-Err-clause-cause
returns-in-Err-clause-cause g c =
    first_refused (own_due c.args.request.now) (request_kind c.args.request.now) c.args.self.now.phase c.args.self.now c.open_first.new.self c.in-Err.error _ _ _ _ (request_quits c.args.request.now) (request_asks c.args.request.now) refl c.in-Err.ensures.first c.in-Err.ensures.cause

pub returns-in-Ok-clause-counted : goal.returns-in-Ok-clause-counted
returns-in-Ok-clause-counted g c = request_from c.args.request.now c.answer_open.result _ _ _ c.in-Ok.ensures.answered c.answer_open.ensures.counted

pub returns-in-Err-clause-counted : goal.returns-in-Err-clause-counted
returns-in-Err-clause-counted g c = request_refused c.args.request.now c.in-Err.error _ _ c.in-Err.ensures.counted
