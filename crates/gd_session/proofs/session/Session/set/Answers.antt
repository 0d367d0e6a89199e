use Rattle.std.proofs.Common.{refl, ap}
use Rattle.gd_session.specs.State.{Held}
use Rattle.gd_session.specs.Texts.{variables_text}
use Rattle.gd_session.proofs.Encoded.{set_changed, set_changed_caused, set_said, set_said_caused}
use Rattle.gd_session.proofs.Moved.{set_none, set_some}
use Rattle.gd_session.proofs.session.Session.set.Goals as goal

pub returns-in-None-clause-answer : goal.returns-in-None-clause-answer
returns-in-None-clause-answer g c =
    set_said c.args.setting.now _ _ _ c.say_variables.result c.in-None.is (ap (λ (h : Held). variables_text h.settings) c.self.view_is) refl refl c.say_variables.ensures.said

pub returns-in-None-clause-cause : goal.returns-in-None-clause-cause
returns-in-None-clause-cause g c = set_said_caused c.args.setting.now _ _ _ c.say_variables.result c.in-None.is c.say_variables.ensures.said

pub returns-in-Some-clause-answer : goal.returns-in-Some-clause-answer
returns-in-Some-clause-answer g c = set_changed c.args.setting.now c.in-Some.setting _ _ c.change.result c.in-Some.is refl refl c.change.ensures.set

pub returns-in-Some-clause-cause : goal.returns-in-Some-clause-cause
returns-in-Some-clause-cause g c = set_changed_caused c.args.setting.now c.in-Some.setting _ _ c.change.result c.in-Some.is c.change.ensures.set

pub returns-in-None-clause-leaves : goal.returns-in-None-clause-leaves
returns-in-None-clause-leaves g c = set_none c.args.setting.now _ _ _ c.say_variables.result _ _ _ _ c.in-None.is c.say_variables.ensures.said refl

pub returns-in-Some-clause-leaves : goal.returns-in-Some-clause-leaves
returns-in-Some-clause-leaves g c = set_some c.args.setting.now c.in-Some.setting _ _ c.change.result c.in-Some.is c.change.ensures.set
