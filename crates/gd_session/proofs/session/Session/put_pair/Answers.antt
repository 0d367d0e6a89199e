use Rattle.std.proofs.Common.{◌≡◌, refl, sym, ap, ◌∙◌}
use Rattle.gd_store.specs.declared.access.How.TheVariants.{Insert, Replace}
use Rattle.gd_vault.proofs.Within.{within_trans}
use Rattle.gd_session.specs.Texts.{Pair}
use Rattle.gd_session.specs.declared.reply.Reply.TheVariants.{Done, Refused}
use Rattle.gd_session.proofs.Commands.{grows_wider}
use Rattle.gd_session.proofs.Fillings.{adds_new, adds_none, adds_not, adds_replaced, answers_as, calm_caused, calm_db, calm_has, calm_stays, done_calm, later_caused, there_calm}
use Rattle.gd_session.proofs.Counting.{counts_done, counts_from, counts_there}
use Rattle.gd_session.proofs.session.Session.put_pair.Goals as goal

pub returns-in-Done-clause-grows : goal.returns-in-Done-clause-grows
returns-in-Done-clause-grows g c = grows_wider _ _ _ _ c.store-first.ensures.frame

pub returns-in-Done-clause-adds : goal.returns-in-Done-clause-adds
returns-in-Done-clause-adds g c =
    adds_new (c.args.key.now, c.args.content.now) c.args.self.now c.store-first.new.self _ _ (calm_db c.args.self.now.phase c.requires.opened c.requires.calm)
    (answers_as Insert (c.args.key.now, c.args.content.now) c.args.self.now c.store-first.new.self _ _ c.store-first.result _ c.in-Done.is c.store-first.ensures.answer)

pub returns-in-Done-clause-calm : goal.returns-in-Done-clause-calm
returns-in-Done-clause-calm g c = calm_stays c.args.self.now c.store-first.new.self (c.store-first.ensures.stays (done_calm c.store-first.result c.in-Done.is)) c.requires.calm

pub returns-then-not-there : goal.returns-then-not-there
returns-then-not-there g c =
    let e = c.store-first.ensures in
    record {
      ready = e.ready;
      opened = e.opened;
      grows = grows_wider _ _ _ _ e.frame;
      adds = adds_none (c.args.key.now, c.args.content.now) c.args.self.now c.store-first.new.self _ _ c.store-first.result (calm_db c.args.self.now.phase c.requires.opened c.requires.calm)
          (calm_has _ c.args.self.now (calm_db c.args.self.now.phase c.requires.opened c.requires.calm) c.requires.ready) c.in_default.not-Done (c.is_there-there.ensures.other c.if-not-there.true) e.answer;
      cause = calm_caused c.args.self.now c.store-first.new.self _ _ c.store-first.result c.requires.calm e.cause;
      calm = tt;
      answered = tt;
      counted = e.counted;
    }

pub returns-in-Done-store : goal.returns-in-Done-store
returns-in-Done-store g c =
    let p : Pair = (c.args.key.now, c.args.content.now) in
    let one = c.store-first.ensures in
    let two = c.store.ensures in
    let is = c.is_there-there.ensures.there c.if-not-there.false in
    let mid = calm_stays c.args.self.now c.store-first.new.self (one.stays (there_calm c.store-first.result is)) c.requires.calm in
    record {
      ready = two.ready;
      opened = two.opened;
      grows = within_trans (grows_wider _ _ _ _ one.frame) (grows_wider _ _ _ _ two.frame);
      adds = adds_replaced p c.args.self.now c.store-first.new.self c.store.new.self _ _ _ (calm_db c.args.self.now.phase c.requires.opened c.requires.calm) one.frame.faults
          (answers_as Insert p c.args.self.now c.store-first.new.self _ _ c.store-first.result _ is one.answer)
          (answers_as Replace p c.store-first.new.self c.store.new.self _ _ c.store.result _ c.in-Done-store.is two.answer);
      cause = tt;
      calm = calm_stays c.store-first.new.self c.store.new.self (two.stays (done_calm c.store.result c.in-Done-store.is)) mid;
      answered = counts_done c.store.result _ _ c.in-Done-store.is two.counted ∙ counts_there c.store-first.result _ _ is one.counted;
      counted = tt;
    }

pub returns-in_default-store : goal.returns-in_default-store
returns-in_default-store g c =
    let p : Pair = (c.args.key.now, c.args.content.now) in
    let one = c.store-first.ensures in
    let two = c.store.ensures in
    let is = c.is_there-there.ensures.there c.if-not-there.false in
    let mid = calm_stays c.args.self.now c.store-first.new.self (one.stays (there_calm c.store-first.result is)) c.requires.calm in
    record {
      ready = two.ready;
      opened = two.opened;
      grows = within_trans (grows_wider _ _ _ _ one.frame) (grows_wider _ _ _ _ two.frame);
      adds = adds_not p c.args.self.now c.store-first.new.self c.store.new.self _ _ _ c.store.result (calm_db c.args.self.now.phase c.requires.opened c.requires.calm) one.frame.faults c.in_default-store.not-Done
          (answers_as Insert p c.args.self.now c.store-first.new.self _ _ c.store-first.result _ is one.answer) two.answer;
      cause = later_caused c.args.self.now c.store-first.new.self c.store.new.self _ _ _ c.store.result one.frame.faults (calm_caused c.store-first.new.self c.store.new.self _ _ c.store.result mid two.cause);
      calm = tt;
      answered = tt;
      counted = counts_from c.store.result _ _ _ (counts_there c.store-first.result _ _ is one.counted) two.counted;
    }

pub returns-in-Done-clause-answered : goal.returns-in-Done-clause-answered
returns-in-Done-clause-answered g c = counts_done c.store-first.result _ _ c.in-Done.is c.store-first.ensures.counted
